-- `c_sheets::sheets::resolve` meets its contract: what resolving answers is within bounds.
use mathlib.Core.Path.{sym, ap, ◌∙◌, subst}
use Rattle.refusal.specs.Numbers.{GREATEST}
use Rattle.sheet.specs.Block.{most_bytes, most_nodes}
use Rattle.c_answer.specs.Answers.{counted_answer}
use Rattle.refusal.specs.Bounds.{CountedBounded}
use Rattle.c_sheets.proofs.BoundLaws.{resolved_answered}
use Rattle.c_sheets.proofs.sheets.resolve.Goals as goal

pub answered-requires : goal.answered-requires
answered-requires c = subst (CountedBounded most_bytes GREATEST most_nodes) (sym c.resolve.ensures.value) (resolved_answered _ _ _)

pub returns : goal.returns
returns c = record { value = c.answered.ensures ∙ ap counted_answer c.resolve.ensures.value; rows_after = c.resolve.ensures.rows_after }
