-- `c_sheets::sheets::rewrite` meets its contract: what rewriting answers is within bounds.
use mathlib.Core.Path.{sym, ap, ◌∙◌, subst}
use Rattle.refusal.specs.Numbers.{GREATEST}
use Rattle.sheet.specs.Block.{most_bytes, most_nodes}
use Rattle.c_answer.specs.Answers.{counted_answer}
use Rattle.refusal.specs.Bounds.{CountedBounded}
use Rattle.c_sheets.proofs.BoundLaws.{rewritten_bounded}
use Rattle.c_sheets.proofs.sheets.rewrite.Goals as goal

pub answered-requires : goal.answered-requires
answered-requires c = subst (CountedBounded most_bytes GREATEST most_nodes) (sym c.rewrite.ensures.value) (rewritten_bounded _ _ _ _)

pub returns : goal.returns
returns c = record { value = c.answered.ensures ∙ ap counted_answer c.rewrite.ensures.value; out_after = c.rewrite.ensures.out_after }
