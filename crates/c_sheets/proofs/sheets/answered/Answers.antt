-- `c_sheets::sheets::answered` meets its contract: what is counted and the place of a refusal fit 32 bits.
use mathlib.Core.Path.{◌≡◌, sym, ap, ◌∙◌, subst}
use native.Mathlib.Omega.{arith}
use Rattle.refusal.specs.Numbers.{GREATEST}
use Rattle.refusal.specs.Outcome.{Counted}
use Rattle.sheet.specs.Block.{most_bytes, most_nodes}
use Rattle.c_answer.specs.Answers.{counted_answer}
use Rattle.refusal.specs.Bounds.{CountedBounded}
use Rattle.c_sheets.proofs.sheets.answered.Goals as goal

-- what is counted is within the bounds of what was handed in
module _ {counted told : Counted} (is : counted ≡ told) (bounds : CountedBounded most_bytes GREATEST most_nodes counted) where
  bounded : CountedBounded most_bytes GREATEST most_nodes told
  bounded = subst (CountedBounded most_bytes GREATEST most_nodes) is bounds

pub overflow_cast-count : goal.overflow_cast-count
overflow_cast-count c = record { fits = omega (arith, bounded c.in-Ok.is c.requires) }

pub returns-in-Ok : goal.returns-in-Ok
returns-in-Ok c = c.packed.ensures ∙ ap counted_answer (sym c.in-Ok.is)

pub returns-in-Err : goal.returns-in-Err
returns-in-Err c = c.refused.ensures.answer (omega (arith, (bounded c.in-Err.is c.requires).most_place)) ∙ ap counted_answer (sym c.in-Err.is)
