-- `c_sheets::sheets::compare` meets its contract: the number of entries and the place of a refusal fit 32 bits.
use Prim.Native.Nat.{ℕ, ◌*◌}
use mathlib.Core.Path.{◌≡◌, sym, ap, ◌∙◌, subst}
use mathlib.Core.List.{List}
use native.Mathlib.Omega.{arith}
use Rattle.std.specs.Prelude.{Result}
use Rattle.refusal.specs.Numbers.{GREATEST}
use Rattle.sheet.specs.Block.{most_nodes}
use Rattle.differences.specs.Outcome.{compare_outcome}
use Rattle.refusal.specs.declared.answers.Fault.{Fault}
use Rattle.c_sheets.specs.Comparison.{compared_answer, ComparedBounded}
use Rattle.c_sheets.proofs.BoundLaws.{compared_bounded}
use Rattle.c_sheets.proofs.sheets.compare.Goals as goal

-- what comparing answers is within its bounds
bounded : (edition : ℕ) (first second : List ℕ) (lent : ℕ) {told : Result ℕ Fault} → compare_outcome edition first second lent ≡ told → ComparedBounded (14 * most_nodes) GREATEST most_nodes told
bounded edition first second lent is = subst (ComparedBounded (14 * most_nodes) GREATEST most_nodes) is (compared_bounded edition first second lent)

pub overflow_cast-entries : goal.overflow_cast-entries
overflow_cast-entries c = record { fits = omega (arith, bounded _ _ _ _ (sym c.compare.ensures.value ∙ c.in-Ok.is)) }

pub returns-in-Ok : goal.returns-in-Ok
returns-in-Ok c = record { value = c.packed.ensures ∙ ap compared_answer (sym c.in-Ok.is ∙ c.compare.ensures.value); out_after = c.compare.ensures.out_after }

pub returns-in-Err : goal.returns-in-Err
returns-in-Err c = record { value = c.faulted.ensures.answer (omega (arith, (bounded _ _ _ _ (sym c.compare.ensures.value ∙ c.in-Err.is)).refusal.most_place)) ∙ ap compared_answer (sym c.in-Err.is ∙ c.compare.ensures.value); out_after = c.compare.ensures.out_after }
