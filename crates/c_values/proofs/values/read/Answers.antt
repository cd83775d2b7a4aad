-- `c_values::values::read` meets its contract: a value is written where it fits, and a refusal leaves the output as it was.
use Prim.Native.Nat.{ℕ}
use mathlib.Core.Path.{sym, ap, ◌∙◌}
use native.Mathlib.Omega.{arith}
use Rattle.c_answer.specs.Answers.{Effect, answer, left}
use Rattle.column.proofs.PlaceLaws.{refusal_bounded}
use Rattle.c_values.proofs.ValueLaws.{reading_of_lem}
use Rattle.c_values.proofs.values.read.Goals as goal

pub returns-in-Ok : goal.returns-in-Ok
returns-in-Ok c =
    let out = c.args.out.now in
    let e = reading_of_lem _ _ _ _ (sym c.in-Ok.is ∙ c.read-read.ensures.value) in record { value = c.write_value.ensures.value ∙ ap answer (sym e); out_after = c.write_value.ensures.out_after ∙ ap (λ (f : Effect ℕ). left f out) (sym e) }

pub returns-in-Err : goal.returns-in-Err
returns-in-Err c =
    let out = c.args.out.now in
    let bounded = refusal_bounded _ _ _ _ (sym c.read-read.ensures.value ∙ c.in-Err.is) in
    let e = reading_of_lem _ _ _ _ (sym c.in-Err.is ∙ c.read-read.ensures.value) in record { value = c.refused.ensures.answer (omega (arith, bounded.most_place)) ∙ ap answer (sym e); out_after = ap (λ (f : Effect ℕ). left f out) (sym e) }
