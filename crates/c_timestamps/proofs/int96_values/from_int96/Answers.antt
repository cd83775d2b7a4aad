-- `c_timestamps::int96_values::from_int96` meets its contract: the count is written where it fits, and a refusal leaves the output as it
-- was.
use mathlib.Core.Path.{sym, ap, subst, ◌∙◌}
use mathlib.Core.List.{[], ◌∷◌}
use native.Mathlib.Omega.{arith}
use borrow.Author.Rules.{sfits_of}
use lib.IntN.{ℤ}
use lib.ListN.{length}
use mir.Syntax.{w64}
use mir.ValLaws.{to_z-of_z}
use Rattle.int96.specs.Outcomes.{converted}
use Rattle.c_answer.specs.Answers.{Effect, listed, within, answer, left}
use Rattle.c_timestamps.proofs.BoundLaws.{OutcomeBounded}
use Rattle.c_timestamps.proofs.Int96Laws.{from_bounded, from_of}
use Rattle.c_timestamps.proofs.int96_values.from_int96.Goals as goal

pub returns-in-Ok : goal.returns-in-Ok
returns-in-Ok c =
    let args = c.args in
    let count = args.count.now in
    let e = from_of args.value.now (length count) c.decode.ensures c.in-Ok.is in
    let back = to_z-of_z w64 _ (search sfits_of) in
    record {
      value = c.write.ensures.value ∙ ap (λ (z : ℤ). answer (within (length count) (listed (z ∷ [])))) back ∙ ap answer (sym e);
      count_after = c.write.ensures.out_after ∙ ap (λ (z : ℤ). left (within (length count) (listed (z ∷ []))) count) back ∙ ap (λ (f : Effect ℤ). left f count) (sym e);
    }

pub returns-in-Err : goal.returns-in-Err
returns-in-Err c =
    let args = c.args in
    let count = args.count.now in
    let e = from_of args.value.now (length count) c.decode.ensures c.in-Err.is in
    let bounded = subst OutcomeBounded (sym c.decode.ensures ∙ ap converted c.in-Err.is) (from_bounded _) in
    record {
      value = c.refused.ensures.answer (omega (arith, bounded.most_place)) ∙ ap answer (sym e);
      count_after = ap (λ (f : Effect ℤ). left f count) (sym e);
    }
