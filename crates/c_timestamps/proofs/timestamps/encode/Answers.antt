-- `c_timestamps::timestamps::encode` meets its contract: the count is written where it fits, and a refusal leaves the output as it was.
use mathlib.Core.Path.{sym, ap, ◌∙◌}
use mathlib.Core.List.{[], ◌∷◌}
use native.Mathlib.Omega.{arith}
use borrow.Author.Rules.{sfits_of}
use lib.IntN.{ℤ}
use lib.ListN.{length}
use mir.Syntax.{w64}
use mir.ValLaws.{to_z-of_z}
use Rattle.timestamp.specs.Units.{unit_of}
use Rattle.refusal.specs.declared.answers.Refusal.{Refusal}
use Rattle.c_answer.specs.Answers.{refusal_answer, Effect, listed, within, answer, left}
use Rattle.c_timestamps.proofs.FieldLaws.{unformed_encoding, unformed_left, encoding_of_lem, error_place}
use Rattle.c_timestamps.proofs.timestamps.encode.Goals as goal

-- numbers that form no date or time
pub returns-in_default : goal.returns-in_default
returns-in_default c =
    let args = c.args in
    let count = args.count.now in
    let same = unformed_encoding args.unit args.fields.now (length count) (sym (c.in_default.ensures.encoded (unit_of args.unit))) in
    record {
      value = c.no_date_time.ensures (length count) ∙ ap answer (sym same);
      count_after = sym (unformed_left args.unit (length count) count) ∙ ap (λ (f : Effect ℤ). left f count) (sym same);
    }

-- and fields
pub returns-in-Ok : goal.returns-in-Ok
returns-in-Ok c =
    let args = c.args in
    let count = args.count.now in
    let e = encoding_of_lem args.unit args.fields.now (length count) (c.encode.ensures ∙ c.in-Some.ensures.encoded (unit_of args.unit)) c.in-Ok.is in
    let back = to_z-of_z w64 _ (search sfits_of) in
    record {
      value = c.write.ensures.value ∙ ap (λ (z : ℤ). answer (within (length count) (listed (z ∷ [])))) back ∙ ap answer (sym e);
      count_after = c.write.ensures.out_after ∙ ap (λ (z : ℤ). left (within (length count) (listed (z ∷ []))) count) back ∙ ap (λ (f : Effect ℤ). left f count) (sym e);
    }

-- a refusal that was told writes nothing
pub returns-in-Err : goal.returns-in-Err
returns-in-Err c =
    let args = c.args in
    let count = args.count.now in
    let same = encoding_of_lem args.unit args.fields.now (length count) (c.encode.ensures ∙ c.in-Some.ensures.encoded (unit_of args.unit)) c.in-Err.is in
    record {
      value = c.refused.ensures.answer (omega (arith, ap (λ (r : Refusal). r.place) c.into.ensures, error_place c.in-Err.e)) ∙ ap refusal_answer c.into.ensures ∙ ap answer (sym same);
      count_after = ap (λ (f : Effect ℤ). left f count) (sym same);
    }
