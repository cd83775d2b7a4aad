-- `timestamp::encoding::encode_near_at` meets its contract: the second lies so near that its ticks fit.
use Prim.Native.Nat.{ℕ, ◌<◌, ◌^◌}
use mathlib.Core.Path.{◌≡◌, refl, sym, ap, subst, ◌∙◌}
use mathlib.Core.Bool.{Bool, cond}
use lib.IntN.{ℤ}
use lib.Signed.{mag}
use mir.Syntax.{w64}
use mir.Val.{SFits, to_z, of_z}
use mir.ValLaws.{to_z-of_z}
use Rattle.refusal.specs.Outcome.{given}
use Rattle.timestamp.specs.declared.moment.Moment.{Moment}
use Rattle.timestamp.specs.Outcomes.{not_representable}
use Rattle.timestamp.specs.Steps.{encoding_at}
use Rattle.timestamp.proofs.FloorLaws.{joined, joined_told, signed_fits}
use Rattle.timestamp.proofs.MomentLaws.{fraction_within}
use Rattle.timestamp.proofs.encoding.encode_near_at.Goals as goal

-- the count is given, at as many ticks in a second as the unit has
count_told : {t : ℕ} {s z : ℤ} (k : ℕ) (fraction : ℕ) → k ≡ t → SFits w64 s → fraction < t → mag z < 2 ^ 63 → z ≡ joined (to_z w64 (of_z w64 s)) k fraction → given (to_z w64 (of_z w64 z)) ≡ encoding_at t (Moment.Second s) fraction
count_told {t} {s} {z} k fraction ticks fits h l e =
    let told : z ≡ joined s t fraction = joined_told t fraction fits (e ∙ ap (λ (n : ℕ). joined (to_z w64 (of_z w64 s)) n fraction) ticks) in
    fraction_within t (Moment.Second s) s fraction _ h refl
    (ap given (to_z-of_z w64 z (record { sfits = l }) ∙ told) ∙ ap (λ (b : Bool). cond b (given (joined s t fraction)) not_representable) (sym (signed_fits (joined s t fraction) (subst (λ (w : ℤ). mag w < 2 ^ 63) told l))))

pub returns : goal.returns
returns g c =
    let ticks = g.U.Unit.second_ticks in
    count_told _ _ (c.TICKS_PER_SECOND-2.ensures ∙ ticks) (search) (subst (λ (t : ℕ). c.args.fraction < t) (c.TICKS_PER_SECOND.ensures ∙ ticks) c.if-TICKS_PER_SECOND-fraction.false) (search) c.joined.ensures
