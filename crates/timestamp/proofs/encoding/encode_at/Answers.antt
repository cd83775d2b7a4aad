-- `timestamp::encoding::encode_at` meets its contract: where there is a second, its count decides.
use Prim.Native.Nat.{ℕ, ◌<◌}
use mathlib.Core.Path.{◌≡◌, ap₂, subst, ◌∙◌}
use lib.IntN.{ℤ}
use mir.Syntax.{w64}
use mir.Val.{SFits, to_z, of_z}
use mir.ValLaws.{to_z-of_z}
use Rattle.refusal.specs.Outcome.{Outcome}
use Rattle.timestamp.specs.declared.moment.Moment.{Moment}
use Rattle.timestamp.specs.Outcomes.{counting}
use Rattle.timestamp.specs.Steps.{encoding_at}
use Rattle.timestamp.proofs.FloorLaws.{joined}
use Rattle.timestamp.proofs.MomentLaws.{fraction_within}
use Rattle.timestamp.proofs.encoding.encode_at.Goals as goal

-- the second is counted as it is passed on, at as many ticks in a second as the unit has
counting_told : {t : ℕ} {s : ℤ} {m : Moment} {o : Outcome ℤ} (k fraction : ℕ) → k ≡ t → SFits w64 s → fraction < t → m ≡ Moment.Second s → o ≡ counting (joined (to_z w64 (of_z w64 s)) k fraction) → o ≡ encoding_at t m fraction
counting_told {t} {s} {m} {o} k fraction ticks fits h e p =
    fraction_within t m s fraction o h e (p ∙ ap₂ (λ (z : ℤ) (n : ℕ). counting (joined z n fraction)) (to_z-of_z w64 s fits) ticks)

pub returns-in-Second : goal.returns-in-Second
returns-in-Second g c =
    let ticks = g.U.Unit.second_ticks in
    counting_told _ _ (c.TICKS_PER_SECOND-in-Second.ensures ∙ ticks) (search) (subst (λ (t : ℕ). c.args.fraction < t) (c.TICKS_PER_SECOND.ensures ∙ ticks) c.if-TICKS_PER_SECOND-fraction.false) c.in-Second.is c.count_of.ensures
