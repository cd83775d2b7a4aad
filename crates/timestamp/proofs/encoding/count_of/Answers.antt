-- `timestamp::encoding::count_of` meets its contract: the count folds onto the ticks that its seconds fold onto, with the fraction turned
-- before 0.
use Prim.Native.Nat.{ℕ, ◌+◌, ◌*◌, ◌-◌, ◌/◌, ◌<◌, ◌≤◌, ◌^◌}
use native.Mathlib.Nat.{div-lt_iff_lt-mul}
use native.Mathlib.Omega.{arith}
use mathlib.Core.Path.{◌≡◌, sym, ap, ◌∙◌}
use mathlib.Core.Bool.{Bool}
use lib.IntN.{ℤ, pos}
use lib.Signed.{mag, lt_z}
use mir.Syntax.{w64}
use mir.Val.{SFits, to_z, of_z}
use Rattle.laws.proofs.SignedLaws.{below_zero}
use Rattle.refusal.specs.Outcome.{given}
use Rattle.timestamp.specs.Outcomes.{not_representable, counting}
use Rattle.timestamp.proofs.CountLaws.{counted_fits, counted_beyond}
use Rattle.timestamp.proofs.FloorLaws.{joined, joined_signed, turned_of}
use Rattle.timestamp.proofs.SignedLaws.{signed_of, signed_told, signed_back}
use Rattle.timestamp.proofs.encoding.count_of.Goals as goal

-- the sign of a second and what it folds onto
module _ (s : ℤ) (t fraction : ℕ) (b : Bool) (n : ℕ) (fits : SFits w64 s) (sign : b ≡ lt_z (to_z w64 (of_z w64 s)) (pos 0)) (fold : n ≡ mag (to_z w64 (of_z w64 s))) (below : fraction < t) where
  count_is : joined s t fraction ≡ signed_of b (n * t + turned_of b fraction t)
  count_is = ap (λ (z : ℤ). joined z t fraction) (signed_told {x = s} fits (sign ∙ below_zero _) fold) ∙ joined_signed b n t fraction below

  -- where its ticks alone are too many, so are all
  seconds_beyond : (2 ^ 63 - 1) / t < n → not_representable ≡ counting (joined s t fraction)
  seconds_beyond h =
      let beyond = (div-lt_iff_lt-mul {k = t} {x = 2 ^ 63 - 1} {y = n} (omega arith)).0 h in
      sym (counted_beyond _ b (n * t + turned_of b fraction t) count_is (omega (arith, beyond)))

  -- and else all are compared
  module _ (r : ℕ) (turned : r ≡ turned_of b fraction t) where
    size_beyond : 2 ^ 63 - 1 < n * t + r → not_representable ≡ counting (joined s t fraction)
    size_beyond h = sym (counted_beyond _ b (n * t + turned_of b fraction t) count_is (omega (arith, turned)))

    size_told : (z : ℤ) → n * t + r ≤ 2 ^ 63 - 1 → z ≡ signed_of b (n * t + r) → given (to_z w64 (of_z w64 z)) ≡ counting (joined s t fraction)
    size_told z h e =
        let most : n * t + turned_of b fraction t < 2 ^ 63 = omega (arith, turned) in
        ap given (signed_back b (n * t + turned_of b fraction t) (e ∙ ap (λ (k : ℕ). signed_of b (n * t + k)) turned) most) ∙ sym (counted_fits _ b (n * t + turned_of b fraction t) count_is most)

pub returns-then-ticks_per_second-seconds : goal.returns-then-ticks_per_second-seconds
returns-then-ticks_per_second-seconds c = search seconds_beyond

pub returns-then-size-gt-GREATEST_COUNT : goal.returns-then-size-gt-GREATEST_COUNT
returns-then-size-gt-GREATEST_COUNT c = search size_beyond

pub returns : goal.returns
returns c = search size_told
