-- Laws of the ticks of a day. Assumes nothing.
use mathlib.Core.Path.{◌≡◌, refl, ap, ◌∙◌}
use mathlib.Core.Bool.{Bool, false, true, not}
use mathlib.Core.Option.{Option, none, some}
use Prim.Native.Nat.{ℕ}
use lib.Dec.{leb-zero}
use lib.IntN.{pos, negsuc, ℤ, nat_abs}
use Rattle.std.specs.Prelude.{Result, Ok, Err}
use Rattle.std.specs.Result.{result_unwrap_or}
use Rattle.refusal.specs.declared.answers.Refusal.{Refusal}
use lib.Signed.{mag, non_neg}
use Rattle.laws.proofs.SignedLaws.{negative_is, nonnegative_is}
use Rattle.logical_type.specs.declared.types.TimeUnit.{TimeUnit}
use Rattle.timestamp.specs.Outcomes.{day_answer, day_has}
use Rattle.column.specs.Annotations.{in_day}

in_day_negative : (unit : Option TimeUnit) (k : ℕ) → in_day unit (negsuc k) ≡ false
unfolding in_day
in_day_negative none k = refl
in_day_negative (some unit) k = refl

-- a number from 0 on is a tick of the day where that is the answer for it; it is none where no unit is named
in_day_pos : (unit : Option TimeUnit) (n : ℕ) (k : Result Bool Refusal) → day_answer k ≡ day_has unit n → in_day unit (pos n) ≡ result_unwrap_or k false
unfolding in_day
in_day_pos none n (Ok within) e = cc
in_day_pos none n (Err r) e = refl
in_day_pos (some unit) n (Ok within) e = rw (leb-zero n) (cc)
in_day_pos (some unit) n (Err r) e = cc

module _ (unit : Option TimeUnit) (z : ℤ) where
  -- a number below 0 is no tick of a day
  pub day_negative : not (non_neg z) ≡ true → in_day unit z ≡ false
  day_negative e = ap (in_day unit) (negative_is z e) ∙ in_day_negative unit _

  -- one from 0 on is a tick of it where the day has it
  pub day_told : (k : Result Bool Refusal) → day_answer k ≡ day_has unit (nat_abs z) → not (non_neg z) ≡ false → in_day unit z ≡ result_unwrap_or k false
  day_told k e h =
      let i : z ≡ pos (mag z) = nonnegative_is z h in
      ap (in_day unit) i ∙ in_day_pos unit (mag z) k (e ∙ ap (λ (y : ℤ). day_has unit (nat_abs y)) i)
