-- Signed numbers of 64 bits by sign and magnitude, as the machine reads them back from their bits.
-- Assumes nothing.
use Prim.Native.Nat.{ℕ, suc, ◌<◌, ◌^◌}
use native.Mathlib.Omega.{arith}
use mathlib.Core.Path.{◌≡◌, refl, sym, ap, subst, ◌∙◌}
use mathlib.Core.Bool.{Bool, true, false, not, false≢true, true≢false}
use borrow.Author.Tests.{le-ltb}
use lib.Dec.{T}
use lib.IntN.{ℤ, pos, negsuc, nat_abs, ◌-ℤ◌}
use lib.Signed.{mag, lt_z, non_neg}
use mir.Syntax.{w64}
use mir.Val.{Fits, SFits, to_z, of_z}
use mir.ValLaws.{to_z-of_z}
use Rattle.laws.proofs.DifferenceLaws.{sub_above}

-- a number below 0 is one that is not nonnegative
pub below_zero : (x : ℤ) → lt_z x (pos 0) ≡ not (non_neg x)
below_zero (pos n) = le-ltb n 0 (omega arith)
below_zero (negsuc n) = refl

-- a number, from its sign and its magnitude
pub negative_is : (x : ℤ) → not (non_neg x) ≡ true → x ≡ negsuc (mag x)
negative_is (pos n) e = absurd (false≢true e)
negative_is (negsuc n) e = refl

pub nonnegative_is : (x : ℤ) → not (non_neg x) ≡ false → x ≡ pos (mag x)
nonnegative_is (pos n) e = refl
nonnegative_is (negsuc n) e = absurd (true≢false e)

-- -1 less a number below 0 is its magnitude
pub complement_negative : (n : ℕ) → negsuc 0 -ℤ negsuc n ≡ pos n
complement_negative n = sub_above (suc n) 1 (omega arith) ∙ ap pos (omega arith)

-- what the machine reads back of a number
pub read_back : {x z : ℤ} → x ≡ z → mag z < 2 ^ 63 → to_z w64 (of_z w64 x) ≡ z
read_back {x} {z} e h = ap (λ (y : ℤ). to_z w64 (of_z w64 y)) e ∙ to_z-of_z w64 z (record { sfits = h })

-- and what a cast of it to an unsigned number asks
pub cast_fits : {x : ℤ} {n : ℕ} → x ≡ pos n → n < 2 ^ 63 → T (non_neg x) × Fits w64 (nat_abs x)
cast_fits {x} {n} e h = subst (λ (y : ℤ). T (non_neg y) × Fits w64 (nat_abs y)) (sym e) (tt, record { fits = omega arith })

-- the sign that is told of the number that is read back is that of the number
pub sign_told : {x : ℤ} {b v : Bool} → SFits w64 x → b ≡ not (non_neg (to_z w64 (of_z w64 x))) → b ≡ v → not (non_neg x) ≡ v
sign_told {x} h p q = ap (λ (z : ℤ). not (non_neg z)) (sym (to_z-of_z w64 x h)) ∙ sym p ∙ q

-- -1 less a number below 0, and a number from 0 on, are the magnitude
pub complement_read : {x : ℤ} → SFits w64 x → not (non_neg x) ≡ true → negsuc 0 -ℤ to_z w64 (of_z w64 x) ≡ pos (mag x)
complement_read {x} h e = ap (λ (z : ℤ). negsuc 0 -ℤ z) (read_back (negative_is x e) h.sfits) ∙ complement_negative (mag x)

pub nonnegative_read : {x : ℤ} → SFits w64 x → not (non_neg x) ≡ false → to_z w64 (of_z w64 x) ≡ pos (mag x)
nonnegative_read {x} h e = read_back (nonnegative_is x e) h.sfits
