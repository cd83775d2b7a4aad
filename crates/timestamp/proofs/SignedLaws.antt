-- Signed numbers of 64 bits by their sign and the number that they fold onto, which is `mag`: n for n and for -1 - n. What the machine reads
-- back of them stands
-- in `laws`.
use Prim.Native.Nat.{ℕ, zero, suc, ◌<◌, ◌^◌}
use native.Mathlib.Omega.{arith}
use mathlib.Core.Path.{◌≡◌, refl, sym, ap, ap₂, subst, ◌∙◌}
use mathlib.Core.Bool.{Bool, true, false, not, cond}
use lib.IntN.{ℤ, pos, negsuc, ◌-ℤ◌}
use lib.Signed.{mag, non_neg}
use mir.Syntax.{w64}
use mir.Val.{SFits, to_z, of_z}
use mir.ValLaws.{to_z-of_z}
use Rattle.laws.proofs.SignedLaws.{read_back, sign_told}

-- the number of a sign that folds onto another
abbrev pub signed_of : Bool → ℕ → ℤ
signed_of b n = cond b (negsuc n) (pos n)

pub signed_is : (x : ℤ) → x ≡ signed_of (not (non_neg x)) (mag x)
signed_is (pos n) = refl
signed_is (negsuc n) = refl

pub signed_mag : (b : Bool) (n : ℕ) → mag (signed_of b n) ≡ n
signed_mag true n = refl
signed_mag false n = refl

-- -1 less a number from 0 on is the one below 0 that folds onto it
pub complement_nonnegative : (n : ℕ) → negsuc 0 -ℤ pos n ≡ negsuc n
complement_nonnegative zero = refl
complement_nonnegative (suc n) = ap negsuc (omega arith)

-- what the number that is read back folds onto is what the number does
pub folded_told : {x : ℤ} {n : ℕ} → SFits w64 x → n ≡ mag (to_z w64 (of_z w64 x)) → n ≡ mag x
folded_told {x} h p = p ∙ ap mag (to_z-of_z w64 x h)

-- and sign and fold tell the number
pub signed_told : {x : ℤ} {b : Bool} {n : ℕ} → SFits w64 x → b ≡ not (non_neg (to_z w64 (of_z w64 x))) → n ≡ mag (to_z w64 (of_z w64 x)) → x ≡ signed_of b n
signed_told {x} h p q = signed_is x ∙ ap₂ signed_of (sign_told h p refl) (sym (folded_told h q))

pub signed_back : {x : ℤ} (b : Bool) (n : ℕ) → x ≡ signed_of b n → n < 2 ^ 63 → to_z w64 (of_z w64 x) ≡ signed_of b n
signed_back b n e h = read_back e (subst (λ (k : ℕ). k < 2 ^ 63) (sym (signed_mag b n)) h)
