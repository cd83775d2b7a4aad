-- Laws of the ranges that numbers are held to. Assumes nothing.
use mathlib.Core.Path.{◌≡◌, refl, sym, ap, subst, ◌∙◌}
use mathlib.Core.List.{List}
use mathlib.Core.Bool.{Bool, true, false, ◌&&◌}
use Prim.Native.Nat.{ℕ, zero, suc, ◌-◌, ◌*◌, ◌/◌, ◌^◌, ◌<◌}
use native.Mathlib.Nat.{one-mul, div-eq_of_lt, div-lt_iff_lt-mul, two-pow-succ}
use native.Mathlib.Omega.{arith}
use lib.Dec.{leb, ltb, eqb, leb-suc-suc}
use lib.IntN.{ℤ, pos, negsuc, neg_ℤ}
use lib.Pow.{suc_ones}
use lib.Signed.{mag, le_z, lt_z}
use lib.ListN.{length}
use mir.Syntax.{Width}
use mir.Val.{bits, hbits, to_z, of_z}
use Rattle.std.proofs.lemmas.Int.{of_z-to_z}
use borrow.Author.Tests.{ltb-true, ltb-false, eq-eqb, ne_eqb, lt-ltb, le-ltb}
use Rattle.laws.proofs.BoolLaws.{and-true}
use Rattle.laws.proofs.DifferenceLaws.{ltb_same, below?}
use Rattle.laws.specs.Bytes.{little, twos_complement}
use Rattle.laws.proofs.ByteLaws.{twos_below, twos_above, twos-mag-<}
use Rattle.column.specs.Numbers.{sign_weight, signed}
use Rattle.column.specs.Annotations.{in_signed_bits}

-- nothing is left of a number divided by a greater one
pub div_eqb : (n d : ℕ) → 0 < d → eqb (n / d) 0 ≡ ltb n d
div_eqb n d h = go (ltb n d) refl
  where
    go : (t : Bool) → ltb n d ≡ t → eqb (n / d) 0 ≡ t
    go true p = eq-eqb _ _ (div-eq_of_lt (ltb-true n d p))
    go false p =
        ne_eqb _ _ (λ (e : n / d ≡ 0). let k = (div-lt_iff_lt-mul {x = n} {y = 1} h).0 (omega arith) in let l = one-mul d in let m = ltb-false n d p in omega arith)

doubled : (m n : ℕ) → ltb (m * 2) (2 ^ n) ≡ ltb m (2 ^ (n - 1))
doubled m zero = ltb_same (m * 2) 1 m 1 (λ h. omega arith) (λ h. omega arith)
doubled m (suc k) =
    let e : suc k - 1 ≡ k = omega arith in
    rw e (ltb_same (m * 2) (2 ^ suc k) m (2 ^ k) (λ h. omega (arith, two-pow-succ k)) (λ h. omega (arith, two-pow-succ k)))

around : (k : ℕ) (z : ℤ) → ltb (mag z) (suc k) ≡ (le_z (neg_ℤ (pos (suc k))) z && lt_z z (pos (suc k)))
around k (pos a) = refl
around k (negsuc a) = leb-suc-suc a k ∙ sym (and-true (leb a k))

-- so many bits hold a signed number where they hold twice the number it folds onto
pub in_signed_bits_mag : (n : ℕ) (z : ℤ) → ltb (mag z * 2) (2 ^ n) ≡ in_signed_bits n z
unfolding in_signed_bits
in_signed_bits_mag n z =
    doubled (mag z) n ∙ subst (λ (m : ℕ). ltb (mag z) m ≡ (le_z (neg_ℤ (pos m)) z && lt_z z (pos m))) (suc_ones (n - 1)) (around (2 ^ (n - 1) - 1) z)

-- the signed number of the machine's bits is that of two's complement
signed_is : (w : Width) (n : ℕ) → 2 ^ bits w ≡ 2 * 2 ^ hbits w → n < 2 ^ bits w → to_z w n ≡ twos_complement (2 ^ hbits w) n
signed_is w n e h =
    below? n (2 ^ hbits w)
    (λ k. let z : to_z w n ≡ pos n = rw (lt-ltb n (2 ^ hbits w) k) in z ∙ sym (twos_below (2 ^ hbits w) n k))
    (λ k. let z : to_z w n ≡ negsuc (2 ^ bits w - suc n) = rw (le-ltb n (2 ^ hbits w) k) in z ∙ ap negsuc (omega arith) ∙ sym (twos_above (2 ^ hbits w) n k (omega arith)))

-- what the machine reads back of the signed number of as many bytes, and how great that is
module _ (w : Width) (bs : List ℕ) (e : 2 ^ bits w ≡ 2 * 2 ^ hbits w) (f : 2 ^ hbits w ≡ sign_weight (length bs)) where
  pub read_signed : (n : ℕ) {z : ℤ} → z ≡ to_z w n → n ≡ little bs → n < 2 ^ bits w → to_z w (of_z w z) ≡ signed bs
  read_signed n told g h =
      ap (λ (y : ℤ). to_z w (of_z w y)) told ∙ ap (to_z w) (of_z-to_z w n h) ∙ signed_is w n e h
      ∙ ap (λ (m : ℕ). twos_complement m n) f ∙ ap (twos_complement (sign_weight (length bs))) g

  pub signed_small : little bs < 2 ^ bits w → mag (signed bs) < 2 ^ hbits w
  signed_small h =
      let below : little bs < 2 * 2 ^ hbits w = subst (λ (m : ℕ). little bs < m) e h in
      subst (λ (m : ℕ). mag (twos_complement m (little bs)) < 2 ^ hbits w) f (twos-mag-< (2 ^ hbits w) (little bs) below)
