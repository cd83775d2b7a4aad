-- Laws of a number that is written as the bytes of a power of ten or of its negative: its sign and its value, from the unsigned one.
-- Assumes nothing.
use mathlib.Core.Path.{◌≡◌, sym, ap, subst, ◌∙◌}
use mathlib.Core.Bool.{Bool, true, false, cond}
use mathlib.Core.List.{List, [], ◌∷◌}
use Prim.Native.Nat.{ℕ, zero, suc, ◌+◌, ◌*◌, ◌-◌, ◌%◌, ◌^◌, ◌≤◌, ◌<◌}
use native.Mathlib.Nat.{add-mul-mod_self_right, le-add_right, le_of_lt, le_of_suc-le-suc, lt_of_le_of_lt, lt_of_mul-lt-mul_right, lt-suc_self, mod-eq_of_lt, mul_comm, mul-suc, not-suc-le-zero, one-mul, pow-suc}
use native.Mathlib.Omega.{arith}
use lib.Arith.{digits_lt}
use lib.Dec.{leb}
use lib.IntN.{pos, negsuc, neg_ℤ}
use lib.ListN.{length, set, replicate, length-replicate}
use borrow.Author.Tests.{le-leb, lt-leb}
use Rattle.decimal_bytes.specs.Precision.{greatest_number}
use Rattle.decimal_bytes.specs.Number.{unsigned, number}
use Rattle.laws.proofs.ByteLaws.{EachByte}
use Rattle.decimal_bytes.proofs.UnsignedLaws.{pow_pos256, unsigned-<, unsigned_one, unsigned_ones}
use Rattle.decimal_bytes.proofs.NumberLaws.{number_neg, number_pos, sign_bit}

less_one : (n : ℕ) → suc n - 1 ≡ n
less_one n = omega arith

-- ---- 1 and -1

pub unsigned_all_set : (n : ℕ) (bs : List ℕ) → bs ≡ replicate n 255 → unsigned bs ≡ 256 ^ n - 1
unsigned_all_set n bs e = ap unsigned e ∙ omega (arith, unsigned_ones n)

pub unsigned_last_set : (n : ℕ) (bs : List ℕ) → 1 ≤ n → bs ≡ replicate n 0 → unsigned (set bs (length bs - 1) 1) ≡ 1
unsigned_last_set zero bs h e = absurd (not-suc-le-zero h)
unsigned_last_set (suc n) bs h e =
    ap (λ (l : List ℕ). unsigned (set l (length l - 1) 1)) e
    ∙ ap (λ (m : ℕ). unsigned (set (replicate (suc n) 0) (m - 1) 1)) (length-replicate (suc n) 0)
    ∙ ap (λ (m : ℕ). unsigned (set (replicate (suc n) 0) m 1)) (less_one n)
    ∙ unsigned_one n

-- ---- -1 times t, modulo n

negative_mod : (n t : ℕ) → 1 ≤ t → t ≤ n → (n - 1) * t % n ≡ n - t
negative_mod n zero h k = absurd (not-suc-le-zero h)
negative_mod zero (suc t) h k = absurd (not-suc-le-zero k)
negative_mod (suc n) (suc t) h k =
    ap (λ (m : ℕ). m % suc n) product
    ∙ add-mul-mod_self_right (n - t) t (suc n)
    ∙ mod-eq_of_lt (omega arith)
    ∙ omega arith
  where
    product : (suc n - 1) * suc t ≡ n - t + t * suc n
    product = ap (λ (m : ℕ). m * suc t) (less_one n) ∙ omega (arith, mul-suc n t, mul-suc t n, mul_comm n t)

-- ---- the sign of bytes, from their unsigned number

module _ (b : ℕ) (bs : List ℕ) (h : EachByte (b ∷ bs)) where
  pub sign_clear : unsigned (b ∷ bs) < 128 * 256 ^ length bs → leb 128 b ≡ false
  sign_clear l = lt-leb 128 b (lt_of_mul-lt-mul_right (256 ^ length bs) (lt_of_le_of_lt (le-add_right _ _) l))

  pub sign_set : 128 * 256 ^ length bs ≤ unsigned (b ∷ bs) → leb 128 b ≡ true
  sign_set l =
      le-leb 128 b
      (le_of_suc-le-suc
      (lt_of_mul-lt-mul_right (256 ^ length bs) (lt_of_le_of_lt l (digits_lt (lt-suc_self b) (unsigned-< bs h.1)))))

  number_clear : (t : ℕ) → t < 128 * 256 ^ length bs → unsigned (b ∷ bs) ≡ t → number (b ∷ bs) ≡ pos t
  number_clear t l e = number_pos (b ∷ bs) (sign_clear (subst (λ (m : ℕ). m < 128 * 256 ^ length bs) (sym e) l)) ∙ ap pos e

  number_set : (t : ℕ) → 1 ≤ t → t < 128 * 256 ^ length bs → unsigned (b ∷ bs) ≡ 256 ^ suc (length bs) - t → number (b ∷ bs) ≡ neg_ℤ (pos t)
  number_set zero k l e = absurd (not-suc-le-zero k)
  number_set (suc t) k l e =
      number_neg (b ∷ bs) (sign_set (omega (arith, e, pow-suc 256 (length bs)))) h
      ∙ ap negsuc (omega (arith, e, pow-suc 256 (length bs)))

-- ---- 1 or -1 times t, which n bytes hold

pub number_scaled : (negative : Bool) (bs : List ℕ) (t u : ℕ) → EachByte bs → 1 ≤ length bs → 1 ≤ t → t ≤ greatest_number (length bs)
    → u ≡ cond negative (256 ^ length bs - 1) 1 → unsigned bs ≡ u * t % 256 ^ length bs
    → number bs ≡ cond negative (neg_ℤ (pos t)) (pos t)
number_scaled negative [] t u h k l m p q = absurd (not-suc-le-zero k)
number_scaled negative (b ∷ bs) t u h k l m p q = go negative p
  where
    N : ℕ
    N = 256 ^ suc (length bs)

    small : t < 128 * 256 ^ length bs
    small = omega (arith, sign_bit (length bs), pow_pos256 (length bs))

    held : t < N
    held = omega (arith, small, pow-suc 256 (length bs))

    go : (s : Bool) → u ≡ cond s (N - 1) 1 → number (b ∷ bs) ≡ cond s (neg_ℤ (pos t)) (pos t)
    go true e = number_set b bs h t l small (q ∙ ap (λ (x : ℕ). x * t % N) e ∙ negative_mod N t l (le_of_lt held))
    go false e =
        number_clear b bs h t small (q ∙ ap (λ (x : ℕ). x * t % N) e ∙ ap (λ (x : ℕ). x % N) (one-mul t) ∙ mod-eq_of_lt held)
