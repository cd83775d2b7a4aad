-- Laws of multiplying the number of bytes by a factor, a byte at a time from the last to the first, and of powers of ten.
-- Assumes nothing.
use mathlib.Core.Path.{◌≡◌, refl, sym, ap, ap₂, ◌∙◌}
use mathlib.Core.Bool.{Bool}
use mathlib.Core.List.{List}
use Prim.Native.Nat.{ℕ, suc, ◌+◌, ◌*◌, ◌-◌, ◌/◌, ◌%◌, ◌^◌, ◌≤◌, ◌<◌, min}
use native.Mathlib.Nat.{add-mul, mul_assoc, mul_comm, mul_right_comm, mul-le-mul_right, div-add-mod', mod-lt, mod-eq_of_lt, add-mul-mod_self_right, pow-suc, ne_of_lt, le_of_suc-le-suc, le_refl, mul-one, sub_self, one-le-pow, pow-le-pow_right}
use native.Mathlib.Omega.{arith}
use lib.Arith.{digits_lt}
use lib.Dec.{T, eqb}
use lib.ListN.{length, get_or, drop, set, length-set}
use lib.Pow.{pow-add}
use lib.Seq.{drop-set-lt, drop-length, get_or-set_same, get_or-set_other}
use borrow.Author.Tests.{eqb-true}
use Rattle.laws.proofs.BoolLaws.{T_true}
use Rattle.decimal_bytes.specs.Number.{unsigned}
use Rattle.decimal_bytes.proofs.Table.{every, at}
use Rattle.decimal_bytes.proofs.UnsignedLaws.{unsigned_drop}

-- the bytes from `at` on are those of the old number times the factor, but for a carry; those before are the old ones
pub record Scaled (old : List ℕ) (factor : ℕ) (new : List ℕ) (carry at : ℕ) : Type 0 where
  pub within : at ≤ length old
  pub same : length new ≡ length old
  pub small : carry < factor
  pub before : (k : ℕ) → k < at → get_or new k 0 ≡ get_or old k 0
  pub held : unsigned (drop at new) < 256 ^ (length old - at)
  pub value : unsigned (drop at new) + carry * 256 ^ (length old - at) ≡ unsigned (drop at old) * factor

pub scaled_none : (old : List ℕ) (factor : ℕ) → 0 < factor → Scaled old factor old 0 (length old)
scaled_none old factor h = record {
  within = le_refl (length old);
  same = refl;
  small = h;
  before = λ k l. refl;
  held = rw (drop-length old, sub_self (length old)) (omega arith);
  value = rw (drop-length old, sub_self (length old)) (omega arith);
}

-- one digit: r and q are the remainder and the quotient by 256 of b * factor + carry
digit : (factor carry b m u v q r : ℕ) → q * 256 + r ≡ b * factor + carry → u + carry * m ≡ v * factor
    → r * m + u + q * (m * 256) ≡ (b * m + v) * factor
digit factor carry b m u v q r e h =
    omega (
      arith,
      sym (mul_assoc q m 256),
      mul_right_comm q 256 m,
      add-mul (q * 256) r m,
      ap (λ (n : ℕ). n * m) e,
      add-mul (b * factor) carry m,
      mul_right_comm b factor m,
      add-mul (b * m) v factor,
      h,
    )

-- what is carried out of a byte at the place `at`
abbrev pub product : List ℕ → ℕ → ℕ → ℕ → ℕ
product new factor carry at = get_or new at 0 * factor + carry

module _ {old : List ℕ} {factor : ℕ} {new : List ℕ} {carry at : ℕ} (h : Scaled old factor new carry (suc at))
    (byte : get_or new at 0 < 256) where
  p : ℕ
  p = product new factor carry at

  m : ℕ
  m = 256 ^ (length old - suc at)

  power : 256 ^ (length old - at) ≡ m * 256
  unfolding m
  power = ap (λ (n : ℕ). 256 ^ n) (omega arith) ∙ pow-suc 256 (length old - suc at)

  new_value : unsigned (drop at (set new at (p % 256))) ≡ p % 256 * m + unsigned (drop (suc at) new)
  unfolding m
  new_value =
      unsigned_drop (set new at (p % 256)) at (simp length-set (omega arith))
      ∙ ap₂ (λ (x n : ℕ). x * 256 ^ (n - suc at) + unsigned (drop (suc at) (set new at (p % 256))))
      (get_or-set_same new at (p % 256) 0 (omega arith)) (length-set new at (p % 256) ∙ h.same)
      ∙ ap (λ (bs : List ℕ). p % 256 * 256 ^ (length old - suc at) + unsigned bs) (drop-set-lt (suc at) new at (p % 256) (omega arith))

  old_value : unsigned (drop at old) ≡ get_or new at 0 * m + unsigned (drop (suc at) old)
  unfolding m
  old_value =
      unsigned_drop old at h.within
      ∙ ap (λ (x : ℕ). x * 256 ^ (length old - suc at) + unsigned (drop (suc at) old)) (sym (h.before at (le_refl (suc at))))

  scaled_small : p / 256 < factor
  unfolding p
  scaled_small = omega (arith, mul-le-mul_right factor (le_of_suc-le-suc byte))

  scaled_held : unsigned (drop at (set new at (p % 256))) < 256 ^ (length old - at)
  unfolding m
  scaled_held = rw (new_value, power, mul_comm m 256) (digits_lt (mod-lt p (omega arith)) h.held)

  scaled_value : unsigned (drop at (set new at (p % 256))) + p / 256 * 256 ^ (length old - at) ≡ unsigned (drop at old) * factor
  unfolding p m
  scaled_value =
      rw (new_value, old_value, power)
      (digit factor carry (get_or new at 0) m (unsigned (drop (suc at) new)) (unsigned (drop (suc at) old)) (p / 256) (p % 256)
      (div-add-mod' p 256) h.value)

  pub scaled_step : Scaled old factor (set new at (product new factor carry at % 256)) (product new factor carry at / 256) at
  unfolding p
  scaled_step = record {
    within = omega arith;
    same = length-set new at (p % 256) ∙ h.same;
    small = scaled_small;
    before = λ k l. get_or-set_other new at k (p % 256) 0 (ne_of_lt l) ∙ h.before k (omega arith);
    held = scaled_held;
    value = scaled_value;
  }

-- at the front the carry is what the bytes do not hold
pub scaled_all : {old : List ℕ} {factor : ℕ} {new : List ℕ} {carry : ℕ} → Scaled old factor new carry 0
    → unsigned new ≡ unsigned old * factor % 256 ^ length old
scaled_all {old} {factor} {new} {carry} h =
    let whole : length old - 0 ≡ length old = omega arith in
    let held : unsigned new < 256 ^ length old = rw whole at h.held in
    let value : unsigned new + carry * 256 ^ length old ≡ unsigned old * factor = rw whole at h.value in
    sym (mod-eq_of_lt held) ∙ sym (add-mul-mod_self_right (unsigned new) carry (256 ^ length old))
    ∙ ap (λ (n : ℕ). n % 256 ^ length old) value

-- a factor may be multiplied in before or after the remainder is taken
pub mod-* : (x f n : ℕ) → x % n * f % n ≡ x * f % n
mod-* x f n =
    sym (add-mul-mod_self_right (x % n * f) (x / n * f) n)
    ∙ ap (λ (m : ℕ). m % n) (whole (x / n) (x % n) (div-add-mod' x n))
  where
    whole : (q r : ℕ) → q * n + r ≡ x → r * f + q * f * n ≡ x * f
    whole q r e = omega (arith, ap (λ (m : ℕ). m * f) e, add-mul (q * n) r f, mul_right_comm q n f)

-- and powers of ten one after the other
pub mod_power : (u n : ℕ) (i j : ℕ) → u * 10 ^ i % n * 10 ^ j % n ≡ u * 10 ^ (i + j) % n
mod_power u n i j =
    mod-* (u * 10 ^ i) (10 ^ j) n ∙ ap (λ (m : ℕ). m % n) (mul_assoc u (10 ^ i) (10 ^ j) ∙ ap (λ (m : ℕ). u * m) (sym (pow-add 10 i j)))

-- a number that is scaled by ten to the i, scaled by ten to the j
pub power_more : (u v n f : ℕ) (i j k : ℕ) → v ≡ u * 10 ^ i % n → f ≡ 10 ^ j → i + j ≡ k → v * f % n ≡ u * 10 ^ k % n
power_more u v n f i j k e h s =
    ap₂ (λ (x y : ℕ). x * y % n) e h ∙ mod_power u n i j ∙ ap (λ (m : ℕ). u * 10 ^ m % n) s

pub power_none : (u n : ℕ) → u < n → u ≡ u * 10 ^ 0 % n
power_none u n h = sym (ap (λ (m : ℕ). m % n) (mul-one u) ∙ mod-eq_of_lt h)

pub power_bounds : (i : ℕ) → i ≤ 16 → (1 ≤ 10 ^ i) × (10 ^ i ≤ 10 ^ 16)
power_bounds i h = (one-le-pow i 10 (omega arith), pow-le-pow_right (omega arith) h)

-- ---- a table of powers

-- the number at the place k is 10^k
abbrev pub is_power : ℕ → ℕ → Bool
is_power k n = eqb n (10 ^ k)

-- in a table of which this is so everywhere, each entry is the power of its place
pub power_entry : (table : List ℕ) → T (every is_power 0 table) → (k : ℕ) → k < length table → get_or table k 0 ≡ 10 ^ k
power_entry table t k h = eqb-true _ _ (T_true _ (at is_power table t k h))

-- what 64 bits hold of a power of ten is the power itself below the twentieth
pub power_held : (r n : ℕ) → r ≡ 10 ^ min n 19 → n < 20 → r ≡ 10 ^ n
power_held r n e h =
    let same : min n 19 ≡ n = omega arith in
    e ∙ ap (λ (m : ℕ). 10 ^ m) same
