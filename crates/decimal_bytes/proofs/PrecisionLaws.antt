-- Laws of the greatest precision: its power of ten is the greatest that a length holds, and no other number has that rule.
-- Assumes nothing.
use mathlib.Core.Path.{◌≡◌, refl, sym, subst}
use mathlib.Core.Logic.{⊎_elim}
use mathlib.Core.Bool.{Bool, true, false, not, cond, ◌&&◌}
use mathlib.Core.List.{List, [], ◌∷◌, map}
use Prim.Native.Nat.{ℕ, zero, suc, ◌+◌, ◌*◌, ◌-◌, ◌^◌, ◌≤◌, ◌<◌, zero-le}
use native.Mathlib.Nat.{le_refl, le_step, le_trans, le_antisymm, le_of_suc-le-suc, lt_irrefl, lt_of_lt_of_le, lt_of_not-le, not-suc-le-zero, eq-or-lt_of_le, pow-le-pow_left, pow-le-pow_right}
use native.Mathlib.Numerals.{add-one}
use native.Mathlib.Omega.{arith}
use lib.Dec.{T, leb, ltb, leb→le, ltb→lt, nleb→lt, le→leb}
use lib.ListN.{length, get_or}
use lib.Pow.{pow_mono, ones_lt}
use borrow.Author.Tests.{le-leb, leb-true}
use Rattle.laws.proofs.BoolLaws.{and_both, T_and_left, T_and_right}
use Rattle.decimal_bytes.specs.Precision.{greatest_length, is_length, greatest_number, greatest, greatest_precision}
use Rattle.decimal_bytes.proofs.Table.{every, at}

-- the greatest number that passes is within the limit
greatest-≤ : (test : ℕ → Bool) (limit : ℕ) → greatest test limit ≤ limit
unfolding greatest
greatest-≤ test zero = zero-le
greatest-≤ test (suc d) = go (test (suc d)) (greatest-≤ test d)
  where
    go : (b : Bool) → greatest test d ≤ d → cond b (suc d) (greatest test d) ≤ suc d
    go true h = le_refl (suc d)
    go false h = le_step h

-- it passes, where 0 does
greatest_passes : (test : ℕ → Bool) (limit : ℕ) → T (test 0) → T (test (greatest test limit))
unfolding greatest
greatest_passes test zero t = t
greatest_passes test (suc d) t = go (test (suc d)) (λ s. s) (greatest_passes test d t)
  where
    go : (b : Bool) → (T b → T (test (suc d))) → T (test (greatest test d)) → T (test (cond b (suc d) (greatest test d)))
    go true s r = s tt
    go false s r = r

-- and the next number does not, unless it is past the limit
greatest_next : (test : ℕ → Bool) (limit : ℕ) → greatest test limit < limit → T (not (test (suc (greatest test limit))))
unfolding greatest
greatest_next test zero h = absurd (not-suc-le-zero h)
greatest_next test (suc d) h = go (test (suc d)) (λ s. s) h (greatest_next test d)
  where
    go : (b : Bool) → (T (not b) → T (not (test (suc d)))) → cond b (suc d) (greatest test d) < suc d
        → (greatest test d < d → T (not (test (suc (greatest test d))))) → T (not (test (suc (cond b (suc d) (greatest test d)))))
    go true s k r = absurd (lt_irrefl (suc d) k)
    go false s k r =
        ⊎_elim (λ e. subst (λ (n : ℕ). T (not (test (suc n)))) (sym e) (s tt)) r (eq-or-lt_of_le (le_of_suc-le-suc k))

-- 10^a ≤ m < 10^b leaves a less than b
exponent-< : (m a b : ℕ) → 10 ^ a ≤ m → m < 10 ^ b → a < b
exponent-< m a b low high = lt_of_not-le λ h. lt_irrefl m (lt_of_lt_of_le high (le_trans (pow-le-pow_right (omega arith) h) low))

-- the test that the greatest precision is the greatest number to pass: n bytes hold 10^d
abbrev holds : ℕ → ℕ → Bool
holds n d = leb (10 ^ d) (greatest_number n)

module _ (n : ℕ) (low : 1 ≤ n) (high : n ≤ greatest_length) where
  is_greatest : greatest_precision n ≡ greatest (holds n) (8 * n)
  unfolding greatest_precision
  is_greatest = rw (le-leb 1 n low, le-leb n 256 high)

  holds_one : T (holds n 0)
  holds_one = le→leb (10 ^ 0) (greatest_number n) (omega (arith, pow_mono {i = 1} {j = 8 * n - 1} (omega arith)))

  limit_above : greatest_number n < 10 ^ (8 * n)
  limit_above =
      lt_of_lt_of_le (ones_lt (8 * n - 1)) (le_trans (pow_mono (omega arith)) (pow-le-pow_left (omega arith) (8 * n)))

  -- 10^d ≤ 2^(8n-1) - 1, of the greatest precision d
  pub greatest_precision_low : 10 ^ greatest_precision n ≤ greatest_number n
  greatest_precision_low = rw is_greatest (leb→le _ _ (greatest_passes (holds n) (8 * n) holds_one))

  -- and 2^(8n-1) - 1 < 10^(d+1)
  pub greatest_precision_high : greatest_number n < 10 ^ (greatest_precision n + 1)
  greatest_precision_high =
      let below : greatest (holds n) (8 * n) < 8 * n
      = exponent-< (greatest_number n) _ _ (rw is_greatest at greatest_precision_low) limit_above in
      rw (add-one, is_greatest) (nleb→lt _ _ (greatest_next (holds n) (8 * n) below))

  -- which no other number d has
  pub greatest_precision_unique : (d : ℕ) → 10 ^ d ≤ greatest_number n → greatest_number n < 10 ^ (d + 1) → d ≡ greatest_precision n
  greatest_precision_unique d below above =
      le_antisymm (within _ _ (exponent-< (greatest_number n) _ _ below greatest_precision_high))
      (within _ _ (exponent-< (greatest_number n) _ _ greatest_precision_low above))
    where
      within : (a b : ℕ) → a < b + 1 → a ≤ b
      within a b h = omega arith

-- document 01's own examples
published : map greatest_precision (1 ∷ 2 ∷ 4 ∷ 8 ∷ 16 ∷ []) ≡ 2 ∷ 4 ∷ 9 ∷ 18 ∷ 38 ∷ []
unfolding greatest_precision greatest
published = refl

-- a length is 1 to 256
pub is_length_bounds : (n : ℕ) → is_length n ≡ true → (1 ≤ n) × (n ≤ greatest_length)
is_length_bounds n e = let p = and_both (leb 1 n) (leb n greatest_length) e in (leb-true 1 n p.0, leb-true n greatest_length p.1)

pub is_length_within : (n : ℕ) → 1 ≤ n → n ≤ greatest_length → is_length n ≡ true
is_length_within n low high = rw (le-leb 1 n low, le-leb n 256 high)

-- ---- the table of the greatest precisions

-- 10^d ≤ 2^(8n-1) - 1, and 2^(8n-1) - 1 < 10^(d+1)
abbrev low : ℕ → ℕ → Bool
low n d = leb (10 ^ d) (greatest_number n)

abbrev high : ℕ → ℕ → Bool
high n d = ltb (greatest_number n) (10 ^ (d + 1))

-- the rule at the entry d of the place k, which stands for k + 1 bytes
abbrev pub right : ℕ → ℕ → Bool
right k d = low (k + 1) d && high (k + 1) d

-- in a table whose every entry keeps the rule, the entry at n - 1 is the greatest precision of n bytes
pub entry : (table : List ℕ) → T (every right 0 table) → (n : ℕ) → 1 ≤ n → n ≤ greatest_length → length table ≡ greatest_length
    → get_or table (n - 1) 0 ≡ greatest_precision n
entry table t n least most whole =
    let d : ℕ = get_or table (n - 1) 0 in
    let e : n - 1 + 1 ≡ n = omega arith in
    let r : T (low n d && high n d) = rw e at (at right table t (n - 1) (omega arith)) in
    greatest_precision_unique n least most d
    (leb→le _ _ (T_and_left (low n d) (high n d) r)) (ltb→lt _ _ (T_and_right (low n d) (high n d) r))
