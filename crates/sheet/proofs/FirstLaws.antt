-- Laws of the first number at which a test fails.
use mathlib.Core.Path.{◌≡◌, refl, sym, ◌∙◌, subst}
use mathlib.Core.Bool.{Bool, true, false}
use Prim.Native.Nat.{ℕ, zero, suc, ◌+◌, ◌≤◌, ◌<◌}
use mathlib.Core.Logic.{⊎_elim}
use native.Mathlib.Nat.{add-zero, zero-add, eq-or-lt_of_le}
use native.Mathlib.Decide.{dec_lt}
use native.Mathlib.Omega.{arith}
use Rattle.sheet.specs.First.{first_wrong_from, first_wrong}

module _ (right : ℕ → Bool) where
  from_right : (k n : ℕ) → right k ≡ true → first_wrong_from right k (suc n) ≡ first_wrong_from right (suc k) n
  unfolding first_wrong_from
  from_right k n e = rw e

  from_wrong : (k n : ℕ) → right k ≡ false → first_wrong_from right k (suc n) ≡ k
  unfolding first_wrong_from
  from_wrong k n e = rw e

  from_none : (n k : ℕ) → ((j : ℕ) → k ≤ j → j < k + n → right j ≡ true) → first_wrong_from right k n ≡ k + n
  unfolding first_wrong_from
  from_none zero k all = sym (add-zero k)
  from_none (suc n) k all =
      from_right k n (all k (omega arith) (omega arith))
      ∙ from_none n (suc k) (λ j l h. all j (omega arith) (omega arith))
      ∙ (omega arith)

  from_at : (n k i : ℕ) → k ≤ i → i < k + n → ((j : ℕ) → k ≤ j → j < i → right j ≡ true) → right i ≡ false → first_wrong_from right k n ≡ i
  from_at zero k i l h all e = absurd (omega arith)
  from_at (suc n) k i l h all e = ⊎_elim
      (λ q. from_wrong k n (subst (λ (m : ℕ). right m ≡ false) (sym q) e) ∙ q)
      (λ q. from_right k n (all k (omega arith) q) ∙ from_at n (suc k) i q (omega arith) (λ j a b. all j (omega arith) b) e)
      (eq-or-lt_of_le l)

  -- where the test fails first at i, that is the first
  pub first_wrong_at : (n i : ℕ) → i < n → ((j : ℕ) → j < i → right j ≡ true) → right i ≡ false → first_wrong right n ≡ i
  unfolding first_wrong
  first_wrong_at n i l all e = from_at n 0 i (omega arith) (omega arith) (λ j _ h. all j h) e

  -- where it fails at none, the bound is
  pub first_wrong_none : (n : ℕ) → ((j : ℕ) → j < n → right j ≡ true) → first_wrong right n ≡ n
  unfolding first_wrong
  first_wrong_none n all = from_none n 0 (λ j _ h. all j (omega arith)) ∙ zero-add n

  -- so a number up to which the test fails at none, and at which it fails or which is the bound, is the first
  pub first_wrong_is : (n r : ℕ) → r ≤ n → ((j : ℕ) → j < r → right j ≡ true) → (r < n → right r ≡ false) → r ≡ first_wrong right n
  first_wrong_is n r within all at = cases (dec_lt r n)
    where
      cases : Dec (r < n) → r ≡ first_wrong right n
      cases (yes h) = sym (first_wrong_at n r h all (at h))
      cases (no h) = let e : r ≡ n = omega arith in e ∙ sym (first_wrong_none n (λ j k. all j (omega arith)))

  from_all : (n k : ℕ) → k + n ≤ first_wrong_from right k n → (j : ℕ) → k ≤ j → j < k + n → right j ≡ true
  from_all zero k h j l u = absurd (omega arith)
  from_all (suc n) k h j l u = cases (right k) refl (from_all n (suc k))
    where
      cases : (t : Bool)
          → right k ≡ t
          → (suc k + n ≤ first_wrong_from right (suc k) n → (i : ℕ) → suc k ≤ i → i < suc k + n → right i ≡ true)
          → right j ≡ true
      cases true e rest =
          ⊎_elim (λ q. subst (λ (m : ℕ). right m ≡ true) q e) (λ q. rest (omega (arith, from_right k n e)) j q (omega arith))
          (eq-or-lt_of_le l)
      cases false e rest = absurd (omega (arith, from_wrong k n e))

  -- where the bound is the answer, the test fails at none
  pub first_wrong_all : (n : ℕ) → n ≤ first_wrong right n → (j : ℕ) → j < n → right j ≡ true
  unfolding first_wrong
  first_wrong_all n h j l = from_all n 0 (omega arith) j (omega arith) (omega arith)
