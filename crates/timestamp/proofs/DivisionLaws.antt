-- Division of natural numbers: what quotient and rest are, and how they go on from a number to the next.
use Prim.Native.Nat.{ℕ, zero, suc, ◌+◌, ◌*◌, ◌/◌, ◌%◌, ◌<◌, ◌≤◌}
use native.Mathlib.Omega.{arith}
use native.Mathlib.Nat.{add-mod, add_comm, mod-mod, mod-lt, div-add-mod', mul-add-div_right, mul-add-mod_self_right, div-eq_of_lt, mod-eq_of_lt, add-mul, le_of_eq}
use mathlib.Core.Path.{◌≡◌, sym, ap, ◌∙◌}
use mathlib.Core.Bool.{Bool, true, false, cond}
use borrow.Author.Tests.{eq-eqb, ne_eqb, eqb-true, eqb-false}
use lib.Dec.{eqb}
use Rattle.timestamp.specs.Calendar.{divides}
use Rattle.laws.proofs.DifferenceLaws.{below?}
use Rattle.laws.proofs.BoolLaws.{by_test}

-- quotient and rest, from how a number is put together
pub quotient_is : (n k q r : ℕ) → n ≡ q * k + r → r < k → n / k ≡ q
quotient_is n k q r e h = ap (λ (x : ℕ). x / k) e ∙ mul-add-div_right (omega arith) q r ∙ ap (λ (x : ℕ). q + x) (div-eq_of_lt h) ∙ omega arith

pub rest_is : (n k q r : ℕ) → n ≡ q * k + r → r < k → n % k ≡ r
rest_is n k q r e h = ap (λ (x : ℕ). x % k) e ∙ mul-add-mod_self_right q k r ∙ mod-eq_of_lt h

pub suc_times : (n k : ℕ) → suc n * k ≡ n * k + k
suc_times n k = ap (λ (x : ℕ). x * k) (omega arith) ∙ add-mul n 1 k ∙ omega arith

-- 1 where a test holds, else 0
abbrev pub one_if : Bool → ℕ
one_if b = cond b 1 0

-- the quotient grows by one at each multiple
pub quotient_suc : (k n : ℕ) → 0 < k → suc n / k ≡ n / k + one_if (divides k (suc n))
quotient_suc k n h = below? (suc (n % k)) k inside at_end
  where
    split : n / k * k + n % k ≡ n
    split = div-add-mod' n k

    inside : suc (n % k) < k → suc n / k ≡ n / k + one_if (divides k (suc n))
    inside g =
        let e : suc n ≡ n / k * k + suc (n % k) = omega (arith, split) in
        let t : divides k (suc n) ≡ false = ne_eqb (suc n % k) 0 (λ z. not_zero (sym (rest_is (suc n) k (n / k) (suc (n % k)) e g) ∙ z)) in
        quotient_is (suc n) k (n / k) (suc (n % k)) e g ∙ sym (ap (λ (b : Bool). n / k + one_if b) t ∙ omega arith)
      where
        not_zero : suc (n % k) ≡ 0 → ⊥
        not_zero z = omega arith

    at_end : k ≤ suc (n % k) → suc n / k ≡ n / k + one_if (divides k (suc n))
    at_end g =
        let l : n % k < k = mod-lt n h in
        let w : (n / k + 1) * k ≡ n / k * k + 1 * k = add-mul (n / k) 1 k in
        let e : suc n ≡ (n / k + 1) * k + 0 = omega (arith, split) in
        let t : divides k (suc n) ≡ true = eq-eqb (suc n % k) 0 (rest_is (suc n) k (n / k + 1) 0 e h) in
        quotient_is (suc n) k (n / k + 1) 0 e h ∙ sym (ap (λ (b : Bool). n / k + one_if b) t)

-- multiples: of a sum with a multiple, and of two numbers whose sum is one
pub divides_add : (k a c : ℕ) → c % k ≡ 0 → divides k (a + c) ≡ divides k a
divides_add k a c e =
    ap (λ (x : ℕ). eqb x 0) (add-mod a c k ∙ ap (λ (x : ℕ). (a % k + x) % k) e ∙ ap (λ (x : ℕ). x % k) (omega arith) ∙ mod-mod a k)

pub divides_rest : (k a b : ℕ) → (a + b) % k ≡ 0 → divides k a ≡ divides k b
divides_rest k a b e = by_test (divides k a) (λ t. t ∙ sym (eq-eqb (b % k) 0 (from a b e (eqb-true (a % k) 0 t)))) (λ t. t ∙ sym (ne_eqb (b % k) 0 (λ z. eqb-false (a % k) 0 t (from b a (ap (λ (x : ℕ). x % k) (add_comm b a) ∙ e) z))))
  where
    from : (x y : ℕ) → (x + y) % k ≡ 0 → x % k ≡ 0 → y % k ≡ 0
    from x y s z = sym (mod-mod y k) ∙ sym (ap (λ (w : ℕ). w % k) (ap (λ (w : ℕ). w + y % k) z ∙ omega arith)) ∙ sym (add-mod x y k) ∙ s

-- steps that each begin where the one before ends: a place tells its step, and how far it lies into it
module _ (f len : ℕ → ℕ) (next : (i : ℕ) → f (suc i) ≡ f i + len i) where
  pub steps_up : (i j : ℕ) → i ≤ j → f i ≤ f j
  steps_up i zero h = le_of_eq (ap f (omega arith))
  steps_up i (suc j) h =
      below? i (suc j) (λ g. let k : f i ≤ f j = steps_up i j (omega arith) in omega (arith, next j)) (λ g. le_of_eq (ap f (omega arith)))

  apart : (i j a b : ℕ) → a < len i → i < j → f i + a ≡ f j + b → ⊥
  apart i j a b h g e = omega (arith, next i, steps_up (suc i) j g)

  pub steps_one : (i j a b : ℕ) → a < len i → b < len j → f i + a ≡ f j + b → (i ≡ j) × (a ≡ b)
  steps_one i j a b h k e =
      below? i j (λ g. absurd (apart i j a b h g e))
      (λ g. below? j i (λ l. absurd (apart j i b a k l (sym e))) (λ l. let q : i ≡ j = omega arith in (q, same q)))
    where
      same : i ≡ j → a ≡ b
      same q = let w : f i ≡ f j = ap f q in omega arith
