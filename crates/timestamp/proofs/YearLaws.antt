-- Years: their days, and the days before them, also as eras of 400 years that all have the same days.
use Prim.Native.Nat.{ℕ, zero, suc, ◌+◌, ◌*◌, ◌-◌, ◌/◌, ◌%◌, ◌≤◌}
use native.Mathlib.Omega.{arith}
use native.Mathlib.Nat.{div-le_self, dvd-mul_right_of_dvd, mod-eq-zero_of_dvd, dvd_of_mod-eq-zero}
use mathlib.Core.Path.{◌≡◌, refl, sym, ap, ap₂, subst, ◌∙◌}
use mathlib.Core.Bool.{Bool, true, false, not, ◌&&◌, ◌||◌, false≢true}
use borrow.Author.Tests.{eqb-true, eq-eqb}
use lib.IntN.{ℤ, pos, negsuc, nat_abs, sub_ℕ, ◌+ℤ◌, ◌-ℤ◌}
use Rattle.timestamp.specs.Calendar.{divides, is_leap, months, sum, days_of_year, days_before_year}
use Rattle.laws.proofs.DifferenceLaws.{pos_sub, negsuc_sub, sub_eq, sub_inj, sub_sub_pos}
use Rattle.timestamp.proofs.DivisionLaws.{quotient_suc, divides_add, divides_rest, one_if}

-- a leap year has one day more
year_days : (b : Bool) → sum (months b) ≡ 365 + one_if b
unfolding sum
year_days true = refl
year_days false = refl

pub days_of_year_lem : (y : ℤ) → days_of_year y ≡ 365 + one_if (is_leap y)
unfolding days_of_year
days_of_year_lem y = year_days (is_leap y)

one_if_most : (b : Bool) → one_if b ≤ 1
one_if_most true = omega arith
one_if_most false = omega arith

pub days_of_year_most : (y : ℤ) → days_of_year y ≤ 366
days_of_year_most y = omega (arith, days_of_year_lem y, one_if_most (is_leap y))

-- ---- a year and the year as many eras on

era_multiple : (k e : ℕ) → 400 % k ≡ 0 → (400 * e) % k ≡ 0
era_multiple k e h = mod-eq-zero_of_dvd k (dvd-mul_right_of_dvd _ (dvd_of_mod-eq-zero k h) e)

-- two years are leap years together where both or neither are multiples of 4, of 100 and of 400
leap_same : (y z : ℤ) → ((k : ℕ) → 400 % k ≡ 0 → divides k (nat_abs y) ≡ divides k (nat_abs z)) → is_leap y ≡ is_leap z
unfolding is_leap
leap_same y z h = ap₂ ◌&&◌ (h 4 refl) (ap₂ (λ (a b : Bool). not a || b) (h 100 refl) (h 400 refl))

pub leap_era : (y : ℤ) (n e : ℕ) → y ≡ sub_ℕ n (400 * e) → is_leap y ≡ is_leap (pos n)
leap_era (pos m) n e q = leap_same (pos m) (pos n) λ k h. sym (divides_add k m (400 * e) (era_multiple k e h)) ∙ ap (divides k) later
  where
    later : m + 400 * e ≡ n
    later = omega (arith, sub_inj m 0 n (400 * e) (sym (pos_sub m) ∙ q))
leap_era (negsuc m) n e q = leap_same (negsuc m) (pos n) λ k h. divides_rest k (suc m) n (ap (λ (x : ℕ). x % k) eras ∙ era_multiple k e h)
  where
    eras : suc m + n ≡ 400 * e
    eras = omega (arith, sub_inj 0 (suc m) n (400 * e) (sym (negsuc_sub m) ∙ q))

pub year_days_era : (y : ℤ) (n e : ℕ) → y ≡ sub_ℕ n (400 * e) → days_of_year y ≡ days_of_year (pos n)
year_days_era y n e q = days_of_year_lem y ∙ ap (λ (b : Bool). 365 + one_if b) (leap_era y n e q) ∙ sym (days_of_year_lem (pos n))

-- ---- the days before a year

-- from 1 January of year 0 to 1 January of year n
pub elapsed : ℕ → ℕ
elapsed zero = 0
elapsed (suc n) = elapsed n + days_of_year (pos n)

pub elapsed_suc : (n : ℕ) → elapsed (suc n) ≡ elapsed n + days_of_year (pos n)
unfolding elapsed
elapsed_suc n = refl

pub days_before_year_lem : (n : ℕ) → days_before_year (pos n) ≡ pos (elapsed n)
unfolding elapsed days_before_year
days_before_year_lem zero = refl
days_before_year_lem (suc n) = ap (λ (z : ℤ). z +ℤ pos (days_of_year (pos n))) (days_before_year_lem n)

-- from 1 March of year 0 to 1 March of year n
unfoldable pub march : ℕ → ℕ
march n = 365 * n + n / 4 + n / 400 - n / 100

-- how many of the rules hold at a year: a leap year is a multiple of 4, and none of 100 but those of 400
leap_rules : (a b c : Bool) → (c ≡ true → b ≡ true) → (b ≡ true → a ≡ true) → one_if (a && (not b || c)) + one_if b ≡ one_if a + one_if c
leap_rules true true true h g = refl
leap_rules true true false h g = refl
leap_rules true false true h g = absurd (false≢true (h refl))
leap_rules true false false h g = refl
leap_rules false true c h g = absurd (false≢true (g refl))
leap_rules false false true h g = absurd (false≢true (h refl))
leap_rules false false false h g = refl

leap_count : (n : ℕ) → one_if (is_leap (pos n)) + one_if (divides 100 n) ≡ one_if (divides 4 n) + one_if (divides 400 n)
unfolding is_leap
leap_count n =
    leap_rules (divides 4 n) (divides 100 n) (divides 400 n)
    (λ t. let h : n % 400 ≡ 0 = eqb-true (n % 400) 0 t in eq-eqb (n % 100) 0 (omega arith))
    (λ t. let h : n % 100 ≡ 0 = eqb-true (n % 100) 0 t in eq-eqb (n % 4) 0 (omega arith))

pub march_sum : (n a b c : ℕ) → n / 4 ≡ a → n / 100 ≡ b → n / 400 ≡ c → march n + b ≡ 365 * n + a + c
unfolding march
march_sum n a b c p q r =
    ap (λ (x : ℕ). x + b) (ap₂ (λ (x y : ℕ). 365 * n + x + n / 400 - y) p q ∙ ap (λ (x : ℕ). 365 * n + a + x - b) r) ∙ back b n (subst (λ (x : ℕ). x ≤ n) q (div-le_self n 100))
  where
    back : (b n : ℕ) → b ≤ n → 365 * n + a + c - b + b ≡ 365 * n + a + c
    back b n h = omega arith

pub march_suc : (n : ℕ) → march (suc n) ≡ march n + 365 + one_if (is_leap (pos (suc n)))
march_suc n =
    grown (n / 4) (n / 100) (n / 400) (one_if (divides 4 (suc n))) (one_if (divides 100 (suc n))) (one_if (divides 400 (suc n)))
    (one_if (is_leap (pos (suc n)))) (march n) (march (suc n))
    (march_sum n (n / 4) (n / 100) (n / 400) refl refl refl)
    (march_sum (suc n) _ _ _ (quotient_suc 4 n (omega arith)) (quotient_suc 100 n (omega arith)) (quotient_suc 400 n (omega arith)))
    (leap_count (suc n))
  where
    grown : (a b c x y z l m m' : ℕ) → m + b ≡ 365 * n + a + c → m' + (b + y) ≡ 365 * suc n + (a + x) + (c + z) → l + y ≡ x + z → m' ≡ m + 365 + l
    grown a b c x y z l m m' p q r = omega arith

-- 1 March of a year is 59 or 60 days after its 1 January
pub elapsed_march : (n : ℕ) → elapsed n + one_if (is_leap (pos n)) ≡ march n + 1
unfolding elapsed march is_leap
elapsed_march zero = refl
elapsed_march (suc n) = omega (arith, elapsed_march n, march_suc n, days_of_year_lem (pos n))

-- as many eras on
march_era : (n e : ℕ) → march (n + 400 * e) ≡ march n + 146097 * e
march_era n e =
    grown (n / 4) (n / 100) (n / 400) (march n) (march (n + 400 * e))
    (march_sum n (n / 4) (n / 100) (n / 400) refl refl refl)
    (march_sum (n + 400 * e) (n / 4 + 100 * e) (n / 100 + 4 * e) (n / 400 + e) (omega arith) (omega arith) (omega arith))
  where
    grown : (a b c m m' : ℕ) → m + b ≡ 365 * n + a + c → m' + (b + 4 * e) ≡ 365 * (n + 400 * e) + (a + 100 * e) + (c + e) → m' ≡ m + 146097 * e
    grown a b c m m' p q = omega arith

pub elapsed_era : (n e : ℕ) → elapsed (n + 400 * e) ≡ elapsed n + 146097 * e
elapsed_era n e =
    let same : is_leap (pos n) ≡ is_leap (pos (n + 400 * e)) = leap_era (pos n) (n + 400 * e) e (pos_sub n ∙ sub_eq n 0 (n + 400 * e) (400 * e) (omega arith)) in
    omega (arith, elapsed_march n, elapsed_march (n + 400 * e), march_era n e, ap one_if same)

-- the days before a year, as those before the year as many eras on
same_days : (e m n : ℕ) → suc m + n ≡ 400 * e → days_of_year (negsuc m) ≡ days_of_year (pos n)
same_days e m n h = year_days_era (negsuc m) n e (negsuc_sub m ∙ sub_eq 0 (suc m) n (400 * e) (omega arith))

pub elapsed_zero : elapsed 0 ≡ 0
unfolding elapsed
elapsed_zero = refl

days_before_negative : (e m n : ℕ) → suc m + n ≡ 400 * e → days_before_year (negsuc m) ≡ sub_ℕ (elapsed n) (146097 * e)
unfolding days_before_year
days_before_negative e zero n h = sub_sub_pos 0 0 (days_of_year (negsuc 0)) ∙ sub_eq 0 (0 + days_of_year (negsuc 0)) (elapsed n) (146097 * e) (omega (arith, whole, elapsed_suc n, same_days e 0 n h))
  where
    whole : elapsed (suc n) ≡ 146097 * e
    whole = ap elapsed (omega arith) ∙ elapsed_era 0 e ∙ omega (arith, elapsed_zero)
days_before_negative e (suc m) n h =
    ap (λ (z : ℤ). z -ℤ pos (days_of_year (negsuc (suc m)))) (days_before_negative e m (suc n) (omega arith)) ∙ sub_sub_pos (elapsed (suc n)) (146097 * e) (days_of_year (negsuc (suc m))) ∙ sub_eq (elapsed (suc n)) (146097 * e + days_of_year (negsuc (suc m))) (elapsed n) (146097 * e) (omega (arith, elapsed_suc n, same_days e (suc m) n h))

pub days_before_era : (y : ℤ) (n e : ℕ) → y ≡ sub_ℕ n (400 * e) → days_before_year y ≡ sub_ℕ (elapsed n) (146097 * e)
days_before_era (pos m) n e q = days_before_year_lem m ∙ pos_sub (elapsed m) ∙ sub_eq (elapsed m) 0 (elapsed n) (146097 * e) (omega (arith, elapsed_era m e, ap elapsed later))
  where
    later : m + 400 * e ≡ n
    later = omega (arith, sub_inj m 0 n (400 * e) (sym (pos_sub m) ∙ q))
days_before_era (negsuc m) n e q = days_before_negative e m n (omega (arith, sub_inj 0 (suc m) n (400 * e) (sym (negsuc_sub m) ∙ q)))
