-- Months: each begins where the one before ends, also where the year begins in March.
use Prim.Native.Nat.{ℕ, zero, suc, ◌+◌, ◌*◌, ◌-◌, ◌/◌, ◌<◌, ◌≤◌}
use native.Mathlib.Omega.{arith}
use mathlib.Core.Path.{◌≡◌, refl}
use mathlib.Core.Bool.{Bool, true, false}
use mathlib.Core.List.{List, [], ◌∷◌}
use borrow.Author.Tests.{eqb-true}
use lib.Dec.{eqb}
use lib.ListN.{get_or, take}
use Rattle.timestamp.specs.Calendar.{months, sum}
use Rattle.timestamp.proofs.DivisionLaws.{steps_up, steps_one, one_if}
use Rattle.laws.proofs.BoolLaws.{at_each}

-- the days of a month and those before it, in a common year or a leap year
abbrev pub month_days : Bool → ℕ → ℕ
month_days b m = get_or (months b) (m - 1) 0

abbrev pub month_start : Bool → ℕ → ℕ
month_start b m = sum (take (m - 1) (months b))

-- each month begins where the one before ends
sum_take_suc : (xs : List ℕ) (i : ℕ) → sum (take (suc i) xs) ≡ sum (take i xs) + get_or xs i 0
unfolding sum
sum_take_suc [] zero = refl
sum_take_suc [] (suc i) = refl
sum_take_suc (x ∷ xs) zero = omega arith
sum_take_suc (x ∷ xs) (suc i) = omega (arith, sum_take_suc xs i)

-- ---- months from March on

-- the days from 1 March to the first of the i-th month from there
abbrev pub march_month : ℕ → ℕ
march_month i = (153 * i + 2) / 5

-- from March to December, and January and February of the next year
pub march_month_start : (b : Bool) (i : ℕ) → i < 10 → month_start b (i + 3) ≡ 59 + one_if b + march_month i
unfolding sum
march_month_start true i h = eqb-true _ _ (at_each 10 (λ (k : ℕ). eqb (month_start true (k + 3)) (60 + march_month k)) refl i h)
march_month_start false i h = eqb-true _ _ (at_each 10 (λ (k : ℕ). eqb (month_start false (k + 3)) (59 + march_month k)) refl i h)

pub january_start : (b : Bool) (m : ℕ) → 1 ≤ m → m ≤ 2 → month_start b m + 306 ≡ march_month (m + 9)
unfolding sum
january_start b zero h k = absurd (omega arith)
january_start b (suc zero) h k = refl
january_start b (suc (suc zero)) h k = refl
january_start b (suc (suc (suc m))) h k = absurd (omega arith)

-- each of those months ends where the next begins, and a day of January or February is not past its month or the year
pub march_month_end : (b : Bool) (i : ℕ) → i < 10 → march_month i + month_days b (i + 3) ≡ march_month (suc i)
march_month_end true i h = eqb-true _ _ (at_each 10 (λ (k : ℕ). eqb (march_month k + month_days true (k + 3)) (march_month (suc k))) refl i h)
march_month_end false i h = eqb-true _ _ (at_each 10 (λ (k : ℕ). eqb (march_month k + month_days false (k + 3)) (march_month (suc k))) refl i h)

pub january_end : (b : Bool) (m k : ℕ) → 1 ≤ m → m ≤ 2 → march_month (m + 9) ≤ k → k < march_month (suc (m + 9)) → k < 365 + one_if b → k - march_month (m + 9) + 1 ≤ month_days b m
january_end b zero k h g p q r = absurd (omega arith)
january_end b (suc zero) k h g p q r = omega arith
january_end true (suc (suc zero)) k h g p q r = omega arith
january_end false (suc (suc zero)) k h g p q r = omega arith
january_end b (suc (suc (suc m))) k h g p q r = absurd (omega arith)

-- the month that a day of such a year lies in
pub march_month_of : (day : ℕ) → day ≤ 365 → (march_month ((5 * day + 2) / 153) ≤ day) × (day < march_month (suc ((5 * day + 2) / 153))) × ((5 * day + 2) / 153 ≤ 11)
march_month_of day h = (omega arith, omega arith, omega arith)

-- ---- a date's month and day from its place in the year

year_sum : (b : Bool) → sum (take 12 (months b)) ≡ sum (months b)
unfolding sum
year_sum true = refl
year_sum false = refl

-- a day of a month lies within the year
pub month_within : (b : Bool) (i a : ℕ) → i < 12 → a < get_or (months b) i 0 → sum (take i (months b)) + a < sum (months b)
month_within b i a h k = omega (arith, year_sum b, sum_take_suc (months b) i, steps_up (λ (j : ℕ). sum (take j (months b))) (λ (j : ℕ). get_or (months b) j 0) (sum_take_suc (months b)) (suc i) 12 h)

-- and its place tells the month and the day
pub month_one : (b : Bool) (i j a c : ℕ) → a < get_or (months b) i 0 → c < get_or (months b) j 0 → sum (take i (months b)) + a ≡ sum (take j (months b)) + c → (i ≡ j) × (a ≡ c)
month_one b i j a c h k e = steps_one (λ (j : ℕ). sum (take j (months b))) (λ (j : ℕ). get_or (months b) j 0) (sum_take_suc (months b)) i j a c h k e
