-- Days to dates and back, by years that begin in March.
use Prim.Native.Nat.{ℕ, suc, ◌+◌, ◌*◌, ◌-◌, ◌/◌, ◌%◌, ◌<◌, ◌≤◌, ◌^◌}
use native.Mathlib.Numerals.{add-one}
use native.Mathlib.Nat.{add-zero, div-eq_of_lt, le-div_iff_mul-le, div-lt_iff_lt-mul}
use native.Mathlib.Omega.{arith}
use mathlib.Core.Path.{◌≡◌, refl, sym, ap, subst, ◌∙◌}
use mathlib.Core.Bool.{true}
use lib.IntN.{pos}
use Rattle.timestamp.specs.Calendar.{is_leap, days_of_month, days_of_year, day_of, is_date}
use Rattle.laws.proofs.DifferenceLaws.{below?}
use Rattle.timestamp.proofs.DivisionLaws.{one_if, rest_is}
use Rattle.timestamp.proofs.YearLaws.{march, days_of_year_lem, days_of_year_most}
use Rattle.timestamp.proofs.EraLaws.{year_at, day_at, day_year}
use Rattle.timestamp.proofs.MonthLaws.{month_days, march_month, march_month_of, march_month_end, january_end}
use Rattle.timestamp.proofs.DateLaws.{parts_date, era_day_of, day_of_pos, day_of_march, day_of_january}

-- 1 March of a year, and days after it
pub march_day : (n k : ℕ) → day_of (pos n) 3 (k + 1) ≡ pos (march n + k + 61)
march_day n k = day_of_pos n 3 (k + 1) ∙ ap pos (omega (arith, day_of_march n 0 (k + 1) (omega arith)))

pub march_day_told : (n k day : ℕ) → day_of (pos n) 3 (k + 1) ≡ pos (day + 61) → march n + k ≡ day
march_day_told n k day e = let q : march n + k + 61 ≡ day + 61 = pos_inj (sym (march_day n k) ∙ e) in omega arith
  where
    pos_inj : {a b : ℕ} → pos a ≡ pos b → a ≡ b
    pos_inj e = cc

-- a date is told by its year from March on, the month i from March and the days k from 1 March
module _ (n k i s : ℕ) (i-is : i ≡ (5 * k + 2) / 153) (s-is : s ≡ march_month i) where
  abbrev Date_in : ℕ → ℕ → Type 0
  Date_in year month = (is_date (pos year) month (k - s + 1) ≡ true) × (day_of (pos year) month (k - s + 1) ≡ pos (march n + k + 61))

  together : (x y : ℕ) → s ≡ y → y ≤ k → x + y + (k - s + 1) + 60 ≡ x + k + 61
  together x y p q = omega arith

  -- from March to December
  march_date : i + 3 ≤ 12 → k ≤ 365 → Date_in n (i + 3)
  unfolding days_of_month
  march_date h m =
      let at = march_month_of k m in
      let end : march_month i + month_days (is_leap (pos n)) (i + 3) ≡ march_month (suc i) = march_month_end (is_leap (pos n)) i (omega arith) in
      let first : march_month i ≤ k = subst (λ (j : ℕ). march_month j ≤ k) (sym i-is) at.0 in
      let last : k < march_month (suc i) = subst (λ (j : ℕ). k < march_month (suc j)) (sym i-is) at.1 in (
        parts_date (pos n) (i + 3) (k - s + 1) (record { month_first = omega arith; month_last = h; day_first = omega arith; day_last = within (march_month i) (march_month (suc i)) (month_days (is_leap (pos n)) (i + 3)) s-is end last first }),
        day_of_pos n (i + 3) (k - s + 1) ∙ ap pos (day_of_march n i (k - s + 1) (omega arith) ∙ together (march n) (march_month i) s-is first),
      )
    where
      within : (x y d : ℕ) → s ≡ x → x + d ≡ y → k < y → x ≤ k → k - s + 1 ≤ d
      within x y d p q r t = omega arith

  -- and in January and February of the next year
  january_date : 12 < i + 3 → k < days_of_year (pos (n + 1)) → Date_in (n + 1) (i + 3 - 12)
  unfolding days_of_month
  january_date h m =
      let at = march_month_of k (omega (arith, days_of_year_most (pos (n + 1)))) in
      let month : i + 3 - 12 + 9 ≡ i = omega arith in
      let most : i ≤ 11 = omega (arith, at.2) in
      let first : march_month (i + 3 - 12 + 9) ≤ k = subst (λ (j : ℕ). march_month j ≤ k) (sym (month ∙ i-is)) at.0 in
      let last : k < march_month (suc (i + 3 - 12 + 9)) = subst (λ (j : ℕ). k < march_month (suc j)) (sym (month ∙ i-is)) at.1 in
      let start : s ≡ march_month (i + 3 - 12 + 9) = s-is ∙ ap march_month (sym month) in
      let year : k < 365 + one_if (is_leap (pos (n + 1))) = omega (arith, days_of_year_lem (pos (n + 1))) in (
        parts_date (pos (n + 1)) (i + 3 - 12) (k - s + 1) (record { month_first = omega arith; month_last = omega arith; day_first = omega arith; day_last = subst (λ (x : ℕ). k - x + 1 ≤ month_days (is_leap (pos (n + 1))) (i + 3 - 12)) (sym start) (january_end (is_leap (pos (n + 1))) (i + 3 - 12) k (omega arith) (omega arith) first last year) }),
        day_of_pos (n + 1) (i + 3 - 12) (k - s + 1) ∙ ap pos (ap (λ (y : ℕ). era_day_of y (i + 3 - 12) (k - s + 1)) (add-one n) ∙ day_of_january n (i + 3 - 12) (k - s + 1) (omega arith) (omega arith) ∙ together (march n) (march_month (i + 3 - 12 + 9)) start first),
      )

  -- so the year and the month, as the code works them out: the tenth month from March begins the next year
  date_told : k < days_of_year (pos (n + 1)) → Date_in (n + i / 10) ((i + 3 - 1) % 12 + 1)
  date_told m = below? i 10 (λ h. told n (i + 3) (omega arith) (omega arith) (march_date (omega arith) most)) (λ h. told (n + 1) (i + 3 - 12) (omega (arith, last)) (omega (arith, last)) (january_date (omega arith) m))
    where
      most : k ≤ 365
      most = omega (arith, days_of_year_most (pos (n + 1)))

      last : i ≤ 11
      last = omega (arith, (march_month_of k most).2)

      told : (year month : ℕ) → n + i / 10 ≡ year → (i + 3 - 1) % 12 + 1 ≡ month → Date_in year month → Date_in (n + i / 10) ((i + 3 - 1) % 12 + 1)
      told year month p q t = subst (λ (y : ℕ). Date_in y ((i + 3 - 1) % 12 + 1)) (sym p) (subst (Date_in year) (sym q) t)

  -- also by the years and the month that were told
  pub date_named : (years month : ℕ) → years ≡ i / 10 → month ≡ (i + 3 - 1) % 12 + 1 → k < days_of_year (pos (n + 1)) → Date_in (n + years) month
  date_named years month y m h = subst (λ (a : ℕ). Date_in (n + a) month) (sym y) (subst (Date_in (n + i / 10)) (sym m) (date_told h))

-- so each day has a date
pub record EraDate (day : ℕ) : Type 0 where
  pub year : ℕ
  pub month : ℕ
  pub day_of_month : ℕ
  pub is_date_lem : is_date (pos year) month day_of_month ≡ true
  pub is : day_of (pos year) month day_of_month ≡ pos (day + 61)

pub era_date : (day : ℕ) → EraDate day
era_date day =
    let at = day_year day in
    let date = date_told (year_at day) (day_at day) ((5 * day_at day + 2) / 153) _ refl refl at.within in
    record { year = _; month = _; day_of_month = _; is_date_lem = date.0; is = date.1 ∙ ap (λ (n : ℕ). pos (n + 61)) at.is }

-- and the day of a date is told by the days before its year from March on and those before its month
march_date_day : (n m d r s : ℕ) → 3 ≤ m → m ≤ 12 → 1 ≤ d → day_of (pos n) 3 1 ≡ pos (r + 61) → s ≡ march_month (m - 3) → day_of (pos n) m d ≡ pos (r + s + (d - 1) + 61)
march_date_day n m d r s h g k e p =
    let first : march n + 0 ≡ r = march_day_told n 0 r e in
    day_of_pos n m d ∙ ap pos (ap (λ (j : ℕ). era_day_of n j d) month ∙ day_of_march n (m - 3) d (omega arith) ∙ together (march n) (march_month (m - 3)) first p)
  where
    month : m ≡ m - 3 + 3
    month = omega arith

    together : (x y : ℕ) → x + 0 ≡ r → s ≡ y → x + y + d + 60 ≡ r + s + (d - 1) + 61
    together x y p q = omega arith

january_date_day : (n m d r s : ℕ) → 1 ≤ n → 1 ≤ m → m ≤ 2 → 1 ≤ d → day_of (pos (n - 1)) 3 1 ≡ pos (r + 61) → s ≡ march_month (m + 12 - 3) → day_of (pos n) m d ≡ pos (r + s + (d - 1) + 61)
january_date_day n m d r s l h g k e p =
    let first : march (n - 1) + 0 ≡ r = march_day_told (n - 1) 0 r e in
    day_of_pos n m d ∙ ap pos (ap (λ (j : ℕ). era_day_of j m d) year ∙ day_of_january (n - 1) m d h g ∙ together (march (n - 1)) (march_month (m + 9)) first (p ∙ ap march_month month))
  where
    year : n ≡ suc (n - 1)
    year = omega arith

    month : m + 12 - 3 ≡ m + 9
    month = omega arith

    together : (x y : ℕ) → x + 0 ≡ r → s ≡ y → x + y + d + 60 ≡ r + s + (d - 1) + 61
    together x y p q = omega arith

-- also as the code works out the month from March and its year
pub date_day : (n m d r s : ℕ) → 1 ≤ n → 1 ≤ m → m ≤ 12 → 1 ≤ d → day_of (pos (n - (m + 12 - 3) % 12 / 10)) 3 1 ≡ pos (r + 61) → s ≡ march_month ((m + 12 - 3) % 12) → day_of (pos n) m d ≡ pos (r + s + (d - 1) + 61)
date_day n m d r s l h g k e p =
    below? m 3 (λ b. january_date_day n m d r s l h (omega arith) k (from (m + 12 - 3) (n - 1) (omega arith) (omega arith)) (p ∙ ap march_month (omega arith)))
    (λ b. march_date_day n m d r s b g k (from (m - 3) n (later b) (omega (arith, quotient b))) (p ∙ ap march_month (later b)))
  where
    later : 3 ≤ m → (m + 12 - 3) % 12 ≡ m - 3
    later b = rest_is (m + 12 - 3) 12 1 (m - 3) (omega arith) (omega arith)

    quotient : 3 ≤ m → (m - 3) / 10 ≡ 0
    quotient b = div-eq_of_lt (omega arith)

    from : (i year : ℕ) → (m + 12 - 3) % 12 ≡ i → n - i / 10 ≡ year → day_of (pos year) 3 1 ≡ pos (r + 61)
    from i year q t = subst (λ (y : ℕ). day_of (pos y) 3 1 ≡ pos (r + 61)) (ap (λ (j : ℕ). n - j / 10) q ∙ t) e

-- the days before a year, as they are summed from its quotients
pub march_first : (n : ℕ) → day_of (pos n) 3 1 ≡ pos (365 * n + n / 4 + n / 400 - n / 100 + 61)
unfolding march
march_first n = march_day n 0 ∙ ap (λ (x : ℕ). pos (x + 61)) (add-zero (march n))

-- and the century of a year, as a multiple of the year
pub century_is : (n : ℕ) → n < 2 ^ 32 → 1374389535 * n / 137438953472 ≡ n / 100
century_is n h =
    let least = (le-div_iff_mul-le {k = 137438953472} {x = n / 100} {y = 1374389535 * n} (omega arith)).1 (omega arith) in
    let most = (div-lt_iff_lt-mul {k = 137438953472} {x = 1374389535 * n} {y = suc (n / 100)} (omega arith)).1 (omega arith) in
    omega arith
