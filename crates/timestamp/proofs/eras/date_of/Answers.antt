-- `timestamp::eras::date_of` meets its contract: the month from March and the days before it tell the date.
use Prim.Native.Nat.{ℕ, ◌+◌, ◌*◌, ◌-◌, ◌/◌, ◌%◌, ◌<◌, ◌≤◌}
use native.Mathlib.Omega.{arith}
use mathlib.Core.Path.{◌≡◌, ap, ◌∙◌}
use mathlib.Core.Bool.{true}
use lib.IntN.{pos}
use Rattle.timestamp.specs.Calendar.{day_of, days_of_year, is_date}
use Rattle.timestamp.proofs.EraDateLaws.{march_day_told, date_named}
use Rattle.timestamp.proofs.MonthLaws.{march_month, march_month_of}
use Rattle.timestamp.proofs.YearLaws.{days_of_year_most}
use Rattle.timestamp.proofs.eras.date_of.Goals as goal

-- the day k of the year that begins in March of year n
module _ (n k : ℕ) (within : k < days_of_year (pos (n + 1))) where
  -- a year has at most 366 days, in which there are twelve months
  day_most : k ≤ 365
  day_most = omega (arith, days_of_year_most (pos (n + 1)))

  module _ (i : ℕ) (month_is : i ≡ (5 * k + 2) / 153) where
    month_most : i ≤ 11
    month_most = omega (arith, (march_month_of k day_most).2)

    year_most : (day years : ℕ) → n ≤ day → years ≡ i / 10 → n + years ≤ day + 1
    year_most day years h e = omega (arith, month_most)

    module _ (s years month : ℕ) (before : s ≡ march_month i) (begun : years ≡ i / 10) (named : month ≡ (i + 3 - 1) % 12 + 1) where
      date_told : is_date (pos (n + years)) month (k - s + 1) ≡ true
      date_told = (date_named n k i s month_is before years month begun named within).0

      day_told : (day : ℕ) → day_of (pos n) 3 (k + 1) ≡ pos (day + 61) → day_of (pos (n + years)) month (k - s + 1) ≡ pos (day + 61)
      day_told day e = (date_named n k i s month_is before years month begun named within).1 ∙ ap (λ (d : ℕ). pos (d + 61)) (march_day_told n k day e)

pub month_of-from_march-requires : goal.month_of-from_march-requires
month_of-from_march-requires c = search day_most

pub years_begun-requires : goal.years_begun-requires
years_begun-requires c = search month_most

pub month_named-requires : goal.month_named-requires
month_named-requires c = search month_most

pub days_before_month-requires : goal.days_before_month-requires
days_before_month-requires c = search month_most

pub returns : goal.returns
returns c = search (date_told, day_told, year_most)
