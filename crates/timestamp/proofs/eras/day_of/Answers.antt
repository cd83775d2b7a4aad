-- `timestamp::eras::day_of` meets its contract: the days before the year from March on, those before the month, and the day.
use Prim.Native.Nat.{ℕ, ◌+◌, ◌-◌, ◌/◌, ◌%◌, ◌≤◌, ◌<◌, ◌^◌}
use native.Mathlib.Omega.{arith}
use mathlib.Core.Path.{◌≡◌, ap, subst, ◌∙◌}
use mathlib.Core.Bool.{true}
use lib.IntN.{pos}
use Rattle.timestamp.specs.Calendar.{day_of, is_date}
use Rattle.timestamp.proofs.DateLaws.{Date, date_parts, place_in_year}
use Rattle.timestamp.proofs.EraDateLaws.{date_day}
use Rattle.timestamp.proofs.MonthLaws.{march_month}
use Rattle.timestamp.proofs.YearLaws.{days_of_year_most}
use Rattle.timestamp.proofs.eras.day_of.Goals as goal

-- what the contract asks of the date
module _ (n m d : ℕ) (date : is_date (pos n) m d ≡ true) where
  parts : Date (pos n) m d
  parts = date_parts (pos n) m d date

  month_first : 1 ≤ m
  month_first = parts.month_first

  month_last : m ≤ 12
  month_last = parts.month_last

  day_first : 1 ≤ d
  day_first = parts.day_first

  day_most : d ≤ 366
  day_most = omega (arith, place_in_year (pos n) m d parts, days_of_year_most (pos n))

  -- the months from March on, the years begun and the days before both
  day_told : (i a r s : ℕ) → 1 ≤ n → i ≡ (m + 12 - 3) % 12 → a ≡ i / 10 → day_of (pos (n - a)) 3 1 ≡ pos (r + 61) → s ≡ march_month i → day_of (pos n) m d ≡ pos (r + s + (d - 1) + 61)
  day_told i a r s h months begun year e =
      date_day n m d r s h month_first month_last day_first (subst (λ (y : ℕ). day_of (pos (n - y)) 3 1 ≡ pos (r + 61)) (begun ∙ ap (λ (j : ℕ). j / 10) months) year) (e ∙ ap march_month months)

  day_below : (i r s : ℕ) → i ≡ (m + 12 - 3) % 12 → r < 2 ^ 41 → s ≡ march_month i → r + s + (d - 1) < 2 ^ 42
  day_below i r s months h e = omega (arith, day_most)

pub months_from_march-from_march-requires : goal.months_from_march-from_march-requires
months_from_march-from_march-requires c = search (month_first, month_last)

pub overflow_sub-result : goal.overflow_sub-result
overflow_sub-result c = search day_first

pub returns : goal.returns
returns c = search (day_told, day_below)
