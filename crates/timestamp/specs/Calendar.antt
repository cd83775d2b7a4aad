-- The Gregorian calendar, carried both ways from year 0: leap years, months, and the day number of a date.
use Rattle.std.specs.Prelude.{ℕ, zero, suc, ◌+◌, ◌-◌, ◌%◌, Bool, cond, not, ◌&&◌, ◌||◌, List, [], ◌∷◌, leb, eqb, ℤ, pos, negsuc, nat_abs, ◌+ℤ◌, ◌-ℤ◌, get_or, take}

-- whether n is a multiple of k
abbrev pub divides : ℕ → ℕ → Bool
divides k n = eqb (n % k) 0

-- leap years: every fourth year, but of the centuries every fourth alone. A year before 0 is a multiple of what its distance from 0 is one
-- of
unfoldable pub is_leap : ℤ → Bool
is_leap year = divides 4 (nat_abs year) && (not (divides 100 (nat_abs year)) || divides 400 (nat_abs year))

-- the days of each month of a common year or of a leap year, January first
abbrev pub months : Bool → List ℕ
months leap = 31 ∷ cond leap 29 28 ∷ 31 ∷ 30 ∷ 31 ∷ 30 ∷ 31 ∷ 31 ∷ 30 ∷ 31 ∷ 30 ∷ 31 ∷ []

-- the sum of a list
unfoldable pub sum : List ℕ → ℕ
sum [] = 0
sum (n ∷ ns) = n + sum ns

-- the months of a year
abbrev pub months_per_year : ℕ
months_per_year = 12

-- the days of a month, which is 1 to 12
unfoldable pub days_of_month : ℤ → ℕ → ℕ
days_of_month year month = get_or (months (is_leap year)) (month - 1) 0

-- the days of a year that lie before a month
unfoldable pub days_before_month : ℤ → ℕ → ℕ
days_before_month year month = sum (take (month - 1) (months (is_leap year)))

-- the days of a year
unfoldable pub days_of_year : ℤ → ℕ
days_of_year year = sum (months (is_leap year))

-- the days from 1 January of year 0 to 1 January of a year, below 0 for a year before it
unfoldable pub days_before_year : ℤ → ℤ
days_before_year (pos zero) = pos 0
days_before_year (pos (suc n)) = days_before_year (pos n) +ℤ pos (days_of_year (pos n))
days_before_year (negsuc zero) = pos 0 -ℤ pos (days_of_year (negsuc zero))
days_before_year (negsuc (suc n)) = days_before_year (negsuc n) -ℤ pos (days_of_year (negsuc (suc n)))

-- the day of a date, where 1 January of year 0 is day 1: the days before the year, those before the month, and the day
unfoldable pub day_of : ℤ → ℕ → ℕ → ℤ
day_of year month day = days_before_year year +ℤ pos (days_before_month year month + day)

-- the day of 1 January 1970
unfoldable pub epoch : ℤ
epoch = day_of (pos 1970) 1 1

-- the day number of a date: the days from 1 January 1970 to it
unfoldable pub day_number : ℤ → ℕ → ℕ → ℤ
day_number year month day = day_of year month day -ℤ epoch

-- a month 1 to 12, and a day of that month
unfoldable pub is_date : ℤ → ℕ → ℕ → Bool
is_date year month day = leb 1 month && leb month months_per_year && leb 1 day && leb day (days_of_month year month)
