-- The arithmetic of eras: years that begin in March, by their centuries and their years there.
use Prim.Native.Nat.{ℕ, suc, ◌+◌, ◌*◌, ◌/◌, ◌%◌, ◌<◌, ◌≤◌}
use native.Mathlib.Nat.{div-le_self}
use native.Mathlib.Numerals.{add-one}
use native.Mathlib.Omega.{arith}
use mathlib.Core.Path.{◌≡◌, refl, sym, subst}
use lib.IntN.{pos}
use Rattle.timestamp.specs.Calendar.{days_of_year}
use Rattle.laws.proofs.DifferenceLaws.{below?}
use Rattle.timestamp.proofs.YearLaws.{march, march_sum, march_suc, days_of_year_lem}

-- the days before a year of a century
march_parts : (c z : ℕ) → z ≤ 99 → march (100 * c + z) ≡ 36524 * c + c / 4 + 365 * z + z / 4
march_parts c z h =
    total (c / 4) (z / 4) (march (100 * c + z)) (march_sum (100 * c + z) (25 * c + z / 4) c (c / 4) (omega arith) (omega arith) (omega arith))
  where
    total : (a b m : ℕ) → m + c ≡ 365 * (100 * c + z) + (25 * c + b) + a → m ≡ 36524 * c + a + 365 * z + b
    total a b m p = omega arith

march_least : (n : ℕ) → n ≤ march n
march_least n = least (n / 4) (n / 100) (n / 400) (march n) (march_sum n (n / 4) (n / 100) (n / 400) refl refl refl) (div-le_self n 100)
  where
    least : (a b c m : ℕ) → m + b ≡ 365 * n + a + c → b ≤ n → n ≤ m
    least a b c m p h = omega arith

-- a year that begins in March and a day k of it, which is that day from 1 March of year 0
pub record YearDay (day year k : ℕ) : Type 0 where
  pub is : march year + k ≡ day
  pub within : k < days_of_year (pos (year + 1))
  pub most : year ≤ day

-- the last century of an era
last_century : (c e : ℕ) → c ≡ 4 * e + 3 → suc c / 4 ≡ e + 1
last_century c e h = omega arith

-- a day by its century c, the day o of that, the year z of the century and the day k of the year. Four days and three make 146,097
-- for each century and r, and the same of the day of the century makes 1,461 for each year and s
module _ (day c r o z s k : ℕ) (day_is : 4 * day + 3 ≡ 146097 * c + r) (r-most : r < 146097) (o_is : o ≡ r / 4) (o-split : 4 * o + 3 ≡ 1461 * z + s) (s-most : s < 1461) (k-is : k ≡ s / 4) where
  abbrev year : ℕ
  year = 100 * c + z

  year_most : z ≤ 99
  year_most = omega arith

  day_split : day ≡ 36524 * c + c / 4 + o
  day_split = omega arith

  century_split : o ≡ 365 * z + z / 4 + k
  century_split = omega arith

  same : march year + k ≡ day
  same = omega (arith, day_split, century_split, march_parts c z year_most)

  -- the next year begins after the day: it is the next of its century, or the first of the next century
  before_year : o < 365 * suc z + suc z / 4
  before_year = omega arith

  before_century : z ≡ 99 → o + c / 4 < 36524 + suc c / 4
  before_century h =
      below? o 36524 (λ g. omega arith)
      (λ g.
      let o_last : o ≡ 36524 = omega arith in
      let r_last : r ≡ 146096 = omega arith in
      let c_last : c ≡ 4 * (c / 4) + 3 = omega (arith, day_split) in
      omega (arith, last_century c (c / 4) c_last))

  next : day < march (suc year)
  next =
      below? z 99
      (λ g. let p : march (100 * c + suc z) ≡ 36524 * c + c / 4 + 365 * suc z + suc z / 4 = march_parts c (suc z) g in later (100 * c + suc z) (omega arith) (omega (arith, p, day_split, before_year)))
      (λ g. let p : march (100 * suc c + 0) ≡ 36524 * suc c + suc c / 4 + 365 * 0 + 0 / 4 = march_parts (suc c) 0 (omega arith) in later (100 * suc c + 0) (omega (arith, year_most)) (omega (arith, p, day_split, before_century (omega (arith, year_most)))))
    where
      later : (n : ℕ) → n ≡ suc year → day < march n → day < march (suc year)
      later n e h = subst (λ (x : ℕ). day < march x) e h

  day_parts : YearDay day year k
  day_parts =
      record {
        is = same;
        within = subst (λ (y : ℕ). k < days_of_year (pos y)) (sym (add-one year)) (omega (arith, next, same, march_suc year, days_of_year_lem (pos (suc year))));
        most = omega (arith, same, march_least year);
      }

-- so quotients tell a day's year and its day there
abbrev pub of_century : ℕ → ℕ
of_century day = (4 * day + 3) % 146097 / 4

abbrev pub year_at : ℕ → ℕ
year_at day = 100 * ((4 * day + 3) / 146097) + (4 * of_century day + 3) / 1461

abbrev pub day_at : ℕ → ℕ
day_at day = (4 * of_century day + 3) % 1461 / 4

pub day_year : (day : ℕ) → YearDay day (year_at day) (day_at day)
day_year day =
    let q = 4 * day + 3 in
    let n = 4 * of_century day + 3 in
    day_parts day (q / 146097) (q % 146097) (of_century day) (n / 1461) (n % 1461) (day_at day) (split q) (below q) refl (divided n) (under n) refl
  where
    split : (n : ℕ) → n ≡ 146097 * (n / 146097) + n % 146097
    split n = omega arith

    below : (n : ℕ) → n % 146097 < 146097
    below n = omega arith

    divided : (n : ℕ) → n ≡ 1461 * (n / 1461) + n % 1461
    divided n = omega arith

    under : (n : ℕ) → n % 1461 < 1461
    under n = omega arith
