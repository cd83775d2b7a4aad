-- `timestamp::near::day_number` meets its contract: the days before the year, those before the month, and the day, as differences.
use Prim.Native.Nat.{ℕ, ◌+◌, ◌*◌, ◌-◌, ◌/◌, ◌%◌, ◌<◌, ◌≤◌, ◌^◌}
use native.Mathlib.Omega.{arith}
use mathlib.Core.Path.{◌≡◌, refl, sym, ap₂, subst, ◌∙◌}
use lib.IntN.{ℤ, pos, sub_ℕ, ◌+ℤ◌}
use lib.Signed.{mag}
use mir.Syntax.{w64}
use mir.Val.{SFits, to_z, of_z}
use mir.ValLaws.{to_z-of_z, to_z_pos}
use Rattle.laws.proofs.DifferenceLaws.{pos_sub, sub_eq, sub_add, sub_add_pos}
use Rattle.laws.proofs.SignedLaws.{read_back}
use Rattle.timestamp.specs.Calendar.{day_of, day_number}
use Rattle.timestamp.proofs.CalendarLaws.{day_number_from, difference_within}
use Rattle.timestamp.proofs.DateLaws.{Date, date_parts, place_in_year}
use Rattle.timestamp.proofs.EraDateLaws.{date_day, march_first}
use Rattle.timestamp.proofs.MonthLaws.{march_month}
use Rattle.timestamp.proofs.YearLaws.{days_of_year_most}
use Rattle.timestamp.proofs.near.day_number.Goals as goal
use Rattle.timestamp.proofs.near.day_number.Goals.{After-days_before_year, Start}

-- what the contract asks of the date
date : (s : Start) → Date (pos s.args.year) s.args.month s.args.day
date s = date_parts (pos s.args.year) s.args.month s.args.day s.requires.2

module _ (c : After-days_before_year) where
  abbrev day : ℕ
  day = c.args.day

  -- the days before the year, those before the month from March on, and the sum of all three
  abbrev before_year : ℕ
  before_year = c.days_before_year.result

  abbrev before_month : ℕ
  before_month = march_month ((c.args.month + 12 - 3) % 12)

  abbrev sum : ℕ
  sum = before_year + before_month + day

  -- the sum as the code makes it
  first_is : to_z w64 before_year +ℤ to_z w64 (of_z w64 c.args.offset) ≡ sub_ℕ (before_year + before_month) 719469
  first_is =
      ap₂ ◌+ℤ◌ (to_z_pos w64 before_year (omega (arith, c.days_before_year.ensures.1)) ∙ pos_sub before_year) (to_z-of_z w64 c.args.offset c.ranges.offset ∙ c.requires.3) ∙ sub_add before_year 0 before_month 719469

  first_most : mag (sub_ℕ (before_year + before_month) 719469) < 2 ^ 63
  first_most = difference_within (before_year + before_month) 719469 (2 ^ 63) (omega (arith, c.days_before_year.ensures.1)) (omega arith)

  sum_is : to_z w64 (of_z w64 (to_z w64 before_year +ℤ to_z w64 (of_z w64 c.args.offset))) +ℤ to_z w64 day ≡ sub_ℕ sum 719469
  sum_is = ap₂ ◌+ℤ◌ (read_back first_is first_most) (to_z_pos w64 day (omega arith)) ∙ sub_add_pos (before_year + before_month) 719469 day

  -- which lies near 1970, as the year does
  sum_most : mag (sub_ℕ sum 719469) < 106751
  sum_most = difference_within sum 719469 106751 (omega (arith, year, last)) (omega (arith, year))
    where
      pos_inj : {a b : ℕ} → pos a ≡ pos b → a ≡ b
      pos_inj e = cc

      n : ℕ
      n = c.args.year - c.years_before_march.result

      near : (1679 ≤ n) × (n ≤ 2260)
      near = omega (arith, c.requires, c.years_before_march.ensures)

      year : (613000 ≤ before_year) × (before_year ≤ 825500)
      year =
          let e : 365 * n + n / 4 + n / 400 - n / 100 + 61 ≡ before_year + 61 = pos_inj (sym (march_first n) ∙ c.days_before_year.ensures.0) in
          omega (arith, near)

      last : day ≤ 366
      last = omega (arith, place_in_year (pos c.args.year) c.args.month day (date_parts (pos c.args.year) c.args.month day c.requires.2), days_of_year_most (pos c.args.year))

  -- and it is the day number
  day_number_is : let a = c.args in day_number (pos a.year) a.month a.day ≡ sub_ℕ sum 719469
  day_number_is =
      let a = c.args in
      let d = date_parts (pos a.year) a.month a.day c.requires.2 in
      let year = subst (λ (y : ℕ). day_of (pos (a.year - y)) 3 1 ≡ pos (before_year + 61)) c.years_before_march.ensures c.days_before_year.ensures.0 in
      day_number_from (pos a.year) a.year 0 a.month a.day (before_year + before_month + (a.day - 1)) (pos_sub a.year) (date_day a.year a.month a.day before_year before_month (omega (arith, c.requires.0)) d.month_first d.month_last d.day_first year refl)
      ∙ sub_eq (before_year + before_month + (a.day - 1)) 719468 sum 719469 (omega (arith, d.day_first))

pub returns : goal.returns
returns c =
    let is = read_back (sum_is c) (omega (arith, sum_most c)) in
    (is ∙ sym (day_number_is c), subst (λ (z : ℤ). mag z < 106751) (sym is) (sum_most c))

pub years_before_march-requires : goal.years_before_march-requires
years_before_march-requires c = ((date c).month_first, (date c).month_last)

pub overflow_add-result : goal.overflow_add-result
overflow_add-result c = subst (SFits w64) (sym (first_is c)) (record { sfits = first_most c })

pub overflow_add-result-2 : goal.overflow_add-result-2
overflow_add-result-2 c = subst (SFits w64) (sym (sum_is c)) (record { sfits = omega (arith, sum_most c) })
