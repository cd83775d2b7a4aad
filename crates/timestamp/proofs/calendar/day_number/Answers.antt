-- `timestamp::calendar::day_number` meets its contract: the year and the day are counted from a million eras before.
use Prim.Native.Nat.{ℕ, ◌+◌, ◌<◌, ◌≤◌, ◌^◌}
use native.Mathlib.Omega.{arith}
use mathlib.Core.Path.{◌≡◌, sym, subst, ◌∙◌}
use mathlib.Core.Bool.{true}
use borrow.Author.Rules.{rules}
use lib.IntN.{ℤ, pos, sub_ℕ}
use lib.Signed.{mag}
use mir.Syntax.{w64}
use mir.Val.{to_z, of_z}
use mir.ValLaws.{to_z-of_z}
use Rattle.laws.proofs.SignedLaws.{read_back}
use Rattle.timestamp.specs.Calendar.{day_of, day_number, is_date}
use Rattle.timestamp.specs.Steps.{years_reached}
use Rattle.timestamp.proofs.CalendarLaws.{day_number_from, difference_most, raised_most, raised_least}
use Rattle.timestamp.proofs.DateLaws.{date_era}
use Rattle.timestamp.proofs.calendar.day_number.Goals as goal

module _ (year : ℤ) (fits : mag year < 2 ^ 63) where
  -- the year as it is passed on
  year_back : to_z w64 (of_z w64 year) ≡ year
  year_back = to_z-of_z w64 year (record { sfits = fits })

  year_near : mag year < years_reached → mag (to_z w64 (of_z w64 year)) < 400000000
  year_near h = subst (λ (z : ℤ). mag z < 400000000) (sym year_back) (omega arith)

  -- and as it is counted
  module _ (n : ℕ) (raised : to_z w64 (of_z w64 year) ≡ sub_ℕ n 400000000) where
    year_is : year ≡ sub_ℕ n 400000000
    year_is = sym year_back ∙ raised

    year_least : mag year < years_reached → 1 ≤ n
    year_least h = omega (arith, raised_least year n 400000000 300000000 year_is h)

    year_most : mag year < years_reached → n < 2 ^ 32
    year_most h = omega (arith, raised_most year n 400000000 300000000 year_is h)

    date_told : (month day : ℕ) → is_date year month day ≡ true → is_date (pos n) month day ≡ true
    date_told month day e = sym (date_era year n 1000000 month day year_is) ∙ e

    day_told : (month day d : ℕ) (z : ℤ) → day_of (pos n) month day ≡ pos (d + 61) → d < 2 ^ 42 → z ≡ sub_ℕ d 146097719468 → to_z w64 (of_z w64 z) ≡ day_number year month day
    day_told month day d z e h p = read_back p (difference_most d 146097719468 (2 ^ 63) (omega arith) (omega arith)) ∙ sym (day_number_from year n 1000000 month day d year_is e)

-- the day is counted back from a million eras before, and stays near enough
day_near : (d : ℕ) (z : ℤ) → d < 2 ^ 42 → z ≡ sub_ℕ d 146097719468 → mag (to_z w64 (of_z w64 z)) < 2 ^ 43
day_near d z h p =
    let most : mag (sub_ℕ d 146097719468) < 2 ^ 43 = difference_most d 146097719468 (2 ^ 43) (omega arith) (omega arith) in
    subst (λ (w : ℤ). mag w < 2 ^ 43) (sym (read_back p (omega arith))) most

pub raised-requires : goal.raised-requires
raised-requires c = search (rules, year_near)

pub day_of-requires : goal.day_of-requires
day_of-requires c = search (year_least, year_most, date_told)

pub returns : goal.returns
returns c = search (day_told, day_near)
