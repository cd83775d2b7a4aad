-- `timestamp::calendar::date_of` meets its contract: the day and the year are counted from a million eras before.
use Prim.Native.Nat.{ℕ, ◌+◌, ◌<◌, ◌≤◌, ◌^◌}
use native.Mathlib.Omega.{arith}
use mathlib.Core.Path.{◌≡◌, sym, subst, ◌∙◌}
use mathlib.Core.Bool.{true}
use borrow.Author.Rules.{rules}
use lib.IntN.{ℤ, pos, sub_ℕ}
use lib.Signed.{mag}
use mir.Syntax.{w64}
use mir.Val.{SFits, to_z, of_z}
use mir.ValLaws.{to_z-of_z}
use Rattle.laws.proofs.SignedLaws.{read_back}
use Rattle.timestamp.specs.Calendar.{day_of, day_number, is_date}
use Rattle.timestamp.proofs.CalendarLaws.{day_number_from, difference_most, raised_most}
use Rattle.timestamp.proofs.DateLaws.{date_era}
use Rattle.timestamp.proofs.calendar.date_of.Goals as goal

module _ (day : ℤ) (fits : SFits w64 day) (most : mag day < 2 ^ 37) where
  -- the day as it is passed on
  day_near : mag (to_z w64 (of_z w64 day)) < 146097719468
  day_near = subst (λ (z : ℤ). mag z < 146097719468) (sym (to_z-of_z w64 day fits)) (omega arith)

  -- and as it is counted
  module _ (n : ℕ) (raised : to_z w64 (of_z w64 day) ≡ sub_ℕ n 146097719468) where
    day_is : day ≡ sub_ℕ n 146097719468
    day_is = sym (to_z-of_z w64 day fits) ∙ raised

    raised_below : n < 2 ^ 39
    raised_below = omega (arith, raised_most day n 146097719468 (2 ^ 37) day_is most)

    raised_fits : n < 2 ^ 62
    raised_fits = omega (arith, raised_below)

    -- the year is counted back
    module _ (year : ℕ) (first : year ≤ n + 1) where
      year_fits : year < 2 ^ 63
      year_fits = omega (arith, raised_below)

      module _ (z : ℤ) (lowered : z ≡ sub_ℕ year 400000000) where
        year_is : to_z w64 (of_z w64 z) ≡ sub_ℕ year 400000000
        year_is = read_back lowered (difference_most year 400000000 (2 ^ 63) year_fits (omega arith))

        date_told : (m d : ℕ) → is_date (pos year) m d ≡ true → is_date (to_z w64 (of_z w64 z)) m d ≡ true
        date_told m d e = date_era _ year 1000000 m d year_is ∙ e

        day_told : (m d : ℕ) → day_of (pos year) m d ≡ pos (n + 61) → day_number (to_z w64 (of_z w64 z)) m d ≡ day
        day_told m d e = day_number_from _ year 1000000 m d n year_is e ∙ sym day_is

pub raised-requires : goal.raised-requires
raised-requires c = search (rules, day_near)

pub date_of-date-requires : goal.date_of-date-requires
date_of-date-requires c = search raised_fits

pub lowered-requires : goal.lowered-requires
lowered-requires c = search (rules, year_fits)

pub returns : goal.returns
returns c = search (date_told, day_told)
