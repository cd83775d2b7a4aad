-- `timestamp::near::second_of` meets its contract: the tests let through fields that form a date and time, and the second is theirs.
use Prim.Native.Nat.{ℕ, suc, ◌+◌, ◌*◌, ◌<◌, ◌≤◌, ◌^◌}
use native.Mathlib.Omega.{arith}
use mathlib.Core.Path.{◌≡◌, refl, sym, ap, ap₂, subst, ◌∙◌}
use mathlib.Core.Bool.{true, false, true≢false}
use borrow.Author.Rules.{rules, sfits_of}
use borrow.Author.Tests.{le-leb}
use lib.Dec.{leb}
use lib.IntN.{ℤ, pos, negsuc, nat_abs}
use lib.Signed.{mag, lt_z}
use mir.Syntax.{w64}
use mir.Val.{SFits, to_z, of_z}
use mir.ValLaws.{to_z-of_z}
use Rattle.laws.proofs.BoolLaws.{both_and}
use Rattle.timestamp.specs.declared.calendar.Month.{Month}
use Rattle.timestamp.specs.declared.fields.Fields.{Fields}
use Rattle.timestamp.specs.Calendar.{is_date, day_number}
use Rattle.timestamp.specs.Clock.{minutes_per_hour, seconds_per_minute, seconds_per_day}
use Rattle.timestamp.specs.Steps.{offset_of, IsMonth, days_reached, seconds_reached, is_clock, is_formed, second_of}
use Rattle.timestamp.proofs.CalendarLaws.{common_days, common_date}
use Rattle.timestamp.proofs.DateLaws.{date_parts}
use Rattle.timestamp.proofs.FloorLaws.{joined, joined_below}
use Rattle.timestamp.proofs.MomentLaws.{second_told}
use Rattle.timestamp.proofs.near.second_of.Goals as goal

-- a day that its month has in every year makes a date, and the month has an offset
module _ (m d : ℕ) (month : Month) (is : IsMonth m month) (first : 1 ≤ d) (last : d ≤ month.days) where
  date_is : (n : ℕ) → is_date (pos n) m d ≡ true
  date_is n = common_date (pos n) m d (both_and (leb 1 d) (leb d (common_days m)) (le-leb 1 d first) (le-leb d (common_days m) (subst (λ (k : ℕ). d ≤ k) is.days_are last)))

  offset_told : mag month.offset < 2 ^ 63 → to_z w64 (of_z w64 month.offset) ≡ offset_of m
  offset_told h = let p = date_parts (pos 0) m d (date_is 0) in to_z-of_z w64 month.offset (record { sfits = h }) ∙ is.offset_is p.month_first p.month_last

-- the time of the fields is on the clock where it is as it was made of them
clock_at : (h m s h' m' s' : ℕ) → h ≡ h' → m ≡ m' → s ≡ s' → true ≡ is_clock h m s → is_clock h' m' s' ≡ true
clock_at h m s h' m' s' p q r e = sym (e ∙ ap₂ (λ (h m : ℕ). is_clock h m s) p q ∙ ap (is_clock h' m') r)

-- a year that is not before the first is one from 0 on
year_is : {y : ℤ} → SFits w64 y → lt_z (to_z w64 (of_z w64 y)) (pos 1680) ≡ false → y ≡ pos (nat_abs (to_z w64 (of_z w64 y)))
year_is {y} fits h = sym (to_z-of_z w64 y fits) ∙ from _ h
  where
    from : (z : ℤ) → lt_z z (pos 1680) ≡ false → z ≡ pos (nat_abs z)
    from (pos n) e = refl
    from (negsuc n) e = absurd (true≢false e)

-- fields of a year from 0 on
module _ (f : Fields) (n : ℕ) (year : f.year ≡ pos n) where
  formed : (month : Month) → IsMonth f.month month → 1 ≤ f.day → f.day ≤ month.days → is_clock f.hour f.minute f.second ≡ true → is_formed f ≡ true
  formed month is first last clock =
      both_and (is_date f.year f.month f.day) (is_clock f.hour f.minute f.second) (ap (λ (y : ℤ). is_date y f.month f.day) year ∙ date_is f.month f.day month is first last n) clock

  second_is : (day z : ℤ) (r : ℕ) → mag day < 2 ^ 63 → mag z < 2 ^ 63 → day ≡ day_number (pos n) f.month f.day → r ≡ (f.hour * minutes_per_hour + f.minute) * seconds_per_minute + f.second → z ≡ joined (to_z w64 (of_z w64 day)) seconds_per_day r → to_z w64 (of_z w64 z) ≡ second_of f
  second_is day z r h k d e p =
      to_z-of_z w64 z (record { sfits = k }) ∙ second_told f (record { sfits = h }) (d ∙ ap (λ (y : ℤ). day_number y f.month f.day) (sym year)) e p

-- a near day as it is passed on
module _ (day : ℤ) (fits : mag day < 2 ^ 63) (near : mag day < days_reached) where
  day_near : mag (to_z w64 (of_z w64 day)) < days_reached
  day_near = subst (λ (z : ℤ). mag z < days_reached) (sym (to_z-of_z w64 day (record { sfits = fits }))) near

  seconds_asked : suc (mag (to_z w64 (of_z w64 day))) * seconds_per_day < 2 ^ 63
  seconds_asked = omega (arith, day_near)

  second_near : (z : ℤ) (r : ℕ) → mag z < 2 ^ 63 → r < seconds_per_day → z ≡ joined (to_z w64 (of_z w64 day)) seconds_per_day r → mag (to_z w64 (of_z w64 z)) < seconds_reached
  second_near z r h k p =
      subst (λ (w : ℤ). mag w < seconds_reached) (sym (to_z-of_z w64 z (record { sfits = h }) ∙ p)) (joined_below (to_z w64 (of_z w64 day)) seconds_per_day r days_reached k day_near)

pub day_number-day-requires : goal.day_number-day-requires
day_number-day-requires c = (search rules, search rules, date_is _ _ _ c.month_at-month.ensures (search) c.if-month-fields.false _, offset_told _ _ _ c.month_at-month.ensures (search) c.if-month-fields.false (search))

pub returns : goal.returns
returns c =
    let f = c.args.fields in
    let time = c.time-time.ensures in
    let year : f.year ≡ pos (nat_abs (to_z w64 (of_z w64 f.year))) = year_is (search sfits_of) c.if-fields-lt-FIRST_YEAR.false in
    let seconds : c.second_of_day.result ≡ (f.hour * minutes_per_hour + f.minute) * seconds_per_minute + f.second = omega (arith, c.second_of_day.ensures.0, time.0, time.1, time.2) in (
      (
        formed f _ year _ c.month_at-month.ensures (search) c.if-month-fields.false (clock_at _ _ _ _ _ _ time.0 time.1 time.2 c.if-not-is_clock.ensures),
        second_is f _ year _ _ _ (search) (search) c.day_number-day.ensures.0 seconds c.joined.ensures,
      ),
      search second_near,
    )
