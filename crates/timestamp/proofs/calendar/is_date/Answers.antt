-- `timestamp::calendar::is_date` meets its contract: a day that its month has in every year is tested first, and then the leap day.
use Prim.Native.Nat.{ℕ, ◌<◌, ◌^◌}
use mathlib.Core.Path.{◌≡◌, sym, ap, ◌∙◌}
use mathlib.Core.Bool.{Bool, true, false, ◌&&◌}
use lib.Dec.{leb, eqb}
use lib.IntN.{ℤ}
use lib.Signed.{mag}
use mir.Syntax.{w64}
use mir.Val.{to_z, of_z}
use mir.ValLaws.{to_z-of_z}
use Rattle.timestamp.specs.Calendar.{is_leap, is_date}
use Rattle.timestamp.proofs.CalendarLaws.{common_days, common_date, leap_date}
use Rattle.timestamp.proofs.calendar.is_date.Goals as goal

-- the first test is over the days that a common year has
module _ (y : ℤ) (m d days : ℕ) (common : days ≡ common_days m) where
  first_told : (b : Bool) → (leb 1 d && leb d days) ≡ b → (leb 1 d && leb d (common_days m)) ≡ b
  first_told b e = ap (λ (n : ℕ). leb 1 d && leb d n) (sym common) ∙ e

  date_told : (leb 1 d && leb d days) ≡ true → true ≡ is_date y m d
  date_told e = sym (common_date y m d (first_told true e))

  -- and the year is passed on
  leap_told : (b : Bool) → mag y < 2 ^ 63 → b ≡ is_leap (to_z w64 (of_z w64 y)) → (leb 1 d && leb d days) ≡ false → (eqb m 2 && eqb d 29 && b) ≡ is_date y m d
  leap_told b h p e =
      ap (λ (l : Bool). eqb m 2 && eqb d 29 && l) (p ∙ ap is_leap (to_z-of_z w64 y (record { sfits = h }))) ∙ leap_date y m d (first_told false e)

pub returns-then-date-month : goal.returns-then-date-month
returns-then-date-month c = search date_told

pub returns : goal.returns
returns c = search leap_told
