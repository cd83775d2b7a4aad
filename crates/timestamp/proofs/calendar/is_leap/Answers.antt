-- `timestamp::calendar::is_leap` meets its contract: its result is the definition, over the distance from 0.
use Prim.Native.Nat.{ℕ}
use mathlib.Core.Path.{◌≡◌, ap, ◌∙◌}
use lib.IntN.{ℤ, nat_abs}
use mir.Syntax.{w64}
use mir.Val.{SFits, to_z, of_z}
use mir.ValLaws.{to_z-of_z}
use Rattle.timestamp.proofs.CalendarLaws.{leap_tests}
use Rattle.timestamp.proofs.calendar.is_leap.Goals as goal

-- the distance is that of the year as it is passed on
distance_told : (y : ℤ) (n : ℕ) → SFits w64 y → n ≡ nat_abs (to_z w64 (of_z w64 y)) → n ≡ nat_abs y
distance_told y n h e = e ∙ ap nat_abs (to_z-of_z w64 y h)

pub returns : goal.returns
returns c = search (leap_tests, distance_told)
