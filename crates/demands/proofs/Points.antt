-- All the starred points of document 01 hold.
use Prim.Native.Nat.{ℕ}
use mathlib.Core.Path.{◌≡◌}
use mathlib.Core.Bool.{true}
use Rattle.edition.specs.Editions.{is_known}
use Rattle.demands.specs.Points.{points, edition_points, Hold}
use Rattle.demands.proofs.TimePoints.{third_day, tick_before, least_nanos, no_leap_millis, no_leap_micros, no_leap_nanos}
use Rattle.demands.proofs.ColumnPoints.{ff_ffff, minus_below_plus, longer_above, two_digits, three_digits, uint8_255, uint8_256}
use Rattle.demands.proofs.SheetPoints.{fixed_1_precision_3, equal_refused, equal_accepted, equal_third, time_millis_with_nanos, root_alone}

pub points_hold : (edition : ℕ) → is_known edition ≡ true → Hold (points edition)
points_hold edition known = (third_day, (tick_before, (least_nanos, (no_leap_millis, (no_leap_micros, (no_leap_nanos, (ff_ffff edition known, (minus_below_plus edition known, (longer_above edition known, (two_digits edition known, (three_digits edition known, (fixed_1_precision_3 edition known, (uint8_255 edition known, (uint8_256 edition known, (time_millis_with_nanos edition known, (root_alone edition known, tt))))))))))))))))

pub edition_points_hold : Hold edition_points
edition_points_hold = (equal_refused, (equal_accepted, (equal_third, tt)))
