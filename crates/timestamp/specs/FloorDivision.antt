-- The division of a count into days and a rest that is never negative.
use Rattle.std.specs.Prelude.{ℕ, ◌<◌, ◌≡◌, ℤ, pos, ◌+ℤ◌, ◌*ℤ◌}
-- a type of the code: `day`, a signed 64-bit number, and `rest`, an unsigned 64-bit number
use Rattle.timestamp.specs.declared.division.Division.{Division}

-- a count is so many days of `perDay` ticks, before 0 too, and a rest that is less than a day
pub record FloorDivision (count : ℤ) (perDay : ℕ) (d : Division) : Type 0 where
  pub exact : count ≡ d.day *ℤ pos perDay +ℤ pos d.rest
  pub below : d.rest < perDay
