-- `boxes::points::bounds_of` meets its contract: of the points that were passed each bound is the furthest number of its side.
use Prim.Native.Nat.{ℕ}
use mathlib.Core.List.{List}
use lib.Ieee.{Float}
use Rattle.boxes.specs.Coordinates.{X, Y}
use Rattle.boxes.specs.Points.{coordinate_of}
use Rattle.boxes.proofs.BoundLaws.{low_side, high_side, Furthest}
use Rattle.boxes.proofs.points.bounds_of.Given as goal

-- of the first so many points
pub record Passed (coordinates : List Float) (point : ℕ) (xmin xmax ymin ymax : Float) : Type 0 where
  pub xmin_is : Furthest low_side (coordinate_of coordinates X) point xmin
  pub xmax_is : Furthest high_side (coordinate_of coordinates X) point xmax
  pub ymin_is : Furthest low_side (coordinate_of coordinates Y) point ymin
  pub ymax_is : Furthest high_side (coordinate_of coordinates Y) point ymax

abbrev pub invariant-loop-point : goal.invariant-loop-point
invariant-loop-point l = Passed l.coordinates l.point l.x.least l.x.greatest l.y.least l.y.greatest
