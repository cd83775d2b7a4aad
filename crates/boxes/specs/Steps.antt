-- What the steps over the points keep, which the contracts of private functions cite. Nothing here is a promise to a caller.
use Rattle.std.specs.Prelude.{ℕ, ◌≡◌, Bool, true, false, cond, ◌||◌, List, ◌⊎◌, eqb, pos, neg_ℤ, Float}
use Rattle.std.specs.Float.{binary64, inf}
use Rattle.std.specs.Float.Ieee.{of_int}
use Rattle.parquet.specs.Logical as logical
use Rattle.boxes.specs.Coordinates.{is_above, X, Y, most_degree}
use Rattle.boxes.specs.Points.{NoneCounted, Bounds}
use Rattle.boxes.specs.declared.bounding_box.BoundingBox.{BoundingBox}

-- of an axis where none is counted: every number is below the least and above the greatest
pub record Unmet (axis : ℕ) (coordinates : List Float) (least greatest : Float) : Type 0 where
  pub none : NoneCounted axis coordinates
  pub least_is : least ≡ inf false
  pub greatest_is : greatest ≡ inf true

-- what is found of an axis
abbrev pub Found : ℕ → List Float → Float → Float → Type 0
Found axis coordinates least greatest = Unmet axis coordinates least greatest ⊎ Bounds axis coordinates least greatest

pub record BoundsFound (coordinates : List Float) (b : BoundingBox) : Type 0 where
  pub x : Found X coordinates b.xmin b.xmax
  pub y : Found Y coordinates b.ymin b.ymax

-- one of the bounds of an axis lies beyond the degrees of GEOGRAPHY
unfoldable pub is_beyond : ℕ → Float → Float → Bool
is_beyond axis least greatest =
    is_above (of_int binary64 (neg_ℤ (pos (most_degree axis)))) least || is_above greatest (of_int binary64 (pos (most_degree axis)))

-- a kind does not allow one of the bounds of a box
unfoldable pub beyond_degrees : ℕ → BoundingBox → Bool
beyond_degrees kind b =
    cond (eqb kind logical.GEOGRAPHY) (is_beyond X b.xmin b.xmax || is_beyond Y b.ymin b.ymax) false
