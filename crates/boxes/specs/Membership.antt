-- Whether a point is inside a box, which may be a received one.
use Rattle.std.specs.Prelude.{ℕ, Bool, cond, not, ◌&&◌, ◌||◌, Float, Result, Ok, Err}
use Rattle.std.specs.Float.Ieee.{is_nan}
use Rattle.refusal.specs.Numbers.{BREAKS_ANNOTATION, UNKNOWN_TYPE}
use Rattle.refusal.specs.Outcome.{Outcome, given, refused, unplaced}
use Rattle.refusal.specs.declared.answers.Refusal.{Refusal}
use Rattle.parquet.specs.Logical.{is_geospatial}
use Rattle.boxes.specs.Coordinates.{at_most, is_above, is_between, X, Y, is_allowed}
use Rattle.boxes.specs.declared.bounding_box.BoundingBox.{BoundingBox}

-- "A received box may have xmin above xmax, and then x is inside if x >= xmin or x <= xmax; otherwise .. if on or between the bounds"
unfoldable pub inside_x : BoundingBox → Float → Bool
inside_x b x =
    cond (is_above b.xmin b.xmax) (at_most b.xmin x || at_most x b.xmax) (is_between b.xmin b.xmax x)

-- "and for y, if on or between the bounds"
unfoldable pub inside_y : BoundingBox → Float → Bool
inside_y b y = is_between b.ymin b.ymax y

-- "a box with a NaN"
unfoldable pub has_nan : BoundingBox → Bool
has_nan b = is_nan b.xmin || is_nan b.xmax || is_nan b.ymin || is_nan b.ymax

-- the kind allows each bound
unfoldable pub allows_bounds : ℕ → BoundingBox → Bool
allows_bounds kind b =
    is_allowed kind X b.xmin && is_allowed kind X b.xmax && is_allowed kind Y b.ymin && is_allowed kind Y b.ymax

-- "16 for a box with a NaN, with ymin above ymax, or, for GEOGRAPHY, with any bound outside [-180, 180] or [-90, 90]"
unfoldable pub is_box : ℕ → BoundingBox → Bool
is_box kind b = not (has_nan b) && not (is_above b.ymin b.ymax) && allows_bounds kind b

-- "the same range holds for its points, NaN aside"
unfoldable pub allows_point : ℕ → Float → Float → Bool
allows_point kind x y = is_allowed kind X x && is_allowed kind Y y

-- what each answer stands for
abbrev pub tested : Result Bool Refusal → Outcome Bool
tested (Ok inside) = given inside
tested (Err r) = refused r

-- "A test answers yes exactly if both a point's coordinates are inside"; 20 comes first
unfoldable pub membership : ℕ → BoundingBox → Float → Float → Outcome Bool
membership kind b x y =
    cond (is_geospatial kind)
    (cond (is_box kind b && allows_point kind x y) (given (inside_x b x && inside_y b y)) (refused (unplaced BREAKS_ANNOTATION)))
    (refused (unplaced UNKNOWN_TYPE))
