-- A list of points, and its box: "four doubles, xmin, xmax, ymin, ymax".
use Rattle.std.specs.Prelude.{ℕ, zero, suc, ◌+◌, ◌*◌, ◌/◌, ◌%◌, ◌<◌, ◌≡◌, Bool, true, false, cond, ◌&&◌, List, ◌⊎◌, eqb, length, get_or, Float, Option, Some, None, Result, Ok, Err}
use Rattle.std.specs.Float.{nan}
use Rattle.std.specs.Float.Ieee.{is_nan}
use Rattle.refusal.specs.Numbers.{WRONG_LENGTH, BREAKS_ANNOTATION, UNKNOWN_TYPE}
use Rattle.refusal.specs.Outcome.{unplaced, no_refusal}
use Rattle.refusal.specs.declared.answers.Refusal.{Refusal}
use Rattle.refusal.specs.Outcome.{Verdict}
use Rattle.parquet.specs.Logical.{is_geospatial}
use Rattle.boxes.specs.Coordinates.{Same, at_most, X, Y, is_allowed}
-- a type of the code: the numbers xmin, xmax, ymin and ymax
use Rattle.boxes.specs.declared.bounding_box.BoundingBox.{BoundingBox}

-- a point is two numbers of the list, its x and its y
unfoldable pub points_in : List Float → ℕ
points_in coordinates = length coordinates / 2

unfoldable pub coordinate_of : List Float → ℕ → ℕ → Float
coordinate_of coordinates axis point = get_or coordinates (2 * point + axis) nan

-- v is a counted coordinate of the axis: "NaN coordinates are skipped"
pub record Counted (axis : ℕ) (coordinates : List Float) (v : Float) : Type 0 where
  pub point : ℕ
  pub below : point < points_in coordinates
  pub there : coordinate_of coordinates axis point ≡ v
  pub number : is_nan v ≡ false

-- the axis has none
abbrev pub NoneCounted : ℕ → List Float → Type 0
NoneCounted axis coordinates = (v : Float) → Counted axis coordinates v → ⊥

-- v numerically equals a counted coordinate of the axis
abbrev pub Met : ℕ → List Float → Float → Type 0
Met axis coordinates v = (c : Float) × Counted axis coordinates c × Same v c

-- "every counted coordinate lies from its axis's min to its max, and each bound numerically equals a counted one of its axis"
pub record Bounds (axis : ℕ) (coordinates : List Float) (least greatest : Float) : Type 0 where
  pub from_least : (v : Float) → Counted axis coordinates v → at_most least v ≡ true
  pub to_greatest : (v : Float) → Counted axis coordinates v → at_most v greatest ≡ true
  pub least_met : Met axis coordinates least
  pub greatest_met : Met axis coordinates greatest

pub record BoxOf (coordinates : List Float) (b : BoundingBox) : Type 0 where
  pub x : Bounds X coordinates b.xmin b.xmax
  pub y : Bounds Y coordinates b.ymin b.ymax

-- the kind allows both coordinates of the first so many points
unfoldable pub allows_points : ℕ → List Float → ℕ → Bool
allows_points kind coordinates zero = true
allows_points kind coordinates (suc p) =
    allows_points kind coordinates p && (is_allowed kind X (coordinate_of coordinates X p) && is_allowed kind Y (coordinate_of coordinates Y p))

-- "20, first, for a box of a kind not 17 or 18", "15, before 16, for an odd run of coordinates", 16 for a coordinate that the kind does not allow
unfoldable pub judgement : ℕ → List Float → Verdict
judgement kind coordinates =
    cond (is_geospatial kind)
    (cond (eqb (length coordinates % 2) 0)
    (cond (allows_points kind coordinates (points_in coordinates)) no_refusal (Err (unplaced BREAKS_ANNOTATION)))
    (Err (unplaced WRONG_LENGTH)))
    (Err (unplaced UNKNOWN_TYPE))

-- what the box of a list of points answers: a box, none, or the refusal
abbrev pub Boxed : Type 0
Boxed = Result (Option BoundingBox) Refusal

-- what it may answer: a box is free only in which of two equal numbers a bound is
abbrev pub Answers : ℕ → List Float → Boxed → Type 0
Answers kind coordinates (Ok (Some b)) = (judgement kind coordinates ≡ no_refusal) × BoxOf coordinates b
-- "no box results exactly if an axis has none"
Answers kind coordinates (Ok None) = (judgement kind coordinates ≡ no_refusal) × (NoneCounted X coordinates ⊎ NoneCounted Y coordinates)
Answers kind coordinates (Err r) = judgement kind coordinates ≡ Err r
