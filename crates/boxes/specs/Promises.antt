-- What a caller may rely on of boxes, beyond each entry's contract.
use Rattle.std.specs.Prelude.{ℕ, ◌<◌, ◌≡◌, true, false, List, Float, Some, None, Ok, Err}
use Rattle.std.specs.Float.Ieee.{is_nan}
use Rattle.refusal.specs.Outcome.{given}
use Rattle.boxes.specs.Coordinates.{Same, X, Y}
use Rattle.boxes.specs.Points.{Boxed, points_in, coordinate_of, BoxOf, Answers}
use Rattle.boxes.specs.Membership.{membership}
use Rattle.boxes.specs.declared.bounding_box.BoundingBox.{BoundingBox}

-- two boxes with numerically equal bounds
pub record SameBox (b c : BoundingBox) : Type 0 where
  pub xmin : Same b.xmin c.xmin
  pub xmax : Same b.xmax c.xmax
  pub ymin : Same b.ymin c.ymin
  pub ymax : Same b.ymax c.ymax

-- two answers that differ at most so
abbrev pub SameAnswer : Boxed → Boxed → Type 0
SameAnswer (Ok (Some b)) (Ok (Some c)) = SameBox b c
SameAnswer (Ok (Some b)) (Ok None) = ⊥
SameAnswer (Ok (Some b)) (Err r) = ⊥
SameAnswer (Ok None) (Ok (Some c)) = ⊥
SameAnswer (Ok None) (Ok None) = Unit {0}
SameAnswer (Ok None) (Err r) = ⊥
SameAnswer (Err q) (Ok (Some c)) = ⊥
SameAnswer (Err q) (Ok None) = ⊥
SameAnswer (Err q) (Err r) = q ≡ r

pub record Promises : Type 0 where
  -- "any two such boxes are numerically equal"
  pub one_box : (coordinates : List Float) (b c : BoundingBox) → BoxOf coordinates b → BoxOf coordinates c → SameBox b c
  -- so there is one answer
  pub one_answer : (kind : ℕ) (coordinates : List Float) (a b : Boxed)
      → Answers kind coordinates a → Answers kind coordinates b → SameAnswer a b
  -- the box of points contains each of its points without NaN
  pub contains : (kind : ℕ) (coordinates : List Float) (b : BoundingBox) (p : ℕ) → Answers kind coordinates (Ok (Some b)) → p < points_in coordinates
      → is_nan (coordinate_of coordinates X p) ≡ false → is_nan (coordinate_of coordinates Y p) ≡ false
      → membership kind b (coordinate_of coordinates X p) (coordinate_of coordinates Y p) ≡ given true
