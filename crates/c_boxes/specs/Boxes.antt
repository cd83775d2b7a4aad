-- What the box of points and the test of a point answer.
use Rattle.std.specs.Prelude.{◌≡◌, ℕ, Bool, cond, List, [], ◌∷◌, length, Float, Some, None, Ok, Err}
use Rattle.refusal.specs.Outcome.{Outcome, given, refused}
use Rattle.boxes.specs.Points.{Boxed, Answers}
use Rattle.boxes.specs.declared.bounding_box.BoundingBox.{BoundingBox}
use Rattle.c_answer.specs.Answers.{RESULT, packed, refusal_answer, Effect, listed, within, answer, left}

-- a box of numbers that were passed
abbrev pub bounding_box_of : Float → Float → Float → Float → BoundingBox
bounding_box_of xmin xmax ymin ymax = record { xmin = xmin; xmax = xmax; ymin = ymin; ymax = ymax }

-- "four doubles, xmin, xmax, ymin, ymax"
abbrev pub bound_numbers : BoundingBox → List Float
bound_numbers b = b.xmin ∷ b.xmax ∷ b.ymin ∷ b.ymax ∷ []

-- what each answer comes to: its value is how many numbers are written, 4, or 0 where there is no box
abbrev pub box_effect : Boxed → Effect Float
box_effect (Ok (Some b)) = listed (bound_numbers b)
box_effect (Ok None) = listed []
box_effect (Err r) = refused r

-- what the box of points answers and leaves: those of an answer that it may have
pub record Boxing (kind : ℕ) (coordinates lent : List Float) (answered : ℕ) (held : List Float) : Type 0 where
  pub boxed : Boxed
  pub answers : Answers kind coordinates boxed
  pub answered_is : answered ≡ answer (within (length lent) (box_effect boxed))
  pub left_is : held ≡ left (within (length lent) (box_effect boxed)) lent

-- the answer of a test: 1 for yes, and 0 for no
abbrev pub test_answer : Outcome Bool → ℕ
test_answer (given inside) = packed RESULT (cond inside 1 0)
test_answer (refused r) = refusal_answer r
