-- What a C caller may rely on of calls on boxes, beyond each call's contract.
use Rattle.std.specs.Prelude.{ℕ, ◌<◌, ◌≡◌, Bool, cond, List, get_or, drop, Float}
use Rattle.std.specs.Float.{nan}
use Rattle.refusal.specs.Outcome.{given, refused}
use Rattle.refusal.specs.declared.answers.Refusal.{Refusal}
use Rattle.boxes.specs.Coordinates.{Same}
use Rattle.boxes.specs.Points.{Boxed, Answers}
use Rattle.boxes.specs.Membership.{membership}
use Rattle.boxes.specs.declared.bounding_box.BoundingBox.{BoundingBox}
use Rattle.c_answer.specs.Answers.{within}
use Rattle.c_answer.specs.Packing.{PacksResult, PacksRefusal, PacksEffect}
use Rattle.c_boxes.specs.Boxes.{box_effect, Boxing, test_answer}

pub record Promises : Type 0 where
  -- every answer can be taken apart again
  pub box_packs : (kind : ℕ) (coordinates : List Float) (lent : ℕ) (b : Boxed)
      → Answers kind coordinates b → PacksEffect (within lent (box_effect b))
  pub inside_packs : (kind : ℕ) (b : BoundingBox) (x y : Float) (inside : Bool)
      → membership kind b x y ≡ given inside → PacksResult (test_answer (given inside)) (cond inside 1 0)
  pub inside_refused_packs : (kind : ℕ) (b : BoundingBox) (x y : Float) (r : Refusal)
      → membership kind b x y ≡ refused r → PacksRefusal (test_answer (refused r)) r
  -- the box of points has one answer
  pub box_one : (kind : ℕ) (coordinates lent : List Float) (r s : ℕ) (h k : List Float)
      → Boxing kind coordinates lent r h → Boxing kind coordinates lent s k → r ≡ s
  -- what stands past four numbers stays
  pub box_rest : (kind : ℕ) (coordinates lent : List Float) (r : ℕ) (h : List Float) → Boxing kind coordinates lent r h → drop 4 h ≡ drop 4 lent
  -- and where four are written, they are numerically the same whatever box is
  pub box_same : (kind : ℕ) (coordinates lent : List Float) (h k : List Float)
      → Boxing kind coordinates lent 4 h → Boxing kind coordinates lent 4 k → (i : ℕ) → i < 4 → Same (get_or h i nan) (get_or k i nan)
  -- where an answer has a number, or there is no box, the output is as it was
  pub box_unchanged : (kind : ℕ) (coordinates lent : List Float) (r : ℕ) (h : List Float) → Boxing kind coordinates lent r h → (r ≡ 4 → ⊥) → h ≡ lent
