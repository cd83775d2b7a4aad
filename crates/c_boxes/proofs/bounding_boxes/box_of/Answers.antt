-- `c_boxes::bounding_boxes::box_of` meets its contract: the bounds are written where they fit, and without a box the output stays as it was.
use Prim.Native.Nat.{ℕ}
use mathlib.Core.Path.{◌≡◌, refl, subst}
use mathlib.Core.List.{List, []}
use lib.Ieee.{Float}
use native.Mathlib.Omega.{arith}
use Rattle.std.specs.Prelude.{Option, Some, None, Ok, Err}
use Rattle.boxes.specs.Points.{Answers}
use Rattle.boxes.specs.declared.bounding_box.BoundingBox.{BoundingBox}
use Rattle.boxes.proofs.RefusalLaws.{box_bounded}
use Rattle.c_answer.proofs.OutputLaws.{enough}
use Rattle.c_boxes.proofs.bounding_boxes.box_of.Goals as goal

-- what `box_of` promises of the box that was told
answers : (kind : ℕ) (coordinates : List Float) {told is : Option BoundingBox} → told ≡ is → Answers kind coordinates (Ok told) → Answers kind coordinates (Ok is)
answers kind coordinates e = subst (λ (o : Option BoundingBox). Answers kind coordinates (Ok o)) e

pub returns-in-Ok-Some : goal.returns-in-Ok-Some
returns-in-Ok-Some c =
    record {
      boxed = Ok (Some c.in-Ok-Some.b);
      answers = answers c.args.kind c.args.coordinates.now c.in-Ok-Some.field-0-is c.in-Ok-Some.ensures;
      answered_is = c.write.ensures.value;
      left_is = c.write.ensures.out_after;
    }

pub returns-in-Ok-None : goal.returns-in-Ok-None
returns-in-Ok-None c =
    let bounds = c.args.bounds.now in
    let none = enough 0 [] bounds refl (omega arith) c.packed.ensures in
    record { boxed = Ok None; answers = answers c.args.kind c.args.coordinates.now c.in-Ok-None.field-0-is c.in-Ok-None.ensures; answered_is = none.0; left_is = none.1 }

pub returns-in-Err : goal.returns-in-Err
returns-in-Err c =
    let bounded = box_bounded c.args.kind c.args.coordinates.now _ c.in-Err.ensures in
    record {
      boxed = Err c.in-Err.r;
      answers = c.in-Err.ensures;
      answered_is = c.refused.ensures.answer (omega (arith, bounded.most_place));
      left_is = refl;
    }
