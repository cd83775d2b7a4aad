-- `c_boxes::bounding_boxes::inside` meets its contract: the answer is that of the test.
use Prim.Native.Nat.{ℕ}
use mathlib.Core.Path.{◌≡◌, refl, sym, ap, ◌∙◌}
use mathlib.Core.Bool.{Bool, true, false, cond}
use mir.Val.{bool_byte}
use native.Mathlib.Omega.{arith}
use Rattle.c_answer.specs.Answers.{packed, RESULT}
use Rattle.boxes.proofs.RefusalLaws.{test_bounded}
use Rattle.c_boxes.specs.Boxes.{bounding_box_of, test_answer}
use Rattle.c_boxes.proofs.bounding_boxes.inside.Goals as goal

-- yes and no in numbers
told_as : (inside : Bool) → bool_byte inside ≡ cond inside 1 0
told_as true = refl
told_as false = refl

pub returns-in-Ok : goal.returns-in-Ok
returns-in-Ok c =
    c.packed.ensures ∙ ap (λ (n : ℕ). packed RESULT n) (told_as c.in-Ok.is_inside)
    ∙ ap test_answer c.in-Ok.ensures

pub returns-in-Err : goal.returns-in-Err
returns-in-Err c =
    let args = c.args in
    let bounded = test_bounded args.kind (bounding_box_of args.xmin args.xmax args.ymin args.ymax) args.x args.y _ (sym c.in-Err.ensures) in
    c.refused.ensures.answer (omega (arith, bounded.most_place)) ∙ ap test_answer c.in-Err.ensures
