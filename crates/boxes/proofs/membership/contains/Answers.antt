-- `boxes::membership::contains` meets its contract: each answer by the tests that led to it.
use mathlib.Core.Path.{◌≡◌, sym, ap₂, ◌∙◌}
use mathlib.Core.Bool.{Bool, ◌&&◌}
use Rattle.refusal.specs.Outcome.{given}
use Rattle.boxes.specs.Membership.{inside_y}
use Rattle.boxes.proofs.MembershipLaws.{membership_20, membership_box, membership_point, membership_given}
use Rattle.boxes.proofs.membership.contains.Goals as goal

pub returns-then-not-has_boxes : goal.returns-then-not-has_boxes
returns-then-not-has_boxes c =
    let args = c.args in sym (membership_20 args.kind args.bounding_box args.x args.y (sym c.if-not-has_boxes.ensures))

pub returns-then-not-is_box : goal.returns-then-not-is_box
returns-then-not-is_box c =
    let args = c.args in
    sym (membership_box args.kind args.bounding_box args.x args.y (sym c.if-not-has_boxes.ensures) (sym c.if-not-is_box.ensures))

pub returns-then-not-allows_point : goal.returns-then-not-allows_point
returns-then-not-allows_point c =
    let args = c.args in
    sym (membership_point args.kind args.bounding_box args.x args.y (sym c.if-not-has_boxes.ensures) (sym c.if-not-is_box.ensures) (sym c.if-not-allows_point.ensures))

pub returns : goal.returns
unfolding inside_y
returns c =
    let args = c.args in
    ap₂ (λ (s t : Bool). given (s && t)) c.inside_x.ensures c.is_between.ensures
    ∙ sym (membership_given args.kind args.bounding_box args.x args.y (sym c.if-not-has_boxes.ensures) (sym c.if-not-is_box.ensures) (sym c.if-not-allows_point.ensures))
