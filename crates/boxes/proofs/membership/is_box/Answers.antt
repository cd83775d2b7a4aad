-- `boxes::membership::is_box` meets its contract.
use mathlib.Core.Path.{sym, ap₂, ◌∙◌}
use mathlib.Core.Bool.{Bool, ◌&&◌}
use Rattle.boxes.proofs.CoordinateLaws.{is_above_lt}
use Rattle.boxes.proofs.MembershipLaws.{box_nan, box_above, box_corners}
use Rattle.boxes.proofs.membership.is_box.Goals as goal

pub returns-then-has_nan : goal.returns-then-has_nan
returns-then-has_nan c = sym (box_nan c.args.kind c.args.b (sym c.if-has_nan.ensures))

pub returns-then-b : goal.returns-then-b
returns-then-b c =
    let args = c.args in
    sym (box_above args.kind args.b (sym c.if-has_nan.ensures) (is_above_lt args.b.ymin args.b.ymax ∙ c.if-b.true))

pub returns : goal.returns
returns c =
    let args = c.args in
    ap₂ (λ (s t : Bool). s && t) c.allows_point.ensures c.allows_point-2.ensures
    ∙ sym (box_corners args.kind args.b (sym c.if-has_nan.ensures) (is_above_lt args.b.ymin args.b.ymax ∙ c.if-b.false))
