-- `boxes::membership::allows_point` meets its contract.
use mathlib.Core.Path.{sym, ap₂, ◌∙◌}
use mathlib.Core.Bool.{Bool, ◌&&◌}
use lib.Ieee.{neg, of_bits, of_int}
use Rattle.boxes.specs.Coordinates.{X, Y, in_range}
use Rattle.boxes.specs.Membership.{allows_point}
use Rattle.boxes.proofs.CoordinateLaws.{allowed_any, allowed_degrees}
use Rattle.boxes.proofs.membership.allows_point.Goals as goal

pub returns-then-kind-ne-GEOGRAPHY : goal.returns-then-kind-ne-GEOGRAPHY
unfolding allows_point
returns-then-kind-ne-GEOGRAPHY c = let args = c.args in simp (allowed_any args.kind X args.x c.if-kind-ne-GEOGRAPHY.true, allowed_any args.kind Y args.y c.if-kind-ne-GEOGRAPHY.true)

pub returns : goal.returns
unfolding allows_point in_range neg of_bits of_int
returns c =
    let args = c.args in
    ap₂ (λ (s t : Bool). s && t)
    (c.allows_degrees.ensures ∙ sym (allowed_degrees args.kind X args.x c.if-kind-ne-GEOGRAPHY.false))
    (c.allows_degrees-2.ensures ∙ sym (allowed_degrees args.kind Y args.y c.if-kind-ne-GEOGRAPHY.false))
