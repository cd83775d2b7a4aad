-- `boxes::points::beyond_degrees` meets its contract.
use mathlib.Core.Path.{sym, ap₂, ◌∙◌}
use mathlib.Core.Bool.{Bool, ◌||◌}
use lib.Ieee.{neg, of_bits, of_int}
use Rattle.boxes.specs.Steps.{is_beyond}
use Rattle.boxes.proofs.RangeLaws.{beyond_other, beyond_degrees_lem}
use Rattle.boxes.proofs.points.beyond_degrees.Goals as goal

pub returns-then-kind-ne-GEOGRAPHY : goal.returns-then-kind-ne-GEOGRAPHY
returns-then-kind-ne-GEOGRAPHY c = sym (beyond_other c.args.kind c.args.found c.if-kind-ne-GEOGRAPHY.true)

pub returns : goal.returns
unfolding is_beyond neg of_bits of_int
returns c =
    ap₂ (λ (s t : Bool). s || t) c.is_beyond.ensures c.is_beyond-2.ensures
    ∙ sym (beyond_degrees_lem c.args.kind c.args.found c.if-kind-ne-GEOGRAPHY.false)
