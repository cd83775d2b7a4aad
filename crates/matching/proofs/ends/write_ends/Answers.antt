-- `matching::ends::write_ends` meets its contract: the last node's end is found first.
use mathlib.Core.Path.{sym, ◌∙◌}
use Prim.Native.Nat.{◌-◌, ◌<◌}
use native.Mathlib.Omega.{arith}
use Rattle.sheet.specs.Block.{total_of, most_nodes}
use Rattle.tree.proofs.VisitLaws.{tree_within}
use Rattle.matching.proofs.EndLaws.{ends_none, ends_more, ends_back, ends_all}
use Rattle.matching.proofs.ends.write_ends.Goals as goal

pub loop-node-init : goal.loop-node-init
loop-node-init c = (omega arith, ends_none _ _ _ c.requires.ends_len c.requires.total_value)

pub end_of-requires : goal.end_of-requires
end_of-requires c = record { claimed = c.requires.claimed; node_bound = omega (arith, c.loop-node.invariant.0, c.requires.total_value, c.loop-node-test.true); ends_from = ends_back _ _ _ c.loop-node-test.true c.loop-node.invariant.1 }

pub overflow_cast-ends : goal.overflow_cast-ends
overflow_cast-ends c =
    let below : c.loop-node.node - 1 < total_of c.args.sheet.now = omega (arith, c.loop-node.invariant.0, c.requires.total_value, c.loop-node-test.true) in
    record { fits = omega (arith, c.end_of.ensures, c.requires.claimed.most, tree_within _ _ c.requires.claimed below) }

pub offset_bounds-ends-node : goal.offset_bounds-ends-node
offset_bounds-ends-node c = record { fits = omega (arith, c.loop-node.invariant.0, c.requires.total_value, c.requires.claimed.most) }

pub bounds-ends-node : goal.bounds-ends-node
bounds-ends-node c = omega (arith, c.loop-node.invariant.0, c.requires.total_value, c.requires.claimed.most, c.loop-node.invariant.1.long, c.loop-node-test.true)

pub loop-node-preserved : goal.loop-node-preserved
loop-node-preserved c =
    let most : c.loop-node.node - 1 < most_nodes = omega (arith, c.loop-node.invariant.0, c.requires.total_value, c.requires.claimed.most, c.loop-node-test.true) in
    (omega (arith, c.loop-node.invariant.0), ends_more _ _ _ _ most (ends_back _ _ _ c.loop-node-test.true c.loop-node.invariant.1) c.end_of.ensures)

pub shape_of-ends : goal.shape_of-ends
shape_of-ends c = c.loop-node.invariant.1.long ∙ sym c.requires.ends_len

pub returns : goal.returns
returns c = ends_all _ _ _ c.loop-node.invariant.1 (omega (arith, c.loop-node-test.false))
