-- `matching::fields::Taken::match_below` meets its contract: the nodes passed, and those that are left, are all.
use native.Mathlib.Omega.{arith}
use Rattle.matching.proofs.NodesLaws.{stepped_start, stepped_next, stepped_end}
use Rattle.matching.proofs.fields.Taken.match_below.Goals as goal

pub loop-node-init : goal.loop-node-init
loop-node-init c = (stepped_start _ _ _ _ _ c.requires.takers_most c.requires.named, c.requires.heads_most)

pub match_node-requires : goal.match_node-requires
match_node-requires c = let inv = c.loop-node.invariant in record { node_bound = omega (arith, c.loop-node-test.true, c.requires.nodes_value); takers_most = inv.0.takers_most; heads_most = inv.1; named = inv.0.names }

pub loop-node-preserved : goal.loop-node-preserved
loop-node-preserved c =
    let heads = c.match_node.ensures.heads_most_2 in (
      stepped_next _ _ _ _ _ _ _ c.loop-node.invariant.0 c.loop-node-test.true _ _ c.match_node.ensures.matches_after c.match_node.ensures.takers_most_2 c.match_node.ensures.named_2,
      record { long = heads.long; taker_at = λ r. omega (arith, heads.taker_at r) },
    )

pub returns : goal.returns
returns c = stepped_end _ _ _ _ _ _ _ c.loop-node.invariant.0 c.loop-node-test.false
