-- `matching::sheets::match_nodes` meets its contract: all that the loop over the nodes asks for is made first.
use mathlib.Core.Path.{refl, ◌∙◌}
use native.Mathlib.Omega.{arith}
use Rattle.matching.proofs.NodesLaws.{takers_none, heads_none, names_root, matched_nodes}
use Rattle.matching.proofs.sheets.match_nodes.Goals as goal

pub write_ends-requires : goal.write_ends-requires
write_ends-requires c = record { claimed = c.requires.one_tree.claimed; total_value = c.requires.nodes_value; ends_len = refl }

pub write_ends-requires-2 : goal.write_ends-requires-2
write_ends-requires-2 c = record { claimed = c.requires.one_tree_2.claimed; total_value = c.requires.others_value; ends_len = refl }

pub write_prints-requires : goal.write_prints-requires
write_prints-requires c = record { total_le_most_nodes = omega (arith, c.requires.nodes_value, c.requires.one_tree.claimed.most); prints_len = refl }

pub write_prints-requires-2 : goal.write_prints-requires-2
write_prints-requires-2 c = record { total_le_most_nodes = omega (arith, c.requires.others_value, c.requires.one_tree_2.claimed.most); prints_len = refl }

pub match_below-requires : goal.match_below-requires
match_below-requires c = record { nodes_value = c.requires.nodes_value; takers_most = takers_none; heads_most = heads_none; named = names_root _ c.requires.one_tree_2.some }

pub returns : goal.returns
returns c = c.match_below.ensures ∙ matched_nodes _ _ _ c.requires.one_tree c.requires.one_tree_2 c.requires.nodes_value
