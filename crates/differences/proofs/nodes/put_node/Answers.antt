-- `differences::nodes::put_node` meets its contract: the node is only in the first sheet, or it matches one.
use mathlib.Core.Path.{sym, ap, ap₂, ◌∙◌, subst}
use mathlib.Core.List.{List, [], ◌∷◌, ◌++◌}
use Prim.Native.Nat.{ℕ}
use native.Mathlib.Omega.{arith}
use Rattle.differences.specs.Entry.{entry, slot_fields, ONLY_FIRST}
use Rattle.differences.specs.Differences.{field_entries, place_entries}
use Rattle.differences.proofs.PutLaws.{puts_as, puts_append}
use Rattle.differences.proofs.NodeStepLaws.{slot_is, slot_whole, twelve_most, places_most, node_none, node_some}
use Rattle.differences.proofs.nodes.put_node.Goals as goal
use Rattle.differences.proofs.nodes.put_node.Goals.{In-Some}
use Rattle.std.specs.Prelude.{Some}
use Rattle.differences.specs.Steps.{Names}

-- what it matches is a node of the second sheet
named : (c : In-Some) → Names c.args.second.now (Some c.in-Some.found)
named c = subst (Names c.args.second.now) c.in-Some.is c.requires.names

pub invariant_of-told : goal.invariant_of-told
invariant_of-told c = record { first_len_bound = omega (arith, slot_whole _ _ c.requires.node_value _ c.slot_bytes-ours.ensures); second_len_bound = omega arith }

pub returns-in-None : goal.returns-in-None
returns-in-None c = record { puts = puts_as (node_none _ _ _ _ c.in-None.is ∙ ap (λ (s : List ℕ). entry ONLY_FIRST c.args.node s [] ∷ []) (sym (slot_is _ _ c.requires.node_value _ c.slot_bytes-ours.ensures))) c.put_entry.ensures; upper_bound = omega (arith, c.put_entry.ensures.counts) }

pub put_fields-after-requires : goal.put_fields-after-requires
put_fields-after-requires c = record { node_lt_most_nodes = c.requires.node_lt_most_nodes; whole = slot_whole _ _ c.requires.node_value _ c.slot_bytes-ours.ensures; whole_2 = slot_whole _ _ (named (goal.at.put_fields-after-requires c).In-Some).0 _ c.slot_bytes-theirs.ensures; entries_bound = omega (arith, c.requires.entries_bound) }

pub put_places-requires : goal.put_places-requires
put_places-requires c = record { node_lt_most_nodes = c.requires.node_lt_most_nodes; entries_bound = omega (arith, c.put_fields-after.ensures.counts, twelve_most c.args.node c.slot_bytes-ours.result.now c.slot_bytes-theirs.result.now, c.requires.entries_bound) }

pub returns-in-Some : goal.returns-in-Some
returns-in-Some c =
    let node = c.args.node in
    let names = named (goal.at.returns-in-Some c).In-Some in
    let ours = sym (slot_is _ _ c.requires.node_value _ c.slot_bytes-ours.ensures) in
    let theirs = sym (slot_is _ _ names.0 _ c.slot_bytes-theirs.ensures) in
    let all = node_some _ node _ _ c.in-Some.found c.in-Some.is names.1 ∙ ap (◌++ place_entries node c.in-Some.found) (ap₂ (λ (s u : List ℕ). field_entries node s u slot_fields) ours theirs) in
    record { puts = puts_as all (puts_append c.put_fields-after.ensures c.put_places.ensures); upper_bound = omega (arith, c.put_places.ensures.counts, c.put_fields-after.ensures.counts, twelve_most node c.slot_bytes-ours.result.now c.slot_bytes-theirs.result.now, places_most node c.in-Some.found) }
