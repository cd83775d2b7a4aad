-- `differences::nodes::put_other` meets its contract.
use mathlib.Core.Path.{sym, ap, ◌∙◌}
use mathlib.Core.List.{List, [], ◌∷◌}
use Prim.Native.Nat.{ℕ}
use native.Mathlib.Omega.{arith}
use Rattle.differences.specs.Entry.{entry, ONLY_SECOND}
use Rattle.differences.proofs.PutLaws.{puts_none, puts_as}
use Rattle.differences.proofs.NodeStepLaws.{slot_is, slot_whole, other_marked, other_unmarked}
use Rattle.differences.proofs.nodes.put_other.Goals as goal

pub returns-then-marked : goal.returns-then-marked
returns-then-marked c = record { puts = puts_as (other_marked _ _ _ c.if-marked.true) (puts_none _ _); upper_bound = omega arith }

pub invariant_of-told : goal.invariant_of-told
invariant_of-told c = record { first_len_bound = omega arith; second_len_bound = omega (arith, slot_whole _ _ c.requires.node_value _ c.slot_bytes-theirs.ensures) }

pub returns : goal.returns
returns c = record { puts = puts_as (other_unmarked _ _ _ c.if-marked.false ∙ ap (λ (s : List ℕ). entry ONLY_SECOND c.args.node [] s ∷ []) (sym (slot_is _ _ c.requires.node_value _ c.slot_bytes-theirs.ensures))) c.put_entry.ensures; upper_bound = omega (arith, c.put_entry.ensures.counts) }
