use Rattle.refusal.specs.Outcome.{refusal}
use Rattle.std.specs.Prelude.{Err}
use mathlib.Core.Path.{ap, ◌∙◌}
use Rattle.tree.proofs.CountingLaws.{counted_start, counted_next, counted_left, counted_filled, counted_missing}
use native.Mathlib.Omega.{arith}
use Prim.Native.Nat.{ℕ}
use Rattle.tree.proofs.places.places_filled.Goals as goal

pub loop-node-init : goal.loop-node-init
loop-node-init c = counted_start _

pub returns-then-open-eq0 : goal.returns-then-open-eq0
returns-then-open-eq0 c = counted_left _ _ _ c.loop-node.invariant (omega (arith, c.requires.total_value)) c.if-open-eq0.true

pub overflow_add-open : goal.overflow_add-open
overflow_add-open c = omega (arith, c.loop-node.invariant.few, c.loop-node.invariant.within, c.requires.total_value, c.requires.total_le_most_nodes, c.struct_known-1.given)

pub loop-node-preserved : goal.loop-node-preserved
loop-node-preserved c = counted_next _ _ _ c.loop-node.invariant _ (omega (arith, c.requires.total_value)) c.if-open-eq0.false c.slot_at.ensures (omega (arith, c.struct_known-1.given))

pub returns-then-open-eq0-2 : goal.returns-then-open-eq0-2
returns-then-open-eq0-2 c = counted_filled _ _ _ c.loop-node.invariant (omega (arith, c.requires.total_value)) c.if-open-eq0-2.true

pub returns : goal.returns
returns c = ap (λ (n : ℕ). Err (refusal 5 n)) c.requires.total_value ∙ counted_missing _ _ _ c.loop-node.invariant (omega (arith, c.requires.total_value)) c.if-open-eq0-2.false
