-- Laws of one step.
use mathlib.Core.Path.{◌≡◌, ap, ◌∙◌}
use mathlib.Core.Bool.{Bool, cond}
use mathlib.Core.List.{List}
use Prim.Native.Nat.{ℕ, suc, ◌≤◌, ◌<◌}
use borrow.Author.Tests.{lt-ltb, le-ltb}
use Rattle.sheet.specs.Slot.{numbers_of, slot_at}
use Rattle.sheet.specs.Name.{stretch_of}
use Rattle.refusal.specs.Outcome.{Counted}
use Rattle.sheet.proofs.NameLaws.{stretch_of_name}
use Rattle.sheet_reader.specs.Step.{total, step_at, node_after, handed, ended, handout_of, slot_handed}
use Rattle.std.specs.Prelude.{Some, None}

-- below the total a step hands out the node's slot
pub step_at_slot : (sheet : List ℕ) (node : ℕ) (opened : Counted) → node < total opened → step_at sheet node opened ≡ Some (numbers_of (slot_at sheet node), stretch_of sheet node)
unfolding step_at
step_at_slot sheet node opened h = ap (λ (b : Bool). cond b (Some (numbers_of (slot_at sheet node), stretch_of sheet node)) None) (lt-ltb node (total opened) h)

-- from the total on, the end
pub step_at_end : (sheet : List ℕ) (node : ℕ) (opened : Counted) → total opened ≤ node → step_at sheet node opened ≡ None
unfolding step_at
step_at_end sheet node opened h = ap (λ (b : Bool). cond b (Some (numbers_of (slot_at sheet node), stretch_of sheet node)) None) (le-ltb node (total opened) h)

-- below the total a step leads to the next node
pub node_after_next : (node : ℕ) (opened : Counted) → node < total opened → node_after node opened ≡ suc node
unfolding node_after
node_after_next node opened h = ap (λ (b : Bool). cond b (suc node) node) (lt-ltb node (total opened) h)

-- from the total on it leads nowhere
pub node_after_end : (node : ℕ) (opened : Counted) → total opened ≤ node → node_after node opened ≡ node
unfolding node_after
node_after_end node opened h = ap (λ (b : Bool). cond b (suc node) node) (le-ltb node (total opened) h)

-- what the slot's step hands out is the slot: its name stands at the stretch
pub handout_of_slot : (sheet : List ℕ) (node : ℕ) (opened : Counted) → node < total opened → handout_of sheet (step_at sheet node opened) ≡ slot_handed (slot_at sheet node)
unfolding handout_of slot_handed
handout_of_slot sheet node opened h =
    ap (handout_of sheet) (step_at_slot sheet node opened h) ∙ ap (handed (numbers_of (slot_at sheet node))) (stretch_of_name sheet node)

-- and of the end's nothing
pub handout_of_end : (sheet : List ℕ) (node : ℕ) (opened : Counted) → total opened ≤ node → handout_of sheet (step_at sheet node opened) ≡ ended
unfolding handout_of
handout_of_end sheet node opened h = ap (handout_of sheet) (step_at_end sheet node opened h)
