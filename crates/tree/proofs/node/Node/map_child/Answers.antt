-- `tree::node::Node::map_child` meets its contract, answer by answer.
use Rattle.std.proofs.Common.{rules}
use Prim.Native.Nat.{ℕ, suc}
use mathlib.Core.Path.{◌≡◌, sym, ◌∙◌, ap}
use borrow.Author.Tests.{eq-eqb, ne_eqb}
use Rattle.sheet.specs.Slot.{slot_at, repetition}
use Rattle.parquet.specs.Repetition.{REQUIRED}
use lib.Dec.{eqb}
use Rattle.tree.specs.Rules.{is_required_or_optional}
use Rattle.tree.proofs.StructureLaws.{RepeatedGroup, layer_single, layer_leaf, layer_other, layer_key, layer_optional, layer_both}
use Rattle.tree.proofs.VisitLaws.{repetition_behind, repetition_at_lem}
use Rattle.tree.proofs.node.Node.map_child.Goals as goal
use Rattle.tree.proofs.node.Node.map_child.Goals.{After-slot_at-key, then-self-ne-REPEATED-via-then-self-ne-REPEATED, then-self-ne-REPEATED-via-else-self-ne-REPEATED+then-self-ne-GROUP}

-- a repeated group, and its key's repetition, as it is read
grouped : (c : After-slot_at-key) → RepeatedGroup c.args.self.sheet.bytes.now c.args.self.at c.args.self.slot
grouped c = record { visited = c.args.self.visited; repeated = c.if-self-ne-REPEATED.false; grouped = c.if-self-ne-GROUP.false }

key_repetition : (c : After-slot_at-key) → c.slot_at-key.result.repetition ≡ repetition (slot_at c.args.self.sheet.bytes.now (suc c.args.self.at))
key_repetition c = repetition_behind _ _ _ c.slot_at-key.ensures

pub returns-then-self-ne-REPEATED : goal.returns-then-self-ne-REPEATED
returns-then-self-ne-REPEATED c =
    elim c.then-self-ne-REPEATED.branch [
      | then-self-ne-REPEATED-via-then-self-ne-REPEATED w ↦ layer_single _ _ _ c.args.self.visited w.if-self-ne-REPEATED.true
      | then-self-ne-REPEATED-via-else-self-ne-REPEATED+then-self-ne-GROUP w ↦ layer_leaf _ _ _ c.args.self.visited w.if-self-ne-REPEATED.false w.if-self-ne-GROUP.true
    ]

pub returns-in-1 : goal.returns-in-1
returns-in-1 c =
    ap (λ (n : ℕ). eqb n REQUIRED) (key_repetition (goal.at.returns-in-1 c).After-slot_at-key)
    ∙ sym (layer_key _ _ _ (grouped (goal.at.returns-in-1 c).After-slot_at-key) c.in-1.is)

pub returns-then-key-eq-REQUIRED : goal.returns-then-key-eq-REQUIRED
returns-then-key-eq-REQUIRED c =
    c.required_or_optional.ensures
    ∙ ap is_required_or_optional (repetition_at_lem _ _ _ c.slot_at.ensures)
    ∙ ap (λ (i : ℕ). is_required_or_optional (repetition (slot_at c.args.self.sheet.bytes.now i))) c.requires.value_value
    ∙ sym (layer_both _ _ _ (grouped (goal.at.returns-then-key-eq-REQUIRED c).After-slot_at-key) c.in-2.is (eq-eqb _ _ (sym (key_repetition (goal.at.returns-then-key-eq-REQUIRED c).After-slot_at-key) ∙ c.if-key-eq-REQUIRED.true)))

pub returns-else-key-eq-REQUIRED : goal.returns-else-key-eq-REQUIRED
returns-else-key-eq-REQUIRED c =
    let other = ne_eqb _ _ c.if-key-eq-REQUIRED.false in
    other
    ∙ layer_optional _ _ _ (grouped (goal.at.returns-else-key-eq-REQUIRED c).After-slot_at-key) c.in-2.is
    (ap (λ (n : ℕ). eqb n REQUIRED) (sym (key_repetition (goal.at.returns-else-key-eq-REQUIRED c).After-slot_at-key)) ∙ other)

pub returns-in_default : goal.returns-in_default
returns-in_default c =
    layer_other _ _ _ (grouped (goal.at.returns-in_default c).After-slot_at-key) (search rules) (search rules)
