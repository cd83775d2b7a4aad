-- `tree::node::Node::list_child` meets its contract, answer by answer.
use Prim.Native.Nat.{suc}
use mathlib.Core.Path.{◌≡◌, sym, ap, ◌∙◌}
use mathlib.Core.Bool.{◌||◌, or-true, or-false}
use Rattle.sheet.specs.Slot.{repetition, slots, slot_at}
use Rattle.tree.specs.Rules.{named_element, list_child}
use Rattle.tree.specs.Layer.{layer_of, is_element_by, holds_by}
use Rattle.tree.specs.Steps.{tree_at}
use Rattle.tree.specs.declared.layer.Layer.{Layer}
use Rattle.tree.specs.declared.layer.Layer.TheVariants.{Element, ByName, Empty}
use Rattle.tree.proofs.VisitLaws.{repetition_behind}
use Rattle.tree.proofs.StructureLaws.{RepeatedGroup, child_single, child_leaf, child_by}
use Rattle.tree.proofs.node.Node.list_child.Goals as goal
use Rattle.tree.proofs.node.Node.list_child.Goals.{After-layer_of}

pub returns-then-self-ne-REPEATED : goal.returns-then-self-ne-REPEATED
returns-then-self-ne-REPEATED c = child_single _ _ _ c.args.self.visited _ c.if-self-ne-REPEATED.true

pub returns-then-self-ne-GROUP : goal.returns-then-self-ne-GROUP
returns-then-self-ne-GROUP c = child_leaf _ _ _ c.args.self.visited _ c.if-self-ne-REPEATED.false c.if-self-ne-GROUP.true

-- rule 12 at it, by what it was told to be
by_layer : (c : After-layer_of) (l : Layer) → c.layer_of.result ≡ l → list_child (slot_at c.args.self.sheet.bytes.now c.args.list) (tree_at (slots c.args.self.sheet.bytes.now) c.args.self.at) ≡ (is_element_by l (named_element (slot_at c.args.self.sheet.bytes.now c.args.list) (slot_at c.args.self.sheet.bytes.now c.args.self.at)) || holds_by l c.slot_at-first.result.repetition)
by_layer c l e =
    let grouped : RepeatedGroup c.args.self.sheet.bytes.now c.args.self.at c.args.self.slot = record { visited = c.args.self.visited; repeated = c.if-self-ne-REPEATED.false; grouped = c.if-self-ne-GROUP.false } in
    let behind : c.slot_at-first.result.repetition ≡ repetition (slot_at c.args.self.sheet.bytes.now (suc c.args.self.at)) = repetition_behind _ _ _ c.slot_at-first.ensures in
    let told = sym (c.layer_of.ensures ∙ ap (layer_of _) behind) ∙ e in
    rw (behind, ← told) (child_by _ _ _ grouped _)

pub returns-then-required_or_optional : goal.returns-then-required_or_optional
unfolding is_element_by holds_by
returns-then-required_or_optional c =
    c.if-required_or_optional.true
    ∙ sym (by_layer (goal.at.returns-then-required_or_optional c).After-layer_of ByName c.in-ByName.is ∙ rw (sym c.required_or_optional.ensures ∙ c.if-required_or_optional.true, or-true))

pub returns-in-Empty : goal.returns-in-Empty
unfolding is_element_by holds_by
returns-in-Empty c = sym (by_layer (goal.at.returns-in-Empty c).After-layer_of Empty c.in-Empty.is)

pub returns-in-Element : goal.returns-in-Element
unfolding is_element_by holds_by
returns-in-Element c = sym (by_layer (goal.at.returns-in-Element c).After-layer_of Element c.in-Element.is)

pub returns-else-required_or_optional : goal.returns-else-required_or_optional
unfolding is_element_by holds_by
returns-else-required_or_optional c =
    c.named_element.ensures
    ∙ sym (by_layer (goal.at.returns-else-required_or_optional c).After-layer_of ByName c.in-ByName.is ∙ rw (sym c.required_or_optional.ensures ∙ c.if-required_or_optional.false) (or-false _))
