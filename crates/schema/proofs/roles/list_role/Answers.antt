-- `schema::roles::list_role` meets its contract, answer by answer.
use Prim.Native.Nat.{ℕ, suc}
use mathlib.Core.Path.{◌≡◌, sym, ap, ◌∙◌}
use mathlib.Core.Bool.{cond}
use mathlib.Core.List.{List}
use Rattle.sheet.specs.Slot.{slot_at, repetition}
use Rattle.tree.specs.Rules.{named_element}
use Rattle.tree.specs.Layer.{layer_of, is_element_by}
use Rattle.tree.specs.Steps.{fields_at}
use Rattle.tree.specs.declared.layer.Layer.{Layer}
use Rattle.tree.specs.declared.layer.Layer.TheVariants.{Element, ByName, Empty}
use Rattle.tree.proofs.VisitLaws.{repetition_behind}
use Rattle.schema.specs.Rows.{list_role}
use Rattle.schema.specs.Steps.{role_number}
use Rattle.schema.proofs.RolesLaws.{role_leaf, role_by}
use Rattle.schema.proofs.roles.list_role.Goals as goal
use Rattle.schema.proofs.roles.list_role.Goals.{After-layer_of}

-- the role, by what the group was told to be
module _ (c : After-layer_of) where
  abbrev own : List ℕ
  own = slot_at c.args.sheet.now c.args.at

  abbrev list : List ℕ
  list = slot_at c.args.sheet.now c.args.parent_at

  first_repetition : c.slot_at-first.result.repetition ≡ repetition (slot_at c.args.sheet.now (suc c.args.at))
  first_repetition = repetition_behind _ _ _ c.slot_at-first.ensures

  by_layer : (l : Layer) → c.layer_of.result ≡ l → list_role list own (fields_at c.args.sheet.now c.args.at) ≡ cond (is_element_by l (named_element list own)) 3 1
  by_layer l e =
      let told = sym (c.layer_of.ensures ∙ ap (layer_of _) first_repetition) ∙ e in
      rw (← told) (role_by _ _ _ c.requires _ c.if-s-ne-GROUP.false)

pub returns-then-s-ne-GROUP : goal.returns-then-s-ne-GROUP
unfolding role_number
returns-then-s-ne-GROUP c = role_leaf _ _ _ c.requires _ c.if-s-ne-GROUP.true

pub returns-in-ByName : goal.returns-in-ByName
unfolding is_element_by role_number
returns-in-ByName c = sym (by_layer (goal.at.returns-in-ByName c).After-layer_of ByName c.in-ByName.is ∙ rw (sym c.named_element.ensures ∙ c.if-named_element.true))

pub returns-in-Empty : goal.returns-in-Empty
unfolding is_element_by role_number
returns-in-Empty c = sym (by_layer (goal.at.returns-in-Empty c).After-layer_of Empty c.in-Empty.is)

pub returns-in-Element : goal.returns-in-Element
unfolding is_element_by role_number
returns-in-Element c = sym (by_layer (goal.at.returns-in-Element c).After-layer_of Element c.in-Element.is)

pub returns-in-ByName-2 : goal.returns-in-ByName-2
unfolding is_element_by role_number
returns-in-ByName-2 c = sym (by_layer (goal.at.returns-in-ByName-2 c).After-layer_of ByName c.in-ByName.is ∙ rw (sym c.named_element.ensures ∙ c.if-named_element.false))
