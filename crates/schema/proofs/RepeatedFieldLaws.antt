-- Document 02, R-2: a LIST's layer whose one field is repeated keeps rule 12 and is the element; the field is a repeated node as any other.
use Prim.Native.Nat.{ℕ}
use mathlib.Core.Path.{◌≡◌, sym, ◌∙◌}
use mathlib.Core.Bool.{true, false, true≢false, or-true}
use borrow.Author.Tests.{eq-eqb, ne_eqb}
use Rattle.laws.proofs.BoolLaws.{by_test}
use Rattle.sheet.specs.Slot.{physical, repetition}
use Rattle.parquet.specs.Repetition.{REPEATED}
use Rattle.parquet.specs.Logical as logical
use Rattle.tree.specs.Annotated.{kind}
use Rattle.tree.specs.Tree.{SlotBytes, Fields, node, empty, field}
use Rattle.tree.specs.Rules.{is_group, is_required_or_optional, is_list, is_map, named_element, holds_element, list_child, list_run, list_kept, rule12, map_kept, rule13, KeepsAt}
use Rattle.tree.specs.declared.standing.Standing.{Standing}
use Rattle.tree.specs.declared.standing.Standing.TheVariants.{Field}
use Rattle.schema.specs.Rows.{is_map_parent, ELEMENT_LAYER, BARE_REPEATED, list_role, role, parent_by, parent_of}
use Rattle.schema.specs.declared.roles.Parent.{Parent}
use Rattle.schema.specs.declared.roles.Parent.TheVariants as parent
use Rattle.schema.proofs.RolesLaws.{element_repeated, element_named}

-- a LIST and a MAP are required or optional
pub repeated_list : (p : Standing) (s : SlotBytes) (fs : Fields) → is_list p s ≡ true → repetition s ≡ REPEATED → rule12 p s fs ≡ false
unfolding rule12 list_kept
repeated_list p s fs l r = rw (l, r)

repeated_map : (p : Standing) (s : SlotBytes) (fs : Fields) → is_map p s ≡ true → repetition s ≡ REPEATED → rule13 p s fs ≡ false
unfolding rule13 map_kept
repeated_map p s fs m r = rw (m, r)

-- so a repeated node that keeps the rules is neither
pub no_list : (edition : ℕ) (p : Standing) (s : SlotBytes) (fs : Fields) → KeepsAt edition p s fs → repetition s ≡ REPEATED → is_list p s ≡ false
no_list edition p s fs h r = by_test (is_list p s) (λ l. absurd (true≢false (sym h.lists ∙ repeated_list p s fs l r))) (λ l. l)

pub no_map : (edition : ℕ) (p : Standing) (s : SlotBytes) (fs : Fields) → KeepsAt edition p s fs → repetition s ≡ REPEATED → is_map p s ≡ false
no_map edition p s fs h r = by_test (is_map p s) (λ m. absurd (true≢false (sym h.maps ∙ repeated_map p s fs m r))) (λ m. m)

module _ (list layer s : SlotBytes) (fs : Fields) (g : is_group (physical layer) ≡ true) (l : repetition layer ≡ REPEATED) where
  -- a field that is neither repeated, required nor optional is no element, where its layer is not so named
  pub no_element : (p : Standing) → is_list p list ≡ true → named_element list layer ≡ false → (repetition s ≡ REPEATED → ⊥) → is_required_or_optional (repetition s) ≡ false → rule12 p list (field (node layer (field (node s fs) empty)) empty) ≡ false
  unfolding rule12 list_kept list_run list_child holds_element
  no_element p k n r o =
      by_test (is_required_or_optional (repetition list)) (λ q. rw (k, q, l, g, element_named list layer s fs (ne_eqb _ _ r), n, o)) (λ q. rw (k, q))

  module _ (r : repetition s ≡ REPEATED) where
    -- no 12 at the LIST
    pub repeated_kept : (p : Standing) → is_required_or_optional (repetition list) ≡ true → rule12 p list (field (node layer (field (node s fs) empty)) empty) ≡ true
    unfolding rule12 list_kept list_run list_child
    repeated_kept p q = rw (q, l, g, element_repeated list layer s fs (eq-eqb _ _ r), or-true)

    -- the roles below a LIST, which is q to its parent
    module _ (q : Parent) (above : SlotBytes) (k : (kind (is_map_parent q) list).kind ≡ logical.LIST) where
      list_parent : (gs : Fields) → parent_of q above list gs ≡ parent.List
      unfolding parent_of parent_by
      list_parent gs = rw k

      pub layer_role : (gs : Fields) → role (parent_of q above list gs) list layer (field (node s fs) empty) ≡ ELEMENT_LAYER
      unfolding role list_role
      layer_role gs = rw (list_parent gs, g, element_repeated list layer s fs (eq-eqb _ _ r))

      module _ (edition : ℕ) (h : KeepsAt edition Field layer (field (node s fs) empty)) (gs : Fields) where
        layer_parent : parent_of (parent_of q above list gs) list layer (field (node s fs) empty) ≡ parent.Other
        unfolding parent_of parent_by is_list is_map
        layer_parent =
            rw (layer_role gs, list_parent gs, no_list edition Field layer (field (node s fs) empty) h l, no_map edition Field layer (field (node s fs) empty) h l)

        pub field_role : role (parent_of (parent_of q above list gs) list layer (field (node s fs) empty)) layer s fs ≡ BARE_REPEATED
        unfolding role
        field_role = rw (layer_parent, r)
