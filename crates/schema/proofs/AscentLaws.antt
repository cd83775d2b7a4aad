-- What a node is to its fields, in terms of what stands above them, and that each role is given exactly where its sentence holds (`specs/Roles`).
use Prim.Native.Nat.{ℕ, zero, suc, ◌<◌}
use mathlib.Core.Path.{◌≡◌, refl, sym, ap, ◌∙◌, subst}
use mathlib.Core.Bool.{Bool, true, false, true≢false, false≢true, ◌&&◌}
use mathlib.Core.List.{[], ◌∷◌, ◌++◌}
use mathlib.Core.Logic.{◌⊎◌, inl, inr, ◌↔◌}
use native.Mathlib.Omega.{arith}
use borrow.Author.Tests.{eq-eqb, ne_eqb, eqb-true, eqb-false}
use lib.Dec.{eqb}
use Rattle.laws.proofs.BoolLaws.{by_test, and_left, and_right, implied}
use Rattle.parquet.specs.Physical.{GROUP}
use Rattle.parquet.specs.Repetition.{REPEATED}
use Rattle.parquet.specs.Logical as logical
use Rattle.sheet.specs.Name.{same_bytes}
use Rattle.sheet.specs.Slot.{physical, repetition, name}
use Rattle.sheet.proofs.NameLaws.{same_bytes_equal, same_bytes_true}
use Rattle.tree.specs.Annotated.{kind}
use Rattle.tree.specs.Tree.{SlotBytes, Fields, node, empty, field, slot_of}
use Rattle.tree.specs.Rules.{is_group, is_required_or_optional, under_map_of, is_list, is_map, array_name, tuple_suffix, named_element, is_repeated, is_element_group, list_child, list_run, list_kept, rule12, key_value, map_run, map_kept, rule13, KeepsAt}
use Rattle.tree.specs.declared.standing.Standing.{Standing}
use Rattle.schema.specs.Rows.{is_map_parent, LIST_LAYER, KEY_VALUE_LAYER, list_role, role, parent_by, parent_of, after_first}
use Rattle.schema.specs.Roles.{Step, Ascent, is_resolved_map, HasKind, IsElementGroup, several, array, tuple, single, IsListLayer, IsElement, IsElementLayer, IsKeyValueLayer, IsKey, IsValue, HasLayerRole, list_layer, element, element_layer, key_value_layer, key, value, IsBareRepeated, IsField}
use Rattle.schema.specs.declared.roles.Parent.{Parent}
use Rattle.schema.specs.declared.roles.Parent.TheVariants as parent
use Rattle.schema.proofs.RepeatedFieldLaws.{no_list, no_map}
use Rattle.schema.proofs.RewrittenRowsLaws.{map_after}

-- the element's group --------------------------------------------------------------------------------------------------------

named_either : (list layer : SlotBytes) → named_element list layer ≡ true → (name layer ≡ array_name) ⊎ (name layer ≡ name list ++ tuple_suffix)
unfolding named_element
named_either list layer e =
    by_test (same_bytes (name layer) array_name) (λ a. inl (same_bytes_equal (name layer) array_name a))
    (λ a. inr (same_bytes_equal (name layer) (name list ++ tuple_suffix) (rw a at e)))

either_named : (list layer : SlotBytes) → (name layer ≡ array_name) ⊎ (name layer ≡ name list ++ tuple_suffix) → named_element list layer ≡ true
unfolding named_element
either_named list layer (inl a) = rw (same_bytes_true (name layer) array_name a)
either_named list layer (inr a) =
    by_test (same_bytes (name layer) array_name) (λ b. rw b) (λ b. rw (b, same_bytes_true (name layer) (name list ++ tuple_suffix) a))

element_group : (list layer : SlotBytes) (fs : Fields) → is_element_group list layer fs ≡ true → IsElementGroup list layer fs
unfolding is_element_group is_repeated
element_group list layer empty e = absurd (false≢true e)
element_group list layer (field (node s gs) empty) e =
    by_test (named_element list layer) (λ n. named (named_either list layer n)) (λ n. single (node s gs) (eqb-true (repetition s) REPEATED (rw n at e)))
  where
    named : (name layer ≡ array_name) ⊎ (name layer ≡ name list ++ tuple_suffix) → IsElementGroup list layer (field (node s gs) empty)
    named (inl a) = array (node s gs) a
    named (inr a) = tuple (node s gs) a
element_group list layer (field t (field u fs)) e = several t u fs

group_element : (list layer : SlotBytes) (fs : Fields) → IsElementGroup list layer fs → is_element_group list layer fs ≡ true
unfolding is_element_group is_repeated
group_element list layer _ (several t u fs) = refl
group_element list layer _ (array t a) = rw (either_named list layer (inl a))
group_element list layer _ (tuple t a) = rw (either_named list layer (inr a))
group_element list layer _ (single (node s gs) r) =
    by_test (named_element list layer) (λ n. rw n) (λ n. rw (n, eq-eqb (repetition s) REPEATED r))

-- what a parent stands for ---------------------------------------------------------------------------------------------------

-- a node is this to its field at a place
abbrev Says : Parent → ℕ → Ascent → Type 0
Says parent.Other i a = Unit {0}
Says parent.List i a = HasKind logical.LIST a
Says parent.ListLayer i a = IsListLayer a
Says parent.Map i a = HasKind logical.MAP a
Says parent.KeyValue i a = IsKeyValueLayer a × (i ≡ 0)
Says parent.KeyValueRest i a = IsKeyValueLayer a × (0 < i)

-- the slot of the node that stands there, if any
abbrev IsSlot : SlotBytes → Ascent → Type 0
IsSlot above [] = Unit {0}
IsSlot above (n ∷ a) = slot_of n.tree ≡ above

-- the node above is this to its field at a place, and nothing else
pub record Under (q : Parent) (i : ℕ) (above : SlotBytes) (a : Ascent) : Type 0 where
  pub says : Says q i a
  pub list : HasKind logical.LIST a → q ≡ parent.List
  pub map : HasKind logical.MAP a → q ≡ parent.Map
  pub layer : IsListLayer a → q ≡ parent.ListLayer
  pub first : IsKeyValueLayer a → i ≡ 0 → q ≡ parent.KeyValue
  pub later : IsKeyValueLayer a → 0 < i → q ≡ parent.KeyValueRest
  pub map_alike : is_map_parent q ≡ is_resolved_map a
  pub slot_is : IsSlot above a

-- nothing stands above the root
pub under_root : (above : SlotBytes) → Under parent.Other 0 above []
unfolding HasKind IsListLayer IsKeyValueLayer is_resolved_map
under_root above =
    record {
      says = tt;
      list = λ h. absurd h;
      map = λ h. absurd h;
      layer = λ h. absurd h;
      first = λ h e. absurd h;
      later = λ h l. absurd h;
      map_alike = refl;
      slot_is = tt;
    }

-- the next field of the same node
says_after : (q : Parent) (i : ℕ) (a : Ascent) → Says q i a → Says (after_first q) (suc i) a
says_after parent.Other i a h = tt
says_after parent.List i a h = h
says_after parent.ListLayer i a h = h
says_after parent.Map i a h = h
says_after parent.KeyValue i a h = (h.0, omega arith)
says_after parent.KeyValueRest i a h = (h.0, omega arith)

pub under_after : (q : Parent) (i : ℕ) (above : SlotBytes) (a : Ascent) → Under q i above a → Under (after_first q) (suc i) above a
under_after q i above a u =
    record {
      says = says_after q i a u.says;
      list = λ h. ap after_first (u.list h);
      map = λ h. ap after_first (u.map h);
      layer = λ h. ap after_first (u.layer h);
      first = λ h e. absurd (omega arith);
      later = λ h l. behind i refl h;
      map_alike = map_after q ∙ u.map_alike;
      slot_is = u.slot_is;
    }
  where
    behind : (j : ℕ) → i ≡ j → IsKeyValueLayer a → after_first q ≡ parent.KeyValueRest
    behind zero e h = ap after_first (u.first h e)
    behind (suc j) e h = ap after_first (u.later h (omega arith))

-- each role exactly where its sentence holds -----------------------------------------------------------------------------------

-- the sentence of each role
abbrev pub Is : ℕ → Ascent → Type 0
Is zero a = IsField a
Is (suc zero) a = IsListLayer a
Is (suc (suc zero)) a = IsElement a
Is (suc (suc (suc zero))) a = IsElementLayer a
Is (suc (suc (suc (suc zero)))) a = IsKeyValueLayer a
Is (suc (suc (suc (suc (suc zero))))) a = IsKey a
Is (suc (suc (suc (suc (suc (suc zero)))))) a = IsValue a
Is (suc (suc (suc (suc (suc (suc (suc zero))))))) a = IsBareRepeated a
Is (suc (suc (suc (suc (suc (suc (suc (suc m)))))))) a = ⊥

-- `Other` is none of the others
abbrev is_other : Parent → Bool
is_other parent.Other = true
is_other parent.List = false
is_other parent.ListLayer = false
is_other parent.Map = false
is_other parent.KeyValue = false
is_other parent.KeyValueRest = false

not_other : (q r : Parent) → is_other q ≡ true → q ≡ r → is_other r ≡ false → ⊥
not_other q r o e f = true≢false (sym o ∙ ap is_other e ∙ f)

-- a list layer, and a layer that is the element, stand below a LIST
list_above : (n : Step) (a : Ascent) → IsListLayer (n ∷ a) → HasKind logical.LIST a
unfolding IsListLayer
list_above n [] h = absurd h
list_above n (l ∷ a) h = h.0

element_above : (n : Step) (a : Ascent) → IsElementLayer (n ∷ a) → HasKind logical.LIST a
unfolding IsElementLayer
element_above n [] h = absurd h
element_above n (l ∷ a) h = h.0

module _ (q : Parent) (i : ℕ) (above : SlotBytes) (a : Ascent) (u : Under q i above a) (s : SlotBytes) (fs : Fields) where
  -- the node in question
  abbrev own : Step
  own = record { index = i; tree = node s fs }

  -- below any other node nothing gives a role
  no_layer : is_other q ≡ true → HasLayerRole (own ∷ a) → ⊥
  unfolding IsElement IsKeyValueLayer IsKey IsValue
  no_layer o (list_layer h) = not_other q parent.List o (u.list (list_above own a h)) refl
  no_layer o (element (inl h)) = not_other q parent.List o (u.list h.0) refl
  no_layer o (element (inr h)) = not_other q parent.ListLayer o (u.layer h) refl
  no_layer o (element_layer h) = not_other q parent.List o (u.list (element_above own a h)) refl
  no_layer o (key_value_layer h) = not_other q parent.Map o (u.map h) refl
  no_layer o (key h) = not_other q parent.KeyValue o (u.first h.0 h.1) refl
  no_layer o (value h) = not_other q parent.KeyValueRest o (u.later h.0 h.1) refl

-- a LIST's child, by what it is
list_child_lem : (i : ℕ) (above : SlotBytes) (a : Ascent) (s : SlotBytes) (fs : Fields) → HasKind logical.LIST a → IsSlot above a → Is (list_role above s fs) (record { index = i; tree = node s fs } ∷ a)
unfolding HasKind list_role IsListLayer IsElement IsElementLayer
list_child_lem i above [] s fs h e = absurd h
list_child_lem i above (l ∷ a) s fs h e =
    by_test (is_group (physical s))
    (λ g. rw g (by_test (is_element_group above s fs) (λ t. rw t (h, eqb-true (physical s) GROUP g, rw e (element_group above s fs t)))
    (λ t. rw t (h, eqb-true (physical s) GROUP g, λ x. true≢false (sym (group_element above s fs (rw e at x)) ∙ t)))))
    (λ g. rw g (inl (h, eqb-false (physical s) GROUP g)))

-- a node's role says its sentence
role_says : (q : Parent) (i : ℕ) (above : SlotBytes) (a : Ascent) → Under q i above a → (s : SlotBytes) (fs : Fields) → Is (role q above s fs) (record { index = i; tree = node s fs } ∷ a)
unfolding role IsElement IsKeyValueLayer IsKey IsValue IsBareRepeated IsField
role_says parent.Other i above a u s fs =
    by_test (eqb (repetition s) REPEATED) (λ r. rw r (eqb-true (repetition s) REPEATED r, no_layer parent.Other i above a u s fs refl))
    (λ r. rw r (eqb-false (repetition s) REPEATED r, no_layer parent.Other i above a u s fs refl))
role_says parent.List i above a u s fs = list_child_lem i above a s fs u.says u.slot_is
role_says parent.ListLayer i above a u s fs = inr u.says
role_says parent.Map i above a u s fs = u.says
role_says parent.KeyValue i above a u s fs = u.says
role_says parent.KeyValueRest i above a u s fs = u.says

-- the role of a LIST's child, where one of the three sentences holds
layer_role : (i : ℕ) (above : SlotBytes) (a : Ascent) (s : SlotBytes) (fs : Fields) → IsSlot above a → IsListLayer (record { index = i; tree = node s fs } ∷ a) → list_role above s fs ≡ 1
unfolding list_role IsListLayer
layer_role i above [] s fs e h = absurd h
layer_role i above (l ∷ a) s fs e h =
    by_test (is_element_group above s fs) (λ t. absurd (h.2 (rw e (element_group above s fs t)))) (λ t. rw (h.1, t))

element_role : (i : ℕ) (above : SlotBytes) (a : Ascent) (s : SlotBytes) (fs : Fields) → IsSlot above a → IsElementLayer (record { index = i; tree = node s fs } ∷ a) → list_role above s fs ≡ 3
unfolding list_role IsElementLayer
element_role i above [] s fs e h = absurd h
element_role i above (l ∷ a) s fs e h = rw (h.1, group_element above s fs (rw e at h.2))

leaf_role : (above s : SlotBytes) (fs : Fields) → (physical s ≡ GROUP → ⊥) → list_role above s fs ≡ 2
unfolding list_role
leaf_role above s fs g = rw (ne_eqb (physical s) GROUP g)

-- a node that some layer above gives a role is below no other
layered : (q : Parent) (i : ℕ) (above : SlotBytes) (a : Ascent) → Under q i above a → (s : SlotBytes) (fs : Fields) → (HasLayerRole (record { index = i; tree = node s fs } ∷ a) → ⊥) → q ≡ parent.Other
unfolding HasKind IsListLayer IsElement IsElementLayer IsKeyValueLayer IsKey IsValue
layered parent.Other i above a u s fs none = refl
layered parent.List i above [] u s fs none = absurd u.says
layered parent.List i above (l ∷ a) u s fs none =
    absurd
    (by_test (is_group (physical s))
    (λ g. by_test (is_element_group above s fs)
    (λ t. none (element_layer (three g t)))
    (λ t. none (list_layer (one g t))))
    (λ g. none (element (inl (u.says, eqb-false (physical s) GROUP g)))))
  where
    three : is_group (physical s) ≡ true → is_element_group above s fs ≡ true → IsElementLayer (record { index = i; tree = node s fs } ∷ (l ∷ a))
    three g t = (u.says, eqb-true (physical s) GROUP g, rw u.slot_is (element_group above s fs t))

    one : is_group (physical s) ≡ true → is_element_group above s fs ≡ false → IsListLayer (record { index = i; tree = node s fs } ∷ (l ∷ a))
    one g t = (u.says, eqb-true (physical s) GROUP g, λ x. true≢false (sym (group_element above s fs (rw u.slot_is at x)) ∙ t))
layered parent.ListLayer i above a u s fs none = absurd (none (element (inr u.says)))
layered parent.Map i above a u s fs none = absurd (none (key_value_layer u.says))
layered parent.KeyValue i above a u s fs none = absurd (none (key u.says))
layered parent.KeyValueRest i above a u s fs none = absurd (none (value u.says))

module _ (q : Parent) (i : ℕ) (above : SlotBytes) (a : Ascent) (u : Under q i above a) (s : SlotBytes) (fs : Fields) where
  by_parent : (r : Parent) (m : ℕ) → q ≡ r → role r above s fs ≡ m → role q above s fs ≡ m
  by_parent r m e h = ap (λ (p : Parent). role p above s fs) e ∙ h

  -- a node of which a sentence holds has its role
  says_role : (m : ℕ) → Is m (record { index = i; tree = node s fs } ∷ a) → role q above s fs ≡ m
  unfolding role IsElement IsKeyValueLayer IsKey IsValue IsBareRepeated IsField
  says_role zero h = by_parent parent.Other 0 (layered q i above a u s fs h.1) (rw (ne_eqb (repetition s) REPEATED h.0))
  says_role (suc zero) h =
      by_parent parent.List 1 (u.list (list_above (record { index = i; tree = node s fs }) a h)) (layer_role i above a s fs u.slot_is h)
  says_role (suc (suc zero)) (inl h) = by_parent parent.List 2 (u.list h.0) (leaf_role above s fs h.1)
  says_role (suc (suc zero)) (inr h) = by_parent parent.ListLayer 2 (u.layer h) refl
  says_role (suc (suc (suc zero))) h =
      by_parent parent.List 3 (u.list (element_above (record { index = i; tree = node s fs }) a h)) (element_role i above a s fs u.slot_is h)
  says_role (suc (suc (suc (suc zero)))) h = by_parent parent.Map 4 (u.map h) refl
  says_role (suc (suc (suc (suc (suc zero))))) h = by_parent parent.KeyValue 5 (u.first h.0 h.1) refl
  says_role (suc (suc (suc (suc (suc (suc zero)))))) h = by_parent parent.KeyValueRest 6 (u.later h.0 h.1) refl
  says_role (suc (suc (suc (suc (suc (suc (suc zero))))))) h = by_parent parent.Other 7 (layered q i above a u s fs h.1) (rw h.0)
  says_role (suc (suc (suc (suc (suc (suc (suc (suc m)))))))) h = absurd h

  -- a role is a number exactly where the sentence of that number holds
  pub role_exactly : (m : ℕ) → (role q above s fs ≡ m) ↔ Is m (record { index = i; tree = node s fs } ∷ a)
  role_exactly m = (λ e. subst (λ (k : ℕ). Is k (record { index = i; tree = node s fs } ∷ a)) e (role_says q i above a u s fs), says_role m)

-- fields of a LIST and of a MAP ------------------------------------------------------------------------------------------------

-- every field of a run is repeated
abbrev pub Repeats : Fields → Type 0
Repeats empty = Unit {0}
Repeats (field t fs) = (repetition (slot_of t) ≡ REPEATED) × Repeats fs

list_repeats : (list : SlotBytes) (fs : Fields) → list_run list fs ≡ true → Repeats fs
unfolding list_run list_child
list_repeats list empty e = tt
list_repeats list (field (node s gs) empty) e = (eqb-true (repetition s) REPEATED (and_left (eqb (repetition s) REPEATED) _ e), tt)
list_repeats list (field t (field v fs)) e = absurd (false≢true e)

-- every field of a run is a repeated group
abbrev pub IsLayer : SlotBytes → Type 0
IsLayer s = (repetition s ≡ REPEATED) × (physical s ≡ GROUP)

abbrev pub Layers : Fields → Type 0
Layers empty = Unit {0}
Layers (field t fs) = IsLayer (slot_of t) × Layers fs

map_layers : (fs : Fields) → map_run fs ≡ true → Layers fs
unfolding map_run
map_layers empty e = tt
map_layers (field (node s gs) empty) e =
    let rest = and_right (eqb (repetition s) REPEATED) (is_group (physical s) && key_value gs) e in
    ((eqb-true (repetition s) REPEATED (and_left (eqb (repetition s) REPEATED) (is_group (physical s) && key_value gs) e), eqb-true (physical s) GROUP (and_left (is_group (physical s)) (key_value gs) rest)), tt)
map_layers (field (node s gs) (field v fs)) e = absurd (false≢true e)

-- what a node is to its fields -------------------------------------------------------------------------------------------------

map_parent : (k r : ℕ) → is_map_parent (parent_by k r) ≡ eqb k logical.MAP
unfolding parent_by
map_parent k r =
    by_test (eqb k logical.LIST)
    (λ l. let e : k ≡ logical.LIST = eqb-true k logical.LIST l in rw e)
    (λ l. by_test (eqb k logical.MAP) (λ m. rw (l, m))
    (λ m. by_test (eqb r LIST_LAYER) (λ x. rw (l, m, x)) (λ x. by_test (eqb r KEY_VALUE_LAYER) (λ y. rw (l, m, x, y)) (λ y. rw (l, m, x, y)))))

module _ (edition : ℕ) (p : Standing) (q : Parent) (i : ℕ) (above : SlotBytes) (a : Ascent) (u : Under q i above a) (s : SlotBytes) (fs : Fields) (keeps : KeepsAt edition p s fs) (alike : under_map_of p ≡ is_map_parent q) (lists : HasKind logical.LIST a → repetition s ≡ REPEATED) (maps : HasKind logical.MAP a → IsLayer s) where
  abbrev mine : Ascent
  mine = record { index = i; tree = node s fs } ∷ a

  abbrev K : ℕ
  K = (kind (is_map_parent q) s).kind

  abbrev R : ℕ
  R = role q above s fs

  kind_here : (code : ℕ) → HasKind code mine → K ≡ code
  unfolding HasKind
  kind_here code h = subst (λ (b : Bool). (kind b s).kind ≡ code) (sym u.map_alike) h

  here_kind : (code : ℕ) → K ≡ code → HasKind code mine
  unfolding HasKind
  here_kind code h = subst (λ (b : Bool). (kind b s).kind ≡ code) u.map_alike h

  -- a layer is repeated, and so neither a LIST nor a MAP
  neither : repetition s ≡ REPEATED → (eqb K logical.LIST ≡ false) × (eqb K logical.MAP ≡ false)
  unfolding is_list is_map
  neither r = (
    subst (λ (b : Bool). eqb (kind b s).kind logical.LIST ≡ false) alike (no_list edition p s fs keeps r),
    subst (λ (b : Bool). eqb (kind b s).kind logical.MAP ≡ false) alike (no_map edition p s fs keeps r),
  )

  parent_says : Says (parent_by K R) 0 mine
  unfolding parent_by
  parent_says =
      by_test (eqb K logical.LIST) (λ l. rw l (here_kind logical.LIST (eqb-true K logical.LIST l)))
      (λ l. by_test (eqb K logical.MAP) (λ m. rw (l, m) (here_kind logical.MAP (eqb-true K logical.MAP m)))
      (λ m. by_test (eqb R LIST_LAYER) (λ x. rw (l, m, x) ((role_exactly q i above a u s fs 1).0 (eqb-true R 1 x)))
      (λ x. by_test (eqb R KEY_VALUE_LAYER) (λ y. rw (l, m, x, y) ((role_exactly q i above a u s fs 4).0 (eqb-true R 4 y), refl)) (λ y. rw (l, m, x, y) tt))))

  pub under_below : Under (parent_of q above s fs) 0 s mine
  unfolding parent_of parent_by is_resolved_map IsKeyValueLayer
  under_below =
      record {
        says = parent_says;
        list = λ h. rw (kind_here logical.LIST h);
        map = λ h. rw (kind_here logical.MAP h);
        layer = λ h. let n = neither (lists (list_above (record { index = i; tree = node s fs }) a h)) in rw (n.0, n.1, (role_exactly q i above a u s fs 1).1 h);
        first = λ h e. let n = neither (maps h).0 in rw (n.0, n.1, (role_exactly q i above a u s fs 4).1 h);
        later = λ h l. absurd (omega arith);
        map_alike = map_parent K R ∙ ap (λ (b : Bool). eqb (kind b s).kind logical.MAP) u.map_alike;
        slot_is = refl;
      }

  -- every field of a LIST is repeated, and every field of a MAP is a repeated group
  pub list_fields : HasKind logical.LIST mine → Repeats fs
  unfolding rule12 list_kept is_list
  list_fields h =
      let l : is_list p s ≡ true = subst (λ (b : Bool). eqb (kind b s).kind logical.LIST ≡ true) (sym alike) (eq-eqb K logical.LIST (kind_here logical.LIST h)) in
      list_repeats s fs (and_right (is_required_or_optional (repetition s)) (list_run s fs) (implied (is_list p s) (list_kept s fs) keeps.lists l))

  pub map_fields : HasKind logical.MAP mine → Layers fs
  unfolding rule13 map_kept is_map
  map_fields h =
      let m : is_map p s ≡ true = subst (λ (b : Bool). eqb (kind b s).kind logical.MAP ≡ true) (sym alike) (eq-eqb K logical.MAP (kind_here logical.MAP h)) in
      map_layers fs (and_right (is_required_or_optional (repetition s)) (map_run fs) (implied (is_map p s) (map_kept s fs) keeps.maps m))
