-- Rules 12 and 13 by a node's numbers, those of the nodes behind it, and how many fields these have.
use Prim.Native.Nat.{ℕ, suc, ◌+◌, ◌≤◌, ◌<◌, zero-le}
use mathlib.Core.Path.{◌≡◌, refl, sym, ap, ◌∙◌}
use mathlib.Core.Bool.{Bool, true, false, ◌||◌, and-false, or-true, or-false}
use mathlib.Core.Logic.{◌⊎◌, inl, inr}
use native.Mathlib.Nat.{eq-or-lt_of_le}
use native.Mathlib.Numerals.{add-one}
use mathlib.Core.List.{List}
use native.Mathlib.Omega.{arith}
use borrow.Author.Tests.{eq-eqb, ne_eqb, eqb-true, eqb-false}
use lib.ListN.{drop}
use lib.Dec.{eqb}
use Rattle.laws.proofs.BoolLaws.{by_test}
use Rattle.sheet.specs.Block.{total_of}
use Rattle.sheet.specs.Slot.{physical, repetition, child_count, slots, slot_at}
use Rattle.sheet.specs.declared.slots.Slot.{Slot as Numbers}
use Rattle.parquet.specs.Repetition.{REQUIRED, REPEATED}
use Rattle.parquet.specs.Physical as physical
use Rattle.tree.specs.Reading.{trees}
use Rattle.tree.specs.Steps.{Claimed, Visited, tree_at, run_at, fields_at, last_from, last_of, inner_from}
use Rattle.tree.proofs.StandingLaws.{run_at_suc, run_at_zero, run_at_end, size_positive}
use Rattle.tree.proofs.VisitLaws.{tree_at_slot, count_fields_at, fields_at_first, first_below, rest_claimed, repetition_at_lem, physical_at_lem, children_at}
use Rattle.tree.specs.Tree.{SlotBytes, Tree, Fields, node, empty, field, count, size}
use Rattle.tree.specs.Layer.{layer_of, is_element_by, holds_by}
use Rattle.tree.specs.declared.layer.Layer.{Layer}
use Rattle.tree.specs.Rules.{is_group, is_required_or_optional, named_element, is_repeated, is_element_group, holds_element, list_child, list_run, list_kept, key_value, map_run, map_kept}

-- a run by how many fields it has
pub run_none : (fs : Fields) → count fs ≡ 0 → fs ≡ empty
unfolding count
run_none empty e = refl
run_none (field t fs) e = absurd (omega arith)

pub run_many : (fs : Fields) → 2 ≤ count fs → (t : Tree) × (u : Tree) × (gs : Fields) × (fs ≡ field t (field u gs))
unfolding count
run_many empty h = absurd (omega arith)
run_many (field t empty) h = absurd (omega arith)
run_many (field t (field u gs)) h = (t, u, gs, refl)

-- a LIST has one child
pub list_run_none : (list : SlotBytes) (fs : Fields) → count fs ≡ 0 → list_run list fs ≡ false
unfolding list_run
list_run_none list fs e = rw (run_none fs e)

pub list_run_many : (list : SlotBytes) (fs : Fields) → 2 ≤ count fs → list_run list fs ≡ false
unfolding list_run
list_run_many list fs h = rw (run_many fs h).3

pub list_run_one : (list : SlotBytes) (t : Tree) → list_run list (field t empty) ≡ list_child list t
unfolding list_run
list_run_one list t = refl

module _ (list s : SlotBytes) (fs : Fields) where
  pub list_child_single : eqb (repetition s) REPEATED ≡ false → list_child list (node s fs) ≡ false
  unfolding list_child
  list_child_single r = rw r

  module _ (r : eqb (repetition s) REPEATED ≡ true) where
    pub list_child_leaf : is_group (physical s) ≡ false → list_child list (node s fs) ≡ true
    unfolding list_child
    list_child_leaf g = rw (r, g)

    pub list_child_group : is_group (physical s) ≡ true → list_child list (node s fs) ≡ (is_element_group list s fs || holds_element fs)
    unfolding list_child
    list_child_group g = rw (r, g)

-- a MAP has one child
pub map_run_none : (fs : Fields) → count fs ≡ 0 → map_run fs ≡ false
unfolding map_run
map_run_none fs e = rw (run_none fs e)

node_parts : (t : Tree) → (s : SlotBytes) × (fs : Fields) × (t ≡ node s fs)
node_parts (node s fs) = (s, fs, refl)

pub map_run_many : (fs : Fields) → 2 ≤ count fs → map_run fs ≡ false
unfolding map_run
map_run_many fs h = rw ((run_many fs h).3, (node_parts (run_many fs h).0).2)

-- a repeated group
module _ (s : SlotBytes) (fs : Fields) where
  pub map_run_single : eqb (repetition s) REPEATED ≡ false → map_run (field (node s fs) empty) ≡ false
  unfolding map_run
  map_run_single r = rw r

  pub map_run_leaf : eqb (repetition s) REPEATED ≡ true → is_group (physical s) ≡ false → map_run (field (node s fs) empty) ≡ false
  unfolding map_run
  map_run_leaf r g = rw (r, g)

  pub map_run_group : eqb (repetition s) REPEATED ≡ true → is_group (physical s) ≡ true → map_run (field (node s fs) empty) ≡ key_value fs
  unfolding map_run
  map_run_group r g = rw (r, g)

-- of one or two fields
pub key_value_none : (fs : Fields) → count fs ≡ 0 → key_value fs ≡ false
unfolding key_value
key_value_none fs e = rw (run_none fs e)

pub key_value_many : (fs : Fields) → 3 ≤ count fs → key_value fs ≡ false
unfolding key_value count
key_value_many empty h = absurd (omega arith)
key_value_many (field t empty) h = absurd (omega arith)
key_value_many (field t (field u empty)) h = absurd (omega arith)
key_value_many (field (node k ks) (field (node v vs) (field u fs))) h = refl

pub key_value_key : (k : SlotBytes) (ks : Fields) → key_value (field (node k ks) empty) ≡ eqb (repetition k) REQUIRED
unfolding key_value
key_value_key k ks = refl

pub key_value_both : (k v : SlotBytes) (ks vs : Fields) → eqb (repetition k) REQUIRED ≡ true → key_value (field (node k ks) (field (node v vs) empty)) ≡ is_required_or_optional (repetition v)
unfolding key_value
key_value_both k v ks vs r = rw r

pub key_value_optional : (k v : SlotBytes) (ks vs : Fields) → eqb (repetition k) REQUIRED ≡ false → key_value (field (node k ks) (field (node v vs) empty)) ≡ false
unfolding key_value
key_value_optional k v ks vs r = rw r

-- a node that is read, by its numbers
module _ (b : List ℕ) (at : ℕ) (s : Numbers) (v : Visited b at s) where
  pub own_count : count (fields_at b at) ≡ s.children
  own_count = count_fields_at b at v.claimed v.below ∙ sym (children_at b at s v.numbers)

  tree_is : tree_at (slots b) at ≡ node (slot_at b at) (fields_at b at)
  tree_is = tree_at_slot b at v.claimed v.below

  single : (s.repetition ≡ REPEATED → ⊥) → eqb (repetition (slot_at b at)) REPEATED ≡ false
  single n = ne_eqb _ _ (λ q. n (repetition_at_lem b at s v.numbers ∙ q))

  repeats : s.repetition ≡ REPEATED → eqb (repetition (slot_at b at)) REPEATED ≡ true
  repeats q = eq-eqb _ _ (sym (repetition_at_lem b at s v.numbers) ∙ q)

  pub leaf : (s.physical ≡ physical.GROUP → ⊥) → is_group (physical (slot_at b at)) ≡ false
  leaf n = ne_eqb _ _ (λ q. n (physical_at_lem b at s v.numbers ∙ q))

  pub group : s.physical ≡ physical.GROUP → is_group (physical (slot_at b at)) ≡ true
  group q = eq-eqb _ _ (sym (physical_at_lem b at s v.numbers) ∙ q)

  -- the one field of a group that has one
  pub only_field : s.children ≡ 1 → fields_at b at ≡ field (node (slot_at b (suc at)) (fields_at b (suc at))) empty
  only_field q =
      let claim : child_count (slot_at b at) ≡ 1 = sym (children_at b at s v.numbers) ∙ q in
      fields_at_first b at v.claimed v.below 0 claim
      ∙ rw (tree_at_slot b (suc at) v.claimed (first_below b at v.claimed v.below 0 claim), run_at_zero)

  -- what is read of a LIST's repeated group tells whether it is the element, and whether its one field is

  abbrev layer_at : Layer
  layer_at = layer_of s.children (repetition (slot_at b (suc at)))

  several : (s.children ≡ 0 → ⊥) → (s.children ≡ 1 → ⊥) → 2 ≤ count (fields_at b at)
  several p q = omega (arith, own_count)

  pub element_at : (list : SlotBytes) → is_element_group list (slot_at b at) (fields_at b at) ≡ is_element_by layer_at (named_element list (slot_at b at))
  unfolding is_element_group is_repeated layer_of is_element_by
  element_at list =
      by_test (eqb s.children 0) (λ z. rw (z, run_none (fields_at b at) (own_count ∙ eqb-true s.children 0 z)))
      (λ z. by_test (eqb s.children 1)
      (λ q. rw (z, q, only_field (eqb-true s.children 1 q))
      (by_test (eqb (repetition (slot_at b (suc at))) REPEATED) (λ r. rw (r, or-true)) (λ r. rw (r, or-false))))
      (λ q. rw (z, q, (run_many (fields_at b at) (several (eqb-false s.children 0 z) (eqb-false s.children 1 q))).3)))

  pub held_at : holds_element (fields_at b at) ≡ holds_by layer_at (repetition (slot_at b (suc at)))
  unfolding holds_element layer_of holds_by
  held_at =
      by_test (eqb s.children 0) (λ z. rw (z, run_none (fields_at b at) (own_count ∙ eqb-true s.children 0 z)))
      (λ z. by_test (eqb s.children 1)
      (λ q. rw (z, q, only_field (eqb-true s.children 1 q))
      (by_test (eqb (repetition (slot_at b (suc at))) REPEATED) (λ r. rw (r, eqb-true (repetition (slot_at b (suc at))) REPEATED r)) (λ r. rw r)))
      (λ q. let m = run_many (fields_at b at) (several (eqb-false s.children 0 z) (eqb-false s.children 1 q)) in rw (z, q, m.3, (node_parts m.0).2)))

-- rule 12 at the child of a LIST, and rule 13 at the child of a MAP: no repeated group
module _ (b : List ℕ) (layer : ℕ) (s : Numbers) (v : Visited b layer s) where
  pub child_single : (list : SlotBytes) → (s.repetition ≡ REPEATED → ⊥) → false ≡ list_child list (tree_at (slots b) layer)
  child_single list r = sym (rw (tree_is b layer s v) (list_child_single list (slot_at b layer) (fields_at b layer) (single b layer s v r)))

  pub child_leaf : (list : SlotBytes) → s.repetition ≡ REPEATED → (s.physical ≡ physical.GROUP → ⊥) → true ≡ list_child list (tree_at (slots b) layer)
  child_leaf list r g = sym (rw (tree_is b layer s v) (list_child_leaf list (slot_at b layer) (fields_at b layer) (repeats b layer s v r) (leaf b layer s v g)))

  pub layer_single : (s.repetition ≡ REPEATED → ⊥) → false ≡ map_run (field (tree_at (slots b) layer) empty)
  layer_single r = sym (rw (tree_is b layer s v) (map_run_single (slot_at b layer) (fields_at b layer) (single b layer s v r)))

  pub layer_leaf : s.repetition ≡ REPEATED → (s.physical ≡ physical.GROUP → ⊥) → false ≡ map_run (field (tree_at (slots b) layer) empty)
  layer_leaf r g = sym (rw (tree_is b layer s v) (map_run_leaf (slot_at b layer) (fields_at b layer) (repeats b layer s v r) (leaf b layer s v g)))

-- a repeated group, as it is read
pub record RepeatedGroup (b : List ℕ) (layer : ℕ) (s : Numbers) : Type 0 where
  pub visited : Visited b layer s
  pub repeated : s.repetition ≡ REPEATED
  pub grouped : s.physical ≡ physical.GROUP

module _ (b : List ℕ) (layer : ℕ) (s : Numbers) (w : RepeatedGroup b layer s) where
  abbrev fields : Fields
  fields = fields_at b layer

  h : Claimed b
  h = w.visited.claimed

  l : layer < total_of b
  l = w.visited.below

  count_is : count fields ≡ s.children
  count_is = own_count b layer s w.visited

  tree_here : tree_at (slots b) layer ≡ node (slot_at b layer) fields
  tree_here = tree_is b layer s w.visited

  is_repeated_lem : eqb (repetition (slot_at b layer)) REPEATED ≡ true
  is_repeated_lem = repeats b layer s w.visited w.repeated

  is_group_lem : is_group (physical (slot_at b layer)) ≡ true
  is_group_lem = group b layer s w.visited w.grouped

  -- rule 12
  module _ (list : SlotBytes) where
    pub child_by : list_child list (tree_at (slots b) layer) ≡ (is_element_by (layer_at b layer s w.visited) (named_element list (slot_at b layer)) || holds_by (layer_at b layer s w.visited) (repetition (slot_at b (suc layer))))
    child_by =
        rw (tree_here, ← element_at b layer s w.visited list, ← held_at b layer s w.visited)
        (list_child_group list (slot_at b layer) fields is_repeated_lem is_group_lem)

  -- rule 13
  layer_group : map_run (field (tree_at (slots b) layer) empty) ≡ key_value fields
  layer_group = rw tree_here (map_run_group (slot_at b layer) fields is_repeated_lem is_group_lem)

  -- of no field, or of more than two
  pub layer_other : (s.children ≡ 1 → ⊥) → (s.children ≡ 2 → ⊥) → false ≡ map_run (field (tree_at (slots b) layer) empty)
  layer_other one two = by_test (eqb s.children 0) (λ z. sym (layer_group ∙ key_value_none fields (count_is ∙ eqb-true s.children 0 z))) (λ z. let some = eqb-false s.children 0 z in sym (layer_group ∙ key_value_many fields (omega (arith, count_is))))

  -- a key alone
  pub layer_key : s.children ≡ 1 → map_run (field (tree_at (slots b) layer) empty) ≡ eqb (repetition (slot_at b (suc layer))) REQUIRED
  layer_key q = layer_group ∙ rw (only_field b layer s w.visited q) (key_value_key (slot_at b (suc layer)) (fields_at b (suc layer)))

  module _ (q : s.children ≡ 2) where
    claim : child_count (slot_at b layer) ≡ 2
    claim = sym (children_at b layer s w.visited.numbers) ∙ q

    value : ℕ
    value = suc layer + size (tree_at (slots b) (suc layer))

    value_claimed : 1 ≤ count (trees (drop value (slots b)))
    unfolding value
    value_claimed = rest_claimed b layer h l 1 claim

    value_last : last_of layer (tree_at (slots b) layer) ≡ value
    unfolding last_of last_from value
    value_last = rw (tree_here, fields_at_first b layer h l 1 claim, run_at_suc (slots b) value 0 h.claims value_claimed, run_at_zero)

    value_below : value < total_of b
    value_below =
        let p = size_positive (tree_at (slots b) value) in
        omega (arith, h.total, run_at_end (slots b) value 0 h.claims value_claimed)

    two_fields : fields ≡ field (node (slot_at b (suc layer)) (fields_at b (suc layer))) (field (node (slot_at b value) (fields_at b value)) empty)
    unfolding value
    two_fields =
        fields_at_first b layer h l 1 claim
        ∙ ap (λ (t : Tree). field t (run_at (slots b) value 1)) (tree_at_slot b (suc layer) h (first_below b layer h l 1 claim))
        ∙ ap (field (node (slot_at b (suc layer)) (fields_at b (suc layer))))
        (run_at_suc (slots b) value 0 h.claims value_claimed
        ∙ rw (tree_at_slot b value h value_below, run_at_zero))

    pub layer_optional : eqb (repetition (slot_at b (suc layer))) REQUIRED ≡ false → false ≡ map_run (field (tree_at (slots b) layer) empty)
    layer_optional k = sym (layer_group ∙ rw two_fields (key_value_optional (slot_at b (suc layer)) (slot_at b value) (fields_at b (suc layer)) (fields_at b value) k))

    pub layer_both : eqb (repetition (slot_at b (suc layer))) REQUIRED ≡ true → map_run (field (tree_at (slots b) layer) empty) ≡ is_required_or_optional (repetition (slot_at b (last_of layer (tree_at (slots b) layer))))
    layer_both k =
        layer_group
        ∙ rw two_fields (key_value_both (slot_at b (suc layer)) (slot_at b value) (fields_at b (suc layer)) (fields_at b value) k)
        ∙ ap (λ (i : ℕ). is_required_or_optional (repetition (slot_at b i))) (sym value_last)

-- rules 12 and 13 at the LIST or the MAP itself, which has one child
module _ (b : List ℕ) (at : ℕ) (s : Numbers) (v : Visited b at s) where
  pub one_below : s.children ≡ 1 → at + 1 < total_of b
  one_below q = omega (arith, first_below b at v.claimed v.below 0 (sym (children_at b at s v.numbers) ∙ q))

  one_field : s.children ≡ 1 → fields_at b at ≡ field (tree_at (slots b) (suc at)) empty
  one_field q = fields_at_first b at v.claimed v.below 0 (sym (children_at b at s v.numbers) ∙ q) ∙ rw run_at_zero

  neither : is_required_or_optional s.repetition ≡ false → is_required_or_optional (repetition (slot_at b at)) ≡ false
  neither n = ap is_required_or_optional (sym (repetition_at_lem b at s v.numbers)) ∙ n

  either : is_required_or_optional s.repetition ≡ true → is_required_or_optional (repetition (slot_at b at)) ≡ true
  either n = ap is_required_or_optional (sym (repetition_at_lem b at s v.numbers)) ∙ n

  not_one : (p : Fields → Bool) → ((fs : Fields) → count fs ≡ 0 → p fs ≡ false) → ((fs : Fields) → 2 ≤ count fs → p fs ≡ false) → (s.children ≡ 1 → ⊥) → p (fields_at b at) ≡ false
  not_one p none many q = on (eq-or-lt_of_le (zero-le {n = s.children}))
    where
      on : (0 ≡ s.children) ⊎ (0 < s.children) → p (fields_at b at) ≡ false
      on (inl z) = none (fields_at b at) (own_count b at s v ∙ sym z)
      on (inr m) = many (fields_at b at) (omega (arith, own_count b at s v))

  pub list_neither : is_required_or_optional s.repetition ≡ false → false ≡ list_kept (slot_at b at) (fields_at b at)
  unfolding list_kept
  list_neither n = rw (neither n)

  pub list_not_one : (s.children ≡ 1 → ⊥) → false ≡ list_kept (slot_at b at) (fields_at b at)
  unfolding list_kept
  list_not_one q = sym (rw (not_one (list_run (slot_at b at)) (list_run_none (slot_at b at)) (list_run_many (slot_at b at)) q) (and-false (is_required_or_optional (repetition (slot_at b at)))))

  pub list_one : is_required_or_optional s.repetition ≡ true → s.children ≡ 1 → list_kept (slot_at b at) (fields_at b at) ≡ list_child (slot_at b at) (tree_at (slots b) (at + 1))
  unfolding list_kept
  list_one n q = rw (either n, one_field q, add-one) (list_run_one (slot_at b at) (tree_at (slots b) (suc at)))

  pub map_neither : is_required_or_optional s.repetition ≡ false → false ≡ map_kept (slot_at b at) (fields_at b at)
  unfolding map_kept
  map_neither n = rw (neither n)

  pub map_not_one : (s.children ≡ 1 → ⊥) → false ≡ map_kept (slot_at b at) (fields_at b at)
  unfolding map_kept
  map_not_one q = sym (rw (not_one map_run map_run_none map_run_many q) (and-false (is_required_or_optional (repetition (slot_at b at)))))

  pub map_one : is_required_or_optional s.repetition ≡ true → s.children ≡ 1 → map_kept (slot_at b at) (fields_at b at) ≡ map_run (field (tree_at (slots b) (at + 1)) empty)
  unfolding map_kept
  map_one n q = rw (either n, one_field q, add-one)

  -- where the last field of the one child stands
  pub map_inner : s.children ≡ 1 → inner_from (suc at) (suc at) (fields_at b at) ≡ last_of (at + 1) (tree_at (slots b) (at + 1))
  unfolding inner_from
  map_inner q = rw (one_field q, add-one)
