-- The tree of a rewritten sheet: it has the nodes, depths, claims, rules and rows of the sheet's own tree, and is rewritten to itself.
use Prim.Native.Nat.{ℕ, suc, ◌≤◌}
use mathlib.Core.Path.{◌≡◌, refl, sym, ap, ap₂, ◌∙◌, subst}
use mathlib.Core.Bool.{Bool, true, false, ◌&&◌, ◌||◌, or-true}
use mathlib.Core.List.{List, ◌∷◌, ◌++◌}
use borrow.Author.Tests.{eqb-true}
use lib.Dec.{eqb}
use lib.ListN.{length}
use Rattle.laws.proofs.BoolLaws.{and_both}
use Rattle.sheet.specs.Slot.{child_count_at, physical as physicalOf, repetition, converted as convertedOf, logical as logicalOf, scale, precision, name, numbers_of}
use Rattle.parquet.specs.Repetition as repetition
use Rattle.parquet.specs.Converted as converted
use Rattle.parquet.specs.Logical as logical
use Rattle.annotation.specs.Rewriting.{rewritten as rewrittenNumbers}
use Rattle.annotation.proofs.PlacementLaws.{ten_placed}
use Rattle.annotation.proofs.RewritingLaws.{written_plain, decimal_rewritten}
use Rattle.annotation.specs.declared.resolution.Kind.{Kind}
use Rattle.annotation.specs.declared.slot.Annotated.{Annotated}
use Rattle.annotation.specs.declared.rewriting.Written.{Written}
use Rattle.annotation.specs.declared.rewriting.Written.{Written}
use Rattle.tree.specs.Annotated.{annotated, rule9, rule10}
use Rattle.tree.specs.Tree.{SlotBytes, Tree, Fields, node, empty, field, count, depths, run_depths, Claims, ClaimsAll}
use Rattle.tree.specs.Rules.{is_group, is_required_or_optional, under_map_of, is_list, is_map, standing_under, standing_below, root_shape, standing_shape, length_shape, decimal_shape, shape, rule8, named_element, is_repeated, is_element_group, holds_element, list_child, list_run, list_kept, rule12, key_value, map_run, map_kept, rule13, KeepsAt, Keeps, KeepsAll}
use Rattle.schema.specs.Rewriting.{rewritings, run_rewritings}
use Rattle.tree.specs.declared.standing.Standing.{Standing}
use Rattle.tree.specs.declared.standing.Standing.TheVariants.{Root, Field, MapField}
use Rattle.schema.specs.Demand.{Copied}
use Rattle.schema.proofs.RewrittenSlotLaws.{rewritten_slot, slot_copied, Resolves, annotated_rewritten, kind_rewritten, resolves_rewritten, rewriting_rewritten}

unfoldable mutual
  -- the tree of what is rewritten at each node
  pub rewritten_tree : Standing → Tree → Tree
  rewritten_tree p (node s fs) = node (rewritten_slot (under_map_of p) s) (rewritten_run (standing_below p s) fs)

  pub rewritten_run : Standing → Fields → Fields
  rewritten_run p empty = empty
  rewritten_run p (field t fs) = field (rewritten_tree p t) (rewritten_run p fs)

-- as many fields
count_rewritten : (fs : Fields) (p : Standing) → count (rewritten_run p fs) ≡ count fs
unfolding rewritten_run count
count_rewritten empty p = refl
count_rewritten (field t fs) p = ap suc (count_rewritten fs p)

mutual
  unfolding rewritten_tree depths

  -- at the same depths
  pub depths_rewritten : (t : Tree) (p : Standing) (d : ℕ) → depths d (rewritten_tree p t) ≡ depths d t
  depths_rewritten (node s fs) p d = ap (λ (ds : List ℕ). d ∷ ds) (run_depths_rewritten fs (standing_below p s) (suc d))

  run_depths_rewritten : (fs : Fields) (p : Standing) (d : ℕ) → run_depths d (rewritten_run p fs) ≡ run_depths d fs
  run_depths_rewritten empty p d = refl
  run_depths_rewritten (field t fs) p d = ap₂ ◌++◌ (depths_rewritten t p d) (run_depths_rewritten fs p d)

mutual
  unfolding rewritten_tree Claims

  -- that claim rightly
  pub claims_rewritten : (t : Tree) (p : Standing) → Claims t → Claims (rewritten_tree p t)
  claims_rewritten (node s fs) p c = (
    (slot_copied (under_map_of p) s).child_count_is ∙ c.0 ∙ sym (count_rewritten fs (standing_below p s)),
    claims_all_rewritten fs (standing_below p s) c.1,
  )

  claims_all_rewritten : (fs : Fields) (p : Standing) → ClaimsAll fs → ClaimsAll (rewritten_run p fs)
  claims_all_rewritten empty p c = tt
  claims_all_rewritten (field t fs) p c = (claims_rewritten t p c.0, claims_all_rewritten fs p c.1)

-- rules 12 and 13 look at what is copied -------------------------------------------------------------------------------

repeated_rewritten : (t : Tree) (p : Standing) → is_repeated (rewritten_tree p t) ≡ is_repeated t
unfolding rewritten_tree is_repeated
repeated_rewritten (node s fs) p = rw (slot_copied (under_map_of p) s).repetition_is

pub element_group : (list copy layer other : SlotBytes) (fs : Fields) (p : Standing) → name copy ≡ name list → name other ≡ name layer → is_element_group copy other (rewritten_run p fs) ≡ is_element_group list layer fs
unfolding rewritten_run is_element_group named_element
element_group list copy layer other empty p e q = refl
element_group list copy layer other (field t empty) p e q = rw (e, q, repeated_rewritten t p)
element_group list copy layer other (field t (field u fs)) p e q = refl

holds_element_lem : (fs : Fields) (p : Standing) → holds_element (rewritten_run p fs) ≡ holds_element fs
unfolding rewritten_tree holds_element
holds_element_lem empty p = refl
holds_element_lem (field (node s gs) empty) p = ap is_required_or_optional (slot_copied (under_map_of p) s).repetition_is
holds_element_lem (field (node s gs) (field u fs)) p = refl

list_child_lem : (list copy : SlotBytes) (t : Tree) (p : Standing) → name copy ≡ name list → list_child copy (rewritten_tree p t) ≡ list_child list t
unfolding rewritten_tree list_child
list_child_lem list copy (node s fs) p e =
    let same = slot_copied (under_map_of p) s in
    rw (same.repetition_is, same.physical_is, element_group list copy s (rewritten_slot (under_map_of p) s) fs (standing_below p s) e same.name_is, holds_element_lem fs (standing_below p s))

list_run_lem : (list copy : SlotBytes) (fs : Fields) (p : Standing) → name copy ≡ name list → list_run copy (rewritten_run p fs) ≡ list_run list fs
unfolding rewritten_run list_run
list_run_lem list copy empty p e = refl
list_run_lem list copy (field t empty) p e = list_child_lem list copy t p e
list_run_lem list copy (field t (field u fs)) p e = refl

key_value_lem : (fs : Fields) (p : Standing) → key_value (rewritten_run p fs) ≡ key_value fs
unfolding rewritten_tree key_value
key_value_lem empty p = refl
key_value_lem (field (node k ks) empty) p = rw (slot_copied (under_map_of p) k).repetition_is
key_value_lem (field (node k ks) (field (node v vs) empty)) p =
    rw ((slot_copied (under_map_of p) k).repetition_is, (slot_copied (under_map_of p) v).repetition_is)
key_value_lem (field (node k ks) (field (node v vs) (field u fs))) p = refl

map_run_lem : (fs : Fields) (p : Standing) → map_run (rewritten_run p fs) ≡ map_run fs
unfolding rewritten_tree map_run
map_run_lem empty p = refl
map_run_lem (field (node s fs) empty) p =
    rw ((slot_copied (under_map_of p) s).repetition_is, (slot_copied (under_map_of p) s).physical_is, key_value_lem fs (standing_below p s))
map_run_lem (field (node s fs) (field u gs)) p = refl

-- every rule is kept ---------------------------------------------------------------------------------------------------

-- a slot that keeps rules 9 to 11 and is long enough to have annotations
pub resolves : (edition : ℕ) (p : Standing) (s : SlotBytes) (fs : Fields) → child_count_at ≤ length s → KeepsAt edition p s fs → Resolves edition (under_map_of p) s
resolves edition p s fs long h = record { long = long; nine = h.agreement; ten = h.placement; eleven = h.decimals }

module _ (edition : ℕ) (p : Standing) (s : SlotBytes) (fs : Fields) (long : child_count_at ≤ length s) (h : KeepsAt edition p s fs) where
  kept : Resolves edition (under_map_of p) s
  kept = resolves edition p s fs long h

  copy : SlotBytes
  copy = rewritten_slot (under_map_of p) s

  same : Copied copy s
  unfolding copy
  same = slot_copied (under_map_of p) s

  -- the place of the fields is the same
  pub place_rewritten : standing_below p (rewritten_slot (under_map_of p) s) ≡ standing_below p s
  unfolding standing_below
  place_rewritten = ap (λ (k : Kind). standing_under k.kind) (kind_rewritten edition (under_map_of p) s kept)

  converted_is : convertedOf copy ≡ (rewrittenNumbers (annotated s) (under_map_of p)).converted
  unfolding copy annotated numbers_of
  converted_is = ap (λ (n : Annotated). n.converted) (annotated_rewritten edition (under_map_of p) s kept)

  logical_is : logicalOf copy ≡ (rewrittenNumbers (annotated s) (under_map_of p)).logical
  unfolding copy annotated numbers_of
  logical_is = ap (λ (n : Annotated). n.logical) (annotated_rewritten edition (under_map_of p) s kept)

  shape_parts : (standing_shape p (numbers_of s) (count fs) ≡ true) × (length_shape (numbers_of s).physical (numbers_of s).type_length ≡ true) × (decimal_shape (numbers_of s).converted (numbers_of s).logical (numbers_of s).scale (numbers_of s).precision ≡ true)
  unfolding rule8 shape
  shape_parts =
      let whole = and_both _ _ h.shape in
      let front = and_both _ _ whole.0 in
      (front.0, front.1, whole.1)

  -- DECIMAL stays in the logical type, and elsewhere scale and precision stay 0
  decimal_kept : (either : Bool) → (eqb (convertedOf s) converted.DECIMAL || eqb (logicalOf s) logical.DECIMAL) ≡ either → decimal_shape (convertedOf copy) (logicalOf copy) (scale copy) (precision copy) ≡ true
  unfolding decimal_shape numbers_of annotated rule9 rule10
  decimal_kept true e =
      rw (logical_is, decimal_rewritten (annotated s) (under_map_of p) h.agreement (ten_placed edition (annotated s) (under_map_of p) h.placement) e, or-true (eqb (convertedOf copy) converted.DECIMAL))
  decimal_kept false e =
      rw (same.scale_is, same.precision_is, rw e at shape_parts.2, or-true (eqb (convertedOf copy) converted.DECIMAL || eqb (logicalOf copy) logical.DECIMAL))

-- a root without annotation stays without one
root_parts : (ph rep conv log : ℕ) → root_shape ph rep conv log ≡ true → ((is_group ph && eqb rep repetition.NONE) ≡ true) × (conv ≡ converted.NONE) × (log ≡ logical.NONE)
root_parts ph rep conv log e =
    let whole = and_both _ _ e in
    let front = and_both _ _ whole.0 in
    (front.0, eqb-true conv converted.NONE front.1, eqb-true log logical.NONE whole.1)

root_written : (s : SlotBytes) → convertedOf s ≡ converted.NONE → logicalOf s ≡ logical.NONE → ((rewrittenNumbers (annotated s) false).converted ≡ converted.NONE) × ((rewrittenNumbers (annotated s) false).logical ≡ logical.NONE)
unfolding rewrittenNumbers annotated numbers_of
root_written s c l =
    let plain = written_plain (annotated s) false c l in
    (ap (λ (w : Written). w.converted) plain, ap (λ (w : Written). w.logical) plain)

place_kept : (edition : ℕ) (p : Standing) (s : SlotBytes) (fs : Fields) (long : child_count_at ≤ length s) (h : KeepsAt edition p s fs) → standing_shape p (numbers_of (rewritten_slot (under_map_of p) s)) (count fs) ≡ true
unfolding numbers_of copy
place_kept edition Root s fs long h =
    let same = slot_copied false s in
    let parts = root_parts (physicalOf s) (repetition s) (convertedOf s) (logicalOf s) (shape_parts edition Root s fs long h).0 in
    let none = root_written s parts.1 parts.2 in
    rw (same.physical_is, same.repetition_is, converted_is edition Root s fs long h ∙ none.0, logical_is edition Root s fs long h ∙ none.1, parts.0)
place_kept edition Field s fs long h =
    let same = slot_copied false s in
    rw (same.physical_is, same.repetition_is) (shape_parts edition Field s fs long h).0
place_kept edition MapField s fs long h =
    let same = slot_copied true s in
    rw (same.physical_is, same.repetition_is) (shape_parts edition MapField s fs long h).0

module _ (edition : ℕ) (p : Standing) (s : SlotBytes) (fs : Fields) (long : child_count_at ≤ length s) (h : KeepsAt edition p s fs) where
  rule8_kept : rule8 p (rewritten_slot (under_map_of p) s) (rewritten_run (standing_below p s) fs) ≡ true
  unfolding rule8 shape numbers_of copy
  rule8_kept =
      let same = slot_copied (under_map_of p) s in
      rw (count_rewritten fs (standing_below p s), place_kept edition p s fs long h, decimal_kept edition p s fs long h (eqb (convertedOf s) converted.DECIMAL || eqb (logicalOf s) logical.DECIMAL) refl, same.physical_is, same.type_length_is, (shape_parts edition p s fs long h).1)

  rule12_kept : rule12 p (rewritten_slot (under_map_of p) s) (rewritten_run (standing_below p s) fs) ≡ true
  unfolding rule12 is_list list_kept
  rule12_kept =
      let same = slot_copied (under_map_of p) s in
      rw (kind_rewritten edition (under_map_of p) s (resolves edition p s fs long h), same.repetition_is, list_run_lem s (rewritten_slot (under_map_of p) s) fs (standing_below p s) same.name_is) h.lists

  rule13_kept : rule13 p (rewritten_slot (under_map_of p) s) (rewritten_run (standing_below p s) fs) ≡ true
  unfolding rule13 is_map map_kept
  rule13_kept =
      rw (kind_rewritten edition (under_map_of p) s (resolves edition p s fs long h), (slot_copied (under_map_of p) s).repetition_is, map_run_lem fs (standing_below p s)) h.maps

  -- a rewritten node keeps every rule
  keeps_at_rewritten : KeepsAt edition p (rewritten_slot (under_map_of p) s) (rewritten_run (standing_below p s) fs)
  keeps_at_rewritten =
      let again = resolves_rewritten edition (under_map_of p) s (resolves edition p s fs long h) in
      record {
        shape = rule8_kept;
        agreement = again.nine;
        placement = again.ten;
        decimals = again.eleven;
        lists = rule12_kept;
        maps = rule13_kept;
      }

unfoldable mutual
  -- every slot of a tree is long enough to have annotations
  pub Long : Tree → Type 0
  Long (node s fs) = (child_count_at ≤ length s) × LongAll fs

  pub LongAll : Fields → Type 0
  LongAll empty = Unit {0}
  LongAll (field t fs) = Long t × LongAll fs

mutual
  unfolding rewritten_tree Keeps Long

  -- and so does the rewritten tree
  pub keeps_rewritten : (edition : ℕ) (t : Tree) (p : Standing) → Long t → Keeps edition p t → Keeps edition p (rewritten_tree p t)
  keeps_rewritten edition (node s fs) p long h = (
    keeps_at_rewritten edition p s fs long.0 h.0,
    subst (λ (q : Standing). KeepsAll edition q (rewritten_run (standing_below p s) fs)) (sym (place_rewritten edition p s fs long.0 h.0)) (keeps_all_rewritten edition fs (standing_below p s) long.1 h.1),
  )

  keeps_all_rewritten : (edition : ℕ) (fs : Fields) (p : Standing) → LongAll fs → KeepsAll edition p fs → KeepsAll edition p (rewritten_run p fs)
  keeps_all_rewritten edition empty p long h = tt
  keeps_all_rewritten edition (field t fs) p long h = (keeps_rewritten edition t p long.0 h.0, keeps_all_rewritten edition fs p long.1 h.1)

mutual
  unfolding rewritten_tree rewritings Keeps Long

  -- it is rewritten to itself
  pub rewritings_rewritten : (edition : ℕ) (t : Tree) (p : Standing) → Long t → Keeps edition p t → rewritings p (rewritten_tree p t) ≡ rewritings p t
  rewritings_rewritten edition (node s fs) p long h =
      ap₂ (λ (r : Written) (rs : List Written). r ∷ rs)
      (rewriting_rewritten edition (under_map_of p) s (resolves edition p s fs long.0 h.0))
      (ap (λ (q : Standing). run_rewritings q (rewritten_run (standing_below p s) fs)) (place_rewritten edition p s fs long.0 h.0) ∙ run_rewritings_rewritten edition fs (standing_below p s) long.1 h.1)

  run_rewritings_rewritten : (edition : ℕ) (fs : Fields) (p : Standing) → LongAll fs → KeepsAll edition p fs → run_rewritings p (rewritten_run p fs) ≡ run_rewritings p fs
  run_rewritings_rewritten edition empty p long h = refl
  run_rewritings_rewritten edition (field t fs) p long h = ap₂ ◌++◌ (rewritings_rewritten edition t p long.0 h.0) (run_rewritings_rewritten edition fs p long.1 h.1)
