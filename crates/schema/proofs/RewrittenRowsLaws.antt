-- The rows of a rewritten tree are those of the tree.
use Prim.Native.Nat.{ℕ, suc, ◌+◌, ◌≤◌}
use mathlib.Core.Path.{◌≡◌, refl, sym, ap, ap₂, ◌∙◌}
use mathlib.Core.Bool.{Bool, true, false, true≢false, cond}
use mathlib.Core.List.{List, [], ◌∷◌, ◌++◌}
use borrow.Author.Tests.{eqb-true}
use lib.Dec.{eqb}
use lib.ListN.{length, length-append}
use Rattle.sheet.specs.Slot.{child_count_at, name}
use Rattle.parquet.specs.Logical as logical
use Rattle.tree.specs.Annotated.{kind}
use Rattle.tree.specs.Tree.{SlotBytes, Tree, Fields, node, empty, field, listing, listings, size}
use Rattle.tree.specs.Rules.{under_map_of, standing_under, standing_below, KeepsAt, Keeps, KeepsAll}
use Rattle.schema.specs.Rows.{is_map_parent, LIST_LAYER, KEY_VALUE_LAYER, list_role, own_role, role, parent_by, parent_of, after_first, row, rows_from, run_rows_from, rows}
use Rattle.schema.specs.Levels.{is_optional_or_repeated, is_repeated_code, how_many}
use Rattle.tree.specs.declared.standing.Standing.{Standing}
use Rattle.tree.specs.declared.standing.Standing.TheVariants.{Root, Field, MapField}
use Rattle.schema.specs.declared.roles.Parent.{Parent}
use Rattle.schema.specs.declared.roles.Parent.TheVariants as parent
use Rattle.schema.proofs.RewrittenSlotLaws.{rewritten_slot, slot_copied, kind_rewritten}
use Rattle.schema.proofs.RewrittenTreeLaws.{rewritten_tree, rewritten_run, Long, LongAll, resolves, element_group}

-- a node of some kind is a MAP to its fields' rows exactly where it is one to their rules
map_parent : (code own : ℕ) → is_map_parent (parent_by code own) ≡ under_map_of (standing_under code)
unfolding parent_by
map_parent code own = list (eqb code logical.LIST) (eqb code logical.MAP) refl refl
  where
    layers : (x y : Bool) → is_map_parent (cond x parent.ListLayer (cond y parent.KeyValue parent.Other)) ≡ false
    layers true y = refl
    layers false true = refl
    layers false false = refl

    list : (x y : Bool) → eqb code logical.LIST ≡ x → eqb code logical.MAP ≡ y → is_map_parent (cond x parent.List (cond y parent.Map (cond (eqb own LIST_LAYER) parent.ListLayer (cond (eqb own KEY_VALUE_LAYER) parent.KeyValue parent.Other)))) ≡ under_map_of (cond y MapField Field)
    list true true e f = absurd (true≢false (sym f ∙ ap (λ (n : ℕ). eqb n logical.MAP) (eqb-true code logical.LIST e)))
    list true false e f = refl
    list false true e f = refl
    list false false e f = layers (eqb own LIST_LAYER) (eqb own KEY_VALUE_LAYER)

-- and so for the later fields of a run
pub map_after : (q : Parent) → is_map_parent (after_first q) ≡ is_map_parent q
map_after parent.Other = refl
map_after parent.List = refl
map_after parent.ListLayer = refl
map_after parent.Map = refl
map_after parent.KeyValue = refl
map_after parent.KeyValueRest = refl

-- where a node's rows and its rules agree on its parent, they agree on it as a parent
pub map_below : (p : Standing) (q : Parent) (above s : SlotBytes) (fs : Fields) → under_map_of p ≡ is_map_parent q → under_map_of (standing_below p s) ≡ is_map_parent (parent_of q above s fs)
unfolding standing_below parent_of
map_below p q above s fs e =
    rw e (sym (map_parent (kind (is_map_parent q) s).kind (role q above s fs)))

mutual
  unfolding rewritten_tree listing

  length_listing : (t : Tree) (p : Standing) → length (listing (rewritten_tree p t)) ≡ length (listing t)
  length_listing (node s fs) p = ap suc (length_listings fs (standing_below p s))

  length_listings : (fs : Fields) (p : Standing) → length (listings (rewritten_run p fs)) ≡ length (listings fs)
  length_listings empty p = refl
  length_listings (field t fs) p =
      length-append (listing (rewritten_tree p t)) (listings (rewritten_run p fs))
      ∙ ap₂ ◌+◌ (length_listing t p) (length_listings fs p)
      ∙ sym (length-append (listing t) (listings fs))

-- a tree has as many nodes
pub size_rewritten : (t : Tree) (p : Standing) → size (rewritten_tree p t) ≡ size t
unfolding size
size_rewritten t p = length_listing t p

-- a node has the same role
role_rewritten : (q : Parent) (above copy s : SlotBytes) (fs : Fields) (p : Standing) → name copy ≡ name above → role q copy (rewritten_slot (under_map_of p) s) (rewritten_run (standing_below p s) fs) ≡ role q above s fs
unfolding role list_role
role_rewritten parent.Other above copy s fs p e = ap own_role (slot_copied (under_map_of p) s).repetition_is
role_rewritten parent.List above copy s fs p e =
    let same = slot_copied (under_map_of p) s in
    rw (same.physical_is, element_group above copy s (rewritten_slot (under_map_of p) s) fs (standing_below p s) e same.name_is)
role_rewritten parent.ListLayer above copy s fs p e = refl
role_rewritten parent.Map above copy s fs p e = refl
role_rewritten parent.KeyValue above copy s fs p e = refl
role_rewritten parent.KeyValueRest above copy s fs p e = refl

-- and adds the same to its levels
levels_rewritten : (under : Bool) (s : SlotBytes) (fs gs : Fields) (path copies : List Tree) → ((counts : ℕ → Bool) → how_many counts copies ≡ how_many counts path) → (counts : ℕ → Bool) → how_many counts (node (rewritten_slot under s) gs ∷ copies) ≡ how_many counts (node s fs ∷ path)
unfolding how_many
levels_rewritten under s fs gs path copies g counts = rw (g counts, (slot_copied under s).repetition_is)

module _ (edition : ℕ) (p : Standing) (q : Parent) (above copy s : SlotBytes) (fs : Fields) (long : child_count_at ≤ length s) (h : KeepsAt edition p s fs) (agree : under_map_of p ≡ is_map_parent q) (e : name copy ≡ name above) where
  kind_row : kind (is_map_parent q) (rewritten_slot (under_map_of p) s) ≡ kind (is_map_parent q) s
  kind_row = rw (← agree) (kind_rewritten edition (under_map_of p) s (resolves edition p s fs long h))

  -- the same row
  row_rewritten : (at up : ℕ) (path copies : List Tree) → ((counts : ℕ → Bool) → how_many counts copies ≡ how_many counts path) → row at up q copy copies (rewritten_slot (under_map_of p) s) (rewritten_run (standing_below p s) fs) ≡ row at up q above path s fs
  unfolding row rewritten_tree
  row_rewritten at up path copies g =
      let same = slot_copied (under_map_of p) s in
      let levels = levels_rewritten (under_map_of p) s fs (rewritten_run (standing_below p s) fs) path copies g in
      rw (levels is_optional_or_repeated, levels is_repeated_code, same.physical_is, same.type_length_is, same.repetition_is, kind_row, size_rewritten (node s fs) p, role_rewritten q above copy s fs p e)

  -- and is the same to its fields
  parent_rewritten : parent_of q copy (rewritten_slot (under_map_of p) s) (rewritten_run (standing_below p s) fs) ≡ parent_of q above s fs
  unfolding parent_of
  parent_rewritten = rw (kind_row, role_rewritten q above copy s fs p e)

mutual
  unfolding rewritten_tree rows_from Keeps Long

  rows_from_rewritten : (edition : ℕ) (t : Tree) (p : Standing) (q : Parent) (at up : ℕ) (above copy : SlotBytes) (path copies : List Tree) → Long t → Keeps edition p t → under_map_of p ≡ is_map_parent q → name copy ≡ name above → ((counts : ℕ → Bool) → how_many counts copies ≡ how_many counts path) → rows_from at up q copy copies (rewritten_tree p t) ≡ rows_from at up q above path t
  rows_from_rewritten edition (node s fs) p q at up above copy path copies long h agree e g =
      let slot = rewritten_slot (under_map_of p) s in
      let run = rewritten_run (standing_below p s) fs in
      ap₂ ◌++◌
      (row_rewritten edition p q above copy s fs long.0 h.0 agree e at up path copies g)
      (ap (λ (o : Parent). run_rows_from (suc at) at o slot (node slot run ∷ copies) run) (parent_rewritten edition p q above copy s fs long.0 h.0 agree e)
      ∙ run_rows_from_rewritten edition fs (standing_below p s) (parent_of q above s fs) (suc at) at s slot (node s fs ∷ path) (node slot run ∷ copies) long.1 h.1 (map_below p q above s fs agree) (slot_copied (under_map_of p) s).name_is (levels_rewritten (under_map_of p) s fs run path copies g))

  run_rows_from_rewritten : (edition : ℕ) (fs : Fields) (p : Standing) (q : Parent) (at up : ℕ) (above copy : SlotBytes) (path copies : List Tree) → LongAll fs → KeepsAll edition p fs → under_map_of p ≡ is_map_parent q → name copy ≡ name above → ((counts : ℕ → Bool) → how_many counts copies ≡ how_many counts path) → run_rows_from at up q copy copies (rewritten_run p fs) ≡ run_rows_from at up q above path fs
  run_rows_from_rewritten edition empty p q at up above copy path copies long h agree e g = refl
  run_rows_from_rewritten edition (field t fs) p q at up above copy path copies long h agree e g =
      ap₂ ◌++◌
      (rows_from_rewritten edition t p q at up above copy path copies long.0 h.0 agree e g)
      (ap (λ (n : ℕ). run_rows_from (at + n) up (after_first q) copy copies (rewritten_run p fs)) (size_rewritten t p)
      ∙ run_rows_from_rewritten edition fs p (after_first q) (at + size t) up above copy path copies long.1 h.1 (agree ∙ sym (map_after q)) e g)

-- a tree that keeps every rule has the same rows once it is rewritten
pub rows_rewritten : (edition : ℕ) (t : Tree) → Long t → Keeps edition Root t → rows (rewritten_tree Root t) ≡ rows t
unfolding rows
rows_rewritten edition t long h = rows_from_rewritten edition t Root parent.Other 0 0 [] [] [] [] long h refl refl (λ counts. refl)
