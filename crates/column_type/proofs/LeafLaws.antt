-- A leaf of an accepted sheet has a lawful column type in its row.
use Prim.Native.Nat.{ℕ, ◌*◌, ◌≤◌, ◌<◌}
use mathlib.Core.Path.{◌≡◌, refl, sym, ap, ◌∙◌}
use mathlib.Core.Logic.{◌⊎◌, inl, inr}
use mathlib.Core.Bool.{Bool, true, false, true≢false, ◌&&◌}
use mathlib.Core.List.{List, [], ◌++◌}
use native.Mathlib.Omega.{arith}
use borrow.Author.Tests.{eq-eqb, le-leb}
use lib.ListN.{length, get_or, drop}
use Rattle.laws.proofs.BoolLaws.{and_both}
use Rattle.laws.specs.Bytes.{Bytes}
use Rattle.sheet.specs.Block.{total_of}
use Rattle.sheet.specs.Slot.{physical, type_length_of, numbers_of, slot_at}
use Rattle.parquet.specs.Physical as physical
use Rattle.sheet.specs.Sound.{slot_sound}
use Rattle.sheet.proofs.FieldLaws.{physical_lt, type_length_mag, scale_mag, precision_mag}
use Rattle.sheet.proofs.SlotLaws.{slots_at_lem, slot_at_bytes}
use Rattle.sheet.proofs.SoundLaws.{sound_physical}
use Rattle.sheet.proofs.OpeningLaws.{open_of_accepts, open_of_sound}
use Rattle.tree.specs.Annotated.{annotated, kind, rule10, rule11}
use Rattle.tree.specs.Tree.{SlotBytes, Tree, Fields, listing, count, size}
use Rattle.tree.specs.Rules.{is_group, under_map_of, shape, standing_shape, length_shape, decimal_shape, rule8, KeepsAt}
use Rattle.schema.specs.Rows.{is_map_parent, row, row_width, rows}
use Rattle.schema.specs.Outcome.{outcome, written}
use Rattle.schema.specs.Demand.{IsTreeOf, Sound}
use Rattle.tree.specs.declared.standing.Standing.{Standing}
use Rattle.tree.specs.declared.standing.Standing.TheVariants.{Root}
use Rattle.schema.specs.declared.roles.Parent.{Parent}
use Rattle.schema.proofs.AcceptedLaws.{accepted_sound, accepted_rows}
use Rattle.schema.specs.Roles.{ascent}
use Rattle.schema.proofs.RewrittenTreeLaws.{rewritten_tree}
use Rattle.schema.proofs.NodeRowLaws.{NodeRow, node_row}
use Rattle.schema.proofs.DemandLaws.{size_is}
use Rattle.column_type.specs.Lawful.{is_leaf, slot_keeps, is_lawful}
use Rattle.column_type.specs.Leaf.{column_of, column_at, IsLeafOf, HasLeaf}
use Rattle.column_type.specs.declared.types.ColumnType.{ColumnType}
use Rattle.column_type.proofs.FitsLaws.{is_leaf_upto}
use Rattle.column_type.proofs.KeptLaws.{column_with, InRange, kept_keeps}

-- the column type in a row
column_row : (at up : ℕ) (q : Parent) (above : SlotBytes) (path : List Tree) (s : SlotBytes) (fs : Fields) (rest : List ℕ) → column_of (row at up q above path s fs ++ rest) ≡ column_with (annotated s) (kind (is_map_parent q) s)
unfolding column_of row column_with annotated numbers_of
column_row at up q above path s fs rest = refl

-- the numbers of a slot of bytes
slot_range : (s : SlotBytes) → Bytes s → InRange (annotated s)
unfolding annotated numbers_of
slot_range s bytes =
    record {
      physical = physical_lt s bytes;
      «type_length» = type_length_mag s bytes;
      scale = scale_mag s bytes;
      precision = precision_mag s bytes;
    }

-- a sound slot that is no physical.GROUP's is a leaf's
slot_leaf : (edition : ℕ) (s : SlotBytes) → slot_sound edition s ≡ true → is_group (physical s) ≡ false → is_leaf (physical s) ≡ true
slot_leaf edition s sound leaf = cases (sound_physical edition s sound)
  where
    cases : (physical s ≤ physical.FIXED_LEN_BYTE_ARRAY) ⊎ (physical s ≡ physical.GROUP) → is_leaf (physical s) ≡ true
    cases (inl h) = sym (is_leaf_upto (physical s)) ∙ le-leb (physical s) physical.FIXED_LEN_BYTE_ARRAY h
    cases (inr e) = absurd (true≢false (sym (eq-eqb (physical s) physical.GROUP e) ∙ leaf))

-- a node that keeps rule 8 has its type length
shape_length : (p : Standing) (s : SlotBytes) (fs : Fields) → rule8 p s fs ≡ true → length_shape (physical s) (type_length_of s) ≡ true
unfolding rule8 shape numbers_of
shape_length p s fs e =
    let n = numbers_of s in
    (and_both (standing_shape p n (count fs)) (length_shape (physical s) (type_length_of s))
    (and_both (standing_shape p n (count fs) && length_shape (physical s) (type_length_of s)) (decimal_shape n.converted n.logical n.scale n.precision) e).0
    ).1

-- a leaf that keeps the rules has a lawful column type
slot_keeps_lem : (edition : ℕ) (p : Standing) (s : SlotBytes) (fs : Fields) → Bytes s → slot_sound edition s ≡ true → KeepsAt edition p s fs → is_group (physical s) ≡ false → slot_keeps edition (column_with (annotated s) (kind (under_map_of p) s)) ≡ true
unfolding annotated numbers_of kind rule10 rule11
slot_keeps_lem edition p s fs bytes sound keeps leaf =
    kept_keeps edition (annotated s) (under_map_of p) (slot_range s bytes) (slot_leaf edition s sound leaf) (shape_length p s fs keeps.shape) keeps.placement keeps.decimals

module _ (edition : ℕ) (c : ColumnType) (sheet lent : List ℕ) (k : ℕ) (h : IsLeafOf edition c sheet lent k) where
  sound : Sound edition sheet
  sound = accepted_sound edition sheet (length lent) h.accepted

  tree : (t : Tree) × IsTreeOf edition sheet t × (written (outcome edition sheet (length lent)) sheet lent ≡ rows t ++ drop (row_width * total_of sheet) lent)
  tree = accepted_rows edition sheet lent h.accepted

  -- node k is listed as the k-th
  slot_listed : get_or (listing tree.0) k [] ≡ slot_at sheet k
  slot_listed = ap (λ (ss : List SlotBytes). get_or ss k []) tree.1.lists ∙ slots_at_lem sheet k [] h.below

  below_size : k < size tree.0
  below_size = omega (arith, size_is edition sheet tree.0 tree.1, h.below)

  -- its row stands at 11k
  begins : NodeRow edition (slot_at sheet k) (get_or (listing (rewritten_tree Root tree.0)) k []) (ascent tree.0 k) (drop (row_width * k) (written (outcome edition sheet (length lent)) sheet lent))
  begins =
      rw (tree.2, ← slot_listed)
      (node_row edition tree.0 tree.1.keeps (drop (row_width * total_of sheet) lent) k below_size)

  column_is : c ≡ column_with (annotated (slot_at sheet k)) (kind (under_map_of begins.standing) (slot_at sheet k))
  unfolding column_at
  column_is =
      let b = begins in
      sym h.column
      ∙ ap column_of b.begins
      ∙ column_row b.at b.up b.«parent» b.above b.path (slot_at sheet k) b.fields b.rest
      ∙ ap (λ (under : Bool). column_with (annotated (slot_at sheet k)) (kind under (slot_at sheet k))) (sym b.alike)

  physical_is : c.physical ≡ physical (slot_at sheet k)
  unfolding column_with annotated numbers_of
  physical_is = ap (λ (d : ColumnType). d.physical) column_is

  -- so it is lawful
  leaf_lawful : is_lawful edition c ≡ true
  unfolding is_lawful
  leaf_lawful =
      rw (sound.known, column_is)
      (slot_keeps_lem edition begins.standing (slot_at sheet k) begins.fields (slot_at_bytes sheet k h.bytes)
      (open_of_sound edition sheet (total_of sheet) (open_of_accepts edition sheet sound.known sound.blocks sound.slots) k h.below)
      begins.keeps (rw physical_is at h.leaf))

pub has_leaf_lawful : (edition : ℕ) (c : ColumnType) → HasLeaf edition c → is_lawful edition c ≡ true
unfolding HasLeaf
has_leaf_lawful edition c l = leaf_lawful edition c l.0 l.1 l.2 l.3
