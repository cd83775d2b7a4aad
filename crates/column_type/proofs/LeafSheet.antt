-- A sheet of one block with a root `r` and one required leaf `x`, whose slot has given numbers; that it is sound, of bytes, and lists these two nodes.
use Prim.Native.Nat.{ℕ, zero, suc, ◌<◌}
use mathlib.Core.Path.{◌≡◌, refl}
use mathlib.Core.Bool.{true}
use mathlib.Core.List.{List, [], ◌∷◌}
use native.Mathlib.Omega.{arith}
use lib.IntN.{pos}
use lib.ListN.{length, get_or}
use Rattle.laws.specs.Bytes.{Bytes, little, bytes_of}
use Rattle.laws.proofs.ByteLaws.{all_bytes}
use Rattle.parquet.specs.Repetition.{REQUIRED}
use Rattle.parquet.specs.Repetition as repetition
use Rattle.parquet.specs.Physical as physical
use Rattle.parquet.specs.Converted as converted
use Rattle.parquet.specs.Logical as logical
use Rattle.logical_type.specs.Parameters.{UNUSED}
use Rattle.annotation.specs.Signed.{natural}
use Rattle.annotation.specs.declared.slot.Annotated.{Annotated}
use Rattle.sheet.specs.Number.{number_at, signed32}
use Rattle.sheet.specs.Block.{slot_size, total_of}
use Rattle.sheet.specs.Slot.{empty_slot, numbers_of, slots}
use Rattle.sheet.specs.Slot as slot
use Rattle.sheet.specs.Sheet.{sheet_of, slot_of}
use Rattle.sheet.specs.Sound.{listed, physical_listed, repetition_listed, converted_listed, logical_listed, name_length_right, all_zero, reserved_zero, tail_zero, codes_listed, name_right, slot_sound}
use Rattle.sheet.proofs.NumberLaws.{signed32_low}
use Rattle.edition.specs.Editions.{is_known}
use Rattle.sheet.proofs.OpeningLaws.{open_of_blocks, open_of_slots}
use Rattle.sheet.proofs.SheetLaws.{SheetSlots, sheet_of_total, open_of_sheet_of, slots_sheet_of, bytes_sheet_of, bytes_slot_of}
use Rattle.tree.specs.Annotated.{annotated}
use Rattle.schema.specs.Demand.{Sound}
use Rattle.column_type.specs.Lawful.{byte_numbers, signed_numbers}

-- a slot of a repetition, so many children, a name of one byte, and given numbers

abbrev codes_with : ℕ → Annotated → List ℕ
codes_with repetition n = n.physical ∷ repetition ∷ n.converted ∷ n.logical ∷ n.a ∷ n.b ∷ []

abbrev slot_with : ℕ → ℕ → ℕ → Annotated → List ℕ
slot_with repetition children name n =
    slot_of (codes_with repetition n) children (natural n.type_length) (natural n.scale) (natural n.precision) (name ∷ [])

-- the names `r` and `x`
abbrev root_name : ℕ
root_name = 114

abbrev leaf_name : ℕ
leaf_name = 120

-- the root of one child: a group without annotation
abbrev root_numbers : Annotated
root_numbers =
    record {
      physical = physical.GROUP;
      type_length = pos 0;
      converted = converted.NONE;
      logical = logical.NONE;
      a = UNUSED;
      b = UNUSED;
      scale = pos 0;
      precision = pos 0;
    }

unfoldable pub root_slot : List ℕ
root_slot = slot_with repetition.NONE 1 root_name root_numbers

-- the required leaf
unfoldable pub leaf_slot : Annotated → List ℕ
leaf_slot n = slot_with REQUIRED 0 leaf_name n

-- the sheet of both
unfoldable pub leaf_sheet : Annotated → List ℕ
leaf_sheet n = sheet_of (root_slot ∷ leaf_slot n ∷ [])

-- the slot of the leaf is sound in an edition where its codes are listed there
pub record Listed (edition : ℕ) (n : Annotated) : Type 0 where
  pub physical : physical_listed n.physical ≡ true
  pub converted : converted_listed n.converted ≡ true
  pub logical : logical_listed edition n.logical ≡ true

leaf_slot_sound : (edition : ℕ) (n : Annotated) → Listed edition n → slot_sound edition (leaf_slot n) ≡ true
unfolding leaf_slot bytes_of slot_sound codes_listed slot.physical slot.repetition slot.converted slot.logical repetition_listed listed name_right slot.name_length_of name_length_right reserved_zero tail_zero all_zero
leaf_slot_sound edition n l = rw (l.physical, l.converted, l.logical)

root_sound : (edition : ℕ) → slot_sound edition root_slot ≡ true
unfolding root_slot bytes_of slot_sound codes_listed slot.physical slot.repetition slot.converted slot.logical physical_listed repetition_listed converted_listed logical_listed listed name_right slot.name_length_of name_length_right reserved_zero tail_zero all_zero natural
root_sound edition = refl

-- the numbers of a slot fit its fields, and none is negative
pub record Holds (n : Annotated) : Type 0 where
  pub physical : n.physical < byte_numbers
  pub converted : n.converted < byte_numbers
  pub logical : n.logical < byte_numbers
  pub a : n.a < byte_numbers
  pub b : n.b < byte_numbers
  pub «type_length» : natural n.type_length < signed_numbers
  pub scale : natural n.scale < signed_numbers
  pub precision : natural n.precision < signed_numbers
  pub length_natural : pos (natural n.type_length) ≡ n.type_length
  pub scale_natural : pos (natural n.scale) ≡ n.scale
  pub precision_natural : pos (natural n.precision) ≡ n.precision

-- a number in four bytes is read as it was
four_read : (n : ℕ) → n < signed_numbers → signed32 (little (bytes_of 4 n)) ≡ pos n
unfolding little bytes_of
four_read n h =
    let e : little (bytes_of 4 n) ≡ n = omega arith in
    rw e (signed32_low n h)

-- the leaf's slot has the numbers that it was made of
pub leaf_slot_annotated : (n : Annotated) → Holds n → annotated (leaf_slot n) ≡ n
unfolding leaf_slot annotated numbers_of slot.physical slot.converted slot.logical slot.parameter_a slot.parameter_b slot.type_length_of slot.scale slot.precision number_at little bytes_of
leaf_slot_annotated n h =
    rw (four_read (natural n.type_length) h.«type_length», four_read (natural n.scale) h.scale, four_read (natural n.precision) h.precision, h.length_natural, h.scale_natural, h.precision_natural)

-- both are slots of bytes

slot_bytes_lem : (repetition children name : ℕ) (n : Annotated) → repetition < byte_numbers → name < byte_numbers → Holds n → Bytes (slot_with repetition children name n)
slot_bytes_lem repetition children name n r m h =
    bytes_slot_of (codes_with repetition n) children (natural n.type_length) (natural n.scale) (natural n.precision) (name ∷ [])
    (all_bytes (codes_with repetition n) (omega arith)) (all_bytes (name ∷ []) (omega arith))

root_holds : Holds root_numbers
unfolding natural
root_holds =
    record {
      physical = omega arith;
      converted = omega arith;
      logical = omega arith;
      a = omega arith;
      b = omega arith;
      «type_length» = omega arith;
      scale = omega arith;
      precision = omega arith;
      length_natural = refl;
      scale_natural = refl;
      precision_natural = refl;
    }

-- a leaf whose codes are listed in an edition and whose numbers fit
pub record LeafSlot (edition : ℕ) (n : Annotated) : Type 0 where
  pub listed : Listed edition n
  pub holds : Holds n

module _ (edition : ℕ) (n : Annotated) (l : LeafSlot edition n) where
  used : List (List ℕ)
  used = root_slot ∷ leaf_slot n ∷ []

  leaf_slots : SheetSlots edition used
  unfolding used root_slot leaf_slot bytes_of
  leaf_slots = record { least = omega arith; most = omega arith; whole = whole; bytes = bytes; sound = sound }
    where
      whole : (k : ℕ) → k < 2 → length (get_or used k empty_slot) ≡ slot_size
      whole zero h = refl
      whole (suc zero) h = refl
      whole (suc (suc k)) h = absurd (omega arith)

      bytes : (k : ℕ) → k < 2 → Bytes (get_or used k empty_slot)
      bytes zero h = slot_bytes_lem repetition.NONE 1 root_name root_numbers (omega arith) (omega arith) root_holds
      bytes (suc zero) h = slot_bytes_lem REQUIRED 0 leaf_name n (omega arith) (omega arith) l.holds
      bytes (suc (suc k)) h = absurd (omega arith)

      sound : (k : ℕ) → k < 2 → slot_sound edition (get_or used k empty_slot) ≡ true
      sound zero h = root_sound edition
      sound (suc zero) h = leaf_slot_sound edition n l.listed
      sound (suc (suc k)) h = absurd (omega arith)

  pub leaf_sheet_slots : slots (leaf_sheet n) ≡ root_slot ∷ leaf_slot n ∷ []
  unfolding leaf_sheet used
  leaf_sheet_slots = slots_sheet_of edition used leaf_slots

  pub leaf_sheet_total : total_of (leaf_sheet n) ≡ 2
  unfolding leaf_sheet used
  leaf_sheet_total = sheet_of_total edition used leaf_slots

  -- it opens in the edition, where that is known
  pub leaf_sheet_sound : is_known edition ≡ true → Sound edition (leaf_sheet n)
  unfolding leaf_sheet used
  leaf_sheet_sound known =
      let opened = open_of_sheet_of edition used leaf_slots known in
      record { known = known; blocks = open_of_blocks edition (leaf_sheet n) 2 opened; slots = open_of_slots edition (leaf_sheet n) 2 opened }

  pub leaf_sheet_bytes : Bytes (leaf_sheet n)
  unfolding leaf_sheet used
  leaf_sheet_bytes = bytes_sheet_of edition used leaf_slots
