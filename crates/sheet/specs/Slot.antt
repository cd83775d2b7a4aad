-- A slot's 72 bytes and their fields, and the slots of a sheet ("Nodes are the used slots, whole, in block order").
use Rattle.std.specs.Prelude.{ℕ, zero, suc, ◌+◌, ◌*◌, ◌/◌, ◌%◌, Bool, cond, ◌&&◌, List, [], ◌∷◌, leb, ltb, ℤ, length, get_or, set, take, drop, replicate}
use Rattle.sheet.specs.Number.{number16, number32, signed32}
use Rattle.sheet.specs.Block.{block_size, first_slot_at, slots_in_block, slot_size, most_nodes, total_of}
use Rattle.sheet.specs.declared.slots.Slot.{Slot}

-- where each field of a slot starts ("0 physical; 1 repetition; 2 converted; 3 logical; 4, 5 parameters a, b; 6-7 child count; 8-11 type
-- length, 12-15 scale, 16-19 precision, each signed; 20 name length; 21-23 zero; 24-71 name")
abbrev pub physical_at : ℕ
physical_at = 0

abbrev pub repetition_at : ℕ
repetition_at = 1

abbrev pub converted_at : ℕ
converted_at = 2

abbrev pub logical_at : ℕ
logical_at = 3

abbrev pub parameter_a_at : ℕ
parameter_a_at = 4

abbrev pub parameter_b_at : ℕ
parameter_b_at = 5

abbrev pub child_count_at : ℕ
child_count_at = 6

abbrev pub type_length_at : ℕ
type_length_at = 8

abbrev pub scale_at : ℕ
scale_at = 12

abbrev pub precision_at : ℕ
precision_at = 16

abbrev pub name_length_at : ℕ
name_length_at = 20

abbrev pub reserved_at : ℕ
reserved_at = 21

abbrev pub name_at : ℕ
name_at = 24

-- a slot's fields
unfoldable pub physical : List ℕ → ℕ
physical slot = get_or slot physical_at 0

unfoldable pub repetition : List ℕ → ℕ
repetition slot = get_or slot repetition_at 0

unfoldable pub converted : List ℕ → ℕ
converted slot = get_or slot converted_at 0

unfoldable pub logical : List ℕ → ℕ
logical slot = get_or slot logical_at 0

unfoldable pub parameter_a : List ℕ → ℕ
parameter_a slot = get_or slot parameter_a_at 0

unfoldable pub parameter_b : List ℕ → ℕ
parameter_b slot = get_or slot parameter_b_at 0

unfoldable pub child_count : List ℕ → ℕ
child_count slot = number16 slot child_count_at

unfoldable pub type_length_of : List ℕ → ℤ
type_length_of slot = signed32 (number32 slot type_length_at)

unfoldable pub scale : List ℕ → ℤ
scale slot = signed32 (number32 slot scale_at)

unfoldable pub precision : List ℕ → ℤ
precision slot = signed32 (number32 slot precision_at)

unfoldable pub name_length_of : List ℕ → ℕ
name_length_of slot = get_or slot name_length_at 0

-- the name: as many bytes as its length says, or all up to the slot's end where the length says more
unfoldable pub name : List ℕ → List ℕ
name slot = take (name_length_of slot) (drop name_at slot)

-- a slot's numbers
unfoldable pub numbers_of : List ℕ → Slot
numbers_of slot =
    record {
      physical = physical slot;
      repetition = repetition slot;
      converted = converted slot;
      logical = logical slot;
      a = parameter_a slot;
      b = parameter_b slot;
      children = child_count slot;
      type_length = type_length_of slot;
      scale = scale slot;
      precision = precision slot;
      name_length = name_length_of slot;
    }

-- where the slot of node k starts: slot k % 7 of block k / 7
unfoldable pub slot_start : ℕ → ℕ
slot_start k = block_size * (k / slots_in_block) + first_slot_at + slot_size * (k % slots_in_block)

-- the bytes reach over the slot of node k, and k is a number that a node can have
unfoldable pub reaches : List ℕ → ℕ → Bool
reaches sheet k = ltb k most_nodes && leb (slot_start k + slot_size) (length sheet)

-- "Unused slots are zero"
unfoldable pub empty_slot : List ℕ
empty_slot = replicate slot_size 0

-- the bytes of node k's slot: what stands there, and zeros where the bytes do not reach
unfoldable pub slot_at : List ℕ → ℕ → List ℕ
slot_at sheet k = cond (reaches sheet k) (take slot_size (drop (slot_start k) sheet)) empty_slot

-- the same, and no byte where the bytes do not reach
unfoldable pub slot_bytes_at : List ℕ → ℕ → List ℕ
slot_bytes_at sheet k = cond (reaches sheet k) (slot_at sheet k) []

-- n slots from node k's on
unfoldable pub slots_from : List ℕ → ℕ → ℕ → List (List ℕ)
slots_from sheet k zero = []
slots_from sheet k (suc n) = slot_at sheet k ∷ slots_from sheet (suc k) n

-- the used slots, in block order
unfoldable pub slots : List ℕ → List (List ℕ)
slots sheet = slots_from sheet 0 (total_of sheet)

-- a slot with other annotations: converted, logical, parameters a and b
unfoldable pub annotated_slot : List ℕ → ℕ → ℕ → ℕ → ℕ → List ℕ
annotated_slot slot conv log a b = set (set (set (set slot converted_at conv) logical_at log) parameter_a_at a) parameter_b_at b

-- a sheet with other annotations in the slot of node k, all other bytes as they are; nothing changes where the bytes do not reach it
unfoldable pub with_annotation : List ℕ → ℕ → ℕ → ℕ → ℕ → ℕ → List ℕ
with_annotation sheet k conv log a b =
    cond (reaches sheet k)
    (set (set (set (set sheet (slot_start k + converted_at) conv) (slot_start k + logical_at) log) (slot_start k + parameter_a_at) a) (slot_start k + parameter_b_at) b)
    sheet
