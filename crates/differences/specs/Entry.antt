-- An entry of the list, and the fields of a slot that are compared.
use Rattle.std.specs.Prelude.{ℕ, zero, suc, ◌+◌, ◌-◌, List, [], ◌∷◌, ◌++◌, length, get_or, take, drop, replicate}
use Rattle.laws.specs.Bytes.{little, bytes_of}
use Rattle.sheet.specs.Block.{slot_size}
use Rattle.sheet.specs.Slot.{physical_at, repetition_at, converted_at, logical_at, parameter_a_at, parameter_b_at, child_count_at, type_length_at, scale_at, precision_at, name_length_at, name_at}

-- a field of a slot: "The code is the field's first slot byte"; and how many bytes it has
pub record SlotField : Type 0 where
  pub code : ℕ
  pub width : ℕ

-- all of them, codes rising; between the name's length and the name stand zeros
unfoldable pub slot_fields : List SlotField
slot_fields =
    record { code = physical_at; width = 1 }
    ∷ record { code = repetition_at; width = 1 }
    ∷ record { code = converted_at; width = 1 }
    ∷ record { code = logical_at; width = 1 }
    ∷ record { code = parameter_a_at; width = 1 }
    ∷ record { code = parameter_b_at; width = 1 }
    ∷ record { code = child_count_at; width = 2 }
    ∷ record { code = type_length_at; width = 4 }
    ∷ record { code = scale_at; width = 4 }
    ∷ record { code = precision_at; width = 4 }
    ∷ record { code = name_length_at; width = 1 }
    ∷ record { code = name_at; width = slot_size - name_at }
    ∷ []

-- "72 for places (two bytes each), 73 or 74 for a node only in the first or second"
abbrev pub PLACES : ℕ
PLACES = 72

abbrev pub ONLY_FIRST : ℕ
ONLY_FIRST = 73

abbrev pub ONLY_SECOND : ℕ
ONLY_SECOND = 74

-- what an entry says: its code, a node's number, and "each side's content zero-filled to 72"
pub record Entry : Type 0 where
  pub code : ℕ
  pub number : ℕ
  pub first : List ℕ
  pub second : List ℕ

unfoldable pub filled : List ℕ → List ℕ
filled content = content ++ replicate (slot_size - length content) 0

abbrev pub entry : ℕ → ℕ → List ℕ → List ℕ → Entry
entry code number first second = record { code = code; number = number; first = filled first; second = filled second }

-- "An entry is 148 bytes: code, zero, node number in two bytes, each side's content"
abbrev pub entry_size : ℕ
entry_size = 148

unfoldable pub entry_bytes : Entry → List ℕ
entry_bytes e = bytes_of 1 e.code ++ bytes_of 1 0 ++ bytes_of 2 e.number ++ e.first ++ e.second

-- a list's bytes: its entries, one behind the other
unfoldable pub list_bytes : List Entry → List ℕ
list_bytes [] = []
list_bytes (e ∷ es) = entry_bytes e ++ list_bytes es

-- where an entry's parts start, and what stands in its bytes
abbrev pub number_at : ℕ
number_at = 2

abbrev pub first_at : ℕ
first_at = 4

abbrev pub second_at : ℕ
second_at = first_at + slot_size

unfoldable pub entry_in : List ℕ → Entry
entry_in bytes =
    record {
      code = get_or bytes 0 0;
      number = little (take 2 (drop number_at bytes));
      first = take slot_size (drop first_at bytes);
      second = take slot_size (drop second_at bytes);
    }

-- the first n entries of a list's bytes
unfoldable pub entries_in : ℕ → List ℕ → List Entry
entries_in zero bytes = []
entries_in (suc n) bytes = entry_in bytes ∷ entries_in n (drop entry_size bytes)
