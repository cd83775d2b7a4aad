-- A sheet made from its used slots, and a slot from its numbers and name, laid out as "The sheet" of document 01 says.
use Rattle.std.specs.Prelude.{ℕ, zero, suc, ◌+◌, ◌*◌, ◌-◌, List, [], ◌++◌, length, get_or, replicate}
use Rattle.laws.specs.Bytes.{bytes_of}
use Rattle.block_check.specs.Check.{check}
use Rattle.sheet.specs.Block.{slot_size, slots_in_block, version_now}
use Rattle.sheet.specs.Header.{blocks_for, nodes_in}
use Rattle.sheet.specs.Slot.{name_at, empty_slot}

-- the bytes that f gives for the numbers below n, one behind the other
unfoldable pub join_below : (ℕ → List ℕ) → ℕ → List ℕ
join_below f zero = []
join_below f (suc n) = join_below f n ++ f n

-- block i before its check ("0-1 block number from 0; 2 nodes here; 3 version, 1; 4-5 total nodes T; 6-509 seven slots of 72"; "Unused
-- slots are zero")
unfoldable pub unchecked_block : List (List ℕ) → ℕ → List ℕ
unchecked_block used i =
    bytes_of 2 i
    ++ bytes_of 1 (nodes_in (length used) i)
    ++ bytes_of 1 version_now
    ++ bytes_of 2 (length used)
    ++ join_below (λ j. get_or used (slots_in_block * i + j) empty_slot) slots_in_block

-- block i, whole ("510-511 check")
unfoldable pub block_of : List (List ℕ) → ℕ → List ℕ
block_of used i = unchecked_block used i ++ bytes_of 2 (check (unchecked_block used i))

-- the sheet of these slots: as many blocks as they need
unfoldable pub sheet_of : List (List ℕ) → List ℕ
sheet_of used = join_below (block_of used) (blocks_for (length used))

-- a slot of six codes ("0 physical; 1 repetition; 2 converted; 3 logical; 4 a; 5 b"), so many children, a type length, a scale and a precision that are not
-- negative, and a name ("20 name length 1-48; 21-23 zero; 24-71 name, zero after its length")
abbrev pub slot_of : List ℕ → ℕ → ℕ → ℕ → ℕ → List ℕ → List ℕ
slot_of codes children len scale precision name =
    codes
    ++ bytes_of 2 children
    ++ bytes_of 4 len
    ++ bytes_of 4 scale
    ++ bytes_of 4 precision
    ++ bytes_of 4 (length name)
    ++ name
    ++ replicate (slot_size - name_at - length name) 0
