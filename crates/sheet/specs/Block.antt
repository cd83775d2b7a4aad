-- A sheet's blocks and their fields ("Block: 0-1 block number from 0; 2 nodes here; 3 version, 1; 4-5 total nodes T; 6-509 seven slots of
-- 72; 510-511 check"). A block's size and where its check starts are defined with the check.
use Rattle.std.specs.Prelude.{ℕ, ◌*◌, ◌/◌, List, length, get_or, take, drop}
use Rattle.sheet.specs.Number.{number16}
pub use Rattle.block_check.specs.Check.{block_size, check_at}

-- no sheet over 65,536 bytes ("1 to 128 blocks")
abbrev pub most_bytes : ℕ
most_bytes = 65536

-- "T is 1 to 896"
abbrev pub most_nodes : ℕ
most_nodes = 896

-- where each other field of a block starts
abbrev pub block_number_at : ℕ
block_number_at = 0

abbrev pub nodes_here_at : ℕ
nodes_here_at = 2

abbrev pub version_at : ℕ
version_at = 3

abbrev pub total_at : ℕ
total_at = 4

abbrev pub first_slot_at : ℕ
first_slot_at = 6

-- "seven slots of 72"
abbrev pub slots_in_block : ℕ
slots_in_block = 7

abbrev pub slot_size : ℕ
slot_size = 72

-- "version, 1"
abbrev pub version_now : ℕ
version_now = 1

-- how many whole blocks there are
unfoldable pub block_count : List ℕ → ℕ
block_count sheet = length sheet / block_size

-- the bytes of block i
unfoldable pub block_at : List ℕ → ℕ → List ℕ
block_at sheet i = take block_size (drop (block_size * i) sheet)

-- a block's fields
unfoldable pub block_number : List ℕ → ℕ
block_number block = number16 block block_number_at

unfoldable pub nodes_here : List ℕ → ℕ
nodes_here block = get_or block nodes_here_at 0

unfoldable pub version : List ℕ → ℕ
version block = get_or block version_at 0

unfoldable pub total : List ℕ → ℕ
total block = number16 block total_at

unfoldable pub stored_check : List ℕ → ℕ
stored_check block = number16 block check_at

-- T ("T is read from block 0")
unfoldable pub total_of : List ℕ → ℕ
total_of sheet = total (block_at sheet 0)
