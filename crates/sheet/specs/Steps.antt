-- What steps answer, which the contracts of private functions cite. Nothing here is a promise to a caller.
use Rattle.std.specs.Prelude.{◌≡◌, ℕ, ◌+◌, ◌≤◌, Bool, true, List, length, take, drop}
use Rattle.sheet.specs.Block.{slot_size}
use Rattle.sheet.specs.Slot.{slot_start, reaches}
use Rattle.sheet.specs.Sound.{all_zero}

-- the bytes of two words that are compared with zero together
abbrev pub pair_size : ℕ
pair_size = 16

-- n bytes from a on are zero
abbrev pub stretch_zero : List ℕ → ℕ → ℕ → Bool
stretch_zero bytes a n = all_zero (take n (drop a bytes))

-- the bytes reach over the slot of node k, which starts there
abbrev pub StartsAt : List ℕ → ℕ → ℕ → Type 0
StartsAt sheet k start = (start ≡ slot_start k) × (reaches sheet k ≡ true) × (start + slot_size ≤ length sheet)
