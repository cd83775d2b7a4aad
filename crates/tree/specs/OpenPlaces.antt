-- Open places, by which refusals 5 and 6 are decided.
use Rattle.std.specs.Prelude.{ℕ, zero, suc, Bool, true, false, List, [], ◌∷◌, map, take, ℤ, pos, negsuc, ◌+ℤ◌, ◌-ℤ◌}
use Rattle.sheet.specs.Slot.{child_count}
use Rattle.tree.specs.Tree.{SlotBytes}

-- the sum of some integers
unfoldable pub sum : List ℤ → ℤ
sum [] = pos 0
sum (x ∷ xs) = x +ℤ sum xs

-- open places after k nodes: 1 plus the sum of (children - 1)
unfoldable pub open_places : List SlotBytes → ℕ → ℤ
open_places ss k = pos 1 +ℤ sum (map (λ s. pos (child_count s) -ℤ pos 1) (take k ss))

-- whether no place is open
unfoldable pub is_no_place : ℤ → Bool
is_no_place (pos zero) = true
is_no_place (pos (suc n)) = false
is_no_place (negsuc n) = false
