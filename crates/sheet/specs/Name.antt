-- Where a name stands in a sheet, and when two names are the same ("Name bytes are free": bytes are compared, and nothing else).
use Rattle.std.specs.Prelude.{ℕ, ◌+◌, Bool, true, false, cond, ◌&&◌, List, [], ◌∷◌, eqb, length}
use Rattle.sheet.specs.Slot.{name_at, slot_start, reaches, slot_at, name}
use Rattle.sheet.specs.declared.names.Stretch.{Stretch}

-- where the name of node k stands in the sheet's bytes: at 0 where the bytes do not reach its slot
unfoldable pub stretch_of : List ℕ → ℕ → Stretch
stretch_of sheet k = record { start = cond (reaches sheet k) (slot_start k + name_at) 0; len = length (name (slot_at sheet k)) }

-- the two lists hold the same bytes, at their whole length
unfoldable pub same_bytes : List ℕ → List ℕ → Bool
same_bytes [] [] = true
same_bytes [] (y ∷ ys) = false
same_bytes (x ∷ xs) [] = false
same_bytes (x ∷ xs) (y ∷ ys) = eqb x y && same_bytes xs ys
