-- Levels: what one node more on a path adds.
use Prim.Native.Nat.{ℕ, ◌+◌, ◌≤◌}
use mathlib.Core.Path.{◌≡◌}
use mathlib.Core.Bool.{Bool, true, false, cond}
use mathlib.Core.List.{List, ◌∷◌}
use native.Mathlib.Omega.{arith}
use Rattle.sheet.specs.Slot.{slot_at, numbers_of}
use Rattle.tree.specs.Tree.{Tree, node}
use Rattle.tree.specs.Steps.{Visited, fields_at}
use Rattle.sheet.specs.declared.slots.Slot.{Slot as Numbers}
use Rattle.schema.specs.Levels.{is_optional_or_repeated, is_repeated_code, counted, how_many}
use Rattle.schema.specs.Steps.{HasLevels, LevelsAtMost}

-- one at the most
pub counted_most : (counts : ℕ → Bool) (code : ℕ) → counted counts code ≤ 1
counted_most counts code = on (counts code)
  where
    on : (b : Bool) → cond b 1 0 ≤ 1
    on true = omega arith
    on false = omega arith

-- the levels of a node of a sheet, by its parent's
module _ (b : List ℕ) (at : ℕ) (s : Numbers) (d r in-d in-r own-d own-r : ℕ) (a : in-d ≡ counted is_optional_or_repeated s.repetition) (c : in-r ≡ counted is_repeated_code s.repetition) (e : own-d ≡ d + in-d) (f : own-r ≡ r + in-r) where
  pub levels_below : Visited b at s → (path : List Tree) → HasLevels path d r → HasLevels (node (slot_at b at) (fields_at b at) ∷ path) own-d own-r
  unfolding how_many numbers_of
  levels_below v path g =
      record { definition_is = rw (e, g.definition_is, a, v.numbers); repetition_is = rw (f, g.repetition_is, c, v.numbers) }

  pub levels_most : (n : ℕ) → LevelsAtMost n d r → LevelsAtMost (n + 1) own-d own-r
  levels_most n h =
      record {
        definition_most = omega (arith, h.definition_most, e, a, counted_most is_optional_or_repeated s.repetition);
        repetition_most = omega (arith, h.repetition_most, f, c, counted_most is_repeated_code s.repetition);
      }

-- levels that n nodes make are levels of more
pub at_most_lem : (n m d r : ℕ) → LevelsAtMost n d r → n ≤ m → LevelsAtMost m d r
at_most_lem n m d r h k =
    record { definition_most = omega (arith, h.definition_most); repetition_most = omega (arith, h.repetition_most) }
