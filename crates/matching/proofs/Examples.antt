-- Worked examples.
use mathlib.Core.Path.{◌≡◌, refl}
use mathlib.Core.List.{List, [], ◌∷◌, ◌++◌}
use mathlib.Core.Option.{Option, none, some}
use Prim.Native.Nat.{ℕ}
use lib.ListN.{replicate}
use Rattle.sheet.specs.Slot.{name, name_length_of}
use Rattle.sheet.specs.Name.{same_bytes}
use Rattle.tree.specs.Tree.{Tree, node, empty, field, size, listing, listings}
use Rattle.matching.specs.Matching.{matching, matches, run_matches, nth, alike, siblings}
use Rattle.matching.specs.declared.fields.Match.{Match}

slot : ℕ → List ℕ
slot c = replicate 20 0 ++ (1 ∷ 0 ∷ 0 ∷ 0 ∷ c ∷ []) ++ replicate 47 0

leaf : ℕ → Tree
leaf c = node (slot c) empty

match : ℕ → ℕ → ℕ → Option Match
match number place other = some (record { number = number; place = place; other = other })

-- siblings a, b(x), a, c against a, a, b(y, x), a
example :
    matching
    (node (slot 0) (field (leaf 1) (field (node (slot 2) (field (leaf 9) empty)) (field (leaf 1) (field (leaf 3) empty)))))
    (node (slot 7) (field (leaf 1) (field (leaf 1) (field (node (slot 2) (field (leaf 8) (field (leaf 9) empty))) (field (leaf 1) empty)))))
    ≡ match 0 0 0 ∷ match 1 0 0 ∷ match 3 1 2 ∷ match 5 0 1 ∷ match 2 2 1 ∷ none ∷ []
unfolding slot leaf match matching matches run_matches nth alike siblings same_bytes name name_length_of size listing listings
example = refl
