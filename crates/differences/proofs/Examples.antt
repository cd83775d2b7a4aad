-- Worked examples.
use mathlib.Core.Path.{◌≡◌, refl}
use mathlib.Core.List.{List, [], ◌∷◌, ◌++◌}
use Prim.Native.Nat.{ℕ}
use lib.ListN.{replicate}
use Rattle.laws.specs.Bytes.{bytes_of, little}
use Rattle.laws.specs.Stretches.{stretched}
use Rattle.sheet.specs.Slot.{name, name_length_of, child_count, empty_slot}
use Rattle.sheet.specs.Number.{number_at}
use Rattle.sheet.specs.Name.{same_bytes}
use Rattle.tree.specs.Tree.{Tree, node, empty, field, size, listing, listings}
use Rattle.matching.specs.Matching.{matching, matches, run_matches, nth, alike, siblings}
use Rattle.differences.specs.Entry.{slot_fields, entry, filled, list_bytes, entry_bytes, entry_in, entries_in}
use Rattle.differences.specs.Differences.{differences, list_of, first_entries, second_entries, node_entries, field_entries, place_entries, is_matched, content}
use Rattle.differences.specs.Rebuilding.{entries_of, is_gone, place_by, width_in, slot_by, slots_at, in_order, matched_slots, blocks, with_only, slots_from}

slot : ℕ → ℕ → List ℕ
slot c children = replicate 6 0 ++ bytes_of 2 children ++ replicate 12 0 ++ (1 ∷ 0 ∷ 0 ∷ 0 ∷ c ∷ []) ++ replicate 47 0

leaf : ℕ → Tree
leaf c = node (slot c 0) empty

-- siblings a, b(x), a, c against a, a, b(y, x), a
one : Tree
one = node (slot 0 4) (field (leaf 1) (field (node (slot 2 1) (field (leaf 9) empty)) (field (leaf 1) (field (leaf 3) empty))))

two : Tree
two = node (slot 7 4) (field (leaf 1) (field (leaf 1) (field (node (slot 2 2) (field (leaf 8) (field (leaf 9) empty))) (field (leaf 1) empty))))

list : differences one two
    ≡ entry 24 0 (0 ∷ replicate 47 0) (7 ∷ replicate 47 0)
    ∷ entry 6 2 (1 ∷ 0 ∷ []) (2 ∷ 0 ∷ [])
    ∷ entry 72 2 (1 ∷ 0 ∷ []) (2 ∷ 0 ∷ [])
    ∷ entry 72 3 (0 ∷ 0 ∷ []) (1 ∷ 0 ∷ [])
    ∷ entry 72 4 (2 ∷ 0 ∷ []) (1 ∷ 0 ∷ [])
    ∷ entry 73 5 (slot 3 0) []
    ∷ entry 74 4 [] (slot 8 0)
    ∷ entry 74 6 [] (slot 1 0)
    ∷ []
unfolding one two slot leaf differences list_of first_entries second_entries node_entries field_entries place_entries is_matched content slot_fields filled empty_slot matching matches run_matches nth alike siblings same_bytes name name_length_of size listing listings bytes_of
list = refl

back : slots_from (entries_in 8 (list_bytes (differences one two))) one ≡ listing two
unfolding one two slot leaf differences list_of first_entries second_entries node_entries field_entries place_entries is_matched content slot_fields filled empty_slot matching matches run_matches nth alike siblings same_bytes name name_length_of size listing listings bytes_of list_bytes entry_bytes entry_in entries_in entries_of is_gone place_by width_in slot_by slots_at in_order matched_slots blocks with_only slots_from stretched child_count number_at little
back = refl
