-- The list of differences: "in the first sheet's node order, .. each node and each slot field in which two sheets differ, with both contents".
use Rattle.std.specs.Prelude.{ℕ, suc, Bool, false, cond, ◌||◌, List, [], ◌∷◌, ◌++◌, eqb, get_or, take, drop}
use Rattle.std.proofs.Math.Option.{Option, none, some}
use Rattle.laws.specs.Bytes.{bytes_of}
use Rattle.sheet.specs.Name.{same_bytes}
use Rattle.sheet.specs.Slot.{empty_slot}
use Rattle.tree.specs.Tree.{SlotBytes, Tree, listing}
use Rattle.matching.specs.Matching.{matching}
use Rattle.matching.specs.declared.fields.Match.{Match}
use Rattle.differences.specs.Entry.{SlotField, slot_fields, Entry, entry, PLACES, ONLY_FIRST, ONLY_SECOND}

-- a field's bytes in a slot
unfoldable pub content : SlotField → SlotBytes → List ℕ
content f s = take f.width (drop f.code s)

-- of node k, which matches a node with the slot u, the fields in which their slots differ
unfoldable pub field_entries : ℕ → SlotBytes → SlotBytes → List SlotField → List Entry
field_entries k s u [] = []
field_entries k s u (f ∷ fs) =
    cond (same_bytes (content f s) (content f u)) [] (entry f.code k (content f s) (content f u) ∷ []) ++ field_entries k s u fs

-- "Matched nodes whose places among their siblings differ are listed with both places, from 0"
unfoldable pub place_entries : ℕ → Match → List Entry
place_entries k m = cond (eqb m.place m.other) [] (entry PLACES k (bytes_of 2 m.place) (bytes_of 2 m.other) ∷ [])

-- of node k of the first tree, by what it matches among the second's slots: "Unmatched nodes are listed with node number and whole slot"
unfoldable pub node_entries : List SlotBytes → ℕ → SlotBytes → Option Match → List Entry
node_entries others k s none = entry ONLY_FIRST k s [] ∷ []
node_entries others k s (some m) = field_entries k s (get_or others m.number empty_slot) slot_fields ++ place_entries k m

-- of the first tree's nodes from node k on
unfoldable pub first_entries : List SlotBytes → List (Option Match) → ℕ → List SlotBytes → List Entry
first_entries others ms k [] = []
first_entries others ms k (s ∷ ss) = node_entries others k s (get_or ms k none) ++ first_entries others ms (suc k) ss

-- a node of the first tree matches node j of the second
unfoldable pub is_matched : ℕ → List (Option Match) → Bool
is_matched j [] = false
is_matched j (none ∷ ms) = is_matched j ms
is_matched j (some m ∷ ms) = eqb m.number j || is_matched j ms

-- the second tree's unmatched nodes from node j on: "the second's last, in its order"
unfoldable pub second_entries : List (Option Match) → ℕ → List SlotBytes → List Entry
second_entries ms j [] = []
second_entries ms j (s ∷ ss) = cond (is_matched j ms) [] (entry ONLY_SECOND j [] s ∷ []) ++ second_entries ms (suc j) ss

-- the whole list, by the slots of both and what matches
unfoldable pub list_of : List SlotBytes → List SlotBytes → List (Option Match) → List Entry
list_of ones others ms = first_entries others ms 0 ones ++ second_entries ms 0 others

unfoldable pub differences : Tree → Tree → List Entry
differences t u = list_of (listing t) (listing u) (matching t u)
