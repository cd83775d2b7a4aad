-- How many entries a list has at most: each node of the first tree has an entry a field and one for its places, or one; each of the second's one.
use mathlib.Core.Path.{◌≡◌, refl}
use mathlib.Core.Bool.{Bool, true, false, cond}
use mathlib.Core.List.{List, [], ◌∷◌}
use mathlib.Core.Option.{Option, none, some}
use Prim.Native.Nat.{ℕ, suc, ◌+◌, ◌*◌, ◌≤◌}
use native.Mathlib.Omega.{arith}
use lib.Dec.{eqb}
use lib.ListN.{length, get_or, length-append}
use Rattle.laws.specs.Bytes.{bytes_of}
use Rattle.sheet.specs.Name.{same_bytes}
use Rattle.sheet.specs.Slot.{empty_slot}
use Rattle.tree.specs.Tree.{SlotBytes, Tree, listing}
use Rattle.matching.specs.Matching.{matching}
use Rattle.matching.specs.declared.fields.Match.{Match}
use Rattle.differences.specs.Entry.{SlotField, slot_fields, Entry, entry, PLACES, ONLY_SECOND}
use Rattle.differences.specs.Differences.{content, field_entries, place_entries, node_entries, first_entries, is_matched, second_entries, list_of, differences}

-- one entry or none
at_most_one : (b : Bool) (e : Entry) → length (cond b [] (e ∷ [])) ≤ 1
at_most_one true e = omega arith
at_most_one false e = omega arith

field_most : (k : ℕ) (s u : SlotBytes) (fs : List SlotField) → length (field_entries k s u fs) ≤ length fs
unfolding field_entries
field_most k s u [] = omega arith
field_most k s u (f ∷ fs) =
    let equal = same_bytes (content f s) (content f u) in
    let e = entry f.code k (content f s) (content f u) in
    omega (arith, length-append (cond equal [] (e ∷ [])) (field_entries k s u fs), at_most_one equal e, field_most k s u fs)

place_most : (k : ℕ) (m : Match) → length (place_entries k m) ≤ 1
unfolding place_entries
place_most k m = at_most_one (eqb m.place m.other) (entry PLACES k (bytes_of 2 m.place) (bytes_of 2 m.other))

twelve_fields : length slot_fields ≡ 12
unfolding slot_fields
twelve_fields = refl

node_most : (others : List SlotBytes) (k : ℕ) (s : SlotBytes) (o : Option Match) → length (node_entries others k s o) ≤ 13
unfolding node_entries
node_most others k s none = omega arith
node_most others k s (some m) =
    let u = get_or others m.number empty_slot in
    omega (arith, length-append (field_entries k s u slot_fields) (place_entries k m), field_most k s u slot_fields, place_most k m, twelve_fields)

first_most : (others : List SlotBytes) (ms : List (Option Match)) (k : ℕ) (ss : List SlotBytes) → length (first_entries others ms k ss) ≤ 13 * length ss
unfolding first_entries
first_most others ms k [] = omega arith
first_most others ms k (s ∷ ss) =
    let here = node_entries others k s (get_or ms k none) in
    omega (arith, length-append here (first_entries others ms (suc k) ss), node_most others k s (get_or ms k none), first_most others ms (suc k) ss)

second_most : (ms : List (Option Match)) (j : ℕ) (ss : List SlotBytes) → length (second_entries ms j ss) ≤ length ss
unfolding second_entries
second_most ms j [] = omega arith
second_most ms j (s ∷ ss) =
    let e = entry ONLY_SECOND j [] s in
    omega (arith, length-append (cond (is_matched j ms) [] (e ∷ [])) (second_entries ms (suc j) ss), at_most_one (is_matched j ms) e, second_most ms (suc j) ss)

-- the entries of two trees' list
pub differences_most : (t u : Tree) → length (differences t u) ≤ 13 * length (listing t) + length (listing u)
unfolding differences list_of
differences_most t u =
    let ms = matching t u in
    omega (arith, length-append (first_entries (listing u) ms 0 (listing t)) (second_entries ms 0 (listing u)), first_most (listing u) ms 0 (listing t), second_most ms 0 (listing u))
