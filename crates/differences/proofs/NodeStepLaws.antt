-- The entries of nodes, as they are put one node after the other.
use mathlib.Core.Path.{◌≡◌, refl, ap, ◌∙◌}
use mathlib.Core.Bool.{Bool, true, false, cond}
use mathlib.Core.List.{List, [], ◌∷◌, ◌++◌, map}
use mathlib.Core.Option.{none}
use Prim.Native.Nat.{ℕ, zero, suc, ◌+◌, ◌*◌, ◌≤◌, ◌<◌}
use native.Mathlib.Numerals.{add-one}
use native.Mathlib.Omega.{arith}
use lib.Dec.{eqb}
use lib.ListN.{length, get_or, drop, length-append, drop_of_length-le}
use lib.Seq.{drop-cons}
use Rattle.laws.proofs.BoolLaws.{by_test}
use Rattle.sheet.specs.Block.{slot_size, total_of}
use Rattle.sheet.specs.Slot.{slots, slot_at, slot_bytes_at, reaches, empty_slot}
use Rattle.sheet.proofs.SlotLaws.{slot_at_length, slot_bytes_at_there, slots_at_lem, slots_length}
use Rattle.tree.specs.Tree.{SlotBytes}
use Rattle.matching.specs.declared.fields.Match.{Match}
use Rattle.std.specs.Prelude.{Option as Found, Some, None}
use Rattle.differences.specs.Entry.{SlotField, slot_fields, Entry, entry, ONLY_FIRST, ONLY_SECOND}
use Rattle.differences.specs.Differences.{field_entries, place_entries, node_entries, first_entries}
use Rattle.differences.specs.Steps.{Puts, match_in, unmarked_entries}
use Rattle.differences.proofs.PutLaws.{Putting, putting_start, putting_next, putting_end}
use Rattle.differences.proofs.FieldStepLaws.{field_entry, field_most, twelve_fields}

-- ---- a slot that the bytes reach

module _ (b : List ℕ) (k : ℕ) (there : reaches b k ≡ true) (s : List ℕ) (e : s ≡ slot_bytes_at b k) where
  pub slot_is : s ≡ slot_at b k
  slot_is = e ∙ slot_bytes_at_there b k there

  pub slot_whole : length s ≡ slot_size
  slot_whole = ap length slot_is ∙ slot_at_length b k

-- ---- how many entries a node has

fields_most : (k : ℕ) (s u : SlotBytes) (fs : List SlotField) → length (field_entries k s u fs) ≤ length fs
unfolding field_entries
fields_most k s u [] = omega arith
fields_most k s u (f ∷ fs) = omega (arith, length-append (field_entry k s u f) (field_entries k s u fs), field_most k s u f, fields_most k s u fs)

pub twelve_most : (k : ℕ) (s u : SlotBytes) → length (field_entries k s u slot_fields) ≤ 12
twelve_most k s u = omega (arith, fields_most k s u slot_fields, twelve_fields)

pub places_most : (k : ℕ) (m : Match) → length (place_entries k m) ≤ 1
unfolding place_entries
places_most k m = by_test (eqb m.place m.other) (λ e. rw e (omega arith)) (λ e. rw e (omega arith))

-- ---- a node of the first sheet

module _ (second : List ℕ) (k : ℕ) (s : SlotBytes) (x : Found Match) where
  pub node_none : x ≡ None → node_entries (slots second) k s (match_in x) ≡ entry ONLY_FIRST k s [] ∷ []
  unfolding node_entries
  node_none e = rw e refl

  pub node_some : (m : Match) → x ≡ Some m → m.number < total_of second → node_entries (slots second) k s (match_in x) ≡ field_entries k s (slot_at second m.number) slot_fields ++ place_entries k m
  unfolding node_entries
  node_some m e below = rw e (ap (λ (u : SlotBytes). field_entries k s u slot_fields ++ place_entries k m) (slots_at_lem second m.number empty_slot below))

-- ---- a node of the second sheet

-- the entry of a node that has a mark
abbrev pub unmarked_entry : Bool → ℕ → SlotBytes → List Entry
unmarked_entry mark j s = cond mark [] (entry ONLY_SECOND j [] s ∷ [])

module _ (mark : Bool) (j : ℕ) (s : SlotBytes) where
  pub other_marked : mark ≡ true → unmarked_entry mark j s ≡ []
  other_marked e = rw e

  pub other_unmarked : mark ≡ false → unmarked_entry mark j s ≡ entry ONLY_SECOND j [] s ∷ []
  other_unmarked e = rw e

  other_most : length (unmarked_entry mark j s) ≤ 1
  other_most = by_test mark (λ e. rw e (omega arith)) (λ e. rw e (omega arith))

-- nodes of the second sheet that are passed, behind n₀ entries
pub record OthersPut (b : List ℕ) (marks : List Bool) (out₀ : List ℕ) (n₀ : ℕ) (out : List ℕ) (n j : ℕ) : Type 0 where
  pub most : j ≤ total_of b
  pub few : n ≤ n₀ + j
  pub long : length out ≡ length out₀
  pub putting : Putting out₀ n₀ (unmarked_entries marks 0 (slots b)) out n (unmarked_entries marks j (drop j (slots b)))

module _ (b : List ℕ) (marks : List Bool) (out₀ : List ℕ) (n₀ : ℕ) where
  pub others_put_start : OthersPut b marks out₀ n₀ out₀ n₀ 0
  others_put_start = record { most = omega arith; few = omega arith; long = refl; putting = putting_start out₀ n₀ (unmarked_entries marks 0 (slots b)) }

  module _ (out : List ℕ) (n j : ℕ) (p : OthersPut b marks out₀ n₀ out n j) where
    others_next : j < total_of b → unmarked_entries marks j (drop j (slots b)) ≡ unmarked_entry (get_or marks j false) j (slot_at b j) ++ unmarked_entries marks (j + 1) (drop (j + 1) (slots b))
    unfolding unmarked_entries
    others_next h =
        ap (unmarked_entries marks j) (drop-cons (slots b) j empty_slot (omega (arith, h, slots_length b)))
        ∙ rw (slots_at_lem b j empty_slot h, add-one)

    pub others_put_next : j < total_of b → (held : List ℕ) (m : ℕ) → length held ≡ length out → Puts out n (unmarked_entry (get_or marks j false) j (slot_at b j)) held m → OthersPut b marks out₀ n₀ held m (j + 1)
    others_put_next h held m long q = record {
      most = omega (arith, h);
      few = omega (arith, p.few, q.counts, other_most (get_or marks j false) j (slot_at b j));
      long = long ∙ p.long;
      putting = putting_next out₀ n₀ (unmarked_entries marks 0 (slots b)) out n (unmarked_entries marks j (drop j (slots b))) p.putting
          (unmarked_entry (get_or marks j false) j (slot_at b j)) (unmarked_entries marks (j + 1) (drop (j + 1) (slots b))) (others_next h) held m q;
    }

    others_end : total_of b ≤ j → unmarked_entries marks j (drop j (slots b)) ≡ []
    unfolding unmarked_entries
    others_end h = ap (unmarked_entries marks j) (drop_of_length-le (slots b) {i = j} (omega (arith, h, slots_length b)))

    pub others_put_end : total_of b ≤ j → Puts out₀ n₀ (unmarked_entries marks 0 (slots b)) out n
    others_put_end h = putting_end out₀ n₀ (unmarked_entries marks 0 (slots b)) out n (unmarked_entries marks j (drop j (slots b))) p.putting (others_end h)

-- ---- all nodes of the first sheet

-- what node k matches
pub match_in_at : (found : List (Found Match)) (k : ℕ) → get_or (map match_in found) k none ≡ match_in (get_or found k None)
match_in_at [] k = refl
match_in_at (x ∷ xs) zero = refl
match_in_at (x ∷ xs) (suc k) = match_in_at xs k

-- nodes of the first sheet that are passed
pub record NodesPut (first second : List ℕ) (found : List (Found Match)) (out₀ out : List ℕ) (n k : ℕ) : Type 0 where
  pub most : k ≤ total_of first
  pub few : n ≤ 13 * k
  pub long : length out ≡ length out₀
  pub putting : Putting out₀ 0 (first_entries (slots second) (map match_in found) 0 (slots first)) out n (first_entries (slots second) (map match_in found) k (drop k (slots first)))

module _ (first second : List ℕ) (found : List (Found Match)) (out₀ : List ℕ) where
  abbrev all : List Entry
  all = first_entries (slots second) (map match_in found) 0 (slots first)

  abbrev left : ℕ → List Entry
  left k = first_entries (slots second) (map match_in found) k (drop k (slots first))

  pub nodes_put_start : NodesPut first second found out₀ out₀ 0 0
  nodes_put_start = record { most = omega arith; few = omega arith; long = refl; putting = putting_start out₀ 0 all }

  module _ (out : List ℕ) (n k : ℕ) (p : NodesPut first second found out₀ out n k) where
    nodes_next : k < total_of first → left k ≡ node_entries (slots second) k (slot_at first k) (match_in (get_or found k None)) ++ left (k + 1)
    unfolding first_entries
    nodes_next h =
        ap (first_entries (slots second) (map match_in found) k) (drop-cons (slots first) k empty_slot (omega (arith, h, slots_length first)))
        ∙ rw (slots_at_lem first k empty_slot h, match_in_at found k, add-one)

    pub nodes_put_next : k < total_of first → (held : List ℕ) (m : ℕ) → length held ≡ length out → m ≤ n + 13 → Puts out n (node_entries (slots second) k (slot_at first k) (match_in (get_or found k None))) held m → NodesPut first second found out₀ held m (k + 1)
    nodes_put_next h held m long few q = record {
      most = omega (arith, h);
      few = omega (arith, p.few, few);
      long = long ∙ p.long;
      putting = putting_next out₀ 0 all out n (left k) p.putting (node_entries (slots second) k (slot_at first k) (match_in (get_or found k None))) (left (k + 1)) (nodes_next h) held m q;
    }

    nodes_end : total_of first ≤ k → left k ≡ []
    unfolding first_entries
    nodes_end h = ap (first_entries (slots second) (map match_in found) k) (drop_of_length-le (slots first) {i = k} (omega (arith, h, slots_length first)))

    pub nodes_put_end : total_of first ≤ k → Puts out₀ 0 all out n
    nodes_put_end h = putting_end out₀ 0 all out n (left k) p.putting (nodes_end h)
