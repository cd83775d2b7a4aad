-- Which entries of the list are a node's: those that are listed of it, and no others.
use Prim.Native.Nat.{ℕ, zero, suc, ◌+◌, ◌≤◌, ◌<◌}
use mathlib.Core.Path.{◌≡◌, refl, sym, ap, ap₂, ◌∙◌}
use mathlib.Core.Bool.{Bool, false, cond, not, ◌&&◌}
use mathlib.Core.List.{List, [], ◌∷◌, ◌++◌, append_assoc, append-nil}
use mathlib.Core.Option.{Option, none, some}
use native.Mathlib.Nat.{zero-add, add-zero, add-suc, suc-add}
use native.Mathlib.Omega.{arith}
use lib.Dec.{eqb}
use lib.ListN.{length, get_or, take, drop}
use borrow.Author.Tests.{eq-eqb, ne_eqb}
use Rattle.laws.proofs.BoolLaws.{by_test}
use Rattle.sheet.specs.Block.{slot_size}
use Rattle.sheet.specs.Slot.{empty_slot}
use Rattle.sheet.specs.Name.{same_bytes}
use Rattle.tree.specs.Tree.{SlotBytes}
use Rattle.matching.specs.declared.fields.Match.{Match}
use Rattle.differences.specs.Entry.{SlotField, slot_fields, Entry, PLACES, ONLY_FIRST, ONLY_SECOND}
use Rattle.differences.specs.Differences.{content, field_entries, place_entries, node_entries, first_entries, is_matched, second_entries, list_of}
use Rattle.differences.specs.Rebuilding.{entries_of, is_gone, place_by, with_only}

-- ---- entries of one node

-- each is of node k, and its code is below a bound
unfoldable pub Of : ℕ → ℕ → List Entry → Type 0
Of bound k [] = Unit {0}
Of bound k (e ∷ es) = (e.number ≡ k) × (e.code < bound) × Of bound k es

-- they and others
of_join : (bound k : ℕ) (es fs : List Entry) → Of bound k es → Of bound k fs → Of bound k (es ++ fs)
unfolding Of
of_join bound k [] fs g h = h
of_join bound k (e ∷ es) fs g h = (g.0, g.1, of_join bound k es fs g.2 h)

-- the codes of fields are below a slot's size
abbrev pub Low : List SlotField → Type 0
Low [] = Unit {0}
Low (f ∷ fs) = (f.code < slot_size) × Low fs

pub low_slot_fields : Low slot_fields
unfolding slot_fields
low_slot_fields = omega arith

-- those of fields are, those of places, and all that are listed of a node
of_listed : (bound : ℕ) → slot_size ≤ bound → (k : ℕ) (s v : SlotBytes) (fs : List SlotField) → Low fs → Of bound k (field_entries k s v fs)
unfolding Of field_entries
of_listed bound h k s v [] low = tt
of_listed bound h k s v (f ∷ fs) low =
    let rest = of_listed bound h k s v fs low.1 in
    by_test (same_bytes (content f s) (content f v)) (λ e. rw e rest) (λ e. rw e (refl, omega arith, rest))

pub of_fields : (bound : ℕ) → slot_size ≤ bound → (k : ℕ) (s v : SlotBytes) → Of bound k (field_entries k s v slot_fields)
of_fields bound h k s v = of_listed bound h k s v slot_fields low_slot_fields

of_places : (bound : ℕ) → PLACES < bound → (k : ℕ) (m : Match) → Of bound k (place_entries k m)
unfolding Of place_entries
of_places bound h k m = by_test (eqb m.place m.other) (λ e. rw e tt) (λ e. rw e (refl, h, tt))

pub of_both : (bound : ℕ) → PLACES < bound → (k : ℕ) (s v : SlotBytes) (m : Match) → Of bound k (field_entries k s v slot_fields ++ place_entries k m)
of_both bound h k s v m =
    of_join bound k (field_entries k s v slot_fields) (place_entries k m) (of_fields bound (omega arith) k s v) (of_places bound h k m)

pub of_node : (others : List SlotBytes) (k : ℕ) (s : SlotBytes) (m : Option Match) → Of ONLY_SECOND k (node_entries others k s m)
unfolding node_entries Of
of_node others k s none = (refl, omega arith, tt)
of_node others k s (some m) = of_both ONLY_SECOND (omega arith) k s (get_or others m.number empty_slot) m

-- ---- what they say

-- none of them says that the node is only in the first
pub is_gone_below : (k : ℕ) (es : List Entry) → Of ONLY_FIRST k es → is_gone es ≡ false
unfolding Of is_gone
is_gone_below k [] h = refl
is_gone_below k (e ∷ es) h = rw (ne_eqb e.code ONLY_FIRST (λ q. omega (arith, h.1))) (is_gone_below k es h.2)

-- none of them has places
pub place_by_below : (p k : ℕ) (es fs : List Entry) → Of PLACES k es → place_by p (es ++ fs) ≡ place_by p fs
unfolding Of place_by
place_by_below p k [] fs h = refl
place_by_below p k (e ∷ es) fs h = rw (ne_eqb e.code PLACES (λ q. omega (arith, h.1))) (place_by_below p k es fs h.2)

-- none of them puts a slot in
with_only_of : (ss : List SlotBytes) (k : ℕ) (es fs : List Entry) → Of ONLY_SECOND k es → with_only ss (es ++ fs) ≡ with_only ss fs
unfolding Of with_only
with_only_of ss k [] fs h = refl
with_only_of ss k (e ∷ es) fs h =
    ap (λ (b : Bool). with_only (cond b (take e.number ss ++ e.second ∷ drop e.number ss) ss) (es ++ fs))
    (ne_eqb e.code ONLY_SECOND (λ q. omega (arith, h.1)))
    ∙ with_only_of ss k es fs h.2

-- ---- the entries of a node among others

-- those of a list and of one behind it
entries_of_append : (k : ℕ) (es fs : List Entry) → entries_of k (es ++ fs) ≡ entries_of k es ++ entries_of k fs
unfolding entries_of
entries_of_append k [] fs = refl
entries_of_append k (e ∷ es) fs =
    rw (entries_of_append k es fs)
    (sym (append_assoc (cond (eqb e.number k && not (eqb e.code ONLY_SECOND)) (e ∷ []) []) (entries_of k es) (entries_of k fs)))

-- all are of their node
entries_of_own : (k : ℕ) (es : List Entry) → Of ONLY_SECOND k es → entries_of k es ≡ es
unfolding Of entries_of
entries_of_own k [] h = refl
entries_of_own k (e ∷ es) h =
    rw (eq-eqb e.number k h.0, ne_eqb e.code ONLY_SECOND (λ q. omega (arith, h.1))) (ap (λ (l : List Entry). e ∷ l) (entries_of_own k es h.2))

-- and none of another
entries_of_other : (j k bound : ℕ) (es : List Entry) → (k ≡ j → ⊥) → Of bound k es → entries_of j es ≡ []
unfolding Of entries_of
entries_of_other j k bound [] n h = refl
entries_of_other j k bound (e ∷ es) n h = rw (ne_eqb e.number j (λ q. n (sym h.0 ∙ q))) (entries_of_other j k bound es n h.2)

-- those of the second's nodes are of none
entries_of_second : (k : ℕ) (ms : List (Option Match)) (j : ℕ) (ss : List SlotBytes) → entries_of k (second_entries ms j ss) ≡ []
unfolding entries_of second_entries
entries_of_second k ms j [] = refl
entries_of_second k ms j (s ∷ ss) =
    let rest = entries_of_second k ms (suc j) ss in
    by_test (is_matched j ms) (λ e. rw e rest) (λ e. rw e (by_test (eqb j k) (λ q. rw q rest) (λ q. rw q rest)))

module _ (others : List SlotBytes) (ms : List (Option Match)) where
  -- of those from some node on none is of a node before it, and those of each node are its own
  entries_of_before : (ss : List SlotBytes) (k j : ℕ) → j < k → entries_of j (first_entries others ms k ss) ≡ []
  unfolding first_entries entries_of
  entries_of_before [] k j h = refl
  entries_of_before (s ∷ ss) k j h =
      entries_of_append j (node_entries others k s (get_or ms k none)) (first_entries others ms (suc k) ss)
      ∙ ap₂ ◌++◌ (entries_of_other j k ONLY_SECOND _ (λ e. omega arith) (of_node others k s (get_or ms k none))) (entries_of_before ss (suc k) j (omega arith))

  entries_of_first : (ss : List SlotBytes) (k i : ℕ) → i < length ss
      → entries_of (k + i) (first_entries others ms k ss) ≡ node_entries others (k + i) (get_or ss i empty_slot) (get_or ms (k + i) none)
  unfolding first_entries
  entries_of_first [] k i h = absurd (omega arith)
  entries_of_first (s ∷ ss) k zero h = rw (add-zero k)
      (entries_of_append k (node_entries others k s (get_or ms k none)) (first_entries others ms (suc k) ss)
      ∙ ap₂ ◌++◌ (entries_of_own k _ (of_node others k s (get_or ms k none))) (entries_of_before ss (suc k) k (omega arith))
      ∙ append-nil _)
  entries_of_first (s ∷ ss) k (suc i) h = rw (add-suc k i, ← (suc-add k i))
      (entries_of_append (suc k + i) (node_entries others k s (get_or ms k none)) (first_entries others ms (suc k) ss)
      ∙ ap₂ ◌++◌ (entries_of_other (suc k + i) k ONLY_SECOND _ (λ e. omega arith) (of_node others k s (get_or ms k none)))
      (entries_of_first ss (suc k) i (omega arith)))

  -- of the whole list those of a node of the first
  pub entries_of_list : (ones : List SlotBytes) (k : ℕ) → k < length ones
      → entries_of k (list_of ones others ms) ≡ node_entries others k (get_or ones k empty_slot) (get_or ms k none)
  unfolding list_of
  entries_of_list ones k h =
      entries_of_append k (first_entries others ms 0 ones) (second_entries ms 0 others)
      ∙ ap₂ ◌++◌ (rw (zero-add k) at (entries_of_first ones 0 k h)) (entries_of_second k ms 0 others)
      ∙ append-nil _

  -- none of the first's puts a slot in
  pub with_only_first : (ss : List SlotBytes) (k : ℕ) (ones : List SlotBytes) (es : List Entry)
      → with_only ss (first_entries others ms k ones ++ es) ≡ with_only ss es
  unfolding first_entries
  with_only_first ss k [] es = refl
  with_only_first ss k (s ∷ ones) es =
      ap (with_only ss) (append_assoc (node_entries others k s (get_or ms k none)) (first_entries others ms (suc k) ones) es)
      ∙ with_only_of ss k (node_entries others k s (get_or ms k none)) (first_entries others ms (suc k) ones ++ es) (of_node others k s (get_or ms k none))
      ∙ with_only_first ss (suc k) ones es
