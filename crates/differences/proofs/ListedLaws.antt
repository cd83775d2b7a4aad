-- Which entries the list has: exactly those that say a difference.
use Prim.Native.Nat.{ℕ, zero, suc, ◌+◌, ◌<◌}
use mathlib.Core.Path.{◌≡◌, refl, sym, ap, ◌∙◌, subst}
use mathlib.Core.Bool.{false, true≢false, cond}
use mathlib.Core.List.Memᴰ
use mathlib.Core.List.{List, [], ◌∷◌, ◌++◌}
use mathlib.Core.Logic.{⊎_elim, ◌↔◌}
use mathlib.Core.Option.{Option, none, some_inj}
use native.Mathlib.Nat.{add-zero, zero-add}
use native.Mathlib.Omega.{arith}
use lib.Dec.{eqb}
use lib.ListN.{length, get_or}
use borrow.Author.Tests.{eqb-false, ne_eqb}
use Rattle.laws.specs.Bytes.{bytes_of}
use Rattle.laws.proofs.BoolLaws.{by_test}
use Rattle.sheet.specs.Slot.{empty_slot}
use Rattle.sheet.specs.Name.{same_bytes}
use Rattle.sheet.proofs.NameLaws.{same_bytes_true, same_bytes_false}
use Rattle.tree.specs.Tree.{SlotBytes, Tree, listing, size, slot_of}
use Rattle.matching.specs.Matching.{Sibling, matching}
use Rattle.matching.specs.declared.fields.Match.{Match}
use Rattle.matching.specs.Nodes.{IsNode, Matched, Unmatched}
use Rattle.matching.proofs.NthLaws.{element_at}
use Rattle.matching.proofs.NodeLaws.{node_below, node_at, node_slot}
use Rattle.matching.proofs.MatchedLaws.{matched_or_not}
use Rattle.differences.specs.Entry.{SlotField, slot_fields, Entry, entry, PLACES, ONLY_FIRST, ONLY_SECOND}
use Rattle.differences.specs.Differences.{content, field_entries, place_entries, node_entries, first_entries, is_matched, second_entries, list_of, differences}
use Rattle.differences.specs.Listed.{◌∈◌, Difference, field_differs, places_differ, only_first, only_second}
use Rattle.differences.proofs.FlagLaws.{flag_matching}

-- ---- the entries of one node

module _ (k : ℕ) (s v : SlotBytes) where
  -- what is listed of a field
  abbrev field_entry : SlotField → Entry
  field_entry f = entry f.code k (content f s) (content f v)

  -- an entry of one of some fields in which the slots differ
  pub record OfField (fs : List SlotField) (e : Entry) : Type 0 where
    pub field : SlotField
    pub one_of : field ∈ fs
    pub differ : content field s ≡ content field v → ⊥
    pub says : e ≡ entry field.code k (content field s) (content field v)

  next_field : (f : SlotField) (fs : List SlotField) {e : Entry} → OfField fs e → OfField (f ∷ fs) e
  next_field f fs o = record { field = o.field; one_of = Memᴰ.tail o.one_of; differ = o.differ; says = o.says }

  -- those that are listed are such entries, and all of them are listed
  pub in_fields : (fs : List SlotField) {e : Entry} → e ∈ field_entries k s v fs → OfField fs e
  unfolding field_entries
  in_fields [] m = absurd (Memᴰ.not-nil m)
  in_fields (f ∷ fs) m =
      by_test (same_bytes (content f s) (content f v)) (λ q. next_field f fs (in_fields fs (rw q at m)))
      (λ q. ⊎_elim
      (λ is. record { field = f; one_of = Memᴰ.head refl; differ = λ same. true≢false (sym (same_bytes_true _ _ same) ∙ q); says = is })
      (λ r. next_field f fs (in_fields fs r))
      (Memᴰ.cases_cons (rw q at m)))

  fields_in : (fs : List SlotField) (f : SlotField) → f ∈ fs → (content f s ≡ content f v → ⊥) → field_entry f ∈ field_entries k s v fs
  unfolding field_entries
  fields_in [] f m n = absurd (Memᴰ.not-nil m)
  fields_in (g ∷ fs) f m n =
      ⊎_elim
      (λ same.
      let other = subst (λ (x : SlotField). content x s ≡ content x v → ⊥) {y = g} same n in
      rw (same_bytes_false (content g s) (content g v) other) (Memᴰ.head (ap field_entry same)))
      (λ r. Memᴰ.append_right (cond (same_bytes (content g s) (content g v)) [] (field_entry g ∷ [])) (fields_in fs f r n))
      (Memᴰ.cases_cons m)

-- what is listed of a node's places
pub in_places : (k : ℕ) (m : Match) {e : Entry} → e ∈ place_entries k m
    → (m.place ≡ m.other → ⊥) × (e ≡ entry PLACES k (bytes_of 2 m.place) (bytes_of 2 m.other))
unfolding place_entries
in_places k m r =
    by_test (eqb m.place m.other) (λ q. absurd (Memᴰ.not-nil (rw q at r)))
    (λ q. (eqb-false m.place m.other q, Memᴰ.eq_of_singleton (rw q at r)))

places_in : (k : ℕ) (m : Match) → (m.place ≡ m.other → ⊥) → entry PLACES k (bytes_of 2 m.place) (bytes_of 2 m.other) ∈ place_entries k m
unfolding place_entries
places_in k m n = rw (ne_eqb m.place m.other n) (Memᴰ.head refl)

-- ---- the entries of all nodes

module _ (others : List SlotBytes) (ms : List (Option Match)) where
  -- what is listed of the nodes from node k on is listed of one of them
  pub in_first : (ss : List SlotBytes) (k : ℕ) {e : Entry} → e ∈ first_entries others ms k ss
      → (i : ℕ) × (i < length ss) × (e ∈ node_entries others (k + i) (get_or ss i empty_slot) (get_or ms (k + i) none))
  unfolding first_entries
  in_first [] k m = absurd (Memᴰ.not-nil m)
  in_first (s ∷ ss) k m =
      ⊎_elim
      (λ here. (0, omega arith, rw (add-zero k) here))
      (λ later. let (i, h, r) = in_first ss (suc k) later in
      let moved : suc k + i ≡ k + suc i = omega arith in
      (suc i, omega arith, rw (← moved) r))
      (Memᴰ.append_cases (node_entries others k s (get_or ms k none)) m)

  first_in : (ss : List SlotBytes) (k i : ℕ) {e : Entry} → i < length ss → e ∈ node_entries others (k + i) (get_or ss i empty_slot) (get_or ms (k + i) none)
      → e ∈ first_entries others ms k ss
  unfolding first_entries
  first_in [] k i h m = absurd (omega arith)
  first_in (s ∷ ss) k zero h m = Memᴰ.append_left (first_entries others ms (suc k) ss) (rw (add-zero k) at m)
  first_in (s ∷ ss) k (suc i) h m =
      let moved : k + suc i ≡ suc k + i = omega arith in
      Memᴰ.append_right (node_entries others k s (get_or ms k none)) (first_in ss (suc k) i (omega arith) (rw moved at m))

module _ (ms : List (Option Match)) where
  -- an entry of the second's node j
  abbrev second_entry : ℕ → SlotBytes → Entry
  second_entry j s = entry ONLY_SECOND j [] s

  -- what is listed of the second's nodes from node j on: those that none matches
  pub in_second : (ss : List SlotBytes) (j : ℕ) {e : Entry} → e ∈ second_entries ms j ss
      → (i : ℕ) × (i < length ss) × (is_matched (j + i) ms ≡ false) × (e ≡ second_entry (j + i) (get_or ss i empty_slot))
  unfolding second_entries
  in_second [] j m = absurd (Memᴰ.not-nil m)
  in_second (s ∷ ss) j {e} m =
      ⊎_elim
      (λ here. by_test (is_matched j ms) (λ q. absurd (Memᴰ.not-nil (rw q at here)))
      (λ q. (0, omega arith, rw (add-zero j) q, rw (add-zero j) (Memᴰ.eq_of_singleton (rw q at here)))))
      (λ later. let (i, h, q, is) = in_second ss (suc j) later in
      let moved : suc j + i ≡ j + suc i = omega arith in
      (suc i, omega arith, rw (← moved) q, rw (← moved) is))
      (Memᴰ.append_cases (cond (is_matched j ms) [] (second_entry j s ∷ [])) m)

  second_in : (ss : List SlotBytes) (j i : ℕ) → i < length ss → is_matched (j + i) ms ≡ false
      → second_entry (j + i) (get_or ss i empty_slot) ∈ second_entries ms j ss
  unfolding second_entries
  second_in [] j i h q = absurd (omega arith)
  second_in (s ∷ ss) j zero h q = rw (add-zero j) (rw (rw (add-zero j) at q) (Memᴰ.head refl))
  second_in (s ∷ ss) j (suc i) h q =
      let moved : j + suc i ≡ suc j + i = omega arith in
      Memᴰ.append_right (cond (is_matched j ms) [] (second_entry j s ∷ [])) (rw moved (second_in ss (suc j) i (omega arith) (rw moved at q)))

-- ---- the list of two trees

-- a node's slot stands at its number in the listing
slot_at_lem : (t : Tree) {c : Sibling} → IsNode t c → get_or (listing t) c.number empty_slot ≡ slot_of c.tree
slot_at_lem t {c} w =
    let below : c.number < length (listing t) = unfold size in node_below t w in
    some_inj.0 (sym (element_at (listing t) c.number empty_slot below) ∙ element_at (listing t) c.number [] below) ∙ node_slot t w

module _ (t u : Tree) where
  -- what is listed of a node of the first
  abbrev entries_at : ℕ → List Entry
  entries_at k = node_entries (listing u) k (get_or (listing t) k empty_slot) (get_or (matching t u) k none)

  -- of its fields and of its places, where it matches a node of the second
  abbrev fields_at : Sibling → Sibling → List Entry
  fields_at c d = field_entries c.number (slot_of c.tree) (slot_of d.tree) slot_fields

  abbrev places_at : Sibling → Sibling → List Entry
  places_at c d = place_entries c.number (record { number = d.number; place = c.place; other = d.place })

  matched_entries : (c d : Sibling) → IsNode t c → IsNode u d → Matched t u c d → entries_at c.number ≡ fields_at c d ++ places_at c d
  unfolding node_entries
  matched_entries c d v w e = rw (e, slot_at_lem t v, slot_at_lem u w)

  unmatched_entries : (c : Sibling) → IsNode t c → Unmatched t u c → entries_at c.number ≡ entry ONLY_FIRST c.number (slot_of c.tree) [] ∷ []
  unfolding node_entries
  unmatched_entries c v e = rw (e, slot_at_lem t v)

  -- it says a difference
  node_difference : (c : Sibling) → IsNode t c → {e : Entry} → e ∈ entries_at c.number → Difference t u e
  node_difference c v {e} m = ⊎_elim matched (λ un. only_first v un (Memᴰ.eq_of_singleton (rw (unmatched_entries c v un) at m))) (matched_or_not t u v)
    where
      matched : (d : Sibling) × IsNode u d × Matched t u c d → Difference t u e
      matched (d, w, q) =
          ⊎_elim
          (λ r. let o = in_fields c.number (slot_of c.tree) (slot_of d.tree) slot_fields r in field_differs v w q o.one_of o.differ o.says)
          (λ r. let o = in_places c.number _ r in places_differ v w q o.0 o.1)
          (Memᴰ.append_cases (fields_at c d) (rw (matched_entries c d v w q) at m))

  -- the second's nodes that none matches are those that match none
  unmatched_flag : (d : Sibling) → IsNode u d → is_matched d.number (matching t u) ≡ false → Unmatched u t d
  unmatched_flag d w q = ⊎_elim (λ r. absurd (true≢false (sym (flag_matching t u d.number _ r.2) ∙ q))) (λ un. un) (matched_or_not u t w)

  -- what is listed says a difference
  in_list : {e : Entry} → e ∈ differences t u → Difference t u e
  unfolding differences list_of
  in_list {e} m = ⊎_elim first second (Memᴰ.append_cases (first_entries (listing u) (matching t u) 0 (listing t)) m)
    where
      first : e ∈ first_entries (listing u) (matching t u) 0 (listing t) → Difference t u e
      first r =
          let (i, h, n) = in_first (listing u) (matching t u) (listing t) 0 r in
          let (c, v, numbered) = node_at t i (unfold size in h) in
          node_difference c v (rw numbered (rw (zero-add i) at n))

      second : e ∈ second_entries (matching t u) 0 (listing u) → Difference t u e
      second r =
          let (j, h, q, says) = in_second (matching t u) (listing u) 0 r in
          let (d, w, numbered) = node_at u j (unfold size in h) in
          only_second w (unmatched_flag d w (rw numbered (rw (zero-add j) at q))) (rw (← (slot_at_lem u w), numbered) (rw (zero-add j) at says))

  -- what is listed of a node of the first is in the list, and what is of one of the second that matches none
  entries_in_lem : (c : Sibling) → IsNode t c → {e : Entry} → e ∈ entries_at c.number → e ∈ differences t u
  unfolding differences list_of
  entries_in_lem c v m =
      Memᴰ.append_left (second_entries (matching t u) 0 (listing u))
      (first_in (listing u) (matching t u) (listing t) 0 c.number (unfold size in node_below t v) (rw (zero-add c.number) m))

  only_second_in : (d : Sibling) → IsNode u d → Unmatched u t d → entry ONLY_SECOND d.number [] (slot_of d.tree) ∈ differences t u
  unfolding differences list_of
  only_second_in d w un =
      Memᴰ.append_right (first_entries (listing u) (matching t u) 0 (listing t))
      (rw (slot_at_lem u w, zero-add d.number) at
      (second_in (matching t u) (listing u) 0 d.number (unfold size in node_below u w) (rw (zero-add d.number) (flag_matching t u d.number none un))))

  -- each difference is listed
  list_in : {e : Entry} → Difference t u e → e ∈ differences t u
  list_in (field_differs {c} {d} {f} v w q m n says) =
      Memᴰ.cast says (entries_in_lem c v (rw (matched_entries c d v w q)
      (Memᴰ.append_left (places_at c d) (fields_in c.number (slot_of c.tree) (slot_of d.tree) slot_fields f m n))))
  list_in (places_differ {c} {d} v w q n says) =
      Memᴰ.cast says (entries_in_lem c v (rw (matched_entries c d v w q)
      (Memᴰ.append_right (fields_at c d) (places_in c.number (record { number = d.number; place = c.place; other = d.place }) n))))
  list_in (only_first {c} v un says) = Memᴰ.cast says (entries_in_lem c v (rw (unmatched_entries c v un) (Memᴰ.head refl)))
  list_in (only_second {d} w un says) = Memᴰ.cast says (only_second_in d w un)

  -- the list has an entry exactly where the entry says a difference
  pub listed_exactly : (e : Entry) → (e ∈ differences t u) ↔ Difference t u e
  listed_exactly e = (in_list, list_in)
