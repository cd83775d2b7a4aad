-- The order of the list, and how often it has an entry.
use Prim.Native.Nat.{ℕ, suc, ◌+◌, ◌≤◌, ◌<◌}
use mathlib.Core.Path.{◌≡◌, refl, sym, ap, ◌∙◌}
use mathlib.Core.Bool.{◌&&◌}
use mathlib.Core.List.Memᴰ
use mathlib.Core.List.{List, [], ◌∷◌, ◌++◌}
use mathlib.Core.Logic.{⊎_elim}
use mathlib.Core.Option.{Option, none, some, none-ne-some, some_inj}
use native.Mathlib.Omega.{arith}
use lib.Dec.{eqb}
use lib.ListN.{get_or}
use borrow.Author.Tests.{eqb-true, eq-eqb}
use Rattle.laws.proofs.BoolLaws.{by_test, and_both, is_false}
use Rattle.sheet.specs.Slot.{empty_slot}
use Rattle.sheet.specs.Name.{same_bytes}
use Rattle.tree.specs.Tree.{SlotBytes, Tree, listing}
use Rattle.matching.specs.Matching.{Sibling, matching}
use Rattle.matching.specs.declared.fields.Match.{Match}
use Rattle.matching.specs.Nodes.{IsNode, Matched, Unmatched}
use Rattle.matching.proofs.MatchingLaws.{matching_sym}
use Rattle.differences.specs.Entry.{SlotField, slot_fields, Entry, PLACES, ONLY_FIRST, ONLY_SECOND}
use Rattle.differences.specs.Differences.{content, field_entries, place_entries, node_entries, first_entries, is_matched, second_entries, list_of, differences}
use Rattle.differences.specs.Listed.{◌∈◌, Difference, field_differs, places_differ, only_first, only_second, times_listed, Precedes, by_number, by_code, second_last, second_by_number, Rising}
use Rattle.differences.proofs.NodeEntriesLaws.{Of, Low, low_slot_fields, of_node, of_fields}
use Rattle.differences.proofs.ListedLaws.{in_fields, in_places, in_first, in_second, listed_exactly}

-- ---- lists that rise

-- one behind the other, where the first's precede the second's
rising_join : (xs ys : List Entry) → Rising xs → Rising ys → ((d e : Entry) → d ∈ xs → e ∈ ys → Precedes d e) → Rising (xs ++ ys)
unfolding Rising
rising_join [] ys g h before = h
rising_join (x ∷ xs) ys g h before = (
  (λ e m. ⊎_elim (λ l. g.0 e l) (λ r. before x e (Memᴰ.head refl) r) (Memᴰ.append_cases xs m)),
  rising_join xs ys g.1 h (λ d e m. before d e (Memᴰ.tail m)),
)

rising_one : (e : Entry) → Rising (e ∷ [])
unfolding Rising
rising_one e = ((λ d m. absurd (Memᴰ.not-nil m)), tt)

-- ---- the entries of one node

-- each of some entries that are of node k is
of_in : (bound k : ℕ) (es : List Entry) {e : Entry} → Of bound k es → e ∈ es → (e.number ≡ k) × (e.code < bound)
unfolding Of
of_in bound k [] h m = absurd (Memᴰ.not-nil m)
of_in bound k (d ∷ es) h m = ⊎_elim (λ same. rw same (h.0, h.1)) (λ r. of_in bound k es h.2 r) (Memᴰ.cases_cons m)

-- the codes of some fields rise, from a bound on
abbrev CodesRise : ℕ → List SlotField → Type 0
CodesRise bound [] = Unit {0}
CodesRise bound (f ∷ fs) = (bound ≤ f.code) × CodesRise (suc f.code) fs

codes_from : (bound : ℕ) (fs : List SlotField) {f : SlotField} → CodesRise bound fs → f ∈ fs → bound ≤ f.code
codes_from bound [] h m = absurd (Memᴰ.not-nil m)
codes_from bound (g ∷ fs) h m =
    ⊎_elim (λ same. rw same h.0) (λ r. let later = codes_from (suc g.code) fs h.1 r in omega (arith, h.0)) (Memᴰ.cases_cons m)

slot_fields_rise : CodesRise 0 slot_fields
unfolding slot_fields
slot_fields_rise = omega arith

-- the codes of a slot's fields are below those of places and of whole nodes
low_in_lem : (fs : List SlotField) {f : SlotField} → Low fs → f ∈ fs → f.code < PLACES
low_in_lem [] h m = absurd (Memᴰ.not-nil m)
low_in_lem (g ∷ fs) h m = ⊎_elim (λ same. rw same h.0) (λ r. low_in_lem fs h.1 r) (Memᴰ.cases_cons m)

-- what is listed of a node rises: of its fields, with its places, and all
rising_fields : (k : ℕ) (s v : SlotBytes) (bound : ℕ) (fs : List SlotField) → CodesRise bound fs → Low fs → Rising (field_entries k s v fs)
unfolding field_entries Rising
rising_fields k s v bound [] h low = tt
rising_fields k s v bound (f ∷ fs) h low =
    let rest = rising_fields k s v (suc f.code) fs h.1 low.1 in
    by_test (same_bytes (content f s) (content f v)) (λ q. rw q rest)
    (λ q. rw q (
      (λ e m.
          let o = in_fields k s v fs m in
          let small = low_in_lem fs low.1 o.one_of in
          rw o.says (by_code (omega arith) refl (codes_from (suc f.code) fs h.1 o.one_of))),
      rest,
    ))

rising_places : (k : ℕ) (m : Match) → Rising (place_entries k m)
unfolding place_entries Rising
rising_places k m = by_test (eqb m.place m.other) (λ q. rw q tt) (λ q. rw q (rising_one _))

rising_node : (others : List SlotBytes) (k : ℕ) (s : SlotBytes) (m : Option Match) → Rising (node_entries others k s m)
unfolding node_entries
rising_node others k s none = rising_one _
rising_node others k s (some m) =
    let v = get_or others m.number empty_slot in
    rising_join (field_entries k s v slot_fields) (place_entries k m) (rising_fields k s v 0 slot_fields slot_fields_rise low_slot_fields) (rising_places k m)
    (λ d e l r.
    let one = of_in PLACES k (field_entries k s v slot_fields) (of_fields PLACES (omega arith) k s v) l in
    let other = (in_places k m r).1 in
    rw other (by_code (omega arith) one.0 one.1))

-- ---- the list of two trees

-- what is listed of the first's nodes from node k on is of one of them, and of none of the second's
of_first : (others : List SlotBytes) (ms : List (Option Match)) (k : ℕ) (ss : List SlotBytes) {e : Entry} → e ∈ first_entries others ms k ss
    → (k ≤ e.number) × (e.code < ONLY_SECOND)
of_first others ms k ss m =
    let (i, h, r) = in_first others ms ss k m in
    let (number, code) = of_in ONLY_SECOND (k + i) _ (of_node others (k + i) (get_or ss i empty_slot) (get_or ms (k + i) none)) r in
    (omega arith, code)

-- the first's nodes in their order
rising_first : (others : List SlotBytes) (ms : List (Option Match)) (k : ℕ) (ss : List SlotBytes) → Rising (first_entries others ms k ss)
unfolding first_entries Rising
rising_first others ms k [] = tt
rising_first others ms k (s ∷ ss) =
    rising_join (node_entries others k s (get_or ms k none)) (first_entries others ms (suc k) ss)
    (rising_node others k s (get_or ms k none)) (rising_first others ms (suc k) ss)
    (λ d e l r.
    let one = of_in ONLY_SECOND k _ (of_node others k s (get_or ms k none)) l in
    let other = of_first others ms (suc k) ss r in
    by_number one.1 other.1 (omega arith))

-- the second's in theirs
rising_second : (ms : List (Option Match)) (j : ℕ) (ss : List SlotBytes) → Rising (second_entries ms j ss)
unfolding second_entries Rising
rising_second ms j [] = tt
rising_second ms j (s ∷ ss) =
    let rest = rising_second ms (suc j) ss in
    by_test (is_matched j ms) (λ q. rw q rest)
    (λ q. rw q ((λ e m. let (i, h, un, says) = in_second ms ss (suc j) m in rw says (second_by_number refl refl (omega arith))), rest))

-- the whole list rises
pub rising_list : (t u : Tree) → Rising (differences t u)
unfolding differences list_of
rising_list t u =
    rising_join (first_entries (listing u) (matching t u) 0 (listing t)) (second_entries (matching t u) 0 (listing u))
    (rising_first (listing u) (matching t u) 0 (listing t)) (rising_second (matching t u) 0 (listing u))
    (λ d e l r.
    let one = of_first (listing u) (matching t u) 0 (listing t) l in
    let (j, h, un, says) = in_second (matching t u) (listing u) 0 r in
    rw says (second_last one.1 refl))

-- ---- how often

-- none precedes one of its code and number
precedes_other : {d e : Entry} → Precedes d e → d.code ≡ e.code → d.number ≡ e.number → ⊥
precedes_other (by_number f g h) p q = omega arith
precedes_other (by_code f g h) p q = omega arith
precedes_other (second_last f g) p q = omega arith
precedes_other (second_by_number f g h) p q = omega arith

-- an entry of another code or number does not count, and one of both does
module _ (code number : ℕ) (e : Entry) (es : List Entry) where
  times_other : (e.code ≡ code → e.number ≡ number → ⊥) → times_listed code number (e ∷ es) ≡ times_listed code number es
  unfolding times_listed
  times_other n = rw (is_false (eqb e.code code && eqb e.number number) (λ q.
      let both = and_both (eqb e.code code) (eqb e.number number) q in
      n (eqb-true _ _ both.0) (eqb-true _ _ both.1)))

  times_here : e.code ≡ code → e.number ≡ number → times_listed code number (e ∷ es) ≡ suc (times_listed code number es)
  unfolding times_listed
  times_here p q = rw (eq-eqb e.code code p, eq-eqb e.number number q)

times_none : (code number : ℕ) (es : List Entry) → ((e : Entry) → e ∈ es → e.code ≡ code → e.number ≡ number → ⊥) → times_listed code number es ≡ 0
unfolding times_listed
times_none code number [] none_of = refl
times_none code number (e ∷ es) none_of =
    times_other code number e es (none_of e (Memᴰ.head refl)) ∙ times_none code number es (λ d m. none_of d (Memᴰ.tail m))

-- an entry of a list that rises is the only one of its code and number
times_once : (es : List Entry) (e : Entry) → Rising es → e ∈ es → times_listed e.code e.number es ≡ 1
unfolding Rising
times_once [] e rising m = absurd (Memᴰ.not-nil m)
times_once (d ∷ es) e rising m =
    ⊎_elim
    (λ same.
    let behind : (x : Entry) → x ∈ es → x.code ≡ e.code → x.number ≡ e.number → ⊥ = λ x r p q.
    precedes_other (rising.0 x r) (rw (← same) (sym p)) (rw (← same) (sym q)) in
    times_here e.code e.number d es (ap (λ (x : Entry). x.code) (sym same)) (ap (λ (x : Entry). x.number) (sym same))
    ∙ ap suc (times_none e.code e.number es behind))
    (λ r. times_other e.code e.number d es (precedes_other (rising.0 e r)) ∙ times_once es e rising.1 r)
    (Memᴰ.cases_cons m)

module _ (t u : Tree) where
  -- a node of the first that matches none is listed once as such, and one that matches is not
  pub only_first_once : (c : Sibling) → IsNode t c → Unmatched t u c → times_listed ONLY_FIRST c.number (differences t u) ≡ 1
  only_first_once c v un = times_once (differences t u) _ (rising_list t u) ((listed_exactly t u _).1 (only_first v un refl))

  pub matched_first : (c d : Sibling) → Matched t u c d → times_listed ONLY_FIRST c.number (differences t u) ≡ 0
  matched_first c d matched = times_none ONLY_FIRST c.number (differences t u) (λ e m. never ((listed_exactly t u e).0 m))
    where
      never : {e : Entry} → Difference t u e → e.code ≡ ONLY_FIRST → e.number ≡ c.number → ⊥
      never (field_differs w x y f n says) p q = let low = low_in_lem slot_fields low_slot_fields f in omega (arith, ap (λ (z : Entry). z.code) says)
      never (places_differ w x y n says) p q = omega (arith, ap (λ (z : Entry). z.code) says)
      never (only_first {c = a} w un says) p q =
          let same : a.number ≡ c.number = omega (arith, ap (λ (z : Entry). z.number) says) in
          none-ne-some _ (sym un ∙ ap (λ (k : ℕ). get_or (matching t u) k none) same ∙ matched)
      never (only_second w un says) p q = omega (arith, ap (λ (z : Entry). z.code) says)

  -- and so of the second
  pub only_second_once : (d : Sibling) → IsNode u d → Unmatched u t d → times_listed ONLY_SECOND d.number (differences t u) ≡ 1
  only_second_once d w un = times_once (differences t u) _ (rising_list t u) ((listed_exactly t u _).1 (only_second w un refl))

  pub matched_second : (c d : Sibling) → Matched t u c d → times_listed ONLY_SECOND d.number (differences t u) ≡ 0
  matched_second c d matched = times_none ONLY_SECOND d.number (differences t u) (λ e m. never ((listed_exactly t u e).0 m))
    where
      never : {e : Entry} → Difference t u e → e.code ≡ ONLY_SECOND → e.number ≡ d.number → ⊥
      never (field_differs v x y f n says) p q = let low = low_in_lem slot_fields low_slot_fields f in omega (arith, ap (λ (z : Entry). z.code) says)
      never (places_differ v x y n says) p q = omega (arith, ap (λ (z : Entry). z.code) says)
      never (only_first v un says) p q = omega (arith, ap (λ (z : Entry). z.code) says)
      never (only_second {d = b} v un says) p q =
          let same : b.number ≡ d.number = omega (arith, ap (λ (z : Entry). z.number) says) in
          none-ne-some _ (sym un ∙ ap (λ (k : ℕ). get_or (matching u t) k none) same ∙ matching_sym t u c.number matched)

  -- matched nodes are listed once with their places where these differ, and not where they are the same
  pub places_once : (c d : Sibling) → IsNode t c → IsNode u d → Matched t u c d → (c.place ≡ d.place → ⊥)
      → times_listed PLACES c.number (differences t u) ≡ 1
  places_once c d v w matched n = times_once (differences t u) _ (rising_list t u) ((listed_exactly t u _).1 (places_differ v w matched n refl))

  pub same_places : (c d : Sibling) → Matched t u c d → c.place ≡ d.place → times_listed PLACES c.number (differences t u) ≡ 0
  same_places c d matched same = times_none PLACES c.number (differences t u) (λ e m. never ((listed_exactly t u e).0 m))
    where
      never : {e : Entry} → Difference t u e → e.code ≡ PLACES → e.number ≡ c.number → ⊥
      never (field_differs v x y f n says) p q = let low = low_in_lem slot_fields low_slot_fields f in omega (arith, ap (λ (z : Entry). z.code) says)
      never (places_differ {c = a} {d = b} v w y n says) p q =
          let numbers : a.number ≡ c.number = omega (arith, ap (λ (z : Entry). z.number) says) in
          let one : ◌≡◌ {A = Match} (record { number = b.number; place = a.place; other = b.place }) (record { number = d.number; place = c.place; other = d.place }) =
          some_inj.0 (sym y ∙ ap (λ (k : ℕ). get_or (matching t u) k none) numbers ∙ matched) in
          n (ap (λ (m : Match). m.place) one ∙ same ∙ sym (ap (λ (m : Match). m.other) one))
      never (only_first v un says) p q = omega (arith, ap (λ (z : Entry). z.code) says)
      never (only_second v un says) p q = omega (arith, ap (λ (z : Entry). z.code) says)
