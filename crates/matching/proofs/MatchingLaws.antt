-- Laws of matching: it has an answer for each node, it says what the request's words say, the second tree's is the first's turned round, and of a tree
-- with itself it is the identity.
use Prim.Native.Nat.{ℕ, zero, suc, ◌+◌, ◌-◌, ◌<◌}
use mathlib.Core.Path.{◌≡◌, refl, sym, ap, ap₂, ◌∙◌}
use mathlib.Core.List.{List, [], ◌∷◌}
use mathlib.Core.Option.{Option, none, some, some_inj, none-ne-some}
use native.Mathlib.Nat.{zero-add}
use native.Mathlib.Decide.{dec_lt}
use native.Mathlib.Omega.{arith}
use lib.ListN.{length, take, get_or, get_elem?, length-append, get_or-append, get_or-eq_default}
use lib.Seq.{get_or-append-add}
use Rattle.laws.proofs.BoolLaws.{by_test}
use Rattle.sheet.specs.Name.{same_bytes}
use Rattle.tree.specs.Tree.{Tree, Fields, node, empty, field, size, listing, listings, run_of}
use Rattle.tree.proofs.StandingLaws.{size_positive}
use Rattle.matching.specs.Matching.{Sibling, name_of, siblings, candidates, alike, nth, match_of, matches, run_matches, matching}
use Rattle.matching.specs.declared.fields.Match.{Match}
use Rattle.matching.specs.Nodes.{root_of, fields_of, IsField, Within, here, inside, IsNode, names, ordinal, Matched}
use Rattle.matching.proofs.NthLaws.{nth_at, nth_found, siblings_within, length_listings}
use Rattle.matching.proofs.NodeLaws.{field_place, field_at, field_within, node_at}

mutual
  unfolding matches size listing

  -- there is an answer for each node
  pub length_matches : (t : Tree) (p : ℕ) (c : Option Sibling) → length (matches p c t) ≡ size t
  length_matches (node s fs) p c = ap suc (length_run_matches fs 0 (candidates c) [])

  pub length_run_matches : (fs : Fields) (p : ℕ) (cs : List Sibling) (before : List (List ℕ)) → length (run_matches p cs before fs) ≡ length (listings fs)
  length_run_matches empty p cs before = refl
  length_run_matches (field t fs) p cs before =
      let c = nth (name_of t) (alike (name_of t) before) cs in
      length-append (matches p c t) (run_matches (suc p) cs (name_of t ∷ before) fs)
      ∙ ap₂ ◌+◌ (length_matches t p c) (length_run_matches fs (suc p) cs (name_of t ∷ before))
      ∙ sym (length_listings t fs)

-- the answers for a field's nodes ------------------------------------------------------------------------------------------------

-- a name counts in the one list or in the other
alike_move : (n m : List ℕ) (ms before : List (List ℕ)) → alike n (m ∷ ms) + alike n before ≡ alike n ms + alike n (m ∷ before)
unfolding alike
alike_move n m ms before = by_test (same_bytes m n) (λ t. rw t (omega arith)) (λ f. rw f)

-- the answers for a run: those for its first field, and those for the others
run_matches_first : (p : ℕ) (cs : List Sibling) (before : List (List ℕ)) (t : Tree) (fs : Fields) (i : ℕ) → i < size t
    → get_or (run_matches p cs before (field t fs)) i none ≡ get_or (matches p (nth (name_of t) (alike (name_of t) before) cs) t) i none
unfolding run_matches
run_matches_first p cs before t fs i h =
    let c = nth (name_of t) (alike (name_of t) before) cs in
    get_or-append (matches p c t) (run_matches (suc p) cs (name_of t ∷ before) fs) none i (omega (arith, length_matches t p c))

run_matches_later : (p : ℕ) (cs : List Sibling) (before : List (List ℕ)) (t : Tree) (fs : Fields) (i : ℕ)
    → get_or (run_matches p cs before (field t fs)) (size t + i) none ≡ get_or (run_matches (suc p) cs (name_of t ∷ before) fs) i none
unfolding run_matches
run_matches_later p cs before t fs i =
    let c = nth (name_of t) (alike (name_of t) before) cs in
    rw (← (length_matches t p c)) (get_or-append-add (matches p c t) (run_matches (suc p) cs (name_of t ∷ before) fs) i none)

-- the answers for a run's field: those for its tree, where its root matches by its name and by how many of the name stand before it
pub run_matches_at : (k p : ℕ) (fs : Fields) (cs : List Sibling) (before : List (List ℕ)) (x : ℕ) {e : Sibling} → get_elem? (siblings k p fs) x ≡ some e
    → (i j o : ℕ) → i < size e.tree → k + j ≡ e.number + i
    → alike (name_of e.tree) (names (take x (siblings k p fs))) + alike (name_of e.tree) before ≡ o
    → get_or (run_matches p cs before fs) j none ≡ get_or (matches e.place (nth (name_of e.tree) o cs) e.tree) i none
unfolding siblings alike
run_matches_at k p empty cs before x {e} at = absurd (none-ne-some e at)
run_matches_at k p (field t fs) cs before zero at =
    rw (← (some_inj.0 at))
    (λ i j o h q s.
    let same : j ≡ i = omega arith in
    let before_it : alike (name_of t) before ≡ o = omega (arith, s) in
    rw (same, ← before_it) (run_matches_first p cs before t fs i h))
run_matches_at k p (field t fs) cs before (suc x) {e} at =
    λ i j o h q s.
    let w = siblings_within (k + size t) (suc p) fs x at in
    let behind : j ≡ size t + (j - size t) = omega arith in
    let moved = alike_move (name_of e.tree) (name_of t) (names (take x (siblings (k + size t) (suc p) fs))) before in
    rw behind (run_matches_later p cs before t fs (j - size t)
    ∙ run_matches_at (k + size t) (suc p) fs cs (name_of t ∷ before) x at i (j - size t) o h (omega arith) (sym moved ∙ s))

-- the answers for a tree: that for its root, and those for its run
matches_root : (p : ℕ) (c : Option Sibling) (t : Tree) → get_or (matches p c t) 0 none ≡ match_of p c
unfolding matches
matches_root p c (node s fs) = refl

matches_below : (p : ℕ) (c : Option Sibling) (t : Tree) (i : ℕ) → get_or (matches p c t) (suc i) none ≡ get_or (run_matches 0 (candidates c) [] (run_of t)) i none
unfolding matches
matches_below p c (node s fs) i = refl

-- the answers for a node's field: those for its tree, where its root matches by its name and ordinal
matches_field : (p : ℕ) (c : Option Sibling) (b a : Sibling) → IsField b a → (i j : ℕ) → j < size a.tree → b.number + i ≡ a.number + j
    → get_or (matches p c b.tree) i none ≡ get_or (matches a.place (nth (name_of a.tree) (ordinal b a) (candidates c)) a.tree) j none
unfolding alike
matches_field p c b a f i j h q =
    let near = field_within b a f in
    let deeper : i ≡ suc (i - 1) = omega arith in
    rw deeper (matches_below p c b.tree (i - 1)
    ∙ run_matches_at (suc b.number) 0 (run_of b.tree) (candidates c) [] a.place f j (i - 1) (ordinal b a) h (omega arith) (omega arith))

-- the nodes that match ---------------------------------------------------------------------------------------------------------

-- "The roots match; children of matched nodes match by name; where siblings share one, the first matches the first, and so on."
pub data Pair (t u : Tree) : Sibling → Sibling → Type 0 where
  roots : Pair t u (root_of t) (root_of u)
  fields : {c d a b : Sibling} → Pair t u c d → IsField c a → IsField d b → name_of a.tree ≡ name_of b.tree → ordinal c a ≡ ordinal d b → Pair t u a b

-- the words have no first and no second tree
pub pair_sym : {t u : Tree} {c d : Sibling} → Pair t u c d → Pair u t d c
pair_sym roots = roots
pair_sym (fields p f g n o) = fields (pair_sym p) g f (sym n) (sym o)

-- the answers for a node's tree are those where it matches this node, or none
Says : Tree → Tree → Sibling → Option Sibling → Type 0
Says t u c d = (i : ℕ) → i < size c.tree → get_or (matching t u) (c.number + i) none ≡ get_or (matches c.place d c.tree) i none

-- so for the root, for a field by its parent, and so for the nodes that match
says_root : (t u : Tree) → Says t u (root_of t) (some (root_of u))
unfolding Says matching
says_root t u i h = rw (zero-add i)

says_field : (t u : Tree) (c : Sibling) (d : Option Sibling) (a : Sibling) → Says t u c d → IsField c a
    → Says t u a (nth (name_of a.tree) (ordinal c a) (candidates d))
unfolding Says
says_field t u c d a s f i h =
    let near = field_within c a f in
    let j : ℕ = a.number + i - c.number in
    let moved : a.number + i ≡ c.number + j = omega arith in
    rw moved (s j (omega arith) ∙ matches_field c.place d c a f j i h (omega arith))

says_pair : (t u : Tree) {c d : Sibling} → Pair t u c d → Says t u c (some d)
says_pair t u roots = says_root t u
says_pair t u (fields {c} {d} {a} {b} p f g n o) =
    rw (← (nth_at (fields_of d) b.place g), ← o, ← n) (says_field t u c (some d) a (says_pair t u p) f)

-- what a node of the first tree matches, or none: what the answers are, and that the request's words say so
record Met (t u : Tree) (c : Sibling) : Type 0 where
  partner : Option Sibling
  says : Says t u c partner
  pairs : (d : Sibling) → partner ≡ some d → Pair t u c d

-- where a name and an ordinal find a field of what its parent matches, a field matches that
field_pairs : (t u : Tree) (c a : Sibling) (d : Option Sibling) → ((e : Sibling) → d ≡ some e → Pair t u c e) → IsField c a
    → (b : Sibling) → nth (name_of a.tree) (ordinal c a) (candidates d) ≡ some b → Pair t u a b
unfolding nth
field_pairs t u c a none p f b e = absurd (none-ne-some b e)
field_pairs t u c a (some d) p f b e =
    let r = nth_found (name_of a.tree) (ordinal c a) (fields_of d) e in
    fields (p d refl) f (field_at d r.index r.stands) (sym r.named) (rw (r.named, field_place d r.index r.stands) (sym r.before))

-- what each node matches
met_within : (t u : Tree) {b c : Sibling} → Within b c → Met t u b → Met t u c
met_within t u here m = m
met_within t u (inside {b} {c = a} f w) m =
    met_within t u w
    (record {
      partner = nth (name_of a.tree) (ordinal b a) (candidates m.partner);
      says = says_field t u b m.partner a m.says f;
      pairs = field_pairs t u b a m.partner m.pairs f;
    })

met : (t u : Tree) {c : Sibling} → IsNode t c → Met t u c
met t u w =
    met_within t u w
    (record {
      partner = some (root_of u);
      says = says_root t u;
      pairs = λ d e. rw (← (some_inj.0 e)) roots;
    })

-- the answer for the node itself
says_own : (t u : Tree) (c : Sibling) (d : Option Sibling) → Says t u c d → get_or (matching t u) c.number none ≡ match_of c.place d
unfolding Says
says_own t u c d s =
    let own : c.number ≡ c.number + 0 = omega arith in
    rw own (s 0 (size_positive c.tree) ∙ matches_root c.place d c.tree)

-- the matching has a match where the request's words say that they match
pub pair_matched : (t u : Tree) {c d : Sibling} → Pair t u c d → Matched t u c d
pair_matched t u {c} {d} p = says_own t u c (some d) (says_pair t u p)

-- an answer is of some node
match_of_lem : (p : ℕ) (c : Option Sibling) {m : Match} → match_of p c ≡ some m
    → (d : Sibling) × (c ≡ some d) × (◌≡◌ {A = Match} (record { number = d.number; place = p; other = d.place }) m)
match_of_lem p none {m} e = absurd (none-ne-some m e)
match_of_lem p (some d) e = (d, refl, some_inj.0 e)

-- and nowhere else: what the answer names is a node that the request's words say
pub matched_pair : (t u : Tree) (c : Sibling) {m : Match} → IsNode t c → get_or (matching t u) c.number none ≡ some m
    → (d : Sibling) × Pair t u c d × (◌≡◌ {A = Match} (record { number = d.number; place = c.place; other = d.place }) m)
matched_pair t u c w e =
    let r = met t u w in
    let f = match_of_lem c.place r.partner (sym (says_own t u c r.partner r.says) ∙ e) in
    (f.0, r.pairs f.0 f.1, f.2)

-- by number --------------------------------------------------------------------------------------------------------------------

-- there is an answer for each node
pub length_matching : (t u : Tree) → length (matching t u) ≡ size t
unfolding matching
length_matching t u = length_matches t 0 (some (root_of u))

-- a number that has a match is a node's
pub matching_below : (t u : Tree) (k : ℕ) {m : Match} → get_or (matching t u) k none ≡ some m → k < size t
matching_below t u k {m} e = below (dec_lt k (size t))
  where
    below : Dec (k < size t) → k < size t
    below (yes h) = h
    below (no h) = absurd (none-ne-some m (sym (get_or-eq_default (matching t u) none (omega (arith, length_matching t u))) ∙ e))

-- where a node of the first tree matches one of the second, that one matches it
pub matching_sym : (t u : Tree) (k : ℕ) {m : Match} → get_or (matching t u) k none ≡ some m
    → get_or (matching u t) m.number none ≡ some (record { number = k; place = m.other; other = m.place })
matching_sym t u k {m} e =
    let (c, w, numbered) = node_at t k (matching_below t u k e) in
    let (d, p, same) = matched_pair t u c {m = m} w (rw numbered e) in
    rw (← same) (pair_matched u t (pair_sym p) ∙ λ i. some (record { number = numbered i; place = d.place; other = c.place }))

-- what a node matches is a node of the second tree
pub matching_within : (t u : Tree) (k : ℕ) {m : Match} → get_or (matching t u) k none ≡ some m → m.number < size u
matching_within t u k {m} e = matching_below u t m.number (matching_sym t u k e)

-- nodes that match one node are one node
pub matched_once : (t u : Tree) (k l : ℕ) {m n : Match} → get_or (matching t u) k none ≡ some m → get_or (matching t u) l none ≡ some n
    → m.number ≡ n.number → k ≡ l
matched_once t u k l e f same =
    ap (λ (m : Match). m.number) (some_inj.0 (sym (matching_sym t u k e) ∙ rw (sym same) at (matching_sym t u l f)))

-- of a tree with itself each node matches itself
pair_self : (t : Tree) {b c : Sibling} → Within b c → Pair t t b b → Pair t t c c
pair_self t here p = p
pair_self t (inside f w) p = pair_self t w (fields p f f refl refl)

pub matching_self : (t : Tree) (k : ℕ) → k < size t → (q : ℕ) × (get_or (matching t t) k none ≡ some (record { number = k; place = q; other = q }))
matching_self t k h =
    let (c, w, numbered) = node_at t k h in
    (c.place, rw numbered at (pair_matched t t (pair_self t w roots)))
