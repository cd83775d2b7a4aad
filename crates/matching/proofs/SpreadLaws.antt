-- What is spread from each node to its fields, node by node, comes to the matching.
use mathlib.Core.Path.{◌≡◌, refl, sym, ap, ◌∙◌, subst}
use mathlib.Core.List.{List, [], ◌∷◌, ◌++◌, map, map-append, append_assoc}
use mathlib.Core.Option.{Option, none, some, some_inj, none-ne-some}
use Prim.Native.Nat.{ℕ, zero, suc, ◌+◌, ◌-◌, ◌≤◌, ◌<◌}
use native.Mathlib.Nat.{zero-add, add-zero}
use native.Mathlib.Omega.{arith}
use lib.ListN.{length, drop, set, replicate, get_elem?, length-append, length-map, length-replicate, replicate-append-replicate}
use lib.Seq.{append_snoc, set_at, get_or_at}
use Rattle.sheet.specs.Block.{total_of, most_nodes}
use Rattle.sheet.specs.Slot.{slots, slot_at, child_count}
use Rattle.tree.specs.Tree.{Tree, Fields, node, empty, field, size, count, run_of}
use Rattle.tree.specs.Reading.{trees, tree_of}
use Rattle.tree.specs.Steps.{Claimed, tree_at, run_at, fields_at, sizes}
use Rattle.tree.proofs.StandingLaws.{tree_at_zero, run_at_zero, run_at_suc, count_behind, sizes_empty, sizes_field, size_node}
use Rattle.tree.proofs.VisitLaws.{tree_at_slot, claimed_slot, run_below}
use Rattle.matching.specs.Matching.{Sibling, name_of, siblings, candidates, alike, nth, match_of, matches, run_matches, matching}
use Rattle.matching.specs.Nodes.{root_of}
use Rattle.matching.specs.Outcome.{held_of, padded}
use Rattle.matching.specs.Steps.{OneTree, with_fields, fields_matched, step_at, steps_from}
use Rattle.matching.specs.declared.fields.Match.{Match}
use Rattle.std.specs.Prelude.{Option as Found, Some, None}
use Rattle.matching.proofs.NthLaws.{nth_found}
use Rattle.matching.proofs.MatchingLaws.{length_matches, length_matching}

-- where trees stand in a sheet ---------------------------------------------------------------------------------------------------

-- this tree stands at a node of a sheet
record Placed (b : List ℕ) (k : ℕ) (t : Tree) : Type 0 where
  below : k < total_of b
  stands : tree_at (slots b) k ≡ t

-- and the fields of this run from it on
PlacedRun : List ℕ → ℕ → Fields → Type 0
PlacedRun b k empty = Unit {0}
PlacedRun b k (field t fs) = Placed b k t × PlacedRun b (k + size t) fs

module _ (b : List ℕ) (h : Claimed b) where
  -- a run read at a node stands there
  run_placed : (n k : ℕ) → n ≤ count (trees (drop k (slots b))) → PlacedRun b k (run_at (slots b) k n)
  unfolding PlacedRun
  run_placed zero k c = rw run_at_zero tt
  run_placed (suc n) k c =
      rw (run_at_suc (slots b) k n h.claims c) (
        record { below = run_below b k (suc n) h (λ e. omega arith) c; stands = refl },
        run_placed n (k + size (tree_at (slots b) k)) (count_behind (slots b) k n h.claims c),
      )

  -- the run of a tree that stands at a node is the node's, and stands behind it
  placed_run : {k : ℕ} {t : Tree} → Placed b k t → fields_at b k ≡ run_of t
  placed_run {k} p = ap run_of (sym (tree_at_slot b k h p.below) ∙ p.stands)

  placed_fields : {k : ℕ} {t : Tree} → Placed b k t → PlacedRun b (suc k) (run_of t)
  unfolding fields_at
  placed_fields {k} p = subst (PlacedRun b (suc k)) (placed_run p) (run_placed (child_count (slot_at b k)) (suc k) (claimed_slot b k h p.below))

-- each of some siblings stands in a sheet; a sibling does, or there is none
abbrev AllPlaced : List ℕ → List Sibling → Type 0
AllPlaced b cs = (i : ℕ) (c : Sibling) → get_elem? cs i ≡ some c → Placed b c.number c.tree

abbrev SomePlaced : List ℕ → Option Sibling → Type 0
SomePlaced b o = (c : Sibling) → o ≡ some c → Placed b c.number c.tree

-- so do the fields of a run, what a name and an ordinal find among them, and what a node's fields may match
siblings_placed : (b : List ℕ) (k p : ℕ) (fs : Fields) → PlacedRun b k fs → AllPlaced b (siblings k p fs)
unfolding PlacedRun siblings
siblings_placed b k p empty r i c e = absurd (none-ne-some c e)
siblings_placed b k p (field t fs) r zero c e = rw (← (some_inj.0 e)) r.0
siblings_placed b k p (field t fs) r (suc i) c e = siblings_placed b (k + size t) (suc p) fs r.1 i c e

nth_placed : (b n : List ℕ) (o : ℕ) (cs : List Sibling) → AllPlaced b cs → SomePlaced b (nth n o cs)
nth_placed b n o cs all c e = let f = nth_found n o cs e in all f.index c f.stands

candidates_placed : (b : List ℕ) → Claimed b → (o : Option Sibling) → SomePlaced b o → AllPlaced b (candidates o)
candidates_placed b h none p = λ i c e. absurd (none-ne-some c e)
candidates_placed b h (some d) p = siblings_placed b (suc d.number) 0 (run_of d.tree) (placed_fields b h (p d refl))

-- what a node has for its fields -------------------------------------------------------------------------------------------------

-- of nodes that match none
abbrev nones : ℕ → List (Found Match)
nones n = replicate n None

-- what each field of a run matches, and for the nodes below it none
spread : ℕ → List Sibling → List (List ℕ) → Fields → List (Found Match)
spread place cs before empty = []
spread place cs before (field t fs) =
    held_of (match_of place (nth (name_of t) (alike (name_of t) before) cs)) ∷ (nones (sizes (run_of t)) ++ spread (suc place) cs (name_of t ∷ before) fs)

-- how many nodes a tree has, by its run
size_run : (t : Tree) → size t ≡ suc (sizes (run_of t))
size_run (node s fs) = size_node s fs

-- none for the nodes of a run: for its first field, for the nodes below that, and for those behind
nones_field : (t : Tree) (fs : Fields) → nones (sizes (field t fs)) ≡ None ∷ (nones (sizes (run_of t)) ++ nones (sizes fs))
nones_field t fs =
    let more : sizes (field t fs) ≡ suc (sizes (run_of t) + sizes fs) = omega (arith, sizes_field t fs, size_run t) in
    rw (more, replicate-append-replicate)

-- where there is nothing to match, none
spread_none : (fs : Fields) (place : ℕ) (before : List (List ℕ)) → spread place [] before fs ≡ nones (sizes fs)
unfolding spread nth
spread_none empty place before = rw sizes_empty
spread_none (field t fs) place before =
    ap (λ (l : List (Found Match)). None ∷ (nones (sizes (run_of t)) ++ l)) (spread_none fs (suc place) (name_of t ∷ before)) ∙ sym (nones_field t fs)

-- a run's fields write that over none
with_fields_spread : (fs : Fields) (pre post : List (Found Match)) (at place : ℕ) (cs : List Sibling) (before : List (List ℕ)) → length pre ≡ at
    → with_fields (pre ++ (nones (sizes fs) ++ post)) at place cs before fs ≡ pre ++ (spread place cs before fs ++ post)
unfolding with_fields spread
with_fields_spread empty pre post at place cs before long = rw sizes_empty
with_fields_spread (field t fs) pre post at place cs before long =
    let held = held_of (match_of place (nth (name_of t) (alike (name_of t) before) cs)) in
    let below = nones (sizes (run_of t)) in
    let behind = nones (sizes fs) ++ post in
    ap (λ (l : List (Found Match)). with_fields (set (pre ++ l) at held) (at + size t) (suc place) cs (name_of t ∷ before) fs) (rw nones_field (simp append_assoc))
    ∙ ap (λ (l : List (Found Match)). with_fields l (at + size t) (suc place) cs (name_of t ∷ before) fs)
    (set_at pre None (below ++ behind) held at long ∙ sym (append_assoc pre (held ∷ below) behind))
    ∙ with_fields_spread fs (pre ++ (held ∷ below)) post (at + size t) (suc place) cs (name_of t ∷ before)
    (rw (length-append, length-replicate, size_run t) (omega arith))
    ∙ simp append_assoc

-- node by node -------------------------------------------------------------------------------------------------------------------

-- some steps, and then others
steps_add : (first second : List ℕ) (m k n : ℕ) (ms : List (Found Match))
    → steps_from first second k (m + n) ms ≡ steps_from first second (k + m) n (steps_from first second k m ms)
unfolding steps_from
steps_add first second zero k n ms = rw (zero-add, add-zero)
steps_add first second (suc m) k n ms =
    let more : suc m + n ≡ suc (m + n) = omega arith in
    let moved : k + suc m ≡ suc k + m = omega arith in
    rw (more, moved) (steps_add first second m (suc k) n (step_at first second k ms))

module _ (first second : List ℕ) (f : Claimed first) (s : Claimed second) where
  -- a node's step spreads what it has to its fields
  step_spread : (t : Tree) (at place : ℕ) (o : Option Sibling) (pre post : List (Found Match)) → length pre ≡ at → Placed first at t → SomePlaced second o
      → step_at first second at (pre ++ (held_of (match_of place o) ∷ (nones (sizes (run_of t)) ++ post)))
      ≡ (pre ++ (held_of (match_of place o) ∷ [])) ++ (spread 0 (candidates o) [] (run_of t) ++ post)
  unfolding fields_matched
  step_spread t at place none pre post long p q =
      let rest = nones (sizes (run_of t)) ++ post in
      rw (get_or_at pre None rest None at long, spread_none) (sym (append_snoc pre None rest))
  step_spread t at place (some c) pre post long p q =
      let held = held_of (match_of place (some c)) in
      let rest = nones (sizes (run_of t)) ++ post in
      let found = q c refl in
      rw (get_or_at pre held rest None at long, placed_run second s found, placed_run first f p, ← (append_snoc pre held rest))
      (with_fields_spread (run_of t) (pre ++ (held ∷ [])) post (suc at) 0 (candidates (some c)) [] (rw length-append (omega arith)))

  -- what a tree's nodes match, and a run's
  mutual
    unfolding steps_from PlacedRun spread matches

    stepped_tree : (t : Tree) (at place : ℕ) (o : Option Sibling) (pre post : List (Found Match)) → length pre ≡ at → Placed first at t → SomePlaced second o
        → steps_from first second at (size t) (pre ++ (held_of (match_of place o) ∷ (nones (sizes (run_of t)) ++ post)))
        ≡ pre ++ (map held_of (matches place o t) ++ post)
    stepped_tree (node r fs) at place o pre post long p q =
        let held = held_of (match_of place o) in
        let ms = pre ++ (held ∷ (nones (sizes fs) ++ post)) in
        ap (λ (n : ℕ). steps_from first second at n ms) (size_node r fs)
        ∙ ap (steps_from first second (suc at) (sizes fs)) (step_spread (node r fs) at place o pre post long p q)
        ∙ stepped_run fs (suc at) 0 (candidates o) [] (pre ++ (held ∷ [])) post (rw length-append (omega arith)) (placed_fields first f p)
        (candidates_placed second s o q)
        ∙ append_snoc pre held (map held_of (run_matches 0 (candidates o) [] fs) ++ post)

    stepped_run : (fs : Fields) (at place : ℕ) (cs : List Sibling) (before : List (List ℕ)) (pre post : List (Found Match)) → length pre ≡ at
        → PlacedRun first at fs → AllPlaced second cs
        → steps_from first second at (sizes fs) (pre ++ (spread place cs before fs ++ post)) ≡ pre ++ (map held_of (run_matches place cs before fs) ++ post)
    stepped_run empty at place cs before pre post long p q = rw sizes_empty
    stepped_run (field t fs) at place cs before pre post long p q =
        let o = nth (name_of t) (alike (name_of t) before) cs in
        let here = map held_of (matches place o t) in
        let behind = spread (suc place) cs (name_of t ∷ before) fs ++ post in
        let ms = pre ++ (spread place cs before (field t fs) ++ post) in
        ap (λ (n : ℕ). steps_from first second at n ms) (sizes_field t fs)
        ∙ steps_add first second (size t) at (sizes fs) ms
        ∙ ap (steps_from first second (at + size t) (sizes fs))
        (ap (λ (l : List (Found Match)). steps_from first second at (size t) (pre ++ (held_of (match_of place o) ∷ l))) (append_assoc (nones (sizes (run_of t))) _ post)
        ∙ stepped_tree t at place o pre behind long p.0 (nth_placed second (name_of t) (alike (name_of t) before) cs q)
        ∙ sym (append_assoc pre here behind))
        ∙ stepped_run fs (at + size t) (suc place) cs (name_of t ∷ before) (pre ++ here) post
        (simp (length-append, length-map) (omega (arith, length_matches t place o))) p.1 q
        ∙ simp (map-append, append_assoc)

-- the whole tree of a sheet ------------------------------------------------------------------------------------------------------

-- what the root matches: the root
abbrev pub root : Match
root = record { number = 0; place = 0; other = 0 }

-- it stands at node 0, and has all of the sheet's nodes
root_placed : (b : List ℕ) → OneTree b → Placed b 0 (tree_of (slots b))
root_placed b one = record { below = one.some; stands = tree_at_zero (slots b) }

size_total : (b : List ℕ) → OneTree b → size (tree_of (slots b)) ≡ total_of b
unfolding size
size_total b one = ap length one.lists ∙ one.claimed.total

-- none, with what a root matches at 0: that, none for the nodes below the root, and none behind
nones_root : (n : ℕ) (x : Found Match) (t : Tree) → size t ≤ n → set (nones n) 0 x ≡ x ∷ (nones (sizes (run_of t)) ++ nones (n - size t))
nones_root n x t l =
    let whole : n ≡ suc (sizes (run_of t) + (n - size t)) = omega (arith, size_run t) in
    ap (λ (m : ℕ). set (nones m) 0 x) whole ∙ rw replicate-append-replicate

-- the steps from the root, which matches the root, come to what the matching says and none behind it, among n
steps_held : (first second : List ℕ) → OneTree first → OneTree second → (n : ℕ) → total_of first ≤ n
    → (let held = map held_of (matching (tree_of (slots first)) (tree_of (slots second))) in
    steps_from first second 0 (total_of first) (set (nones n) 0 (Some root)) ≡ held ++ nones (n - length held))
unfolding matching
steps_held first second f s n l =
    let t = tree_of (slots first) in
    let u = tree_of (slots second) in
    ap (λ (m : ℕ). steps_from first second 0 m (set (nones n) 0 (Some root))) (sym (size_total first f))
    ∙ ap (steps_from first second 0 (size t)) (nones_root n (Some root) t (omega (arith, size_total first f)))
    ∙ stepped_tree first second f.claimed s.claimed t 0 0 (some (root_of u)) [] (nones (n - size t)) refl (root_placed first f)
    (λ c e. rw (← (some_inj.0 e)) (root_placed second s))
    ∙ ap (λ (m : ℕ). map held_of (matching t u) ++ nones (n - m)) (sym (length-map (matching t u) held_of ∙ length_matching t u))

-- and so among as many as a sheet has nodes at most
pub steps_matching : (first second : List ℕ) → OneTree first → OneTree second
    → steps_from first second 0 (total_of first) (set (replicate most_nodes None) 0 (Some root))
    ≡ padded (map held_of (matching (tree_of (slots first)) (tree_of (slots second))))
unfolding padded
steps_matching first second f s = steps_held first second f s most_nodes f.claimed.most
