-- The paths of a tree's nodes: the root's is its name, and a field's is its parent's with the field's name.
use Prim.Native.Nat.{ℕ, zero, suc, ◌+◌, ◌-◌, ◌<◌}
use mathlib.Core.Path.{◌≡◌, refl, sym, ap, ap₂, ◌∙◌}
use mathlib.Core.List.{List, [], ◌∷◌, ◌++◌}
use mathlib.Core.Option.{some, some_inj, none-ne-some}
use native.Mathlib.Omega.{arith}
use lib.ListN.{length, get_or, get_elem?, length-append, get_or-append}
use lib.Seq.{get_or-append-add}
use Rattle.tree.specs.Tree.{Tree, Fields, node, empty, field, size, listing, listings, run_of}
use Rattle.tree.proofs.StandingLaws.{size_positive}
use Rattle.matching.specs.Matching.{Sibling, name_of, siblings}
use Rattle.matching.specs.Nodes.{IsField, Within, here, inside, IsNode}
use Rattle.matching.proofs.NthLaws.{siblings_within, length_listings}
use Rattle.matching.proofs.NodeLaws.{field_within, node_within}
use Rattle.differences.specs.Paths.{paths_below, run_paths_below, paths}

mutual
  unfolding paths_below size listing

  -- there is a path for each node
  length_paths : (t : Tree) (path : List (List ℕ)) → length (paths_below path t) ≡ size t
  length_paths (node s fs) path = ap suc (length_run_paths fs _)

  length_run_paths : (fs : Fields) (path : List (List ℕ)) → length (run_paths_below path fs) ≡ length (listings fs)
  length_run_paths empty path = refl
  length_run_paths (field t fs) path =
      length-append (paths_below path t) (run_paths_below path fs) ∙ ap₂ ◌+◌ (length_paths t path) (length_run_paths fs path) ∙ sym (length_listings t fs)

-- a tree's paths: its root's, and its run's below that
paths_root : (t : Tree) (path : List (List ℕ)) → get_or (paths_below path t) 0 [] ≡ path ++ (name_of t ∷ [])
unfolding paths_below
paths_root (node s fs) path = refl

paths_below_lem : (t : Tree) (path : List (List ℕ)) (i : ℕ)
    → get_or (paths_below path t) (suc i) [] ≡ get_or (run_paths_below (path ++ (name_of t ∷ [])) (run_of t)) i []
unfolding paths_below
paths_below_lem (node s fs) path i = refl

-- a field's paths are a part of its run's
siblings_paths : (k p : ℕ) (fs : Fields) (path : List (List ℕ)) (x : ℕ) {e : Sibling} → get_elem? (siblings k p fs) x ≡ some e
    → (i j : ℕ) → i < size e.tree → k + j ≡ e.number + i → get_or (run_paths_below path fs) j [] ≡ get_or (paths_below path e.tree) i []
unfolding siblings run_paths_below
siblings_paths k p empty path x {e} at = absurd (none-ne-some e at)
siblings_paths k p (field t fs) path zero at =
    rw (← (some_inj.0 at))
    (λ i j h q.
    let same : j ≡ i = omega arith in
    rw same (get_or-append (paths_below path t) (run_paths_below path fs) [] i (omega (arith, length_paths t path))))
siblings_paths k p (field t fs) path (suc x) at =
    λ i j h q.
    let near = siblings_within (k + size t) (suc p) fs x at in
    let long = length_paths t path in
    let behind : j ≡ length (paths_below path t) + (j - length (paths_below path t)) = omega arith in
    rw behind (get_or-append-add (paths_below path t) (run_paths_below path fs) (j - length (paths_below path t)) []
    ∙ siblings_paths (k + size t) (suc p) fs path x at i (j - length (paths_below path t)) h (omega arith))

-- a node's paths, below some path, are a part of the tree's
node_paths : {b c : Sibling} → Within b c → (path : List (List ℕ))
    → (above : List (List ℕ))
    × ((i j : ℕ) → i < size c.tree → b.number + j ≡ c.number + i → get_or (paths_below path b.tree) j [] ≡ get_or (paths_below above c.tree) i [])
node_paths {b} here path = (path, λ i j h q. ap (λ (n : ℕ). get_or (paths_below path b.tree) n []) (omega arith))
node_paths (inside {b} {c = a} {d = c} f w) path =
    let named = path ++ (name_of b.tree ∷ []) in
    let (above, rest) = node_paths w named in (
      above,
      λ i j h q.
          let far = node_within w in
          let near = field_within b a f in
          let deeper : j ≡ suc (j - 1) = omega arith in
          let l : ℕ = c.number + i - a.number in
          rw deeper (paths_below_lem b.tree path (j - 1)
          ∙ siblings_paths (suc b.number) 0 (run_of b.tree) named a.place f l (j - 1) (omega arith) (omega arith)
          ∙ rest i l h (omega arith)),
    )

pub root_path : (t : Tree) → get_or (paths t) 0 [] ≡ name_of t ∷ []
root_path t = paths_root t []

pub field_path : (t : Tree) (c a : Sibling) → IsNode t c → IsField c a
    → get_or (paths t) a.number [] ≡ get_or (paths t) c.number [] ++ (name_of a.tree ∷ [])
field_path t c a w f =
    let (above, part) = node_paths w [] in
    let near = field_within c a f in
    let named = above ++ (name_of c.tree ∷ []) in
    let i : ℕ = a.number - c.number in
    let deeper : i ≡ suc (i - 1) = omega arith in
    part i a.number (omega (arith, size_positive a.tree)) (omega arith)
    ∙ ap (λ (n : ℕ). get_or (paths_below above c.tree) n []) deeper
    ∙ paths_below_lem c.tree above (i - 1)
    ∙ siblings_paths (suc c.number) 0 (run_of c.tree) named a.place f 0 (i - 1) (size_positive a.tree) (omega arith)
    ∙ paths_root a.tree named
    ∙ ap (λ (path : List (List ℕ)). path ++ (name_of a.tree ∷ []))
    (sym (part 0 c.number (size_positive c.tree) (omega arith) ∙ paths_root c.tree above))
