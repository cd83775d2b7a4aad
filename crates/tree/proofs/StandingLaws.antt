-- The trees and runs that stand at the numbers of a list of slots whose slots claim rightly.
use Prim.Native.Nat.{ℕ, zero, suc, ◌+◌, ◌≤◌, ◌<◌}
use mathlib.Core.Path.{◌≡◌, refl, sym, ap, ◌∙◌, subst}
use mathlib.Core.List.{List, [], ◌∷◌, ◌++◌}
use native.Mathlib.Omega.{arith}
use lib.ListN.{length, get_or, drop, length-append, length-drop}
use lib.Seq.{drop-cons, drop-append_seam, drop-drop}
use Rattle.sheet.specs.Slot.{child_count}
use Rattle.tree.specs.Tree.{SlotBytes, Tree, Fields, node, empty, field, listing, listings, count, size, ClaimsAll}
use Rattle.tree.specs.Reading.{take_fields, drop_fields, trees, first_tree, tree_of}
use Rattle.tree.specs.Steps.{tree_at, run_at, sizes}
use Rattle.tree.proofs.TreeLaws.{count_take, listings_trees, trees_of_listings}

claims_join : (n : ℕ) (fs : Fields) → ClaimsAll (take_fields n fs) → ClaimsAll (drop_fields n fs) → ClaimsAll fs
unfolding take_fields drop_fields ClaimsAll
claims_join zero fs a b = b
claims_join (suc n) empty a b = tt
claims_join (suc n) (field t fs) a b = (a.0, claims_join n fs a.1 b)

claims_behind : (s : SlotBytes) (ss : List SlotBytes) → ClaimsAll (trees (s ∷ ss)) → ClaimsAll (trees ss)
unfolding trees ClaimsAll
claims_behind s ss c = claims_join (child_count s) (trees ss) c.0.1 c.1

-- what stands behind a number claims rightly too
pub claims_at : (k : ℕ) (ss : List SlotBytes) → ClaimsAll (trees ss) → ClaimsAll (trees (drop k ss))
claims_at zero ss c = c
claims_at (suc k) [] c = c
claims_at (suc k) (s ∷ ss) c = claims_at k ss (claims_behind s ss c)

pub tree_at_zero : (ss : List SlotBytes) → tree_at ss 0 ≡ tree_of ss
unfolding tree_at tree_of
tree_at_zero ss = refl

pub run_at_zero : (ss : List SlotBytes) (k : ℕ) → run_at ss k 0 ≡ empty
unfolding run_at take_fields
run_at_zero ss k = refl

-- a node with the run that stands behind it
pub tree_at_node : (ss : List SlotBytes) (k : ℕ) → k < length ss → tree_at ss k ≡ node (get_or ss k []) (run_at ss (suc k) (child_count (get_or ss k [])))
unfolding tree_at run_at trees first_tree
tree_at_node ss k h = rw (drop-cons ss k [] h)

count_take_le : (n : ℕ) (fs : Fields) → count (take_fields n fs) ≤ count fs
unfolding take_fields count
count_take_le zero fs = omega arith
count_take_le (suc n) empty = omega arith
count_take_le (suc n) (field t fs) = let h = count_take_le n fs in omega arith

claimed_behind : (s : SlotBytes) (ss : List SlotBytes) → ClaimsAll (trees (s ∷ ss)) → child_count s ≤ count (trees ss)
unfolding trees ClaimsAll
claimed_behind s ss c = let h = count_take_le (child_count s) (trees ss) in omega (arith, c.0.0)

-- as many trees as a slot claims stand behind it
pub claimed_at : (ss : List SlotBytes) (k : ℕ) → ClaimsAll (trees ss) → k < length ss → child_count (get_or ss k []) ≤ count (trees (drop (suc k) ss))
claimed_at ss k c h =
    claimed_behind (get_or ss k []) (drop (suc k) ss) (subst (λ (l : List SlotBytes). ClaimsAll (trees l)) (drop-cons ss k [] h) (claims_at k ss c))

pub count_run_at : (ss : List SlotBytes) (k n : ℕ) → n ≤ count (trees (drop k ss)) → count (run_at ss k n) ≡ n
unfolding run_at
count_run_at ss k n h = count_take n (trees (drop k ss)) h

trees_after : (l : List SlotBytes) (t : Tree) (fs : Fields) → ClaimsAll (trees l) → trees l ≡ field t fs → trees (drop (size t) l) ≡ fs
unfolding size listings ClaimsAll
trees_after l t fs c e =
    let split : listing t ++ listings fs ≡ l = sym (ap listings e) ∙ listings_trees l in
    ap (λ (m : List SlotBytes). trees (drop (length (listing t)) m)) (sym split)
    ∙ ap trees (drop-append_seam (listing t) (listings fs))
    ∙ trees_of_listings fs (subst ClaimsAll e c).1

size_split : (l : List SlotBytes) (t : Tree) (fs : Fields) → trees l ≡ field t fs → size t ≤ length l
unfolding size listings
size_split l t fs e =
    let split : listing t ++ listings fs ≡ l = sym (ap listings e) ∙ listings_trees l in
    omega (arith, length-append (listing t) (listings fs), ap length split)

pub size_positive : (t : Tree) → 1 ≤ size t
unfolding size listing
size_positive (node s fs) = omega arith

some_tree : (fs : Fields) (n : ℕ) → suc n ≤ count fs → (gs : Fields) × (fs ≡ field (first_tree fs) gs)
unfolding count first_tree
some_tree empty n h = absurd (omega arith)
some_tree (field t fs) n h = (fs, refl)

take_field : (n : ℕ) (t : Tree) (fs : Fields) → take_fields (suc n) (field t fs) ≡ field t (take_fields n fs)
unfolding take_fields
take_field n t fs = refl

count_field : (t : Tree) (fs : Fields) → count (field t fs) ≡ suc (count fs)
unfolding count
count_field t fs = refl

module _ (ss : List SlotBytes) (k n : ℕ) (c : ClaimsAll (trees ss)) (h : suc n ≤ count (trees (drop k ss))) where
  behind : trees (drop (k + size (tree_at ss k)) ss) ≡ (some_tree (trees (drop k ss)) n h).0
  unfolding tree_at
  behind =
      ap trees (sym (drop-drop (size (tree_at ss k)) k ss))
      ∙ trees_after (drop k ss) (tree_at ss k) (some_tree (trees (drop k ss)) n h).0 (claims_at k ss c) (some_tree (trees (drop k ss)) n h).1

  -- a run is the tree at its number and the shorter run behind that tree
  pub run_at_suc : run_at ss k (suc n) ≡ field (tree_at ss k) (run_at ss (k + size (tree_at ss k)) n)
  unfolding run_at tree_at
  run_at_suc =
      ap (take_fields (suc n)) (some_tree (trees (drop k ss)) n h).1
      ∙ take_field n (tree_at ss k) (some_tree (trees (drop k ss)) n h).0
      ∙ ap (λ (fs : Fields). field (tree_at ss k) (take_fields n fs)) (sym behind)

  -- and as many trees stand there as the shorter run needs
  pub count_behind : n ≤ count (trees (drop (k + size (tree_at ss k)) ss))
  unfolding tree_at
  count_behind =
      rw behind (omega (arith, count_field (tree_at ss k) (some_tree (trees (drop k ss)) n h).0, ap count (some_tree (trees (drop k ss)) n h).1))

  -- some slot stands at the number of a run that is not empty, and its tree ends within the slots
  pub run_at_end : k + size (tree_at ss k) ≤ length ss
  unfolding tree_at
  run_at_end =
      let e = size_split (drop k ss) (tree_at ss k) (some_tree (trees (drop k ss)) n h).0 (some_tree (trees (drop k ss)) n h).1 in
      let p = size_positive (tree_at ss k) in
      omega (arith, length-drop k ss)

-- some tree stands at the number of a slot
pub count_some : (ss : List SlotBytes) (k : ℕ) → k < length ss → 1 ≤ count (trees (drop k ss))
unfolding trees count
count_some ss k h = rw (drop-cons ss k [] h) (omega arith)

-- how many nodes a run and a tree have
pub sizes_empty : sizes empty ≡ 0
unfolding sizes listings
sizes_empty = refl

pub sizes_field : (t : Tree) (fs : Fields) → sizes (field t fs) ≡ size t + sizes fs
unfolding sizes size listings
sizes_field t fs = length-append (listing t) (listings fs)

pub size_node : (s : SlotBytes) (fs : Fields) → size (node s fs) ≡ suc (sizes fs)
unfolding size listing sizes
size_node s fs = refl
