-- Levels of depth that are left at the numbers of a sheet: those of a node are, one less, those of its fields, and those of a run are its trees'.
use Prim.Native.Nat.{ℕ, zero, suc, ◌+◌, ◌-◌, ◌≤◌}
use mathlib.Core.Path.{◌≡◌, refl, subst}
use mathlib.Core.List.{List, [], ◌∷◌, ◌++◌, append-nil}
use native.Mathlib.Omega.{arith}
use lib.ListN.{drop}
use Rattle.sheet.specs.Slot.{slots, slot_at}
use Rattle.sheet.specs.declared.slots.Slot.{Slot as Numbers}
use Rattle.tree.specs.Tree.{SlotBytes, Tree, Fields, node, count, size, depths, run_depths, AtMostDeep, most_depth}
use Rattle.tree.specs.Reading.{trees}
use Rattle.tree.specs.Judgement.{judgement_of}
use Rattle.tree.specs.Steps.{Claimed, Visited, tree_at, run_at, fields_at, depth_at}
use Rattle.std.specs.Prelude.{Ok}
use Rattle.tree.proofs.StandingLaws.{tree_at_zero}
use Rattle.tree.proofs.VisitLaws.{tree_at_slot, run_at_lem, run_split, root_alone}
use Rattle.tree.proofs.JudgementLaws.{judged_some, judged_claimed, judged_deep}
use Rattle.schema.specs.Steps.{NoneTooDeep}

none_before : (ds es : List ℕ) → NoneTooDeep (ds ++ es) → NoneTooDeep ds
unfolding NoneTooDeep
none_before [] es h k = omega arith
none_before (d ∷ ds) es h zero = h 0
none_before (d ∷ ds) es h (suc k) = none_before ds es (λ i. h (suc i)) k

none_behind : (ds es : List ℕ) → NoneTooDeep (ds ++ es) → NoneTooDeep es
unfolding NoneTooDeep
none_behind [] es h = h
none_behind (d ∷ ds) es h = none_behind ds es (λ i. h (suc i))

-- a level is left at a node that is not too deep
pub level_left : (l : ℕ) (t : Tree) → NoneTooDeep (depths (depth_at l) t) → l ≡ 0 → ⊥
unfolding NoneTooDeep depths depth_at
level_left l (node s fs) h e = omega (arith, h 0)

deeper : (l : ℕ) → (l ≡ 0 → ⊥) → l ≤ suc most_depth → suc (depth_at l) ≡ depth_at (l - 1)
unfolding depth_at
deeper l k m = omega arith

-- and its fields are not too deep with one less
node_fields : (l : ℕ) (s : SlotBytes) (fs : Fields) → l ≤ suc most_depth → NoneTooDeep (depths (depth_at l) (node s fs)) → NoneTooDeep (run_depths (depth_at (l - 1)) fs)
unfolding depths
node_fields l s fs m h =
    subst (λ (d : ℕ). NoneTooDeep (run_depths d fs)) (deeper l (level_left l (node s fs) h) m) (none_behind (depth_at l ∷ []) (run_depths (suc (depth_at l)) fs) h)

pub fields_deep : (b : List ℕ) (at l : ℕ) (s : Numbers) → Visited b at s → l ≤ suc most_depth → NoneTooDeep (depths (depth_at l) (tree_at (slots b) at)) → NoneTooDeep (run_depths (depth_at (l - 1)) (run_at (slots b) (at + 1) s.children))
fields_deep b at l s v m h =
    let root = tree_at_slot b at v.claimed v.below in
    rw (run_at_lem b at s v.numbers) (node_fields l (slot_at b at) (fields_at b at) m (subst (λ (t : Tree). NoneTooDeep (depths (depth_at l) t)) root h))

-- the first tree of a run and the shorter run behind it are not too deep where the run is not
module _ (b : List ℕ) (at n l : ℕ) (h : Claimed b) (k : n ≡ 0 → ⊥) (c : n ≤ count (trees (drop at (slots b)))) (g : NoneTooDeep (run_depths (depth_at l) (run_at (slots b) at n))) where
  run_deep : (next : ℕ) → next ≡ at + size (tree_at (slots b) at) → NoneTooDeep (depths (depth_at l) (tree_at (slots b) at) ++ run_depths (depth_at l) (run_at (slots b) next (n - 1)))
  unfolding run_depths
  run_deep next e = subst (λ (fs : Fields). NoneTooDeep (run_depths (depth_at l) fs)) (run_split b at n h k c next e) g

  pub first_deep : NoneTooDeep (depths (depth_at l) (tree_at (slots b) at))
  first_deep = none_before _ (run_depths (depth_at l) (run_at (slots b) (at + size (tree_at (slots b) at)) (n - 1))) (run_deep _ refl)

  pub rest_deep : (next : ℕ) → next ≡ at + size (tree_at (slots b) at) → NoneTooDeep (run_depths (depth_at l) (run_at (slots b) next (n - 1)))
  rest_deep next e = none_behind (depths (depth_at l) (tree_at (slots b) at)) _ (run_deep next e)

-- no node of a lawful sheet is too deep, where all levels are left at its root
pub root_deep : (edition : ℕ) (b : List ℕ) (n : ℕ) → judgement_of edition b ≡ Ok n → NoneTooDeep (run_depths (depth_at (suc most_depth)) (run_at (slots b) 0 1))
unfolding NoneTooDeep AtMostDeep run_depths depth_at
root_deep edition b n e = rw (root_alone b (judged_claimed edition b n e) (judged_some edition b n e), append-nil, tree_at_zero) (judged_deep edition b n e)
