-- Visiting the nodes of a sheet whose slots claim rightly.
use Prim.Native.Nat.{ℕ, suc, ◌+◌, ◌-◌, ◌≤◌, ◌<◌}
use mathlib.Core.Path.{◌≡◌, sym, ap, ◌∙◌, subst}
use mathlib.Core.List.{List, []}
use native.Mathlib.Omega.{arith}
use native.Mathlib.Nat.{add-zero}
use native.Mathlib.Numerals.{add-one}
use lib.ListN.{length, drop}
use Rattle.sheet.specs.Block.{total_of}
use Rattle.sheet.specs.Slot.{slots, slot_at, child_count, physical, repetition, numbers_of}
use Rattle.sheet.proofs.SlotLaws.{slots_at_lem}
use Rattle.sheet.specs.declared.slots.Slot.{Slot as Numbers}
use Rattle.tree.specs.Tree.{SlotBytes, node, empty, field, count, size}
use Rattle.tree.specs.Reading.{trees}
use Rattle.tree.specs.Steps.{tree_at, run_at, fields_at, sizes, Claimed, Visited}
use Rattle.tree.proofs.StandingLaws.{tree_at_node, run_at_zero, run_at_suc, run_at_end, claimed_at, count_run_at, count_behind, count_some, size_positive, sizes_empty, sizes_field, size_node}

module _ (b : List ℕ) (k : ℕ) (h : Claimed b) (l : k < total_of b) where
  within : k < length (slots b)
  within = omega (arith, h.total)

  -- the tree at a number is its node with its run
  pub tree_at_slot : tree_at (slots b) k ≡ node (slot_at b k) (fields_at b k)
  unfolding fields_at
  tree_at_slot =
      tree_at_node (slots b) k within
      ∙ ap (λ (s : SlotBytes). node s (run_at (slots b) (suc k) (child_count s))) (slots_at_lem b k [] l)

  -- as many trees stand behind a node as it claims
  pub claimed_slot : child_count (slot_at b k) ≤ count (trees (drop (suc k) (slots b)))
  claimed_slot = subst (λ (s : SlotBytes). child_count s ≤ count (trees (drop (suc k) (slots b)))) (slots_at_lem b k [] l) (claimed_at (slots b) k h.claims within)

  pub count_fields_at : count (fields_at b k) ≡ child_count (slot_at b k)
  unfolding fields_at
  count_fields_at = count_run_at (slots b) (suc k) (child_count (slot_at b k)) claimed_slot

  -- the first field of a node that claims one stands behind it
  pub fields_at_first : (n : ℕ) → child_count (slot_at b k) ≡ suc n → fields_at b k ≡ field (tree_at (slots b) (suc k)) (run_at (slots b) (suc k + size (tree_at (slots b) (suc k))) n)
  unfolding fields_at
  fields_at_first n e =
      ap (run_at (slots b) (suc k)) e
      ∙ run_at_suc (slots b) (suc k) n h.claims (subst (λ (m : ℕ). m ≤ count (trees (drop (suc k) (slots b)))) e claimed_slot)

  pub first_end : (n : ℕ) → child_count (slot_at b k) ≡ suc n → suc k + size (tree_at (slots b) (suc k)) ≤ total_of b
  first_end n e =
      subst (λ (m : ℕ). suc k + size (tree_at (slots b) (suc k)) ≤ m) h.total
      (run_at_end (slots b) (suc k) n h.claims (subst (λ (m : ℕ). m ≤ count (trees (drop (suc k) (slots b)))) e claimed_slot))

  pub first_below : (n : ℕ) → child_count (slot_at b k) ≡ suc n → suc k < total_of b
  first_below n e = let p = size_positive (tree_at (slots b) (suc k)) in omega (arith, first_end n e)

  -- and as many trees stand behind that field as are left
  pub rest_claimed : (n : ℕ) → child_count (slot_at b k) ≡ suc n → n ≤ count (trees (drop (suc k + size (tree_at (slots b) (suc k))) (slots b)))
  rest_claimed n e =
      count_behind (slots b) (suc k) n h.claims (subst (λ (m : ℕ). m ≤ count (trees (drop (suc k) (slots b)))) e claimed_slot)

-- the repetition of the slot that is read behind a number
pub repetition_behind : (b : List ℕ) (k : ℕ) (s : Numbers) → s ≡ numbers_of (slot_at b (k + 1)) → s.repetition ≡ repetition (slot_at b (suc k))
unfolding numbers_of
repetition_behind b k s e = ap (λ (n : Numbers). n.repetition) e ∙ ap (λ (i : ℕ). repetition (slot_at b i)) (add-one k)

-- the numbers that are read at a slot are the slot's
module _ (b : List ℕ) (k : ℕ) (s : Numbers) (e : s ≡ numbers_of (slot_at b k)) where
  pub repetition_at_lem : s.repetition ≡ repetition (slot_at b k)
  unfolding numbers_of
  repetition_at_lem = ap (λ (n : Numbers). n.repetition) e

  pub physical_at_lem : s.physical ≡ physical (slot_at b k)
  unfolding numbers_of
  physical_at_lem = ap (λ (n : Numbers). n.physical) e

  pub children_at : s.children ≡ child_count (slot_at b k)
  unfolding numbers_of
  children_at = ap (λ (n : Numbers). n.children) e

  pub run_at_lem : run_at (slots b) (k + 1) s.children ≡ fields_at b k
  unfolding fields_at
  run_at_lem = rw (children_at, add-one)

  -- as many trees stand behind a node as its numbers claim
  pub children_claimed : Claimed b → k < total_of b → s.children ≤ count (trees (drop (k + 1) (slots b)))
  children_claimed h l = rw (children_at, add-one) (claimed_slot b k h l)

-- some number from one that is not 0
pub from_one : (n : ℕ) → (n ≡ 0 → ⊥) → n ≡ suc (n - 1)
from_one n h = omega arith

module _ (b : List ℕ) (at n : ℕ) (h : Claimed b) (k : n ≡ 0 → ⊥) (c : n ≤ count (trees (drop at (slots b)))) where
  some_tree : suc (n - 1) ≤ count (trees (drop at (slots b)))
  some_tree = omega (arith, from_one n k)

  -- a run that is not empty is its first tree and the shorter run behind it
  pub run_at_first : run_at (slots b) at n ≡ field (tree_at (slots b) at) (run_at (slots b) (at + size (tree_at (slots b) at)) (n - 1))
  run_at_first = ap (run_at (slots b) at) (from_one n k) ∙ run_at_suc (slots b) at (n - 1) h.claims some_tree

  pub run_below : at < total_of b
  run_below =
      let p = size_positive (tree_at (slots b) at) in
      omega (arith, h.total, run_at_end (slots b) at (n - 1) h.claims some_tree)

  module _ (next : ℕ) (e : next ≡ at + size (tree_at (slots b) at)) where
    pub next_after : at < next
    next_after = let p = size_positive (tree_at (slots b) at) in omega (arith, e)

    pub next_claimed : n - 1 ≤ count (trees (drop next (slots b)))
    next_claimed = rw e (count_behind (slots b) at (n - 1) h.claims some_tree)

    -- the run behind the first tree, by where that tree ends
    pub run_split : run_at (slots b) at n ≡ field (tree_at (slots b) at) (run_at (slots b) next (n - 1))
    run_split =
        run_at_first ∙ ap (λ (i : ℕ). field (tree_at (slots b) at) (run_at (slots b) i (n - 1))) (sym e)

    -- both runs end at one number
    pub run_end : at + sizes (run_at (slots b) at n) ≡ next + sizes (run_at (slots b) next (n - 1))
    run_end = rw run_split (omega (arith, e, sizes_field (tree_at (slots b) at) (run_at (slots b) next (n - 1))))

-- an empty run ends where it starts
pub run_end_empty : (b : List ℕ) (at n : ℕ) → n ≡ 0 → at ≡ at + sizes (run_at (slots b) at n)
run_end_empty b at n e = sym (rw (e, run_at_zero, sizes_empty) (add-zero at))

-- the tree at a number ends within the sheet
pub tree_within : (b : List ℕ) (at : ℕ) → Claimed b → at < total_of b → at + size (tree_at (slots b) at) ≤ total_of b
tree_within b at h l =
    subst (λ (n : ℕ). at + size (tree_at (slots b) at) ≤ n) h.total
    (run_at_end (slots b) at 0 h.claims (count_some (slots b) at (omega (arith, h.total))))

-- and where its root's run ends
pub tree_end : (b : List ℕ) (at : ℕ) (s : Numbers) → Visited b at s → (next : ℕ) → next ≡ at + 1 + sizes (run_at (slots b) (at + 1) s.children) → next ≡ at + size (tree_at (slots b) at)
tree_end b at s v next e =
    rw (tree_at_slot b at v.claimed v.below, size_node) (omega (arith, e, ap sizes (run_at_lem b at s v.numbers)))

-- one tree stands in a sheet, and the run of it is that tree alone
module _ (b : List ℕ) (h : Claimed b) (l : 0 < total_of b) where
  pub root_claimed : 1 ≤ count (trees (drop 0 (slots b)))
  root_claimed = count_some (slots b) 0 (omega (arith, h.total))

  pub root_alone : run_at (slots b) 0 1 ≡ field (tree_at (slots b) 0) empty
  root_alone = run_at_suc (slots b) 0 0 h.claims root_claimed ∙ rw run_at_zero
