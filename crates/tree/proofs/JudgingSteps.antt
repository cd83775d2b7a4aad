-- The steps of judging at the numbers of a sheet: what a tree finds from its run, and what a run finds from its next tree and the shorter run.
use Prim.Native.Nat.{ℕ, suc, ◌+◌, ◌*◌, ◌-◌, ◌≤◌, ◌<◌}
use mathlib.Core.Path.{◌≡◌, refl, sym, ap, ◌∙◌}
use mathlib.Core.List.{List, [], ◌∷◌}
use native.Mathlib.Omega.{arith}
use native.Mathlib.Nat.{le_refl}
use native.Mathlib.Numerals.{add-one}
use lib.ListN.{drop}
use Rattle.sheet.specs.Slot.{slots, slot_at}
use Rattle.sheet.specs.declared.slots.Slot.{Slot as Numbers}
use Rattle.tree.specs.Tree.{Tree, node, count, size, most_depth}
use Rattle.tree.specs.Rules.{standing_below}
use Rattle.tree.specs.Faults.{broken}
use Rattle.tree.specs.Reading.{trees}
use Rattle.tree.specs.Steps.{Claimed, Visited, tree_at, run_at, fields_at, inner_from, fault_from, first_of, tree_found, deep_at, nothing_found, judged_tree, judged_on, judged_run}
use Rattle.std.proofs.Common.{Result, Ok, Err}
use Rattle.tree.specs.declared.standing.Standing.{Standing}
use Rattle.tree.specs.declared.judging.TooDeep.{TooDeep}
use Rattle.tree.specs.declared.judging.TreeFound.{TreeFound}
use Rattle.tree.specs.declared.judging.RunFound.{RunFound}
use Rattle.tree.proofs.StandingLaws.{run_at_zero}
use Rattle.tree.proofs.VisitLaws.{tree_at_slot, run_at_lem, from_one, run_at_first, next_after, next_claimed}
use Rattle.tree.proofs.JudgingLaws.{tree_by, run_by, judged_tree_deep, judged_tree_node, judged_on_empty, judged_on_field, judged_run_inner, judged_tree_next}

on_empty : (edition : ℕ) (b : List ℕ) (n l : ℕ) (p : Standing) (run : RunFound) → n ≡ 0 → Ok run ≡ judged_on edition run.next l p run.last run.inner run.fault (run_at (slots b) run.next n)
on_empty edition b n l p run e = sym (rw (e, run_at_zero) (judged_on_empty edition run.next l p run.last run.inner run.fault))

pub run_empty : (edition : ℕ) (b : List ℕ) (at n l : ℕ) (p : Standing) (run : RunFound) → run ≡ nothing_found at → n ≡ 0 → Ok run ≡ judged_run edition at l p (run_at (slots b) at n)
unfolding judged_run
run_empty edition b at n l p run d e = rw d (on_empty edition b n l p (nothing_found at) e)

-- the fields of a run, judged up to one of them: what is found of them all is what was found so far and what the others find
pub record Judging (edition : ℕ) (b : List ℕ) (start n l : ℕ) (p : Standing) (left : ℕ) (run : RunFound) : Type 0 where
  pub reached : start ≤ run.next
  pub claimed : left ≤ count (trees (drop run.next (slots b)))
  pub found : judged_run edition start l p (run_at (slots b) start n) ≡ judged_on edition run.next l p run.last run.inner run.fault (run_at (slots b) run.next left)

pub judging_start : (edition : ℕ) (b : List ℕ) (start n l : ℕ) (p : Standing) (run : RunFound) → run ≡ nothing_found start → n ≤ count (trees (drop start (slots b))) → Judging edition b start n l p (n - 0) run
unfolding judged_run
judging_start edition b start n l p run d c =
    let all : n - 0 ≡ n = omega arith in
    rw (d, all) (record { reached = le_refl start; claimed = c; found = refl })

module _ (edition : ℕ) (b : List ℕ) (start n l : ℕ) (p : Standing) (left : ℕ) (run : RunFound) (r : Judging edition b start n l p left run) where
  pub judging_end_lem : left ≡ 0 → Ok run ≡ judged_run edition start l p (run_at (slots b) start n)
  judging_end_lem e = on_empty edition b left l p run e ∙ sym r.found

  module _ (h : Claimed b) (m : left ≡ 0 → ⊥) where
    step : judged_run edition start l p (run_at (slots b) start n) ≡ run_by (judged_tree edition run.next l p (tree_at (slots b) run.next)) (λ next within later. judged_on edition next l p run.next within (first_of run.fault later) (run_at (slots b) (run.next + size (tree_at (slots b) run.next)) (left - 1)))
    step =
        r.found
        ∙ ap (judged_on edition run.next l p run.last run.inner run.fault) (run_at_first b run.next left h m r.claimed)
        ∙ judged_on_field edition run.next l p run.last run.inner run.fault (tree_at (slots b) run.next) (run_at (slots b) (run.next + size (tree_at (slots b) run.next)) (left - 1))

    pub judging_deep : (deep : TooDeep) → judged_tree edition run.next l p (tree_at (slots b) run.next) ≡ Err deep → Err deep ≡ judged_run edition start l p (run_at (slots b) start n)
    unfolding run_by
    judging_deep deep e = sym (step ∙ rw e)

    pub judging_next : (i : ℕ) → left ≡ n - i → (tree : TreeFound) (fault : ℕ) → judged_tree edition run.next l p (tree_at (slots b) run.next) ≡ Ok tree → fault ≡ first_of run.fault tree.fault → Judging edition b start n l p (n - (i + 1)) (record { next = tree.next; last = run.next; inner = tree.last; fault = fault })
    unfolding run_by
    judging_next i reached tree fault e o =
        let fewer : n - (i + 1) ≡ left - 1 = omega arith in
        let is = judged_tree_next edition run.next l p (tree_at (slots b) run.next) tree e in
        rw fewer (record {
          reached = omega (arith, r.reached, next_after b run.next left h m r.claimed tree.next is);
          claimed = next_claimed b run.next left h m r.claimed tree.next is;
          found = step ∙ rw (e, o, ← is);
        })

pub tree_deep : (edition : ℕ) (at l : ℕ) (p : Standing) (t : Tree) → l ≡ 0 → deep_at {F = TreeFound} at ≡ judged_tree edition at l p t
tree_deep edition at l p t e = sym (rw e (judged_tree_deep edition at p t))

module _ (edition : ℕ) (b : List ℕ) (at : ℕ) (s : Numbers) (v : Visited b at s) where
  module _ (l : ℕ) (p q : Standing) (w : q ≡ standing_below p (slot_at b at)) (k : l ≡ 0 → ⊥) (m : l ≤ suc most_depth) (r : Result RunFound TooDeep) (e : r ≡ judged_run edition (at + 1) (l - 1) q (run_at (slots b) (at + 1) s.children)) where
    run_is : judged_run edition (suc at) (l - 1) (standing_below p (slot_at b at)) (fields_at b at) ≡ r
    run_is = sym (e ∙ rw (run_at_lem b at s v.numbers, w, add-one))

    tree_step : judged_tree edition at l p (tree_at (slots b) at) ≡ tree_by (broken edition p (slot_at b at) (fields_at b at)) at r
    tree_step =
        ap (judged_tree edition at l p) (tree_at_slot b at v.claimed v.below)
        ∙ ap (λ (i : ℕ). judged_tree edition at i p (node (slot_at b at) (fields_at b at))) (from_one l k)
        ∙ judged_tree_node edition at (l - 1) p (slot_at b at) (fields_at b at) (omega (arith, from_one l k))
        ∙ ap (tree_by (broken edition p (slot_at b at) (fields_at b at)) at) run_is

    pub tree_run_deep : (deep : TooDeep) → r ≡ Err deep → Err deep ≡ judged_tree edition at l p (tree_at (slots b) at)
    unfolding tree_by
    tree_run_deep deep d = sym (tree_step ∙ rw d)

    module _ (run : RunFound) (d : r ≡ Ok run) where
      pub tree_inner : run.inner ≡ inner_from (suc at) (suc at) (fields_at b at)
      tree_inner = judged_run_inner edition (suc at) (l - 1) (standing_below p (slot_at b at)) (fields_at b at) run (run_is ∙ d)

      pub tree_judged : judged_tree edition at l p (tree_at (slots b) at) ≡ tree_found run.next run.last (first_of (fault_from at (broken edition p (slot_at b at) (fields_at b at) ∷ [])) run.fault)
      unfolding tree_by
      tree_judged = tree_step ∙ rw d

-- what is left at a number with so many depths: the nodes from it on, and the depths
abbrev pub remaining : ℕ → ℕ → ℕ → ℕ
remaining total at allowed = (total - at) + allowed

-- the measures of the three calls: of the fields behind a tree's root, for which nodes and depths both fall; of the run of some fields; and of a tree of
-- a run that started earlier
pub fields_falls : (total at allowed t : ℕ) → at < total → (allowed ≡ 0 → ⊥) → 3 * remaining total at allowed ≡ t → 3 * remaining total (at + 1) (allowed - 1) + 2 < t
fields_falls total at allowed t h k e = omega arith

pub run_falls : (total at allowed t : ℕ) → 3 * remaining total at allowed + 2 ≡ t → 3 * remaining total at allowed + 1 < t
run_falls total at allowed t e = omega arith

pub tree_falls : (total start at allowed t : ℕ) → start ≤ at → 3 * remaining total start allowed + 1 ≡ t → 3 * remaining total at allowed < t
tree_falls total start at allowed t h e = omega arith
