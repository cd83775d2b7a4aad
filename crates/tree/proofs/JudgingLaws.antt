-- How judging a tree goes on with judging its run, and judging a run with its first tree and the shorter run.
use Prim.Native.Nat.{ℕ, zero, suc, ◌+◌, ◌*◌, ◌-◌, ◌≤◌}
use mathlib.Core.Path.{◌≡◌, refl, sym, ap, ◌∙◌}
use mathlib.Core.List.{List, [], ◌∷◌, ◌++◌, map, map-append}
use native.Mathlib.Omega.{arith}
use native.Mathlib.Nat.{add-zero, add-suc, suc-add}
use borrow.Author.Tests.{le-leb}
use lib.ListN.{length, length-append, length-map}
use Rattle.tree.specs.Tree.{SlotBytes, Tree, Fields, node, empty, field, listing, listings, size, depths, run_depths, most_depth}
use Rattle.tree.specs.Rules.{standing_below}
use Rattle.tree.specs.Faults.{broken, faults, run_faults}
use Rattle.tree.specs.Judgement.{or_else, first_fault, deepness}
use Rattle.tree.specs.Steps.{sizes, last_from, last_of, inner_from, rule_weight, fault_from, first_of, depth_at, tree_found, run_found, deep_at, or_deep, judged_tree, judged_on, judged_run}
use Rattle.std.proofs.Common.{Result, Ok, Err}
use Rattle.tree.specs.declared.standing.Standing.{Standing}
use Rattle.refusal.specs.Outcome.{Verdict}
use Rattle.tree.specs.declared.judging.TooDeep.{TooDeep}
use Rattle.tree.specs.declared.judging.TreeFound.{TreeFound}
use Rattle.tree.specs.declared.judging.RunFound.{RunFound}
use Rattle.tree.proofs.FaultLaws.{first_fault_append}
use Rattle.tree.proofs.StandingLaws.{sizes_field, size_node}

mutual
  unfolding depths size listing

  pub length_depths : (t : Tree) (d : ℕ) → length (depths d t) ≡ size t
  length_depths (node s fs) d = ap suc (length_run_depths fs (suc d))

  length_run_depths : (fs : Fields) (d : ℕ) → length (run_depths d fs) ≡ length (listings fs)
  length_run_depths empty d = refl
  length_run_depths (field t fs) d = rw (length-append, length-append, length_depths t d, length_run_depths fs d)

mutual
  unfolding faults size listing

  pub length_faults : (edition : ℕ) (t : Tree) (p : Standing) → length (faults edition p t) ≡ size t
  length_faults edition (node s fs) p = ap suc (length_run_faults edition fs (standing_below p s))

  length_run_faults : (edition : ℕ) (fs : Fields) (p : Standing) → length (run_faults edition p fs) ≡ length (listings fs)
  length_run_faults edition empty p = refl
  length_run_faults edition (field t fs) p = rw (length-append, length-append, length_faults edition t p, length_run_faults edition fs p)

-- the first fault of two ---------------------------------------------------------------------------------------------------

pub first_of_some : (f g : ℕ) → (f ≡ 0 → ⊥) → first_of f g ≡ f
unfolding first_of
first_of_some zero g n = absurd (n refl)
first_of_some (suc f) g n = refl

first_of_none : (f : ℕ) → first_of f 0 ≡ f
unfolding first_of
first_of_none zero = refl
first_of_none (suc f) = refl

first_of_assoc : (f g h : ℕ) → first_of (first_of f g) h ≡ first_of f (first_of g h)
unfolding first_of
first_of_assoc zero g h = refl
first_of_assoc (suc f) g h = refl

fault_from_append : (k : ℕ) (ms ns : List ℕ) → fault_from k (ms ++ ns) ≡ first_of (fault_from k ms) (fault_from (k + length ms) ns)
unfolding fault_from first_of
fault_from_append k [] ns = rw add-zero
fault_from_append k (zero ∷ ms) ns = rw (fault_from_append (suc k) ms ns, add-suc, suc-add)
fault_from_append k (suc m ∷ ms) ns = sym (first_of_some (rule_weight * suc m + k) _ (λ e. omega arith))

-- a tree and its run -------------------------------------------------------------------------------------------------------

-- a tree that has no level left is too deep
pub judged_tree_deep : (edition : ℕ) (at : ℕ) (p : Standing) (t : Tree) → judged_tree edition at 0 p t ≡ deep_at at
unfolding judged_tree or_deep depth_at depths first_fault deepness
judged_tree_deep edition at p (node s fs) = refl

-- what a tree's run finds is what the tree finds, with the root's own fault first
unfoldable pub tree_by : ℕ → ℕ → Result RunFound TooDeep → Result TreeFound TooDeep
tree_by own at (Ok run) = tree_found run.next run.last (first_of (fault_from at (own ∷ [])) run.fault)
tree_by own at (Err deep) = Err deep

not_deep : (l : ℕ) → deepness (depth_at (suc l)) ≡ 0
unfolding deepness depth_at
not_deep l = rw (le-leb (suc most_depth - suc l) most_depth (omega arith))

deeper : (l : ℕ) → suc l ≤ suc most_depth → suc (depth_at (suc l)) ≡ depth_at l
unfolding depth_at
deeper l h = omega arith

own_first : (own at : ℕ) (ns : List ℕ) → fault_from at (own ∷ ns) ≡ first_of (fault_from at (own ∷ [])) (fault_from (suc at) ns)
unfolding fault_from first_of
own_first zero at ns = refl
own_first (suc n) at ns = sym (first_of_some (rule_weight * suc n + at) _ (λ e. omega arith))

tree_by_lem : (v : Verdict) (own at next last inner f : ℕ) → or_deep v (tree_found next last (first_of (fault_from at (own ∷ [])) f)) ≡ tree_by own at (or_deep v (run_found next last inner f))
unfolding or_deep tree_by
tree_by_lem (Ok _) own at next last inner f = refl
tree_by_lem (Err r) own at next last inner f = refl

deep_behind : (at l : ℕ) (fs : Fields) → suc l ≤ suc most_depth → first_fault at (deepness (depth_at (suc l)) ∷ map deepness (run_depths (suc (depth_at (suc l))) fs)) ≡ first_fault (suc at) (map deepness (run_depths (depth_at l) fs))
unfolding first_fault
deep_behind at l fs h = rw (not_deep l, deeper l h)

node_end : (at : ℕ) (s : SlotBytes) (fs : Fields) → at + size (node s fs) ≡ suc at + sizes fs
node_end at s fs = omega (arith, size_node s fs)

pub judged_tree_node : (edition : ℕ) (at l : ℕ) (p : Standing) (s : SlotBytes) (fs : Fields) → suc l ≤ suc most_depth → judged_tree edition at (suc l) p (node s fs) ≡ tree_by (broken edition p s fs) at (judged_run edition (suc at) l (standing_below p s) fs)
unfolding judged_tree judged_run judged_on depths faults last_of first_of
judged_tree_node edition at l p s fs h = rw (deep_behind at l fs h, own_first, node_end) (tree_by_lem _ _ _ _ _ _ _)

-- a run and its first tree -------------------------------------------------------------------------------------------------

pub judged_on_empty : (edition : ℕ) (at l : ℕ) (p : Standing) (last inner f : ℕ) → judged_on edition at l p last inner f empty ≡ run_found at last inner f
unfolding judged_on or_deep run_depths first_fault sizes listings last_from inner_from run_faults fault_from
judged_on_empty edition at l p last inner f = rw (add-zero, first_of_none)

-- what a run's first tree and the shorter run find is what the run finds
unfoldable pub run_by : Result TreeFound TooDeep → (ℕ → ℕ → ℕ → Result RunFound TooDeep) → Result RunFound TooDeep
run_by (Ok tree) rest = rest tree.next tree.last tree.fault
run_by (Err deep) rest = Err deep

run_by_lem : (a b : Verdict) (next within later : ℕ) (found : Result RunFound TooDeep) (rest : ℕ → ℕ → ℕ → Result RunFound TooDeep) → rest next within later ≡ or_deep b found → or_deep (or_else a b) found ≡ run_by (or_deep a (tree_found next within later)) rest
unfolding or_deep run_by or_else
run_by_lem (Ok _) b next within later found rest e = sym e
run_by_lem (Err r) b next within later found rest e = refl

deep_split : (at d : ℕ) (t : Tree) (fs : Fields) → first_fault at (map deepness (depths d t ++ run_depths d fs)) ≡ or_else (first_fault at (map deepness (depths d t))) (first_fault (at + size t) (map deepness (run_depths d fs)))
deep_split at d t fs =
    rw map-append
    (first_fault_append at (map deepness (depths d t)) (map deepness (run_depths d fs))
    ∙ rw (length-map, length_depths))

fault_split : (edition : ℕ) (at f : ℕ) (p : Standing) (t : Tree) (fs : Fields) → first_of f (fault_from at (faults edition p t ++ run_faults edition p fs)) ≡ first_of (first_of f (fault_from at (faults edition p t))) (fault_from (at + size t) (run_faults edition p fs))
fault_split edition at f p t fs =
    ap (first_of f) (fault_from_append at (faults edition p t) (run_faults edition p fs) ∙ rw length_faults)
    ∙ sym (first_of_assoc f (fault_from at (faults edition p t)) (fault_from (at + size t) (run_faults edition p fs)))

field_end : (at : ℕ) (t : Tree) (fs : Fields) → at + sizes (field t fs) ≡ at + size t + sizes fs
field_end at t fs = omega (arith, sizes_field t fs)

run_parts : (a b : Verdict) (e f last inner v w : ℕ) → a ≡ b → e ≡ f → v ≡ w → or_deep a (run_found e last inner v) ≡ or_deep b (run_found f last inner w)
run_parts a b e f last inner v w p q r = cc

pub judged_on_field : (edition : ℕ) (at l : ℕ) (p : Standing) (last inner f : ℕ) (t : Tree) (fs : Fields) → judged_on edition at l p last inner f (field t fs) ≡ run_by (judged_tree edition at l p t) (λ next within later. judged_on edition next l p at within (first_of f later) fs)
unfolding judged_tree judged_on run_depths run_faults last_from inner_from
judged_on_field edition at l p last inner f t fs =
    run_parts _ _ _ _ _ _ _ _ (deep_split at (depth_at l) t fs) (field_end at t fs) (fault_split edition at f p t fs)
    ∙ run_by_lem _ _ _ _ _ _ _ refl

-- where a run is judged, the last field of its last field stands where it says
pub judged_run_inner : (edition : ℕ) (at l : ℕ) (p : Standing) (fs : Fields) (run : RunFound) → judged_run edition at l p fs ≡ Ok run → run.inner ≡ inner_from at at fs
unfolding judged_run judged_on or_deep
judged_run_inner edition at l p fs run e = on (first_fault at (map deepness (run_depths (depth_at l) fs))) e
  where
    on : (w : Verdict) → or_deep w (run_found (at + sizes fs) (last_from at at fs) (inner_from at at fs) (first_of 0 (fault_from at (run_faults edition p fs)))) ≡ Ok run → run.inner ≡ inner_from at at fs
    on (Ok _) q = cc
    on (Err r) q = absurd (let z : ◌≡◌ {A = ℕ} 0 1 = cc in omega arith)

pub judged_tree_next : (edition : ℕ) (at l : ℕ) (p : Standing) (t : Tree) (tree : TreeFound) → judged_tree edition at l p t ≡ Ok tree → tree.next ≡ at + size t
unfolding judged_tree or_deep
judged_tree_next edition at l p t tree e = on (first_fault at (map deepness (depths (depth_at l) t))) e
  where
    on : (w : Verdict) → or_deep w (tree_found (at + size t) (last_of at t) (fault_from at (faults edition p t))) ≡ Ok tree → tree.next ≡ at + size t
    on (Ok _) q = cc
    on (Err r) q = absurd (let z : ◌≡◌ {A = ℕ} 0 1 = cc in omega arith)
