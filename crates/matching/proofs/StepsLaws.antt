-- The steps of matching, node by node and field by field.
use mathlib.Core.Path.{◌≡◌, refl, ap, ◌∙◌}
use mathlib.Core.List.{List, ◌∷◌}
use Prim.Native.Nat.{ℕ, suc, ◌+◌, ◌-◌, ◌≤◌, ◌<◌}
use native.Mathlib.Numerals.{add-one}
use native.Mathlib.Omega.{arith}
use lib.ListN.{drop, set}
use Rattle.sheet.specs.Slot.{slots, slot_at, name}
use Rattle.tree.specs.Tree.{Tree, Fields, field, size, count}
use Rattle.tree.specs.Reading.{trees}
use Rattle.tree.specs.Steps.{Claimed, tree_at, run_at}
use Rattle.tree.proofs.StandingLaws.{run_at_zero}
use Rattle.tree.proofs.VisitLaws.{run_split, run_below}
use Rattle.matching.specs.Matching.{Sibling, name_of, alike, nth, match_of}
use Rattle.matching.specs.Outcome.{held_of}
use Rattle.matching.specs.Steps.{with_fields, step_at, steps_from}
use Rattle.matching.specs.declared.fields.Match.{Match}
use Rattle.std.specs.Prelude.{Option as Found}
use Rattle.matching.proofs.CandidateLaws.{name_of_at}

-- node by node -----------------------------------------------------------------------------------------------------------------

-- no step, and one step more
pub steps_done : (first second : List ℕ) (k : ℕ) (ms : List (Found Match)) → steps_from first second k 0 ms ≡ ms
unfolding steps_from
steps_done first second k ms = refl

pub steps_next : (first second : List ℕ) (k n : ℕ) (ms : List (Found Match)) → k < n
    → steps_from first second k (n - k) ms ≡ steps_from first second (k + 1) (n - (k + 1)) (step_at first second k ms)
unfolding steps_from
steps_next first second k n ms l =
    let more : n - k ≡ suc (n - (k + 1)) = omega arith in
    rw (more, add-one)

-- field by field ---------------------------------------------------------------------------------------------------------------

-- a run's first field and those behind it, by its name and where it ends
with_fields_first : (ms : List (Found Match)) (at place : ℕ) (cs : List Sibling) (before : List (List ℕ)) (t : Tree) (fs : Fields) (n : List ℕ) (next : ℕ)
    → name_of t ≡ n → next ≡ at + size t
    → with_fields ms at place cs before (field t fs)
    ≡ with_fields (set ms at (held_of (match_of place (nth n (alike n before) cs)))) next (place + 1) cs (n ∷ before) fs
unfolding with_fields
with_fields_first ms at place cs before t fs n next named ends = rw (ends, ← named, add-one)

module _ (b : List ℕ) (at left : ℕ) where
  -- a run of no field leaves what nodes match as it is
  pub with_fields_end : left ≡ 0 → (ms : List (Found Match)) (place : ℕ) (cs : List Sibling) (before : List (List ℕ))
      → with_fields ms at place cs before (run_at (slots b) at left) ≡ ms
  unfolding with_fields
  with_fields_end e ms place cs before = rw (e, run_at_zero)

  -- any other writes what its first field matches, and then what those behind it do
  pub with_fields_next : Claimed b → (left ≡ 0 → ⊥) → left ≤ count (trees (drop at (slots b)))
      → (next : ℕ) → next ≡ at + size (tree_at (slots b) at)
      → (ms : List (Found Match)) (place : ℕ) (cs : List Sibling) (before : List (List ℕ))
      → with_fields ms at place cs before (run_at (slots b) at left)
      ≡ with_fields (set ms at (held_of (match_of place (nth (name (slot_at b at)) (alike (name (slot_at b at)) before) cs)))) next (place + 1) cs
      (name (slot_at b at) ∷ before) (run_at (slots b) next (left - 1))
  unfolding with_fields
  with_fields_next h k c next e ms place cs before =
      ap (with_fields ms at place cs before) (run_split b at left h k c next e)
      ∙ with_fields_first ms at place cs before (tree_at (slots b) at) (run_at (slots b) next (left - 1)) (name (slot_at b at)) next
      (name_of_at b at h (run_below b at left h k c)) e
