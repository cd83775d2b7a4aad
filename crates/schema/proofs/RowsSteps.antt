-- The steps of writing rows at the numbers of a sheet: a tree's rows are its root's and its run's, a run's those of its first tree and of the shorter run.
use Prim.Native.Nat.{ℕ, suc, ◌+◌, ◌*◌, ◌-◌, ◌≤◌, ◌<◌}
use mathlib.Core.Path.{◌≡◌, refl, sym, ap, ◌∙◌}
use mathlib.Core.Bool.{Bool}
use mathlib.Core.List.{List, [], ◌∷◌, ◌++◌}
use native.Mathlib.Omega.{arith}
use native.Mathlib.Nat.{le_refl}
use native.Mathlib.Numerals.{add-one}
use lib.ListN.{length, drop, set, length-append}
use lib.Seq.{set-append_left}
use Rattle.sheet.specs.Block.{total_of}
use Rattle.sheet.specs.Slot.{slots, slot_at, numbers_of}
use Rattle.sheet.specs.declared.slots.Slot.{Slot as Numbers}
use Rattle.annotation.specs.Kinds.{kind_of}
use Rattle.annotation.specs.Signed.{natural}
use Rattle.annotation.specs.declared.slot.Annotated.{Annotated}
use Rattle.annotation.specs.declared.resolution.Kind.{Kind}
use Rattle.tree.specs.Annotated.{annotated_by, annotated, kind}
use Rattle.tree.specs.Tree.{SlotBytes, Tree, Fields, node, count, size, run_depths}
use Rattle.tree.specs.Reading.{trees}
use Rattle.schema.specs.Rows.{is_map_parent, role, parent_by, parent_of, after_first, row, rows_from, run_rows_from, row_width}
use Rattle.tree.specs.Steps.{Claimed, Visited, tree_at, run_at, fields_at, sizes, depth_at}
use Rattle.schema.specs.Steps.{HasLevels, NoneTooDeep}
use Rattle.schema.specs.declared.roles.Parent.{Parent}
use Rattle.tree.proofs.StandingLaws.{run_at_zero, size_node}
use Rattle.tree.proofs.VisitLaws.{tree_at_slot, run_at_lem, run_below, next_after, next_claimed, run_split, run_end, run_end_empty, tree_within}
use Rattle.schema.proofs.DepthLaws.{rest_deep}
use Rattle.laws.specs.Stretches.{stretched}
use Rattle.laws.proofs.StretchLaws.{stretched_none, stretched_stretched, stretched_set}
use Rattle.schema.proofs.RowsLaws.{length_rows_from, length_run_rows_from}

module _ (b l : List ℕ) (at n up : ℕ) (p : Parent) (above : SlotBytes) (path : List Tree) where
  pub run_rows_empty : n ≡ 0 → l ≡ stretched l (row_width * at) (run_rows_from at up p above path (run_at (slots b) at n))
  unfolding run_rows_from
  run_rows_empty e = sym (rw (e, run_at_zero) (stretched_none l (row_width * at)))

  module _ (h : Claimed b) (k : n ≡ 0 → ⊥) (c : n ≤ count (trees (drop at (slots b)))) (next : ℕ) (e : next ≡ at + size (tree_at (slots b) at)) where
    module _ (f : row_width * total_of b ≤ length l) (below : at < total_of b) (m : List ℕ) (w : m ≡ stretched l (row_width * at) (rows_from at up p above path (tree_at (slots b) at))) where
      first : List ℕ
      first = rows_from at up p above path (tree_at (slots b) at)

      first_fits : row_width * at + length first ≤ length l
      unfolding first
      first_fits = omega (arith, length_rows_from (tree_at (slots b) at) at up p above path, tree_within b at h below)

      next_base : row_width * next ≡ row_width * at + length first
      unfolding first
      next_base = omega (arith, e, length_rows_from (tree_at (slots b) at) at up p above path)

      pub run_rows : (q : Parent) (r : List ℕ) → q ≡ after_first p → r ≡ stretched m (row_width * next) (run_rows_from next up q above path (run_at (slots b) next (n - 1))) → r ≡ stretched l (row_width * at) (run_rows_from at up p above path (run_at (slots b) at n))
      unfolding run_rows_from first
      run_rows q r u v =
          v
          ∙ ap (λ (i : ℕ). stretched m i (run_rows_from next up q above path (run_at (slots b) next (n - 1)))) next_base
          ∙ ap (λ (x : List ℕ). stretched x (row_width * at + length first) (run_rows_from next up q above path (run_at (slots b) next (n - 1)))) w
          ∙ stretched_stretched l (row_width * at) first (run_rows_from next up q above path (run_at (slots b) next (n - 1))) first_fits
          ∙ ap (λ (x : Parent). stretched l (row_width * at) (first ++ run_rows_from next up x above path (run_at (slots b) next (n - 1)))) u
          ∙ ap (λ (i : ℕ). stretched l (row_width * at) (first ++ run_rows_from i up (after_first p) above path (run_at (slots b) next (n - 1)))) e
          ∙ ap (λ (fs : Fields). stretched l (row_width * at) (run_rows_from at up p above path fs)) (sym (run_split b at n h k c next e))

-- the rows of a run written up to one of its fields: with those of the others they are the run's, whatever path has the levels that they stand below
pub record Behind (b lent : List ℕ) (start n l up : ℕ) (p : Parent) (above : SlotBytes) (d r : ℕ) (rows : List ℕ) (at left : ℕ) (q : Parent) : Type 0 where
  pub reached : start ≤ at
  pub claimed : left ≤ count (trees (drop at (slots b)))
  pub deep : NoneTooDeep (run_depths (depth_at l) (run_at (slots b) at left))
  pub long : length rows ≡ length lent
  pub ended : start + sizes (run_at (slots b) start n) ≡ at + sizes (run_at (slots b) at left)
  pub found : (path : List Tree) → HasLevels path d r → stretched lent (row_width * start) (run_rows_from start up p above path (run_at (slots b) start n)) ≡ stretched rows (row_width * at) (run_rows_from at up q above path (run_at (slots b) at left))

pub behind_start : (b lent : List ℕ) (start n l up : ℕ) (p : Parent) (above : SlotBytes) (d r : ℕ) → n ≤ count (trees (drop start (slots b))) → NoneTooDeep (run_depths (depth_at l) (run_at (slots b) start n)) → Behind b lent start n l up p above d r lent start (n - 0) p
behind_start b lent start n l up p above d r c g =
    let all : n - 0 ≡ n = omega arith in
    rw all (record { reached = le_refl start; claimed = c; deep = g; long = refl; ended = refl; found = λ path g. refl })

module _ (b lent : List ℕ) (start n l up : ℕ) (p : Parent) (above : SlotBytes) (d r : ℕ) (rows : List ℕ) (at left : ℕ) (q : Parent) (i : Behind b lent start n l up p above d r rows at left q) where
  pub behind_end : left ≡ 0 → (at ≡ start + sizes (run_at (slots b) start n)) × ((path : List Tree) → HasLevels path d r → rows ≡ stretched lent (row_width * start) (run_rows_from start up p above path (run_at (slots b) start n)))
  behind_end e = (
    run_end_empty b at left e ∙ sym i.ended,
    (λ path h. run_rows_empty b rows at left up q above path e ∙ sym (i.found path h)),
  )

  pub behind_next : Claimed b → row_width * total_of b ≤ length lent → (left ≡ 0 → ⊥) → (passed : ℕ) → left ≡ n - passed → (next : ℕ) (m : List ℕ) (o : Parent) → next ≡ at + size (tree_at (slots b) at) → ((path : List Tree) → HasLevels path d r → m ≡ stretched rows (row_width * at) (rows_from at up q above path (tree_at (slots b) at))) → length m ≡ length rows → o ≡ after_first q → Behind b lent start n l up p above d r m next (n - (passed + 1)) o
  behind_next h f k passed gone next m o e w long u =
      let fewer : n - (passed + 1) ≡ left - 1 = omega arith in
      let below = run_below b at left h k i.claimed in
      let room : row_width * total_of b ≤ length rows = omega (arith, i.long) in
      rw fewer (record {
        reached = omega (arith, i.reached, next_after b at left h k i.claimed next e);
        claimed = next_claimed b at left h k i.claimed next e;
        deep = rest_deep b at left l h k i.claimed i.deep next e;
        long = long ∙ i.long;
        ended = i.ended ∙ run_end b at left h k i.claimed next e;
        found = λ path g. i.found path g ∙ sym (run_rows b rows at left up q above path h k i.claimed next e room below m (w path g) o (stretched m (row_width * next) (run_rows_from next up o above path (run_at (slots b) next (left - 1)))) u refl);
      })

module _ (b l : List ℕ) (at up : ℕ) (s : Numbers) (p : Parent) (above : SlotBytes) (v : Visited b at s) where
  -- what a node is to its fields
  pub parent_is : (n : Annotated) (u : Bool) (k : Kind) (own : ℕ) (q : Parent) → n ≡ annotated_by s → u ≡ is_map_parent p → k ≡ kind_of n u → own ≡ role p above (slot_at b at) (fields_at b at) → q ≡ parent_by k.kind own → q ≡ parent_of p above (slot_at b at) (fields_at b at)
  unfolding parent_of kind annotated
  parent_is n u k own q a w d o e = e ∙ rw (d, a, w, o, v.numbers)

  -- a node's row
  pub row_is : (path : List Tree) (d r : ℕ) → HasLevels (node (slot_at b at) (fields_at b at) ∷ path) d r → (n : Annotated) (u : Bool) (k : Kind) (own next bytes : ℕ) → n ≡ annotated_by s → u ≡ is_map_parent p → k ≡ kind_of n u → own ≡ role p above (slot_at b at) (fields_at b at) → next ≡ at + size (tree_at (slots b) at) → bytes ≡ natural n.type_length
      → s.physical ∷ bytes ∷ s.repetition ∷ k.kind ∷ k.p1 ∷ k.p2 ∷ up ∷ next ∷ own ∷ d ∷ r ∷ [] ≡ row at up p above path (slot_at b at) (fields_at b at)
  unfolding row kind annotated numbers_of
  row_is path d r g n u k own next bytes a w c o e t =
      rw (g.definition_is, g.repetition_is, t, c, a, w, o, v.numbers, e, tree_at_slot b at v.claimed v.below)

  -- its rows: its own, whose end is not known until its run is written, and those of its run
  module _ (path : List Tree) (f : row_width * total_of b ≤ length l) (q : Parent) (w : q ≡ parent_of p above (slot_at b at) (fields_at b at)) (ns k m : List ℕ) (g : length ns ≡ row_width) (u : k ≡ stretched l (row_width * at) ns) (e : m ≡ stretched k (row_width * (at + 1)) (run_rows_from (at + 1) at q (slot_at b at) (node (slot_at b at) (fields_at b at) ∷ path) (run_at (slots b) (at + 1) s.children))) where
    rest : List ℕ
    rest = run_rows_from (suc at) at (parent_of p above (slot_at b at) (fields_at b at)) (slot_at b at) (node (slot_at b at) (fields_at b at) ∷ path) (fields_at b at)

    rest_is : m ≡ stretched k (row_width * (at + 1)) rest
    unfolding rest
    rest_is = e ∙ ap (stretched k (row_width * (at + 1))) (rw (run_at_lem b at s v.numbers, w, add-one))

    end_within : suc at + sizes (fields_at b at) ≤ total_of b
    end_within =
        omega (arith, tree_within b at v.claimed v.below, ap size (tree_at_slot b at v.claimed v.below), size_node (slot_at b at) (fields_at b at))

    both_fit : row_width * at + length (ns ++ rest) ≤ length l
    unfolding rest sizes
    both_fit = omega (arith, g, length-append ns rest, length_run_rows_from (fields_at b at) (suc at) at (parent_of p above (slot_at b at) (fields_at b at)) (slot_at b at) (node (slot_at b at) (fields_at b at) ∷ path), end_within)

    both_stretched : m ≡ stretched l (row_width * at) (ns ++ rest)
    both_stretched =
        let base : row_width * (at + 1) ≡ row_width * at + length ns = omega (arith, g) in
        rest_is
        ∙ ap (λ (z : List ℕ). stretched z (row_width * (at + 1)) rest) u
        ∙ ap (λ (i : ℕ). stretched (stretched l (row_width * at) ns) i rest) base
        ∙ stretched_stretched l (row_width * at) ns rest (omega (arith, both_fit, length-append ns rest))

    pub tree_rows : (next : ℕ) (r : List ℕ) → set ns 7 next ≡ row at up p above path (slot_at b at) (fields_at b at) → r ≡ set m (row_width * at + 7) next → r ≡ stretched l (row_width * at) (rows_from at up p above path (tree_at (slots b) at))
    unfolding rows_from rest
    tree_rows next r x y =
        y
        ∙ ap (λ (z : List ℕ). set z (row_width * at + 7) next) both_stretched
        ∙ stretched_set l (row_width * at) (ns ++ rest) 7 next both_fit (omega (arith, g, length-append ns rest))
        ∙ ap (stretched l (row_width * at)) (set-append_left ns rest 7 next (omega (arith, g)) ∙ ap (λ (z : List ℕ). z ++ rest) x)
        ∙ ap (λ (t : Tree). stretched l (row_width * at) (rows_from at up p above path t)) (sym (tree_at_slot b at v.claimed v.below))

-- room for the rows, in what is as long as it was
pub long_enough : (total m l : ℕ) → row_width * total ≤ l → m ≡ l → row_width * total ≤ m
long_enough total m l h e = omega arith

pub row_fits : (at total m l : ℕ) → at < total → row_width * total ≤ l → m ≡ l → row_width * at + row_width ≤ m
row_fits at total m l h k e = omega arith
