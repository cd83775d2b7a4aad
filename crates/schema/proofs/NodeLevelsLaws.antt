-- The levels in the rows of a tree: a node's are its parent's and what its own repetition adds, and they are no greater than the node is deep.
use Prim.Native.Nat.{ℕ, zero, suc, ◌+◌, ◌*◌, ◌≤◌, ◌<◌}
use mathlib.Core.Path.{◌≡◌, sym, ap, ◌∙◌, subst}
use mathlib.Core.Bool.{Bool, true, false, cond, ◌&&◌, ◌||◌}
use mathlib.Core.List.{List, [], ◌∷◌, ◌++◌, append_assoc}
use native.Mathlib.Omega.{arith}
use native.Mathlib.Nat.{add-zero, add_assoc}
use borrow.Author.Tests.{eqb-true}
use lib.Dec.{eqb}
use lib.ListN.{length, get_or, drop, length-append, get_or-append}
use lib.Seq.{drop_at, drop-drop, get_or-append-add}
use Rattle.laws.proofs.BoolLaws.{and_both}
use Rattle.sheet.specs.Slot.{repetition, numbers_of}
use Rattle.parquet.specs.Repetition.{OPTIONAL, REPEATED}
use Rattle.parquet.specs.Repetition as repetition
use Rattle.parquet.specs.Converted as converted
use Rattle.parquet.specs.Logical as logical
use Rattle.tree.specs.Tree.{SlotBytes, Tree, Fields, node, empty, field, listing, listings, size, depths, run_depths, AtMostDeep}
use Rattle.tree.specs.Rules.{is_group, root_shape, length_shape, decimal_shape, shape, rule8, Keeps}
use Rattle.tree.specs.declared.standing.Standing.TheVariants.{Root}
use Rattle.tree.proofs.JudgingLaws.{length_depths}
use Rattle.schema.specs.Levels.{is_optional_or_repeated, is_repeated_code, counted, how_many}
use Rattle.schema.specs.Rows.{row, parent_of, after_first, rows_from, run_rows_from, rows, row_width, number_in}
use Rattle.schema.specs.declared.roles.Parent.{Parent}
use Rattle.schema.proofs.LevelsLaws.{counted_most}
use Rattle.schema.proofs.NodeRowLaws.{either}
use Rattle.schema.proofs.RowsLaws.{length_row, length_rows_from}

-- the levels of a path ------------------------------------------------------------------------------------------------------

-- what is repeated is optional or repeated
counted_ordered : (code : ℕ) → counted is_repeated_code code ≤ counted is_optional_or_repeated code
counted_ordered code = on (eqb code OPTIONAL) (eqb code REPEATED)
  where
    on : (o r : Bool) → cond r 1 0 ≤ cond (o || r) 1 0
    on true true = omega arith
    on true false = omega arith
    on false true = omega arith
    on false false = omega arith

levels_ordered : (path : List Tree) → how_many is_repeated_code path ≤ how_many is_optional_or_repeated path
unfolding how_many
levels_ordered [] = omega arith
levels_ordered (node s fs ∷ path) = omega (arith, levels_ordered path, counted_ordered (repetition s))

-- a row among the numbers ----------------------------------------------------------------------------------------------------

-- what the row of a node says of its levels, where it is at depth d and its parent's row stands among the numbers too
pub record InRow (numbers : List ℕ) (k d : ℕ) : Type 0 where
  pub earlier : number_in numbers k 6 < k
  pub definition_is : number_in numbers k 9 ≡ number_in numbers (number_in numbers k 6) 9 + counted is_optional_or_repeated (number_in numbers k 2)
  pub repetition_is : number_in numbers k 10 ≡ number_in numbers (number_in numbers k 6) 10 + counted is_repeated_code (number_in numbers k 2)
  pub ordered : number_in numbers k 10 ≤ number_in numbers k 9
  pub most : number_in numbers k 9 ≤ d

module _ (numbers : List ℕ) where
  -- the levels of a path stand in the row at `up`; what has that parent stands at `at` or after, at depth d
  record Under (path : List Tree) (up at d : ℕ) : Type 0 where
    definition_stands : number_in numbers up 9 ≡ how_many is_optional_or_repeated path
    repetition_stands : number_in numbers up 10 ≡ how_many is_repeated_code path
    before : up < at
    low : suc (how_many is_optional_or_repeated path) ≤ d

  module _ (at up : ℕ) (q : Parent) (above : SlotBytes) (path : List Tree) (s : SlotBytes) (fs : Fields) (rest : List ℕ) (e : drop (row_width * at) numbers ≡ row at up q above path s fs ++ rest) where
    own_repetition : number_in numbers at 2 ≡ repetition s
    unfolding number_in row
    own_repetition = rw e

    own_parent : number_in numbers at 6 ≡ up
    unfolding number_in row
    own_parent = rw e

    own_definition : number_in numbers at 9 ≡ how_many is_optional_or_repeated (node s fs ∷ path)
    unfolding number_in row
    own_definition = rw e

    own_repetitions : number_in numbers at 10 ≡ how_many is_repeated_code (node s fs ∷ path)
    unfolding number_in row
    own_repetitions = rw e

    own_row : (d : ℕ) → Under path up at d → InRow numbers at d
    unfolding how_many
    own_row d u =
        record {
          earlier = rw own_parent u.before;
          definition_is = rw (own_parent, own_repetition, u.definition_stands) own_definition;
          repetition_is = rw (own_parent, own_repetition, u.repetition_stands) own_repetitions;
          ordered = omega (arith, own_definition, own_repetitions, levels_ordered (node s fs ∷ path));
          most = omega (arith, own_definition, counted_most is_optional_or_repeated (repetition s), u.low);
        }

    -- its fields have it for a parent
    own_fields : (d : ℕ) → how_many is_optional_or_repeated (node s fs ∷ path) ≤ d → Under (node s fs ∷ path) at (suc at) (suc d)
    own_fields d l =
        record { definition_stands = own_definition; repetition_stands = own_repetitions; before = omega arith; low = omega (arith, l) }

  -- what stands behind n rows
  behind_rows : (at n : ℕ) (xs ys : List ℕ) → drop (row_width * at) numbers ≡ xs ++ ys → length xs ≡ row_width * n → drop (row_width * (at + n)) numbers ≡ ys
  behind_rows at n xs ys e l =
      let sum : row_width * (at + n) ≡ row_width * at + row_width * n = omega arith in
      ap (λ (k : ℕ). drop k numbers) sum
      ∙ sym (drop-drop (row_width * n) (row_width * at) numbers)
      ∙ ap (drop (row_width * n)) e
      ∙ drop_at xs ys (row_width * n) l

  -- a node of a run is one of its first field's, or one of the shorter run's
  in_run : (t : Tree) (fs : Fields) (d at k : ℕ) → k < size t + length (listings fs)
      → (k < size t → InRow numbers (at + k) (get_or (depths d t) k 0))
      → ((j : ℕ) → j < length (listings fs) → InRow numbers (at + size t + j) (get_or (run_depths d fs) j 0))
      → InRow numbers (at + k) (get_or (depths d t ++ run_depths d fs) k 0)
  in_run t fs d at k l f g =
      let n = length_depths t d in
      either (λ (i : ℕ). InRow numbers (at + i) (get_or (depths d t ++ run_depths d fs) i 0)) (size t) (length (listings fs)) k l
      (λ b. rw (get_or-append (depths d t) (run_depths d fs) 0 k (omega (arith, n, b))) (f b))
      (λ j b. rw (← add_assoc at (size t) j, ← n, get_or-append-add (depths d t) (run_depths d fs) j 0, n) (g j b))

  later_field : (path : List Tree) (up at d n : ℕ) → Under path up at d → Under path up (at + n) d
  later_field path up at d n u =
      record { definition_stands = u.definition_stands; repetition_stands = u.repetition_stands; before = omega (arith, u.before); low = u.low }

  mutual
    unfolding rows_from depths size listing how_many

    tree_levels : (t : Tree) (at up : ℕ) (q : Parent) (above : SlotBytes) (path : List Tree) (rest : List ℕ) (d : ℕ) → drop (row_width * at) numbers ≡ rows_from at up q above path t ++ rest → Under path up at d → (k : ℕ) → k < size t → InRow numbers (at + k) (get_or (depths d t) k 0)
    tree_levels (node s fs) at up q above path rest d e u zero l =
        rw add-zero (own_row at up q above path s fs _ (e ∙ append_assoc (row at up q above path s fs) _ rest) d u)
    tree_levels (node s fs) at up q above path rest d e u (suc k) l =
        let run = run_rows_from (suc at) at (parent_of q above s fs) s (node s fs ∷ path) fs in
        let own = e ∙ append_assoc (row at up q above path s fs) run rest in
        let next : at + suc k ≡ suc at + k = omega arith in
        let first : suc at ≡ at + 1 = omega arith in
        subst (λ (i : ℕ). InRow numbers i (get_or (run_depths (suc d) fs) k 0)) (sym next)
        (run_levels fs (suc at) at (parent_of q above s fs) s (node s fs ∷ path) rest (suc d)
        (ap (λ (i : ℕ). drop (row_width * i) numbers) first ∙ behind_rows at 1 (row at up q above path s fs) (run ++ rest) own (length_row at up q above path s fs))
        (own_fields at up q above path s fs _ own d (omega (arith, counted_most is_optional_or_repeated (repetition s), u.low)))
        k (omega arith))

    run_levels : (fs : Fields) (at up : ℕ) (q : Parent) (above : SlotBytes) (path : List Tree) (rest : List ℕ) (d : ℕ) → drop (row_width * at) numbers ≡ run_rows_from at up q above path fs ++ rest → Under path up at d → (k : ℕ) → k < length (listings fs) → InRow numbers (at + k) (get_or (run_depths d fs) k 0)
    run_levels empty at up q above path rest d e u k l = absurd (omega arith)
    run_levels (field t fs) at up q above path rest d e u k l =
        let first = rows_from at up q above path t in
        let later = run_rows_from (at + size t) up (after_first q) above path fs in
        let split = e ∙ append_assoc first later rest in
        in_run t fs d at k (omega (arith, length-append (listing t) (listings fs)))
        (λ h. tree_levels t at up q above path (later ++ rest) d split u k h)
        (λ j h. run_levels fs (at + size t) up (after_first q) above path rest d (behind_rows at (size t) first (later ++ rest) split (length_rows_from t at up q above path)) (later_field path up at d (size t) u) j h)

-- the rows of a whole tree ---------------------------------------------------------------------------------------------------

-- the root has no repetition
root_none : (s : SlotBytes) (fs : Fields) → rule8 Root s fs ≡ true → repetition s ≡ repetition.NONE
unfolding rule8 shape numbers_of
root_none s fs e =
    let n = numbers_of s in
    let place = root_shape n.physical n.repetition n.converted n.logical in
    let long = length_shape n.physical n.type_length in
    let group = is_group n.physical in
    let bare = eqb n.repetition repetition.NONE in
    let old = eqb n.converted converted.NONE in
    let new = eqb n.logical logical.NONE in
    let kept = (and_both place long (and_both (place && long) (decimal_shape n.converted n.logical n.scale n.precision) e).0).0 in
    eqb-true n.repetition repetition.NONE
    (and_both group bare (and_both (group && bare) old (and_both (group && bare && old) new kept).0).0).1

-- and so counts in neither level
root_definition : (s : SlotBytes) (fs : Fields) → repetition s ≡ repetition.NONE → how_many is_optional_or_repeated (node s fs ∷ []) ≡ 0
unfolding how_many
root_definition s fs e = rw e

root_repetition : (s : SlotBytes) (fs : Fields) → repetition s ≡ repetition.NONE → how_many is_repeated_code (node s fs ∷ []) ≡ 0
unfolding how_many
root_repetition s fs e = rw e

-- numbers that begin with the rows of a tree
module _ (edition : ℕ) (numbers rest : List ℕ) where
  root_row : (s : SlotBytes) (fs : Fields) → numbers ≡ rows (node s fs) ++ rest → drop (row_width * 0) numbers ≡ row 0 0 Parent.Other [] [] s fs ++ (run_rows_from 1 0 (parent_of Parent.Other [] s fs) s (node s fs ∷ []) fs ++ rest)
  unfolding rows rows_from
  root_row s fs e = e ∙ append_assoc (row 0 0 Parent.Other [] [] s fs) _ rest

  pub root_levels : (t : Tree) → numbers ≡ rows t ++ rest → Keeps edition Root t → (number_in numbers 0 9 ≡ 0) × (number_in numbers 0 10 ≡ 0)
  unfolding Keeps
  root_levels (node s fs) e h =
      let none = root_none s fs h.0.shape in
      (own_definition numbers 0 0 Parent.Other [] [] s fs _ (root_row s fs e) ∙ root_definition s fs none, own_repetitions numbers 0 0 Parent.Other [] [] s fs _ (root_row s fs e) ∙ root_repetition s fs none)

  levels_by_depth : (t : Tree) → numbers ≡ rows t ++ rest → Keeps edition Root t → (k : ℕ) → suc k < size t → InRow numbers (suc k) (get_or (depths 0 t) (suc k) 0)
  unfolding Keeps depths size listing
  levels_by_depth (node s fs) e h k l =
      let own = root_row s fs e in
      let none = root_none s fs h.0.shape in
      let next : 1 + k ≡ suc k = omega arith in
      rw next at
      (run_levels numbers fs 1 0 (parent_of Parent.Other [] s fs) s (node s fs ∷ []) rest 1
      (behind_rows numbers 0 1 (row 0 0 Parent.Other [] [] s fs) _ own (length_row 0 0 Parent.Other [] [] s fs))
      (own_fields numbers 0 0 Parent.Other [] [] s fs _ own 0 (omega (arith, root_definition s fs none)))
      k (omega arith))

  -- of every node but the root
  pub field_levels : (t : Tree) → numbers ≡ rows t ++ rest → Keeps edition Root t → (n : ℕ) → AtMostDeep n t → (k : ℕ) → 0 < k → k < size t → InRow numbers k n
  unfolding AtMostDeep
  field_levels t e h n deep zero p l = absurd (omega arith)
  field_levels t e h n deep (suc k) p l =
      let r = levels_by_depth t e h k l in
      record { earlier = r.earlier; definition_is = r.definition_is; repetition_is = r.repetition_is; ordered = r.ordered; most = omega (arith, r.most, deep (suc k)) }
