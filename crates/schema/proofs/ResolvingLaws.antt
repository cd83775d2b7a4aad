-- A sheet resolved, by what judging answers.
use Prim.Native.Nat.{ℕ, ◌*◌, ◌≤◌, ◌<◌}
use mathlib.Core.Path.{◌≡◌, refl, sym, ap, ◌∙◌}
use mathlib.Core.List.{List, [], ◌++◌, append-nil}
use native.Mathlib.Omega.{arith}
use native.Mathlib.Nat.{zero-add}
use borrow.Author.Tests.{lt-ltb, le-ltb}
use lib.ListN.{length, drop}
use Rattle.refusal.specs.Outcome.{short_output}
use Rattle.sheet.specs.Block.{total_of}
use Rattle.sheet.specs.Slot.{slots, slot_at}
use Rattle.tree.specs.Tree.{SlotBytes, Tree, node}
use Rattle.schema.specs.Rows.{rows_from, run_rows_from, row, parent_of, role, rows, row_width}
use Rattle.tree.specs.Reading.{tree_of}
use Rattle.tree.specs.Judgement.{judgement_of}
use Rattle.schema.specs.Outcome.{answer, outcome, written}
use Rattle.tree.specs.Steps.{tree_at, run_at}
use Rattle.laws.specs.Stretches.{stretched}
use Rattle.schema.specs.declared.roles.Parent.{Parent}
use Rattle.refusal.specs.declared.answers.Refusal.{Refusal}
use Rattle.std.specs.Prelude.{Ok, Err}
use Rattle.tree.proofs.JudgementLaws.{judged_refused, judged_lawful, judged_total, judged_some, judged_claimed, tree_size}
use Rattle.tree.proofs.VisitLaws.{root_alone}
use Rattle.tree.proofs.StandingLaws.{tree_at_zero}
use Rattle.schema.proofs.RowsLaws.{length_rows_from}

-- what stands above the root does not matter
other_above : (t : Tree) (a b : SlotBytes) → rows_from 0 0 Parent.Other a [] t ≡ rows_from 0 0 Parent.Other b [] t
unfolding rows_from row parent_of role
other_above (node s fs) a b = refl

module _ (edition : ℕ) (b : List ℕ) where
  pub resolve_refused : (r : Refusal) (lent : List ℕ) → judgement_of edition b ≡ Err r → outcome edition b (length lent) ≡ Err r
  unfolding outcome answer
  resolve_refused r lent e = rw (judged_refused edition b r e)

  pub written_refused : (r : Refusal) (lent : List ℕ) → outcome edition b (length lent) ≡ Err r → lent ≡ written (outcome edition b (length lent)) b lent
  unfolding written
  written_refused r lent e = rw e

  module _ (n : ℕ) (e : judgement_of edition b ≡ Ok n) where
    pub resolve_short : (lent : List ℕ) → length lent < row_width * n → outcome edition b (length lent) ≡ Err short_output
    unfolding outcome answer
    resolve_short lent h = rw ((judged_lawful edition b n e).0, lt-ltb (length lent) (row_width * total_of b) (omega (arith, judged_total edition b n e)))

    pub resolve_rows : (lent : List ℕ) → row_width * n ≤ length lent → outcome edition b (length lent) ≡ Ok n
    unfolding outcome answer
    resolve_rows lent h = rw ((judged_lawful edition b n e).0, le-ltb (length lent) (row_width * total_of b) (omega (arith, judged_total edition b n e))) (ap Ok (sym (judged_total edition b n e)))

    -- the run of the one tree
    root_rows : run_rows_from 0 0 Parent.Other (slot_at b 0) [] (run_at (slots b) 0 1) ≡ rows_from 0 0 Parent.Other (slot_at b 0) [] (tree_at (slots b) 0)
    unfolding run_rows_from
    root_rows = rw (root_alone b (judged_claimed edition b n e) (judged_some edition b n e)) (append-nil (rows_from 0 0 Parent.Other (slot_at b 0) [] (tree_at (slots b) 0)))

    pub written_rows : (lent r : List ℕ) → row_width * n ≤ length lent → r ≡ stretched lent (row_width * 0) (run_rows_from 0 0 Parent.Other (slot_at b 0) [] (run_at (slots b) 0 1)) → r ≡ written (outcome edition b (length lent)) b lent
    unfolding written stretched rows
    written_rows lent r h q =
        q
        ∙ ap (stretched lent (row_width * 0)) root_rows
        ∙ ap (λ (t : Tree). stretched lent (row_width * 0) (rows_from 0 0 Parent.Other (slot_at b 0) [] t)) (tree_at_zero (slots b))
        ∙ ap (stretched lent (row_width * 0)) (other_above (tree_of (slots b)) (slot_at b 0) [])
        ∙ ap (λ (k : ℕ). rows (tree_of (slots b)) ++ drop k lent) (zero-add _ ∙ length_rows_from (tree_of (slots b)) 0 0 Parent.Other [] [] ∙ ap (λ (k : ℕ). row_width * k) (tree_size edition b n e))
        ∙ sym (rw (resolve_rows lent h))
