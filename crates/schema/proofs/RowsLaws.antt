-- The rows of a tree and its run.
use Prim.Native.Nat.{ℕ, suc, ◌+◌, ◌*◌}
use mathlib.Core.Path.{◌≡◌, refl, ap₂, ◌∙◌}
use mathlib.Core.List.{List, ◌∷◌}
use native.Mathlib.Omega.{arith}
use lib.ListN.{length, length-append}
use Rattle.tree.specs.Tree.{SlotBytes, Tree, Fields, node, empty, field, listing, listings, size}
use Rattle.schema.specs.Rows.{row, rows_from, run_rows_from, parent_of, row_width}
use Rattle.schema.specs.declared.roles.Parent.{Parent}

pub length_row : (at up : ℕ) (p : Parent) (above : SlotBytes) (path : List Tree) (s : SlotBytes) (fs : Fields) → length (row at up p above path s fs) ≡ row_width
unfolding row
length_row at up p above path s fs = refl

mutual
  unfolding rows_from size listing

  pub length_rows_from : (t : Tree) (at up : ℕ) (p : Parent) (above : SlotBytes) (path : List Tree) → length (rows_from at up p above path t) ≡ row_width * size t
  length_rows_from (node s fs) at up p above path =
      length-append (row at up p above path s fs) _
      ∙ (let a = length_row at up p above path s fs in let b = length_run_rows_from fs (suc at) at (parent_of p above s fs) s (node s fs ∷ path) in omega arith)

  pub length_run_rows_from : (fs : Fields) (at up : ℕ) (p : Parent) (above : SlotBytes) (path : List Tree) → length (run_rows_from at up p above path fs) ≡ row_width * length (listings fs)
  length_run_rows_from empty at up p above path = refl
  length_run_rows_from (field t fs) at up p above path =
      length-append (rows_from at up p above path t) _
      ∙ ap₂ ◌+◌ (length_rows_from t at up p above path) (length_run_rows_from fs _ _ _ _ _)
      ∙ (let e = length-append (listing t) (listings fs) in omega arith)
