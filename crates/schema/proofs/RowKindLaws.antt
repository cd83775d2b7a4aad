-- The kind in a node's row is the kind that the rules take the node for.
use Prim.Native.Nat.{ℕ, zero, suc, ◌+◌, ◌*◌}
use mathlib.Core.Path.{◌≡◌, refl, sym, ap, ap₂, ◌∙◌}
use mathlib.Core.Bool.{Bool}
use mathlib.Core.List.{List, [], ◌∷◌, ◌++◌, append-nil, append_assoc}
use native.Mathlib.Nat.{zero-add, suc-add}
use native.Mathlib.Omega.{arith}
use lib.ListN.{length, get_or, drop, length-append}
use lib.Seq.{drop_at, drop-drop}
use Rattle.annotation.specs.declared.resolution.Kind.{Kind}
use Rattle.tree.specs.Annotated.{kind}
use Rattle.tree.specs.Tree.{SlotBytes, Tree, Fields, node, empty, field, listing, listings, size}
use Rattle.tree.specs.Rules.{under_map_of, standing_below, judged_kinds, run_kinds}
use Rattle.tree.specs.declared.standing.Standing.{Standing}
use Rattle.tree.specs.declared.standing.Standing.TheVariants.{Root}
use Rattle.schema.specs.Rows.{is_map_parent, row, parent_of, after_first, rows_from, run_rows_from, rows, row_width, kinds_in}
use Rattle.schema.specs.declared.roles.Parent.{Parent}
use Rattle.schema.specs.declared.roles.Parent.TheVariants as parent
use Rattle.schema.proofs.RewrittenRowsLaws.{map_after, map_below}
use Rattle.schema.proofs.RowsLaws.{length_rows_from}

-- the kinds in m rows and in n more
kinds_in_more : (m n : ℕ) (zs : List ℕ) → kinds_in zs (m + n) ≡ kinds_in zs m ++ kinds_in (drop (row_width * m) zs) n
unfolding kinds_in
kinds_in_more zero n zs = ap (kinds_in zs) (zero-add n)
kinds_in_more (suc m) n zs =
    let first : Kind = record { kind = get_or zs 3 0; p1 = get_or zs 4 0; p2 = get_or zs 5 0 } in
    let rest : row_width + row_width * m ≡ row_width * suc m = omega arith in
    ap (kinds_in zs) (suc-add m n)
    ∙ ap (λ (ks : List Kind). first ∷ ks) (kinds_in_more m n (drop row_width zs))
    ∙ ap (λ (l : List ℕ). first ∷ (kinds_in (drop row_width zs) m ++ kinds_in l n)) (drop-drop (row_width * m) row_width zs ∙ ap (λ (k : ℕ). drop k zs) rest)

mutual
  unfolding rows_from row size listing judged_kinds kinds_in

  tree_kinds : (t : Tree) (p : Standing) (q : Parent) (at up : ℕ) (above : SlotBytes) (path : List Tree) (rest : List ℕ) → under_map_of p ≡ is_map_parent q → kinds_in (rows_from at up q above path t ++ rest) (size t) ≡ judged_kinds p t
  tree_kinds (node s fs) p q at up above path rest e =
      ap₂ ◌∷◌ (ap (λ (b : Bool). kind b s) (sym e)) (run_kinds_lem fs (standing_below p s) (parent_of q above s fs) (suc at) at s (node s fs ∷ path) rest (map_below p q above s fs e))

  run_kinds_lem : (fs : Fields) (p : Standing) (q : Parent) (at up : ℕ) (above : SlotBytes) (path : List Tree) (rest : List ℕ) → under_map_of p ≡ is_map_parent q → kinds_in (run_rows_from at up q above path fs ++ rest) (length (listings fs)) ≡ run_kinds p fs
  run_kinds_lem empty p q at up above path rest e = refl
  run_kinds_lem (field t fs) p q at up above path rest e =
      let first = rows_from at up q above path t in
      let later = run_rows_from (at + size t) up (after_first q) above path fs ++ rest in
      ap₂ kinds_in (append_assoc first (run_rows_from (at + size t) up (after_first q) above path fs) rest) (length-append (listing t) (listings fs))
      ∙ kinds_in_more (size t) (length (listings fs)) (first ++ later)
      ∙ ap₂ ◌++◌ (tree_kinds t p q at up above path later e)
      (ap (λ (l : List ℕ). kinds_in l (length (listings fs))) (drop_at first later (row_width * size t) (length_rows_from t at up q above path))
      ∙ run_kinds_lem fs p (after_first q) (at + size t) up above path rest (e ∙ sym (map_after q)))

-- the kinds in a tree's rows are those that the rules take its nodes for
pub rows_kinds : (t : Tree) → kinds_in (rows t) (size t) ≡ judged_kinds Root t
unfolding rows
rows_kinds t = ap (λ (l : List ℕ). kinds_in l (size t)) (sym (append-nil (rows t))) ∙ tree_kinds t Root parent.Other 0 0 [] [] [] refl
