-- The role in each row of a tree that keeps the rules is given exactly where its sentence holds.
use Prim.Native.Nat.{ℕ, ◌*◌, ◌<◌}
use mathlib.Core.Path.{◌≡◌, sym, ap, ◌∙◌, subst}
use mathlib.Core.List.{List, [], ◌++◌, append-nil}
use mathlib.Core.Logic.{◌↔◌}
use lib.ListN.{get_or, drop}
use Rattle.tree.specs.Tree.{Tree, listing, size}
use Rattle.tree.specs.Rules.{Keeps}
use Rattle.tree.specs.declared.standing.Standing.TheVariants.{Root}
use Rattle.schema.specs.Rows.{role, row, rows, row_width, number_in}
use Rattle.schema.specs.Roles.{ascent}
use Rattle.schema.proofs.RewrittenTreeLaws.{rewritten_tree}
use Rattle.schema.proofs.AscentLaws.{Is, role_exactly}
use Rattle.schema.proofs.NodeRowLaws.{NodeRow, node_row}

module _ (edition : ℕ) (t : Tree) (keeps : Keeps edition Root t) (k : ℕ) (below : k < size t) where
  -- the row of node k
  own_row : NodeRow edition (get_or (listing t) k []) (get_or (listing (rewritten_tree Root t)) k []) (ascent t k) (drop (row_width * k) (rows t ++ []))
  own_row = node_row edition t keeps [] k below

  role_in : number_in (rows t) k 8 ≡ role own_row.«parent» own_row.above (get_or (listing t) k []) own_row.fields
  unfolding number_in row
  role_in =
      ap (λ (l : List ℕ). get_or (drop (row_width * k) l) 8 0) (sym (append-nil (rows t)))
      ∙ ap (λ (l : List ℕ). get_or l 8 0) own_row.begins

  pub roles_exactly : (m : ℕ) → (number_in (rows t) k 8 ≡ m) ↔ Is m (ascent t k)
  roles_exactly m =
      let r = own_row in
      let exact = role_exactly r.«parent» r.own r.above r.ups r.under (get_or (listing t) k []) r.fields m in (
        λ e. subst (Is m) (sym r.stands) (exact.0 (sym role_in ∙ e)),
        λ h. role_in ∙ exact.1 (subst (Is m) r.stands h),
      )
