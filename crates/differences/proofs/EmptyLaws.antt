-- "The list is empty exactly when both sheets have the same paths in the same order with equal slots", and so exactly when they have the same bytes.
use Prim.Native.Nat.{ℕ}
use mathlib.Core.Path.{◌≡◌, sym, ap, ◌∙◌}
use mathlib.Core.List.{List, []}
use mathlib.Core.Logic.{◌↔◌}
use Rattle.laws.specs.Bytes.{Bytes}
use Rattle.std.specs.Prelude.{Ok}
use Rattle.sheet.specs.Slot.{slots}
use Rattle.tree.specs.Tree.{SlotBytes, Tree, listing}
use Rattle.tree.specs.Reading.{tree_of}
use Rattle.tree.specs.Judgement.{judgement}
use Rattle.differences.specs.Entry.{Entry, list_bytes}
use Rattle.differences.specs.Differences.{differences}
use Rattle.differences.specs.Paths.{paths}
use Rattle.differences.specs.Rebuilding.{slots_from, rebuilt}
use Rattle.differences.proofs.SelfLaws.{differences_self}
use Rattle.differences.proofs.RebuildingLaws.{Listed, slots_from_differences, tree_lists, tree_listed, rebuilt_second}

-- trees that have no differences have the same listing: what is rebuilt from no entries is one's and the other's
same_listing : (t u : Tree) → Listed t → Listed u → differences t u ≡ [] → listing t ≡ listing u
same_listing t u first second e =
    sym (slots_from_differences t t first first)
    ∙ ap (λ (es : List Entry). slots_from es t) (differences_self t ∙ sym e)
    ∙ slots_from_differences t u first second

module _ (edition : ℕ) (first second : List ℕ) (one : judgement edition first ≡ Ok tt) (two : judgement edition second ≡ Ok tt) where
  abbrev t : Tree
  t = tree_of (slots first)

  abbrev u : Tree
  u = tree_of (slots second)

  same_slots : differences t u ≡ [] → slots first ≡ slots second
  same_slots e =
      sym (tree_lists edition first one)
      ∙ same_listing t u (tree_listed edition first one) (tree_listed edition second two) e
      ∙ tree_lists edition second two

  -- the same slots make the same tree
  pub empty_exactly : (differences t u ≡ []) ↔ ((paths t ≡ paths u) × (slots first ≡ slots second))
  empty_exactly = (
    (λ e. (ap (λ (ss : List SlotBytes). paths (tree_of ss)) (same_slots e), same_slots e)),
    λ h. ap (λ (ss : List SlotBytes). differences t (tree_of ss)) (sym h.1) ∙ differences_self t,
  )

  module _ (first-bytes : Bytes first) (second-bytes : Bytes second) where
    -- what is rebuilt from no entries is the one sheet and the other
    same_bytes_lem : differences t u ≡ [] → first ≡ second
    same_bytes_lem e =
        sym (rebuilt_second edition first first first-bytes one one)
        ∙ ap (λ (es : List Entry). rebuilt (list_bytes es) first) (differences_self t ∙ sym e)
        ∙ rebuilt_second edition first second second-bytes one two

    pub empty_same : (differences t u ≡ []) ↔ (first ≡ second)
    empty_same = (same_bytes_lem, λ h. ap (λ (sheet : List ℕ). differences t (tree_of (slots sheet))) (sym h) ∙ differences_self t)
