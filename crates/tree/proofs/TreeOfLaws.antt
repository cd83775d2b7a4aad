-- The tree of a list of slots: it lists them and claims rightly exactly where neither 5 nor 6 refuses them.
use Prim.Native.Nat.{ℕ, ◌<◌}
use mathlib.Core.Path.{◌≡◌, refl, sym, ap, ◌∙◌, subst}
use mathlib.Core.Logic.{◌⊎◌, inl, inr}
use Rattle.refusal.specs.Outcome.{refusal}
use Rattle.std.specs.Prelude.{Ok, Err}
use mathlib.Core.List.{List, append-nil}
use native.Mathlib.Omega.{arith}
use lib.ListN.{length}
use Rattle.tree.specs.Tree.{SlotBytes, Tree, Fields, empty, field, listing, listings, count, Claims, ClaimsAll}
use Rattle.tree.specs.Reading.{trees, first_tree, tree_of}
use Rattle.tree.specs.Judgement.{or_else, left_over, missing, too_deep, unlawful, tree_refusal}
use Rattle.tree.proofs.TreeLaws.{listings_trees, trees_of_listing}
use Rattle.tree.proofs.OpenPlacesLaws.{Fills, Lacks, Full, one_of_three, fills_trees, tree_fills, full_below}
use Rattle.tree.proofs.PlacesLaws.{fills_left_over, fills_missing, lacks_left_over, lacks_missing, full_left_over}
use Rattle.tree.proofs.FaultLaws.{refused_not_lawful}

-- a tree that claims rightly and lists the slots is the one that they stand for
pub tree_of_listing : (t : Tree) (ss : List SlotBytes) → Claims t → listing t ≡ ss → tree_of ss ≡ t
unfolding tree_of first_tree
tree_of_listing t ss c e = rw (← e, trees_of_listing t c)

one_of : (fs : Fields) → count fs ≡ 1 → fs ≡ field (first_tree fs) empty
unfolding count first_tree
one_of empty e = absurd (omega arith)
one_of (field t empty) e = refl
one_of (field t (field u fs)) e = absurd (omega arith)

-- slots that fill the one open place are listed by their tree, which claims rightly
pub fills_listing : (ss : List SlotBytes) → Fills 1 ss → listing (tree_of ss) ≡ ss
unfolding tree_of listing
fills_listing ss f =
    sym (append-nil (listing (first_tree (trees ss)))) ∙ sym (ap listings (one_of (trees ss) (fills_trees f).0)) ∙ listings_trees ss

pub fills_claims : (ss : List SlotBytes) → Fills 1 ss → Claims (tree_of ss)
unfolding tree_of Claims
fills_claims ss f = (subst ClaimsAll (one_of (trees ss) (fills_trees f).0) (fills_trees f).1).0

-- slots that no refusal of 5 or 6 meets fill the one open place
pub accepted_fills : (ss : List SlotBytes) → left_over ss ≡ Ok tt → missing ss ≡ Ok tt → Fills 1 ss
accepted_fills ss p q = on (one_of_three 1 ss)
  where
    on : Fills 1 ss ⊎ (Lacks 1 ss ⊎ ((k : ℕ) × Full 1 ss k)) → Fills 1 ss
    on (inl f) = f
    on (inr (inl l)) = absurd (refused_not_lawful _ (sym (lacks_missing ss l) ∙ q))
    on (inr (inr o)) = absurd (refused_not_lawful _ (sym (full_left_over ss o.0 o.1) ∙ p))

-- of refusal 6, refusal 5 and a tree that claims rightly and lists the slots, one holds
pub six_five_or_tree : (ss : List SlotBytes) → ((k : ℕ) × (k < length ss) × (left_over ss ≡ Err (refusal 6 k))) ⊎ (((left_over ss ≡ Ok tt) × (missing ss ≡ Err (refusal 5 (length ss)))) ⊎ ((t : Tree) × Claims t × (listing t ≡ ss)))
six_five_or_tree ss = on (one_of_three 1 ss)
  where
    on : Fills 1 ss ⊎ (Lacks 1 ss ⊎ ((k : ℕ) × Full 1 ss k)) → ((k : ℕ) × (k < length ss) × (left_over ss ≡ Err (refusal 6 k))) ⊎ (((left_over ss ≡ Ok tt) × (missing ss ≡ Err (refusal 5 (length ss)))) ⊎ ((t : Tree) × Claims t × (listing t ≡ ss)))
    on (inl f) = inr (inr (tree_of ss, fills_claims ss f, fills_listing ss f))
    on (inr (inl l)) = inr (inl (lacks_left_over ss l, lacks_missing ss l))
    on (inr (inr o)) = inl (o.0, full_below o.1, full_left_over ss o.0 o.1)

-- and where the tree does, neither refusal does
pub tree_neither : (ss : List SlotBytes) (t : Tree) → Claims t → listing t ≡ ss → (left_over ss ≡ Ok tt) × (missing ss ≡ Ok tt)
tree_neither ss t c e =
    let f : Fills 1 ss = subst (Fills 1) e (tree_fills t c) in
    (fills_left_over ss f, fills_missing ss f)

-- refusals 7 to 13, with their places, are those of the one tree that claims rightly and lists the slots
pub tree_refusal_tree : (edition : ℕ) (ss : List SlotBytes) (t : Tree) → Claims t → listing t ≡ ss → tree_refusal edition ss ≡ or_else (too_deep t) (unlawful edition t)
unfolding tree_refusal or_else
tree_refusal_tree edition ss t c e =
    let none = tree_neither ss t c e in
    rw (none.0, none.1, tree_of_listing t ss c e)
