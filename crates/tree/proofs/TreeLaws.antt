-- Reading trees off a list of slots and listing them again: a tree that claims rightly is the one that its listing stands for.
use Prim.Native.Nat.{ℕ, zero, suc, ◌-◌, ◌≤◌}
use mathlib.Core.Path.{◌≡◌, refl, sym, ap, ◌∙◌}
use mathlib.Core.List.{List, [], ◌∷◌, ◌++◌, append_assoc, append-nil}
use native.Mathlib.Omega.{arith}
use Rattle.sheet.specs.Slot.{child_count}
use Rattle.tree.specs.Tree.{SlotBytes, Tree, Fields, node, empty, field, listing, listings, count, Claims, ClaimsAll}
use Rattle.tree.specs.Reading.{take_fields, drop_fields, trees, first_tree}

-- one run after another
pub joined : Fields → Fields → Fields
joined empty gs = gs
joined (field t fs) gs = field t (joined fs gs)

take_joined : (fs gs : Fields) → take_fields (count fs) (joined fs gs) ≡ fs
unfolding joined take_fields count
take_joined empty gs = refl
take_joined (field t fs) gs = ap (field t) (take_joined fs gs)

drop_joined : (fs gs : Fields) → drop_fields (count fs) (joined fs gs) ≡ gs
unfolding joined drop_fields count
drop_joined empty gs = refl
drop_joined (field t fs) gs = drop_joined fs gs

joined_empty : (fs : Fields) → joined fs empty ≡ fs
unfolding joined
joined_empty empty = refl
joined_empty (field t fs) = ap (field t) (joined_empty fs)

pub listings_take_drop : (n : ℕ) (fs : Fields) → listings (take_fields n fs) ++ listings (drop_fields n fs) ≡ listings fs
unfolding take_fields drop_fields listings
listings_take_drop zero fs = refl
listings_take_drop (suc n) empty = refl
listings_take_drop (suc n) (field t fs) = rw (append_assoc, listings_take_drop n fs)

-- the trees of a list of slots list it
pub listings_trees : (ss : List SlotBytes) → listings (trees ss) ≡ ss
unfolding trees listings
listings_trees [] = refl
listings_trees (s ∷ ss) = ap (λ (l : List SlotBytes). s ∷ l) (listings_take_drop (child_count s) (trees ss) ∙ listings_trees ss)

mutual
  unfolding trees listing Claims joined

  -- a tree that claims rightly is the first of the trees that its listing and what follows stand for
  pub trees_listing : (t : Tree) (ss : List SlotBytes) → Claims t → trees (listing t ++ ss) ≡ field t (trees ss)
  trees_listing (node s fs) ss c = rw (trees_listings fs ss c.1, c.0, take_joined, drop_joined)

  pub trees_listings : (fs : Fields) (ss : List SlotBytes) → ClaimsAll fs → trees (listings fs ++ ss) ≡ joined fs (trees ss)
  trees_listings empty ss c = refl
  trees_listings (field t fs) ss c =
      rw append_assoc (trees_listing t (listings fs ++ ss) c.0 ∙ ap (field t) (trees_listings fs ss c.1))

-- a run that claims rightly is the trees of its listing
pub trees_of_listings : (fs : Fields) → ClaimsAll fs → trees (listings fs) ≡ fs
unfolding trees
trees_of_listings fs c = ap trees (sym (append-nil (listings fs))) ∙ trees_listings fs [] c ∙ joined_empty fs

pub trees_of_listing : (t : Tree) → Claims t → trees (listing t) ≡ field t empty
unfolding trees
trees_of_listing t c = ap trees (sym (append-nil (listing t))) ∙ trees_listing t [] c

-- two trees that claim rightly and have the same listing are equal
pub listing_injective : (t u : Tree) → Claims t → Claims u → listing t ≡ listing u → t ≡ u
unfolding first_tree
listing_injective t u c d e =
    ap first_tree (sym (trees_of_listing t c) ∙ ap trees e ∙ trees_of_listing u d)

pub count_take : (n : ℕ) (fs : Fields) → n ≤ count fs → count (take_fields n fs) ≡ n
unfolding take_fields count
count_take zero fs h = refl
count_take (suc n) empty h = omega arith
count_take (suc n) (field t fs) h = ap suc (count_take n fs (omega arith))

pub count_drop : (n : ℕ) (fs : Fields) → count (drop_fields n fs) ≡ count fs - n
unfolding drop_fields count
count_drop zero fs = omega arith
count_drop (suc n) empty = omega arith
count_drop (suc n) (field t fs) = count_drop n fs ∙ omega arith

pub claims_take : (n : ℕ) (fs : Fields) → ClaimsAll fs → ClaimsAll (take_fields n fs)
unfolding take_fields ClaimsAll
claims_take zero fs c = tt
claims_take (suc n) empty c = tt
claims_take (suc n) (field t fs) c = (c.0, claims_take n fs c.1)

pub claims_drop : (n : ℕ) (fs : Fields) → ClaimsAll fs → ClaimsAll (drop_fields n fs)
unfolding drop_fields ClaimsAll
claims_drop zero fs c = c
claims_drop (suc n) empty c = tt
claims_drop (suc n) (field t fs) c = claims_drop n fs c.1
