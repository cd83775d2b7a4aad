-- The fields of a node from one on, as they are walked over by the ends of their trees.
use mathlib.Core.Path.{◌≡◌, refl, sym, ap, ap₂, ◌∙◌}
use mathlib.Core.Bool.{Bool, true, false, not, ◌&&◌}
use mathlib.Core.List.{List, [], ◌∷◌}
use mathlib.Core.Option.{none, some}
use Prim.Native.Nat.{ℕ, ◌+◌, ◌-◌, ◌≤◌, ◌<◌}
use native.Mathlib.Numerals.{add-one}
use native.Mathlib.Omega.{arith}
use lib.Dec.{eqb}
use lib.ListN.{length, get_or}
use borrow.Author.Tests.{eq-eqb, ne_eqb}
use Rattle.sheet.specs.Block.{total_of, most_nodes}
use Rattle.sheet.specs.Slot.{slots, slot_at, name}
use Rattle.sheet.specs.Name.{same_bytes}
use Rattle.sheet.proofs.NameLaws.{same_bytes_false}
use Rattle.tree.specs.Tree.{size}
use Rattle.tree.specs.Steps.{Claimed, tree_at, run_at}
use Rattle.tree.proofs.StandingLaws.{run_at_zero}
use Rattle.tree.proofs.VisitLaws.{tree_at_slot, run_below, run_split, next_claimed, tree_within}
use Rattle.matching.specs.Matching.{Sibling, siblings, name_of}
use Rattle.matching.specs.Steps.{Ends, print_of, Stands, fields_from, is_taken, untaken, first_free}
use Rattle.matching.specs.declared.candidates.Candidate.{Candidate}

-- a field with its number and place
abbrev pub at : ℕ → ℕ → Candidate
at number place = record { number = number; place = place }

-- it as a sibling
abbrev pub sibling_at : List ℕ → ℕ → ℕ → Sibling
sibling_at b number place = record { number = number; place = place; tree = tree_at (slots b) number }

-- the name of a tree is that of its root's slot
pub name_of_at : (b : List ℕ) (k : ℕ) → Claimed b → k < total_of b → name_of (tree_at (slots b) k) ≡ name (slot_at b k)
name_of_at b k h l = ap name_of (tree_at_slot b k h l)

module _ (b : List ℕ) (number place n : ℕ) (s : Stands b (at number place) n) (l : place < n) where
  left : n - place ≡ 0 → ⊥
  left e = omega arith

  -- it is one of the sheet's nodes
  pub below : number < total_of b
  below = run_below b number (n - place) s.claimed left s.fields

  pub below_most : number < most_nodes
  below_most = omega (arith, below, s.claimed.most)

  pub read_at : (numbers : List ℕ) → length numbers ≡ most_nodes → number < length numbers
  read_at numbers long = omega (arith, below_most)

  -- where the tree of each node ends is known
  module _ (ends : List ℕ) (known : Ends b ends) where
    pub end_read : number < length ends
    end_read = read_at ends known.long

    pub end_is : get_or ends number 0 ≡ number + size (tree_at (slots b) number)
    end_is = known.end_at number (omega arith) below

    pub end_below : get_or ends number 0 ≤ most_nodes
    end_below = omega (arith, end_is, tree_within b number s.claimed below, s.claimed.most)

  module _ (next : ℕ) (e : next ≡ number + size (tree_at (slots b) number)) where
    one_less : n - place - 1 ≡ n - (place + 1)
    one_less = omega arith

    -- the next one stands behind it
    pub stands_next : Stands b (at next (place + 1)) n
    stands_next = record {
      claimed = s.claimed;
      most = omega arith;
      fields = rw one_less at (next_claimed b number (n - place) s.claimed left s.fields next e);
    }

    pub fields_from_next : fields_from b (at number place) n ≡ sibling_at b number place ∷ fields_from b (at next (place + 1)) n
    unfolding fields_from siblings
    fields_from_next =
        ap (siblings number place) (run_split b number (n - place) s.claimed left s.fields next e)
        ∙ ap (λ (cs : List Sibling). sibling_at b number place ∷ cs)
        (ap₂ (λ (k p : ℕ). siblings k p (run_at (slots b) next (n - place - 1))) (sym e) (sym (add-one place))
        ∙ ap (λ (m : ℕ). siblings next (place + 1) (run_at (slots b) next m)) one_less)

-- behind the last there is none
pub fields_from_end : (b : List ℕ) (number place n : ℕ) → n ≤ place → fields_from b (at number place) n ≡ []
unfolding fields_from siblings
fields_from_end b number place n h =
    let e : n - place ≡ 0 = omega arith in
    rw (e, run_at_zero)

-- fields from one on that are passed over, to where what is asked of them is asked of those that are left
pub record Passed {A : Type 0} (f : List Sibling → A) (b : List ℕ) (from : Candidate) (n number place : ℕ) : Type 0 where
  pub stands : Stands b (at number place) n
  pub same : f (fields_from b from n) ≡ f (fields_from b (at number place) n)

module _ {A : Type 0} (f : List Sibling → A) (b : List ℕ) (from : Candidate) (n : ℕ) where
  pub passed_start : Stands b from n → Passed f b from n from.number from.place
  passed_start s = record { stands = s; same = refl }

  module _ (number place : ℕ) (p : Passed f b from n number place) where
    module _ (l : place < n) (ends : List ℕ) (known : Ends b ends) where
      next_is : get_or ends number 0 ≡ number + size (tree_at (slots b) number)
      next_is = end_is b number place n p.stands l ends known

      -- the one that is next
      pub passed_here : f (fields_from b from n) ≡ f (sibling_at b number place ∷ fields_from b (at (get_or ends number 0) (place + 1)) n)
      passed_here = p.same ∙ ap f (fields_from_next b number place n p.stands l (get_or ends number 0) next_is)

      -- and it passed over
      pub passed_next : ((cs : List Sibling) → f (sibling_at b number place ∷ cs) ≡ f cs) → Passed f b from n (get_or ends number 0) (place + 1)
      passed_next over = record {
        stands = stands_next b number place n p.stands l (get_or ends number 0) next_is;
        same = passed_here ∙ over (fields_from b (at (get_or ends number 0) (place + 1)) n);
      }

    -- none is left
    pub passed_end : n ≤ place → f (fields_from b from n) ≡ f []
    passed_end h = p.same ∙ ap f (fields_from_end b number place n h)

pub untaken_none : (takers : List ℕ) (taker : ℕ) → untaken takers taker [] ≡ []
unfolding untaken
untaken_none takers taker = refl

pub first_free_none : (takers : List ℕ) (taker : ℕ) (n : List ℕ) → first_free takers taker n [] ≡ none
unfolding first_free
first_free_none takers taker n = refl

-- a taken field is passed over
module _ (takers : List ℕ) (taker : ℕ) (c : Sibling) (cs : List Sibling) where
  pub untaken_taken : get_or takers c.number 0 ≡ taker → untaken takers taker (c ∷ cs) ≡ untaken takers taker cs
  unfolding untaken
  untaken_taken e = rw (eq-eqb _ _ e)

  pub untaken_free : (get_or takers c.number 0 ≡ taker → ⊥) → untaken takers taker (c ∷ cs) ≡ c ∷ cs
  unfolding untaken
  untaken_free n = rw (ne_eqb _ _ n)

  module _ (n : List ℕ) (free : Bool) (f : free ≡ (not (is_taken takers taker c) && same_bytes (name_of c.tree) n)) where
    pub first_free_here : free ≡ true → first_free takers taker n (c ∷ cs) ≡ some c
    unfolding first_free
    first_free_here e = rw (sym f ∙ e)

    pub first_free_later : free ≡ false → first_free takers taker n (c ∷ cs) ≡ first_free takers taker n cs
    unfolding first_free
    first_free_later e = rw (sym f ∙ e)

-- passing over the taken fields stops at one that is not
pub untaken_stop : (takers : List ℕ) (taker : ℕ) (b : List ℕ) (from : Candidate) (n number place : ℕ) → Passed (untaken takers taker) b from n number place → place < n → (ends : List ℕ) → Ends b ends → (get_or takers number 0 ≡ taker → ⊥)
    → fields_from b (at number place) n ≡ untaken takers taker (fields_from b from n)
untaken_stop takers taker b from n number place p l ends known free =
    let next = fields_from_next b number place n p.stands l (get_or ends number 0) (end_is b number place n p.stands l ends known) in
    next ∙ sym (p.same ∙ ap (untaken takers taker) next ∙ untaken_free takers taker (sibling_at b number place) (fields_from b (at (get_or ends number 0) (place + 1)) n) free)

-- passing over them all leaves none
pub untaken_all : (takers : List ℕ) (taker : ℕ) (b : List ℕ) (from : Candidate) (n number place : ℕ) → Passed (untaken takers taker) b from n number place → n ≤ place
    → Stands b (at number n) n × (fields_from b (at number n) n ≡ untaken takers taker (fields_from b from n))
untaken_all takers taker b from n number place p h = (
  record { claimed = p.stands.claimed; most = omega arith; fields = omega arith },
  fields_from_end b number n n (omega arith) ∙ sym (passed_end (untaken takers taker) b from n number place p h ∙ untaken_none takers taker),
)

-- names of unlike prints are unlike
pub prints_unlike : (a b : List ℕ) (p : ℕ) → p ≡ print_of a → (p ≡ print_of b → ⊥) → same_bytes a b ≡ false
prints_unlike a b p e n = same_bytes_false a b (λ q. n (e ∙ ap print_of q))

-- whether a node is free, by whether it is taken and whether its name is alike
pub free_taken : (t u : Bool) → t ≡ true → false ≡ (not t && u)
free_taken t u e = rw e

pub free_untaken : (t u : Bool) → t ≡ false → u ≡ (not t && u)
free_untaken t u e = rw e

-- as a sibling has it
pub free_at : (takers : List ℕ) (taker : ℕ) (n : List ℕ) (b : List ℕ) (number place : ℕ) → Claimed b → number < total_of b → (free : Bool) → free ≡ (not (eqb (get_or takers number 0) taker) && same_bytes (name (slot_at b number)) n)
    → free ≡ (not (is_taken takers taker (sibling_at b number place)) && same_bytes (name_of (sibling_at b number place).tree) n)
free_at takers taker n b number place h l free e = e ∙ ap (λ (m : List ℕ). not (eqb (get_or takers number 0) taker) && same_bytes m n) (sym (name_of_at b number h l))
