-- The heads of a node's fields: what they pass over has other names.
use mathlib.Core.Path.{◌≡◌, refl, sym, ap, ◌∙◌}
use mathlib.Core.Bool.{Bool, true, false, true≢false, not, ◌&&◌}
use mathlib.Core.List.{List, [], ◌∷◌, ◌++◌}
use Prim.Native.Nat.{ℕ, ◌+◌, ◌-◌, ◌%◌, ◌≤◌, ◌<◌}
use native.Mathlib.Decide.{ℕ_discrete}
use native.Mathlib.Omega.{arith}
use lib.Dec.{eqb}
use lib.ListN.{length, get_or, set, length-append, length-set}
use lib.Seq.{get_or-set_same, get_or-set_other}
use borrow.Author.Tests.{eq-eqb, ne_eqb, eqb-true}
use Rattle.laws.proofs.BoolLaws.{by_test}
use Rattle.sheet.specs.Block.{most_nodes}
use Rattle.sheet.specs.Slot.{slots, slot_at, name}
use Rattle.tree.specs.Tree.{size}
use Rattle.tree.specs.Steps.{tree_at, run_at}
use Rattle.tree.proofs.StandingLaws.{count_run_at}
use Rattle.matching.specs.Matching.{Sibling, name_of}
use Rattle.matching.specs.Steps.{Ends, print_of, Stands, fields_from, is_taken, first_free, head_count, from_alike, packed_head, taker_of, place_of, number_of, head_of, no_head, HeadsBelow, with_head, IsHead, Heads, Indexed, Leads}
use Rattle.matching.specs.declared.candidates.Candidate.{Candidate}
use Rattle.matching.specs.declared.heads.Head.{Head}
use Rattle.matching.proofs.NthLaws.{length_siblings}
use Rattle.matching.proofs.CandidateLaws.{at, sibling_at, name_of_at, below, below_most, end_is, stands_next, fields_from_next, fields_from_end, prints_unlike}

and-false : (b : Bool) → (b && false) ≡ false
and-false true = refl
and-false false = refl

-- the rest that a sibling's print leaves
abbrev rest_of : Sibling → ℕ
rest_of c = print_of (name_of c.tree) % head_count

alike_here : (r : ℕ) (c : Sibling) (cs : List Sibling) → rest_of c ≡ r → from_alike r (c ∷ cs) ≡ c ∷ cs
unfolding from_alike
alike_here r c cs e = rw (eq-eqb _ _ e)

alike_later : (r : ℕ) (c : Sibling) (cs : List Sibling) → (rest_of c ≡ r → ⊥) → from_alike r (c ∷ cs) ≡ from_alike r cs
unfolding from_alike
alike_later r c cs f = rw (ne_eqb _ _ f)

alike_none : (r : ℕ) → from_alike r [] ≡ []
unfolding from_alike
alike_none r = refl

-- what has another print is passed over
passed_over : (takers : List ℕ) (taker : ℕ) (n : List ℕ) (c : Sibling) (cs : List Sibling) → (rest_of c ≡ print_of n % head_count → ⊥) → first_free takers taker n (c ∷ cs) ≡ first_free takers taker n cs
unfolding first_free
passed_over takers taker n c cs f =
    rw (prints_unlike (name_of c.tree) n (print_of (name_of c.tree)) refl (λ e. f (ap (◌% head_count) e))) (rw (and-false (not (is_taken takers taker c))))

-- so what is found stays
alike_found : (takers : List ℕ) (taker : ℕ) (n : List ℕ) (cs : List Sibling) → first_free takers taker n (from_alike (print_of n % head_count) cs) ≡ first_free takers taker n cs
alike_found takers taker n [] = ap (first_free takers taker n) (alike_none (print_of n % head_count))
alike_found takers taker n (c ∷ cs) = cases (ℕ_discrete (rest_of c) (print_of n % head_count)) (alike_found takers taker n cs)
  where
    cases : Dec (rest_of c ≡ print_of n % head_count) → first_free takers taker n (from_alike (print_of n % head_count) cs) ≡ first_free takers taker n cs
        → first_free takers taker n (from_alike (print_of n % head_count) (c ∷ cs)) ≡ first_free takers taker n (c ∷ cs)
    cases (yes e) rest = ap (first_free takers taker n) (alike_here (print_of n % head_count) c cs e)
    cases (no f) rest = ap (first_free takers taker n) (alike_later (print_of n % head_count) c cs f) ∙ rest ∙ sym (passed_over takers taker n c cs f)

-- behind some that are passed over, the same are left
alike_behind : (r : ℕ) (before cs ds : List Sibling) → from_alike r (before ++ cs) ≡ ds → length ds ≤ length cs → from_alike r cs ≡ ds
alike_behind r [] cs ds e l = e
alike_behind r (c ∷ before) cs ds e l = cases (ℕ_discrete (rest_of c) r) (λ q. alike_behind r before cs ds q l)
  where
    cases : Dec (rest_of c ≡ r) → (from_alike r (before ++ cs) ≡ ds → from_alike r cs ≡ ds) → from_alike r cs ≡ ds
    cases (yes q) next = absurd (omega (arith, ap length (sym e ∙ alike_here r c (before ++ cs) q), length-append before cs, l))
    cases (no f) next = next (sym (alike_later r c (before ++ cs) f) ∙ e)

-- how many fields there are from one on
length_from : (b : List ℕ) (c : Candidate) (n : ℕ) → Stands b c n → length (fields_from b c n) ≡ n - c.place
unfolding fields_from
length_from b c n s = length_siblings c.number c.place (run_at (slots b) c.number (n - c.place)) ∙ count_run_at (slots b) c.number (n - c.place) s.fields

-- ---- writing them

-- up to a field, each head that was written is one; of other rests the fields are those from this field on
pub record HeadsTo (b : List ℕ) (start : Candidate) (n taker : ℕ) (heads : List Head) (number place : ℕ) : Type 0 where
  pub long : length heads ≡ head_count
  pub most : (r : ℕ) → taker_of (get_or heads r no_head) ≤ taker
  pub known : (r : ℕ) → r < head_count → taker_of (get_or heads r no_head) ≡ taker → IsHead b start n r (head_of (get_or heads r no_head))
  pub open_at : (r : ℕ) → r < head_count → (taker_of (get_or heads r no_head) ≡ taker → ⊥) → from_alike r (fields_from b start n) ≡ from_alike r (fields_from b (at number place) n)
  pub stands : Stands b (at number place) n

module _ (b : List ℕ) (start : Candidate) (n taker : ℕ) where
  pub heads_to_start : (heads : List Head) → HeadsBelow taker heads → Stands b start n → HeadsTo b start n taker heads start.number start.place
  heads_to_start heads h s = record {
    long = h.1.long;
    most = λ r. omega (arith, h.1.taker_at r);
    known = λ r l e. absurd (omega (arith, h.0, h.1.taker_at r, e));
    open_at = λ r l f. refl;
    stands = s;
  }

  module _ (heads : List Head) (number place : ℕ) (p : HeadsTo b start n taker heads number place) where
    pub heads_to_end : n ≤ place → Heads b start n taker heads
    heads_to_end h = record {
      long = p.long;
      known = p.known;
      none_at = λ r l f. p.open_at r l f ∙ ap (from_alike r) (fields_from_end b number place n h) ∙ alike_none r;
    }

    -- one field more
    module _ (l : place < n) (small : n ≤ most_nodes) (few : taker ≤ most_nodes) (ends : List ℕ) (known : Ends b ends) (rest : ℕ) (is : rest ≡ print_of (name (slot_at b number)) % head_count) where
      abbrev next : ℕ
      next = get_or ends number 0

      abbrev here : Sibling
      here = sibling_at b number place

      next_is : next ≡ number + size (tree_at (slots b) number)
      next_is = end_is b number place n p.stands l ends known

      here_rest : rest_of here ≡ rest
      here_rest = ap (λ (m : List ℕ). print_of m % head_count) (name_of_at b number p.stands.claimed (below b number place n p.stands l)) ∙ sym is

      split : fields_from b (at number place) n ≡ here ∷ fields_from b (at next (place + 1)) n
      split = fields_from_next b number place n p.stands l next next_is

      -- of another rest it is passed over
      other_rest : (r : ℕ) → (r ≡ rest → ⊥) → from_alike r (fields_from b (at number place) n) ≡ from_alike r (fields_from b (at next (place + 1)) n)
      other_rest r f = ap (from_alike r) split ∙ alike_later r here (fields_from b (at next (place + 1)) n) (λ e. f (sym e ∙ here_rest))

      -- of its own it is the first
      own_rest : from_alike rest (fields_from b (at number place) n) ≡ fields_from b (at number place) n
      own_rest = ap (from_alike rest) split ∙ alike_here rest here (fields_from b (at next (place + 1)) n) here_rest ∙ sym split

      stands' : Stands b (at next (place + 1)) n
      stands' = stands_next b number place n p.stands l next next_is

      abbrev head : Head
      head = packed_head taker place number

      number_few : number < most_nodes
      number_few = below_most b number place n p.stands l

      rest_few : rest < head_count
      rest_few = omega (arith, is)

      -- a head for its rest is there already
      stays : taker_of (get_or heads rest no_head) ≡ taker → HeadsTo b start n taker heads next (place + 1)
      stays e = record {
        long = p.long;
        most = p.most;
        known = p.known;
        open_at = λ r k f. p.open_at r k f ∙ other_rest r (λ q. f (ap (λ (i : ℕ). taker_of (get_or heads i no_head)) q ∙ e));
        stands = stands';
      }

      -- or it is written
      abbrev written : List Head
      written = set heads rest head

      own : get_or written rest no_head ≡ head
      own = get_or-set_same heads rest head no_head (omega (arith, rest_few, p.long))

      others : (r : ℕ) → (r ≡ rest → ⊥) → get_or written r no_head ≡ get_or heads r no_head
      others r f = get_or-set_other heads rest r head no_head f

      head_taker : taker_of head ≡ taker
      head_taker = omega (arith, number_few, l, small)

      head_number : number_of head ≡ number
      head_number = omega (arith, number_few, l, small)

      head_place : place_of head ≡ place
      head_place = omega (arith, number_few, l, small)

      head_is : head_of head ≡ at number place
      head_is = λ i. record { number = head_number i; place = head_place i }

      writes : (taker_of (get_or heads rest no_head) ≡ taker → ⊥) → HeadsTo b start n taker written next (place + 1)
      writes f = record {
        long = length-set heads rest head ∙ p.long;
        most = λ r. most_at r (ℕ_discrete r rest);
        known = λ r k e. known_at r k e (ℕ_discrete r rest);
        open_at = λ r k g. open_at r k g (ℕ_discrete r rest);
        stands = stands';
      }
        where
          most_at : (r : ℕ) → Dec (r ≡ rest) → taker_of (get_or written r no_head) ≤ taker
          most_at r (yes q) = omega (arith, ap (λ (i : ℕ). taker_of (get_or written i no_head)) q ∙ ap taker_of own, head_taker)
          most_at r (no g) = omega (arith, ap taker_of (others r g), p.most r)

          known_at : (r : ℕ) → r < head_count → taker_of (get_or written r no_head) ≡ taker → Dec (r ≡ rest) → IsHead b start n r (head_of (get_or written r no_head))
          known_at r k e (yes q) =
              rw (q, own, head_is) (record { stands = p.stands; is = sym (p.open_at rest rest_few f ∙ own_rest) })
          known_at r k e (no g) = rw (others r g) (p.known r k (ap taker_of (sym (others r g)) ∙ e))

          open_at : (r : ℕ) → r < head_count → (taker_of (get_or written r no_head) ≡ taker → ⊥) → Dec (r ≡ rest) → from_alike r (fields_from b start n) ≡ from_alike r (fields_from b (at next (place + 1)) n)
          open_at r k g (yes q) = absurd (g (ap taker_of (ap (λ (i : ℕ). get_or written i no_head) q ∙ own) ∙ head_taker))
          open_at r k g (no h) = p.open_at r k (λ e. g (ap taker_of (others r h) ∙ e)) ∙ other_rest r h

      heads_to_next : HeadsTo b start n taker (with_head heads rest number place taker) next (place + 1)
      unfolding with_head
      heads_to_next =
          by_test (eqb (taker_of (get_or heads rest no_head)) taker)
          (λ e. rw e (stays (eqb-true _ _ e)))
          (λ e. rw e (writes (λ q. true≢false (sym (eq-eqb _ _ q) ∙ e))))

      pub heads_to_written : (after : List Head) → after ≡ with_head heads rest number place taker → HeadsTo b start n taker after next (place + 1)
      heads_to_written after e = rw e heads_to_next

-- ---- looking them up

module _ (b : List ℕ) (from : Candidate) (n taker : ℕ) (heads : List Head) (print : ℕ) (x : Indexed b from n taker heads) where
  abbrev rest : ℕ
  rest = print % head_count

  -- behind a head at a later place, or behind all, the same is found
  leads : (later : Candidate) → Stands b later n → fields_from b later n ≡ from_alike rest (fields_from b x.start n) → from.place ≤ later.place → Leads b from n print later
  leads later s e l = record { stands = s; same = λ takers t m q. found takers t m q }
    where
      left : from_alike rest (fields_from b from n) ≡ fields_from b later n
      left =
          alike_behind rest x.before (fields_from b from n) (fields_from b later n) (ap (from_alike rest) (sym x.split) ∙ sym e)
          (omega (arith, length_from b later n s, length_from b from n x.stands, l))

      found : (takers : List ℕ) (t : ℕ) (m : List ℕ) → print_of m ≡ print → first_free takers t m (fields_from b later n) ≡ first_free takers t m (fields_from b from n)
      found takers t m q =
          ap (first_free takers t m) (sym left ∙ ap (λ (p : ℕ). from_alike (p % head_count) (fields_from b from n)) (sym q))
          ∙ alike_found takers t m (fields_from b from n)

  -- no field has the rest
  pub leads_none : (taker_of (get_or heads rest no_head) ≡ taker → ⊥) → Leads b from n print (at from.number n)
  leads_none f =
      leads (at from.number n) (record { claimed = x.stands.claimed; most = omega arith; fields = omega arith })
      (fields_from_end b from.number n n (omega arith) ∙ sym (x.headed.none_at rest (omega arith) f))
      x.stands.most

  -- the head lies before
  pub leads_from : Leads b from n print (at from.number from.place)
  leads_from = record { stands = x.stands; same = λ takers t m q. refl }

  -- or behind
  pub leads_head : taker_of (get_or heads rest no_head) ≡ taker → from.place < place_of (get_or heads rest no_head) → Leads b from n print (head_of (get_or heads rest no_head))
  leads_head e l = let head = x.headed.known rest (omega arith) e in leads (head_of (get_or heads rest no_head)) head.stands head.is (omega (arith, l))

-- ---- one head

module _ (heads : List Head) (r number place taker : ℕ) where
  pub head_kept : taker_of (get_or heads r no_head) ≡ taker → heads ≡ with_head heads r number place taker
  unfolding with_head
  head_kept e = rw (eq-eqb _ _ e)

  pub head_written : (taker_of (get_or heads r no_head) ≡ taker → ⊥) → set heads r (packed_head taker place number) ≡ with_head heads r number place taker
  unfolding with_head
  head_written f = rw (ne_eqb _ _ f)
