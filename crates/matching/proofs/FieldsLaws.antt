-- The fields of two matched nodes, as each field of the first takes its candidate.
use mathlib.Core.Path.{◌≡◌, refl, sym, ap, ap₂, ◌∙◌, subst}
use mathlib.Core.List.{List, [], ◌∷◌, ◌++◌, append_assoc}
use mathlib.Core.Option.{Option, none, some}
use Prim.Native.Nat.{ℕ, suc, ◌+◌, ◌-◌, ◌≤◌, ◌<◌}
use native.Mathlib.Decide.{ℕ_discrete, dec_lt}
use native.Mathlib.Numerals.{add-one}
use native.Mathlib.Omega.{arith}
use lib.ListN.{length, get_or, set, drop, length-set, length-drop, get_or-eq_default}
use lib.Seq.{get_or-set_same, get_or-set_other}
use Rattle.sheet.specs.Block.{total_of, most_nodes}
use Rattle.sheet.specs.Slot.{slots, slot_at, name, child_count, numbers_of}
use Rattle.sheet.specs.declared.slots.Slot.{Slot as Numbers}
use Rattle.tree.specs.Tree.{SlotBytes, size, count}
use Rattle.tree.specs.Reading.{trees}
use Rattle.tree.specs.Steps.{Claimed, tree_at, run_at, fields_at}
use Rattle.tree.proofs.VisitLaws.{run_below, next_claimed, run_at_lem, children_claimed}
use Rattle.tree.proofs.TreeLaws.{count_drop}
use Rattle.matching.specs.Matching.{Sibling, siblings, alike, nth, match_of}
use Rattle.matching.specs.Outcome.{held_of}
use Rattle.matching.specs.Steps.{Stands, fields_from, untaken, first_free, found_of, FoundWithin, taken_by, found_match, with_fields, fields_matched, NodeNamed, Named, TakersMost, HeadsMost, Heads, Indexed}
use Rattle.matching.specs.declared.candidates.Candidate.{Candidate}
use Rattle.matching.specs.declared.fields.Match.{Match}
use Rattle.matching.specs.declared.heads.Head.{Head}
use Rattle.std.specs.Prelude.{Option as Found, Some, None}
use Rattle.matching.proofs.CandidateLaws.{at}
use Rattle.matching.proofs.TakerLaws.{alike_none, TakenAs, AllTaken, Split, untaken_split, all_taken_none, all_taken_append, all_taken_next, first_free_behind, first_free_nth, taken_as_none, taken_as_next, siblings_rises}
use Rattle.matching.proofs.StepsLaws.{with_fields_end, with_fields_next}

-- what may be matched by the fields of a node whose partner has this number
abbrev others : List ℕ → ℕ → List Sibling
others second partner = siblings (suc partner) 0 (fields_at second partner)

-- the fields of a node up to one with this number and place have taken their candidates; the others, and what is not passed over, are left
pub record Spread (first second : List ℕ) (node partner n m : ℕ) (ms₀ : List (Found Match)) (takers : List ℕ) (ms : List (Found Match)) (from : Candidate) (number place : ℕ) : Type 0 where
  pub most : place ≤ n
  pub fields : n - place ≤ count (trees (drop number (slots first)))
  pub before : List (List ℕ)
  pub same : fields_matched first second node partner ms₀ ≡ with_fields ms number place (others second partner) before (run_at (slots first) number (n - place))
  pub taken : TakenAs takers (node + 1) before [] (others second partner)
  pub passed : List Sibling
  pub is_passed : AllTaken takers (node + 1) passed
  pub split : others second partner ≡ passed ++ fields_from second from m
  pub stands : Stands second from m
  pub takers_most : TakersMost (suc node) takers
  pub names : Named (total_of second) ms

-- the heads are those of the partner's fields, of which there are m
pub record Headed (second : List ℕ) (partner m taker : ℕ) (heads : List Head) : Type 0 where
  pub known : Heads second (at (partner + 1) 0) m taker heads
  pub most : HeadsMost taker heads

pub headed_same : {second : List ℕ} {partner m taker : ℕ} {heads after : List Head} → after ≡ heads → Headed second partner m taker heads → Headed second partner m taker after
headed_same {second} {partner} {m} {taker} e h = subst (Headed second partner m taker) (sym e) h

-- nothing stands behind a list's end
get_d_past : (xs : List ℕ) (i : ℕ) → length xs ≤ i → get_or xs i 0 ≡ 0
get_d_past xs i h = get_or-eq_default xs 0 {n = i} h

all_left : (n : ℕ) → n - 0 ≡ n
all_left n = omega arith

-- the fields of a node from its first on are all
pub fields_from_all : (b : List ℕ) (k : ℕ) (s : Numbers) → s ≡ numbers_of (slot_at b k) → others b k ≡ fields_from b (at (k + 1) 0) s.children
unfolding fields_from
fields_from_all b k s e =
    sym (ap (λ (i : ℕ). siblings (k + 1) 0 (run_at (slots b) (k + 1) i)) (all_left s.children)
    ∙ ap (siblings (k + 1) 0) (run_at_lem b k s e)
    ∙ ap (λ (i : ℕ). siblings i 0 (fields_at b k)) (add-one k))

-- there are no more trees than slots
trees_most : (ss : List SlotBytes) → count (trees ss) ≤ length ss
unfolding trees count
trees_most [] = omega arith
trees_most (s ∷ ss) = omega (arith, count_drop (child_count s) (trees ss), trees_most ss)

-- places of a node's fields are few
module _ (b : List ℕ) (k : ℕ) (s : Numbers) (e : s ≡ numbers_of (slot_at b k)) (h : Claimed b) (l : k < total_of b) where
  pub fields_most : s.children < most_nodes
  fields_most =
      omega (arith, children_claimed b k s e h l, trees_most (drop (k + 1) (slots b)), length-drop (k + 1) (slots b), h.total, h.most)

  -- they stand from the node behind it on
  pub stands_all : Stands b (at (k + 1) 0) s.children
  stands_all = record { claimed = h; most = omega arith; fields = rw all_left (children_claimed b k s e h l) }

  pub field_most : (place : ℕ) → place < s.children → place < most_nodes
  field_most place i = omega (arith, fields_most)

  pub found_most : (x : Found Candidate) → FoundWithin (total_of b) s.children x → FoundWithin most_nodes most_nodes x
  found_most None w = tt
  found_most (Some c) w = (omega (arith, w.0, h.most), omega (arith, w.1, fields_most))

module _ (first second : List ℕ) (node partner : ℕ) (s t : Numbers) (ms : List (Found Match)) (takers : List ℕ) where
  pub spread_start : Claimed first → Claimed second → node < total_of first → partner < total_of second → s ≡ numbers_of (slot_at first node) → t ≡ numbers_of (slot_at second partner)
      → TakersMost node takers → Named (total_of second) ms
      → Spread first second node partner s.children t.children ms takers ms (at (partner + 1) 0) (node + 1) 0
  unfolding fields_matched
  spread_start h k l j e d m w = record {
    most = omega arith;
    fields = rw all_left (children_claimed first node s e h l);
    before = [];
    same = sym (ap (λ (i : ℕ). with_fields ms (node + 1) 0 (others second partner) [] (run_at (slots first) (node + 1) i)) (all_left s.children)
        ∙ ap (with_fields ms (node + 1) 0 (others second partner) []) (run_at_lem first node s e)
        ∙ ap (λ (i : ℕ). with_fields ms i 0 (others second partner) [] (fields_at first node)) (add-one node));
    taken = taken_as_none takers (node + 1) (λ i q. omega (arith, m.taker_at i)) [] (others second partner);
    passed = [];
    is_passed = all_taken_none takers (node + 1);
    split = fields_from_all second partner t d;
    stands = stands_all second partner t d k j;
    takers_most = record { long = m.long; taker_at = λ i. omega (arith, m.taker_at i) };
    names = w;
  }

module _ (first second : List ℕ) (node partner n m : ℕ) (ms₀ : List (Found Match)) (takers : List ℕ) (ms : List (Found Match)) (from : Candidate) (number place : ℕ)
    (h : Claimed first) (p : Spread first second node partner n m ms₀ takers ms from number place) where
  -- no field is left
  pub spread_end : n ≤ place → ms ≡ fields_matched first second node partner ms₀
  spread_end l = sym (p.same ∙ with_fields_end first number (n - place) (omega arith) ms place (others second partner) p.before)

  -- the next field
  module _ (l : place < n) where
    left : n - place ≡ 0 → ⊥
    left e = omega arith

    pub spread_below : number < total_of first
    spread_below = run_below first number (n - place) h left p.fields

    -- what it may take
    module _ (from' : Candidate) (skipped : fields_from second from' m ≡ untaken takers (node + 1) (fields_from second from m)) where
      passed' : Split takers (node + 1) (fields_from second from m)
      passed' = untaken_split takers (node + 1) (fields_from second from m)

      split' : others second partner ≡ (p.passed ++ passed'.front) ++ fields_from second from' m
      split' =
          p.split
          ∙ ap (λ (cs : List Sibling). p.passed ++ cs) (passed'.is ∙ ap (λ (cs : List Sibling). passed'.front ++ cs) (sym skipped))
          ∙ sym (append_assoc p.passed passed'.front (fields_from second from' m))

      -- the heads of all are those of what is left
      pub spread_indexed : others second partner ≡ fields_from second (at (partner + 1) 0) m → Stands second from' m → (taker : ℕ) (heads : List Head)
          → Heads second (at (partner + 1) 0) m taker heads → Indexed second from' m taker heads
      spread_indexed all s taker heads x = record { start = at (partner + 1) 0; headed = x; stands = s; before = p.passed ++ passed'.front; split = sym all ∙ split' }

      is_passed' : AllTaken takers (node + 1) (p.passed ++ passed'.front)
      is_passed' = all_taken_append takers (node + 1) p.passed passed'.front p.is_passed passed'.taken

      -- the first that is free is the one that it matches
      found_is : first_free takers (node + 1) (name (slot_at first number)) (fields_from second from' m) ≡ nth (name (slot_at first number)) (alike (name (slot_at first number)) p.before) (others second partner)
      found_is =
          let called = name (slot_at first number) in
          sym (first_free_behind takers (node + 1) called (p.passed ++ passed'.front) (fields_from second from' m) is_passed')
          ∙ ap (first_free takers (node + 1) called) (sym split')
          ∙ first_free_nth takers (node + 1) called p.before [] (others second partner) p.taken (alike called p.before) (omega (arith, alike_none called))

      -- and what is then known
      module _ (stands' : Stands second from' m) (found : Found Candidate)
          (f : found ≡ found_of (first_free takers (node + 1) (name (slot_at first number)) (fields_from second from' m))) (w : FoundWithin (total_of second) m found) (k : total_of second ≤ most_nodes)
          (next : ℕ) (ends : next ≡ number + size (tree_at (slots first) number)) where
        abbrev what : Option Sibling
        what = nth (name (slot_at first number)) (alike (name (slot_at first number)) p.before) (others second partner)

        found_what : found ≡ found_of what
        found_what = f ∙ ap found_of found_is

        within : (d : Sibling) → what ≡ some d → d.number < total_of second
        within d e = (subst (FoundWithin (total_of second) m) (found_what ∙ ap found_of e) w).0

        within_takers : (d : Sibling) → what ≡ some d → d.number < length takers
        within_takers d e = omega (arith, within d e, k, p.takers_most.long)

        held_is : (c : Option Sibling) → found_match place (found_of c) ≡ held_of (match_of place c)
        held_is none = refl
        held_is (some c) = refl

        takers_is : taken_by (node + 1) found takers ≡ taken_by (node + 1) (found_of what) takers
        takers_is = ap (λ (x : Found Candidate). taken_by (node + 1) x takers) found_what

        -- what is found is a node of the second sheet
        named_found : (x : Found Candidate) → FoundWithin (total_of second) m x → NodeNamed (total_of second) (found_match place x)
        named_found None v = tt
        named_found (Some c) v = v.0

        named_next : (i : ℕ) → Dec (i ≡ number) → NodeNamed (total_of second) (get_or (set ms number (found_match place found)) i None)
        named_next i (yes e) = rw (e, get_or-set_same ms number (found_match place found) None (omega (arith, p.names.long, spread_below, h.most))) (named_found found w)
        named_next i (no e) = rw (get_or-set_other ms number i (found_match place found) None e) (p.names.named_at i)

        taker_next : (x : Found Candidate) (i : ℕ) → get_or (taken_by (node + 1) x takers) i 0 ≤ suc node
        taker_next None i = p.takers_most.taker_at i
        taker_next (Some c) i = cases (ℕ_discrete i c.number) (dec_lt i (length takers))
          where
            cases : Dec (i ≡ c.number) → Dec (i < length takers) → get_or (set takers c.number (node + 1)) i 0 ≤ suc node
            cases (yes e) (yes b) = rw (e, get_or-set_same takers c.number (node + 1) 0 (omega (arith, e))) (omega arith)
            cases (yes e) (no b) = rw (get_d_past (set takers c.number (node + 1)) i (omega (arith, length-set takers c.number (node + 1)))) (omega arith)
            cases (no e) b = rw (get_or-set_other takers c.number i (node + 1) 0 e) (p.takers_most.taker_at i)

        long_next : (x : Found Candidate) → length (taken_by (node + 1) x takers) ≡ most_nodes
        long_next None = p.takers_most.long
        long_next (Some c) = length-set takers c.number (node + 1) ∙ p.takers_most.long

        spread_taken : Spread first second node partner n m ms₀ (taken_by (node + 1) found takers) (set ms number (found_match place found)) from' next (place + 1)
        spread_taken = record {
          most = omega (arith, l);
          fields = rw one_less at (next_claimed first number (n - place) h left p.fields next ends);
          before = name (slot_at first number) ∷ p.before;
          same = p.same ∙ with_fields_next first number (n - place) h left p.fields next ends ms place (others second partner) p.before
              ∙ ap₂ (λ (c : Found Match) (i : ℕ). with_fields (set ms number c) next (place + 1) (others second partner) (name (slot_at first number) ∷ p.before) (run_at (slots first) next i))
              (sym (ap (found_match place) found_what ∙ held_is what)) one_less;
          taken = rw takers_is (taken_as_next takers (node + 1) (name (slot_at first number)) p.before [] (suc partner) (others second partner) (siblings_rises (suc partner) 0 (fields_at second partner)) p.taken
              (alike (name (slot_at first number)) p.before) (omega (arith, alike_none (name (slot_at first number)))) what refl within_takers);
          passed = p.passed ++ passed'.front;
          is_passed = rw takers_is (all_taken_next takers (node + 1) what within_takers (p.passed ++ passed'.front) is_passed');
          split = split';
          stands = stands';
          takers_most = record { long = long_next found; taker_at = taker_next found };
          names = record { long = length-set ms number (found_match place found) ∙ p.names.long; named_at = λ i. named_next i (ℕ_discrete i number) };
        }
          where
            one_less : n - place - 1 ≡ n - (place + 1)
            one_less = omega arith

        pub spread_next : (takers' : List ℕ) (ms' : List (Found Match)) → takers' ≡ taken_by (node + 1) found takers → ms' ≡ set ms number (found_match place found)
            → Spread first second node partner n m ms₀ takers' ms' from' next (place + 1)
        spread_next takers' ms' e d = rw (e, d) spread_taken
