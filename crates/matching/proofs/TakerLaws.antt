-- Which candidates are taken: of each name as many as fields of it went before.
use mathlib.Core.Path.{◌≡◌, refl, sym, ap, ◌∙◌, subst}
use mathlib.Core.Bool.{Bool, true, false, and-false}
use mathlib.Core.List.{List, [], ◌∷◌, ◌++◌}
use mathlib.Core.Option.{Option, none, some, some_inj, none-ne-some}
use Prim.Native.Nat.{ℕ, zero, suc, ◌+◌, ◌≤◌, ◌<◌}
use native.Mathlib.Decide.{ℕ_discrete}
use native.Mathlib.Omega.{arith}
use lib.Dec.{eqb, ltb}
use lib.ListN.{length, get_or, set}
use lib.Seq.{get_or-set_same, get_or-set_other}
use borrow.Author.Tests.{eq-eqb, ne_eqb, lt-ltb, le-ltb, eqb-true}
use Rattle.laws.proofs.BoolLaws.{by_test, is_false}
use Rattle.sheet.specs.Name.{same_bytes}
use Rattle.sheet.proofs.NameLaws.{same_bytes_equal, same_bytes_true}
use Rattle.tree.specs.Tree.{Fields, empty, field, size}
use Rattle.tree.proofs.StandingLaws.{size_positive}
use Rattle.matching.specs.Matching.{Sibling, siblings, name_of, alike, nth}
use Rattle.matching.proofs.NthLaws.{nth_none, nth_first, nth_alike, nth_other}
use Rattle.matching.specs.Steps.{is_taken, untaken, first_free, found_of, taken_by}

-- of no name there is none
pub alike_none : (n : List ℕ) → alike n [] ≡ 0
unfolding alike
alike_none n = refl

-- a name beside others
module _ (n m : List ℕ) (ms : List (List ℕ)) where
  pub alike_same : m ≡ n → alike n (m ∷ ms) ≡ suc (alike n ms)
  unfolding alike
  alike_same e = rw (same_bytes_true m n e)

  pub alike_other : same_bytes m n ≡ false → alike n (m ∷ ms) ≡ alike n ms
  unfolding alike
  alike_other e = rw e

-- the name of a sibling
abbrev named : Sibling → List ℕ
named c = name_of c.tree

-- counts of a name are those of a sibling that has it
module _ (n : List ℕ) (c : Sibling) (seen before : List (List ℕ)) (e : same_bytes (named c) n ≡ true) where
  counted : alike n before ≤ alike n seen → alike (named c) before ≤ alike (named c) seen
  counted h = rw (same_bytes_equal (named c) n e) h

  counted< : alike n seen < alike n before → alike (named c) seen < alike (named c) before
  counted< h = rw (same_bytes_equal (named c) n e) h

module _ (takers : List ℕ) (taker : ℕ) where
  -- a candidate is taken exactly where fewer of its name stand before it than before the next field; the names of those in front are given
  unfoldable pub TakenAs : List (List ℕ) → List (List ℕ) → List Sibling → Type 0
  TakenAs before seen [] = Unit {0}
  TakenAs before seen (c ∷ cs) =
      (is_taken takers taker c ≡ ltb (alike (named c) seen) (alike (named c) before)) × TakenAs before (named c ∷ seen) cs

  -- all of them are taken
  unfoldable pub AllTaken : List Sibling → Type 0
  AllTaken [] = Unit {0}
  AllTaken (c ∷ cs) = (get_or takers c.number 0 ≡ taker) × AllTaken cs

  pub all_taken_none : AllTaken []
  unfolding AllTaken
  all_taken_none = tt

  pub all_taken_append : (cs ds : List Sibling) → AllTaken cs → AllTaken ds → AllTaken (cs ++ ds)
  unfolding AllTaken
  all_taken_append [] ds a b = b
  all_taken_append (c ∷ cs) ds a b = (a.0, all_taken_append cs ds a.1 b)

  -- nothing is free among them
  pub first_free_behind : (n : List ℕ) (cs ds : List Sibling) → AllTaken cs → first_free takers taker n (cs ++ ds) ≡ first_free takers taker n ds
  unfolding AllTaken first_free
  first_free_behind n [] ds a = refl
  first_free_behind n (c ∷ cs) ds a = rw (eq-eqb _ _ a.0) (first_free_behind n cs ds a.1)

  -- those that are passed over are taken
  pub record Split (cs : List Sibling) : Type 0 where
    pub front : List Sibling
    pub taken : AllTaken front
    pub is : cs ≡ front ++ untaken takers taker cs

  pub untaken_split : (cs : List Sibling) → Split cs
  unfolding AllTaken untaken
  untaken_split [] = record { front = []; taken = tt; is = refl }
  untaken_split (c ∷ cs) =
      let rest = untaken_split cs in
      by_test (is_taken takers taker c)
      (λ e. record { front = c ∷ rest.front; taken = (eqb-true _ _ e, rest.taken); is = rw e (ap (λ (ds : List Sibling). c ∷ ds) rest.is) })
      (λ e. record { front = []; taken = tt; is = rw e })

  -- no taker is this one: nothing is taken, and no field went before
  pub taken_as_none : ((i : ℕ) → get_or takers i 0 ≡ taker → ⊥) → (seen : List (List ℕ)) (cs : List Sibling) → TakenAs [] seen cs
  unfolding TakenAs alike
  taken_as_none free seen [] = tt
  taken_as_none free seen (c ∷ cs) =
      (ne_eqb _ _ (free c.number) ∙ sym (le-ltb (alike (named c) seen) 0 (omega arith)), taken_as_none free (named c ∷ seen) cs)

  -- the first free candidate, where the next has the name or not, and is taken or not
  module _ (n : List ℕ) (c : Sibling) (cs : List Sibling) where
    first_free_other : same_bytes (named c) n ≡ false → first_free takers taker n (c ∷ cs) ≡ first_free takers taker n cs
    unfolding first_free
    first_free_other e = rw (e, and-false)

    first_free_taken : is_taken takers taker c ≡ true → first_free takers taker n (c ∷ cs) ≡ first_free takers taker n cs
    unfolding first_free
    first_free_taken e = rw e

    first_free_found : is_taken takers taker c ≡ false → same_bytes (named c) n ≡ true → first_free takers taker n (c ∷ cs) ≡ some c
    unfolding first_free
    first_free_found e q = rw (e, q)

  -- the first free candidate of a name is the one that has as many of the name before it as fields of it went before
  pub first_free_nth : (n : List ℕ) (before seen : List (List ℕ)) (cs : List Sibling) → TakenAs before seen cs → (o : ℕ) → o + alike n seen ≡ alike n before
      → first_free takers taker n cs ≡ nth n o cs
  unfolding TakenAs first_free
  first_free_nth n before seen [] t o h = sym (nth_none n o)
  first_free_nth n before seen (c ∷ cs) t zero h =
      by_test (same_bytes (named c) n)
      (λ e. first_free_found n c cs (t.0 ∙ le-ltb _ _ (counted n c seen before e (omega (arith, h)))) e ∙ sym (nth_first n c cs e))
      (λ e. first_free_other n c cs e ∙ first_free_nth n before (named c ∷ seen) cs t.1 zero (omega (arith, h, alike_other n (named c) seen e)) ∙ sym (nth_other n zero c cs e))
  first_free_nth n before seen (c ∷ cs) t (suc o) h =
      by_test (same_bytes (named c) n)
      (λ e. first_free_taken n c cs (t.0 ∙ lt-ltb _ _ (counted< n c seen before e (omega (arith, h)))) ∙ first_free_nth n before (named c ∷ seen) cs t.1 o (omega (arith, h, alike_same n (named c) seen (same_bytes_equal _ _ e))) ∙ sym (nth_alike n o c cs e))
      (λ e. first_free_other n c cs e ∙ first_free_nth n before (named c ∷ seen) cs t.1 (suc o) (omega (arith, h, alike_other n (named c) seen e)) ∙ sym (nth_other n (suc o) c cs e))

-- numbers of siblings that rise from one on
unfoldable pub Rises : ℕ → List Sibling → Type 0
Rises k [] = Unit {0}
Rises k (c ∷ cs) = (k ≤ c.number) × Rises (suc c.number) cs

rises_less : (j k : ℕ) (cs : List Sibling) → j ≤ k → Rises k cs → Rises j cs
unfolding Rises
rises_less j k [] h r = tt
rises_less j k (c ∷ cs) h r = (omega (arith, r.0), r.1)

-- those of a run do
pub siblings_rises : (k p : ℕ) (fs : Fields) → Rises k (siblings k p fs)
unfolding Rises siblings
siblings_rises k p empty = tt
siblings_rises k p (field t fs) =
    (omega arith, rises_less (suc k) (k + size t) (siblings (k + size t) (suc p) fs) (omega (arith, size_positive t)) (siblings_rises (k + size t) (suc p) fs))

-- what is found is one of them
nth_rises : (n : List ℕ) (o k : ℕ) (cs : List Sibling) → Rises k cs → (c : Sibling) → nth n o cs ≡ some c → k ≤ c.number
unfolding Rises
nth_rises n o k [] r c e = absurd (none-ne-some c (sym (nth_none n o) ∙ e))
nth_rises n zero k (b ∷ cs) r c e =
    by_test (same_bytes (named b) n)
    (λ t. omega (arith, r.0, ap (λ (s : Sibling). s.number) (some_inj.0 (sym (nth_first n b cs t) ∙ e))))
    (λ f. omega (arith, r.0, nth_rises n zero (suc b.number) cs r.1 c (sym (nth_other n zero b cs f) ∙ e)))
nth_rises n (suc o) k (b ∷ cs) r c e =
    by_test (same_bytes (named b) n)
    (λ t. omega (arith, r.0, nth_rises n o (suc b.number) cs r.1 c (sym (nth_alike n o b cs t) ∙ e)))
    (λ f. omega (arith, r.0, nth_rises n (suc o) (suc b.number) cs r.1 c (sym (nth_other n (suc o) b cs f) ∙ e)))

-- unlike names are unlike either way round
unlike : (m n : List ℕ) → same_bytes m n ≡ false → same_bytes n m ≡ false
unlike m n e = is_false (same_bytes n m) (λ t. true_not_false (sym (same_bytes_true m n (sym (same_bytes_equal n m t))) ∙ e))
  where
    true_not_false : Path Bool true false → ⊥
    true_not_false q = let z : ◌≡◌ {A = ℕ} 0 1 = cc in omega arith

module _ (takers : List ℕ) (taker : ℕ) where
  -- once a candidate is taken, another is as it was, and it is taken
  taken_other : (x : ℕ) (c : Sibling) → (c.number ≡ x → ⊥) → is_taken (set takers x taker) taker c ≡ is_taken takers taker c
  taken_other x c h = ap (λ (i : ℕ). eqb i taker) (get_or-set_other takers x c.number taker 0 h)

  taken_own : (c : Sibling) → c.number < length takers → is_taken (set takers c.number taker) taker c ≡ true
  taken_own c h = eq-eqb _ _ (get_or-set_same takers c.number taker 0 h)

  -- one that stands before what is found is as it was
  taken_before : (m : Option Sibling) (c : Sibling) → ((d : Sibling) → m ≡ some d → c.number < d.number) → is_taken (taken_by taker (found_of m) takers) taker c ≡ is_taken takers taker c
  taken_before none c h = refl
  taken_before (some d) c h = taken_other d.number c (λ e. omega (arith, h d refl))

  -- candidates behind the one that is taken
  taken_as_behind : (n : List ℕ) (before seen : List (List ℕ)) (x k : ℕ) (cs : List Sibling) → Rises k cs → x < k → alike n before < alike n seen
      → TakenAs takers taker before seen cs → TakenAs (set takers x taker) taker (n ∷ before) seen cs
  unfolding Rises TakenAs
  taken_as_behind n before seen x k [] r h l t = tt
  taken_as_behind n before seen x k (c ∷ cs) r h l t =
      let apart = taken_other x c (λ e. omega (arith, r.0)) in
      by_test (same_bytes (named c) n)
      (λ e.
      let q = same_bytes_equal (named c) n e in
      let more = alike_same n n before refl in (
        apart ∙ t.0 ∙ rw q (le-ltb (alike n seen) (alike n before) (omega (arith, l)) ∙ sym (le-ltb (alike n seen) (alike n (n ∷ before)) (omega (arith, l, more)))),
        taken_as_behind n before (named c ∷ seen) x (suc c.number) cs r.1 (omega (arith, r.0)) (omega (arith, l, alike_same n (named c) seen q)) t.1,
      ))
      (λ e. (
        apart ∙ t.0 ∙ ap (ltb (alike (named c) seen)) (sym (alike_other (named c) n before (unlike (named c) n e))),
        taken_as_behind n before (named c ∷ seen) x (suc c.number) cs r.1 (omega (arith, r.0)) (omega (arith, l, alike_other n (named c) seen e)) t.1,
      ))

  -- a candidate, and those behind it, once a field of a name went before: the candidate is what it took
  taken_as_here : (n : List ℕ) (before seen : List (List ℕ)) (c : Sibling) (cs : List Sibling) → named c ≡ n → c.number < length takers → alike n seen ≡ alike n before
      → Rises (suc c.number) cs → TakenAs takers taker before (named c ∷ seen) cs → TakenAs (set takers c.number taker) taker (n ∷ before) seen (c ∷ cs)
  unfolding TakenAs
  taken_as_here n before seen c cs q l h r t =
      let more = alike_same n n before refl in (
        taken_own c l ∙ sym (rw q (lt-ltb (alike n seen) (alike n (n ∷ before)) (omega (arith, h, more)))),
        taken_as_behind n before (named c ∷ seen) c.number (suc c.number) cs r (omega arith) (omega (arith, h, alike_same n (named c) seen q)) t,
      )

  module _ (n : List ℕ) (before seen : List (List ℕ)) (c : Sibling) (cs : List Sibling) (m : Option Sibling) where
    -- it has the name, and was taken before
    taken_as_alike : named c ≡ n → alike n seen < alike n before → is_taken takers taker c ≡ ltb (alike (named c) seen) (alike (named c) before)
        → ((d : Sibling) → m ≡ some d → c.number < d.number) → TakenAs (taken_by taker (found_of m) takers) taker (n ∷ before) (named c ∷ seen) cs
        → TakenAs (taken_by taker (found_of m) takers) taker (n ∷ before) seen (c ∷ cs)
    unfolding TakenAs
    taken_as_alike q h t apart rest =
        let more = alike_same n n before refl in
        (taken_before m c apart ∙ t ∙ rw q (lt-ltb (alike n seen) (alike n before) h ∙ sym (lt-ltb (alike n seen) (alike n (n ∷ before)) (omega (arith, h, more)))), rest)

    -- it has another name
    taken_as_other : same_bytes (named c) n ≡ false → is_taken takers taker c ≡ ltb (alike (named c) seen) (alike (named c) before)
        → ((d : Sibling) → m ≡ some d → c.number < d.number) → TakenAs (taken_by taker (found_of m) takers) taker (n ∷ before) (named c ∷ seen) cs
        → TakenAs (taken_by taker (found_of m) takers) taker (n ∷ before) seen (c ∷ cs)
    unfolding TakenAs
    taken_as_other q t apart rest =
        (taken_before m c apart ∙ t ∙ ap (ltb (alike (named c) seen)) (sym (alike_other (named c) n before (unlike (named c) n q))), rest)

  -- what is found is taken: one more field of its name went before
  pub taken_as_next : (n : List ℕ) (before seen : List (List ℕ)) (k : ℕ) (cs : List Sibling) → Rises k cs → TakenAs takers taker before seen cs
      → (o : ℕ) → o + alike n seen ≡ alike n before → (m : Option Sibling) → nth n o cs ≡ m → ((d : Sibling) → m ≡ some d → d.number < length takers)
      → TakenAs (taken_by taker (found_of m) takers) taker (n ∷ before) seen cs
  unfolding Rises TakenAs
  taken_as_next n before seen k [] r t o h m e l = tt
  taken_as_next n before seen k (c ∷ cs) r t zero h m e l =
      by_test (same_bytes (named c) n)
      (λ q. taken_here q (sym e ∙ nth_first n c cs q))
      (λ q. taken_as_other n before seen c cs m q t.0 (λ d i. nth_rises n zero (suc c.number) cs r.1 d (sym (nth_other n zero c cs q) ∙ e ∙ i))
      (taken_as_next n before (named c ∷ seen) (suc c.number) cs r.1 t.1 zero (omega (arith, h, alike_other n (named c) seen q)) m (sym (nth_other n zero c cs q) ∙ e) l))
    where
      taken_here : same_bytes (named c) n ≡ true → m ≡ some c → TakenAs (taken_by taker (found_of m) takers) taker (n ∷ before) seen (c ∷ cs)
      taken_here q i = subst (λ (x : Option Sibling). TakenAs (taken_by taker (found_of x) takers) taker (n ∷ before) seen (c ∷ cs)) (sym i) (taken_as_here n before seen c cs (same_bytes_equal (named c) n q) (l c i) (omega (arith, h)) r.1 t.1)
  taken_as_next n before seen k (c ∷ cs) r t (suc o) h m e l =
      by_test (same_bytes (named c) n)
      (λ q. taken_as_alike n before seen c cs m (same_bytes_equal (named c) n q) (omega (arith, h)) t.0 (λ d i. nth_rises n o (suc c.number) cs r.1 d (sym (nth_alike n o c cs q) ∙ e ∙ i))
      (taken_as_next n before (named c ∷ seen) (suc c.number) cs r.1 t.1 o (omega (arith, h, alike_same n (named c) seen (same_bytes_equal (named c) n q))) m (sym (nth_alike n o c cs q) ∙ e) l))
      (λ q. taken_as_other n before seen c cs m q t.0 (λ d i. nth_rises n (suc o) (suc c.number) cs r.1 d (sym (nth_other n (suc o) c cs q) ∙ e ∙ i))
      (taken_as_next n before (named c ∷ seen) (suc c.number) cs r.1 t.1 (suc o) (omega (arith, h, alike_other n (named c) seen q)) m (sym (nth_other n (suc o) c cs q) ∙ e) l))

  -- those that are taken stay so
  pub all_taken_next : (m : Option Sibling) → ((d : Sibling) → m ≡ some d → d.number < length takers) → (cs : List Sibling) → AllTaken takers taker cs → AllTaken (taken_by taker (found_of m) takers) taker cs
  unfolding AllTaken
  all_taken_next m l [] a = tt
  all_taken_next m l (c ∷ cs) a = (stays m l, all_taken_next m l cs a.1)
    where
      stays : (m : Option Sibling) → ((d : Sibling) → m ≡ some d → d.number < length takers) → get_or (taken_by taker (found_of m) takers) c.number 0 ≡ taker
      stays none l = a.0
      stays (some d) l = own (ℕ_discrete c.number d.number)
        where
          own : Dec (c.number ≡ d.number) → get_or (set takers d.number taker) c.number 0 ≡ taker
          own (yes e) = rw e (get_or-set_same takers d.number taker 0 (l d refl))
          own (no e) = get_or-set_other takers d.number c.number taker 0 e ∙ a.0
