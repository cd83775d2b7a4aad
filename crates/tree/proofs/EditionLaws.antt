-- The rules in the editions: a tree that keeps the first's keeps the second's. Of a tree that keeps the second's, the first refuses with 11 each DECIMAL whose scale
-- equals its precision, and nothing else. Of any slots without GEOMETRY and GEOGRAPHY the third answers what the second does, or 10 at the first INT96.
use Prim.Native.Nat.{ℕ, zero, suc, ◌+◌, ◌<◌}
use mathlib.Core.Path.{◌≡◌, refl, sym, ap, ap₂, subst, ◌∙◌}
use mathlib.Core.Bool.{Bool, true, false, true≢false, not, cond, ◌&&◌}
use mathlib.Core.Logic.{◌⊎◌, inl, inr}
use mathlib.Core.List.{List, [], ◌∷◌, ◌++◌, map, map-append}
use native.Mathlib.Omega.{arith}
use lib.Dec.{eqb}
use lib.ListN.{length, get_or}
use Rattle.laws.proofs.BoolLaws.{by_test}
use Rattle.edition.specs.Editions.{FIRST, SECOND, THIRD}
use Rattle.refusal.specs.Numbers.{SLOT, SHAPE, DISAGREEMENT, MISPLACED}
use Rattle.refusal.specs.Outcome.{refusal}
use Rattle.refusal.specs.Outcome.{Counted, Verdict}
use Rattle.std.specs.Prelude.{Ok, Err}
use Rattle.refusal.specs.declared.answers.Refusal.{Refusal}
use Rattle.parquet.specs.Physical.{INT96}
use Rattle.parquet.specs.Logical.{is_geospatial}
use Rattle.sheet.specs.Slot.{physical, logical, numbers_of, slot_at, slots}
use Rattle.sheet.specs.Opening.{open_of, outcome, outcome_of}
use Rattle.sheet.proofs.SlotLaws.{slots_at_lem}
use Rattle.sheet.proofs.OpeningLaws.{open_of_total, open_of_slots_length, open_of_sound}
use Rattle.sheet.proofs.EditionLaws.{sound_other, FirstGeospatial, Opened, open_of_third}
use Rattle.annotation.specs.Rule10.{is_placed}
use Rattle.annotation.specs.declared.resolution.Kind.{Kind}
use Rattle.annotation.proofs.EditionLaws.{is_equal, eleven_second, eleven_first, ten_second, ten_before, ten_third, not_said, eleven_third}
use Rattle.tree.specs.Annotated.{annotated, kind, rule9, rule10, rule11}
use Rattle.tree.specs.Tree.{SlotBytes, Tree, Fields, node, empty, field, listing, listings}
use Rattle.tree.specs.Rules.{under_map_of, standing_below, rule8, KeepsAt, Keeps, KeepsAll, judged_kinds, run_kinds}
use Rattle.tree.specs.Faults.{broken, faults, run_faults}
use Rattle.tree.specs.Reading.{tree_of}
use Rattle.tree.specs.Judgement.{or_else, left_over, missing, first_fault, too_deep, unlawful, tree_refusal, judged_as, judgement}
use Rattle.tree.specs.declared.standing.Standing.{Standing}
use Rattle.tree.specs.declared.standing.Standing.TheVariants.{Root}
use Rattle.tree.proofs.FaultLaws.{none_or_else}
use Rattle.tree.proofs.TreeOfLaws.{fills_listing, accepted_fills}
use Rattle.tree.proofs.JudgementLaws.{tree_refusal_places}

-- what keeps the first edition's rules keeps the second's ------------------------------------------------------------------

first_second : (p : Standing) (s : SlotBytes) (fs : Fields) → KeepsAt FIRST p s fs → KeepsAt SECOND p s fs
unfolding rule10 rule11
first_second p s fs h =
    record {
      shape = h.shape;
      agreement = h.agreement;
      placement = ten_second (annotated s) (under_map_of p) ∙ h.placement;
      decimals = eleven_second (annotated s) (under_map_of p) h.decimals;
      lists = h.lists;
      maps = h.maps;
    }

mutual
  unfolding Keeps

  pub keeps_second : (t : Tree) (p : Standing) → Keeps FIRST p t → Keeps SECOND p t
  keeps_second (node s fs) p h = (first_second p s fs h.0, keeps_all_second fs (standing_below p s) h.1)

  keeps_all_second : (fs : Fields) (p : Standing) → KeepsAll FIRST p fs → KeepsAll SECOND p fs
  keeps_all_second empty p h = tt
  keeps_all_second (field t fs) p h = (keeps_second t p h.0, keeps_all_second fs p h.1)

-- marks ---------------------------------------------------------------------------------------------------------------------

-- of things in order, those that a test holds of are marked with a number that is not 0
module _ {A : Type 0} (test : A → Bool) (number : ℕ) where
  abbrev pub mark : A → ℕ
  mark x = cond (test x) (suc number) 0

  -- the first of some that is marked
  pub record FirstMarked (other : A) (xs : List A) (j : ℕ) : Type 0 where
    pub below : j < length xs
    pub here : test (get_or xs j other) ≡ true
    pub earlier : (i : ℕ) → i < j → test (get_or xs i other) ≡ false

  -- is where the first fault is
  pub marked_first : (other : A) (xs : List A) (k : ℕ) (r : Refusal) → first_fault k (map mark xs) ≡ Err r → (j : ℕ) × (r ≡ refusal (suc number) (k + j)) × FirstMarked other xs j
  unfolding first_fault
  marked_first other [] k r e = absurd (let z : ◌≡◌ {A = ℕ} 0 1 = cc in omega arith)
  marked_first other (x ∷ xs) k r e =
      by_test (test x)
      (λ t. let q : refusal (suc number) k ≡ r = refused_is (rw t at e) in (0, sym q ∙ ap (refusal (suc number)) (omega arith), record { below = omega arith; here = t; earlier = λ i h. absurd (omega arith) }))
      (λ f.
      let rest = marked_first other xs (suc k) r (rw f at e) in
      let m = rest.2 in
      (suc rest.0, rest.1 ∙ ap (refusal (suc number)) (omega arith), record { below = omega (arith, m.below); here = m.here; earlier = earlier f rest.0 m.earlier }))
    where
      refused_is : {q s : Refusal} → ◌≡◌ {A = Verdict} (Err q) (Err s) → q ≡ s
      refused_is h = cc

      earlier : test x ≡ false → (j : ℕ) → ((i : ℕ) → i < j → test (get_or xs i other) ≡ false) → (i : ℕ) → i < suc j → test (get_or (x ∷ xs) i other) ≡ false
      earlier f j before zero h = f
      earlier f j before (suc i) h = before i (omega arith)

  -- where none is refused, none is marked
  pub unmarked : (other : A) (xs : List A) (k : ℕ) → first_fault k (map mark xs) ≡ Ok tt → (j : ℕ) → j < length xs → test (get_or xs j other) ≡ false
  unfolding first_fault
  unmarked other [] k e j h = absurd (omega arith)
  unmarked other (x ∷ xs) k e j h =
      by_test (test x) (λ t. absurd (other_verdict (rw t at e))) (λ f. at j h f (λ i l. unmarked other xs (suc k) (rw f at e) i l))
    where
      other_verdict : {q : Refusal} → ◌≡◌ {A = Verdict} (Err q) (Ok tt) → ⊥
      other_verdict d = let z : ◌≡◌ {A = ℕ} 0 1 = cc in omega arith

      at : (i : ℕ) → i < suc (length xs) → test x ≡ false → ((m : ℕ) → m < length xs → test (get_or xs m other) ≡ false) → test (get_or (x ∷ xs) i other) ≡ false
      at zero l f rest = f
      at (suc i) l f rest = rest i (omega arith)

-- the first edition ---------------------------------------------------------------------------------------------------------

-- it marks with 11, where a tree keeps the second's rules
abbrev pub mark_equal : Kind → ℕ
mark_equal = mark is_equal 10

broken_first : (p : Standing) (s : SlotBytes) (fs : Fields) → KeepsAt SECOND p s fs → broken FIRST p s fs ≡ mark_equal (kind (under_map_of p) s)
unfolding broken rule10 rule11 kind
broken_first p s fs h =
    rw (h.shape, h.agreement, sym (ten_second (annotated s) (under_map_of p)) ∙ h.placement, h.lists, h.maps, eleven_first (annotated s) (under_map_of p) h.decimals) (either (is_equal (kind (under_map_of p) s)))
  where
    either : (b : Bool) → ◌≡◌ {A = ℕ} (cond (not b) 0 11) (cond b 11 0)
    either true = refl
    either false = refl

mutual
  unfolding Keeps faults judged_kinds

  pub faults_first : (t : Tree) (p : Standing) → Keeps SECOND p t → faults FIRST p t ≡ map mark_equal (judged_kinds p t)
  faults_first (node s fs) p h = ap₂ ◌∷◌ (broken_first p s fs h.0) (run_faults_first fs (standing_below p s) h.1)

  run_faults_first : (fs : Fields) (p : Standing) → KeepsAll SECOND p fs → run_faults FIRST p fs ≡ map mark_equal (run_kinds p fs)
  run_faults_first empty p h = refl
  run_faults_first (field t fs) p h =
      ap₂ ◌++◌ (faults_first t p h.0) (run_faults_first fs p h.1) ∙ sym (map-append mark_equal (judged_kinds p t) (run_kinds p fs))

-- the third edition ---------------------------------------------------------------------------------------------------------

-- a node's physical type is INT96
abbrev pub is_int96 : SlotBytes → Bool
is_int96 s = eqb (physical s) INT96

-- its logical type is GEOMETRY or GEOGRAPHY
abbrev pub is_place_type : SlotBytes → Bool
is_place_type s = is_geospatial (logical s)

-- rule 10 there
ten_is : (under : Bool) (s : SlotBytes) → rule10 THIRD under s ≡ (not (is_int96 s) && is_placed (annotated s) under)
unfolding rule10 annotated numbers_of
ten_is under s = ten_third (annotated s) under

ten_other : (under : Bool) (s : SlotBytes) → is_place_type s ≡ false → rule10 SECOND under s ≡ is_placed (annotated s) under
unfolding rule10 annotated numbers_of
ten_other under s e = ten_before (annotated s) under ∙ ap (λ (said : Bool). not said && is_placed (annotated s) under) (not_said (annotated s) under e)

eleven_is : (under : Bool) (s : SlotBytes) → rule11 THIRD under s ≡ rule11 SECOND under s
unfolding rule11
eleven_is under s = eleven_third (annotated s) under

-- an INT96 breaks rule 10 where it keeps 8 and 9
pub broken_int96 : (p : Standing) (s : SlotBytes) (fs : Fields) → is_int96 s ≡ true → broken THIRD p s fs ≡ cond (rule8 p s fs) (cond (rule9 s) MISPLACED DISAGREEMENT) SHAPE
unfolding broken
broken_int96 p s fs t = rw (ten_is (under_map_of p) s, t)

-- and any other node but GEOMETRY and GEOGRAPHY breaks what it does in the second
broken_other : (p : Standing) (s : SlotBytes) (fs : Fields) → is_int96 s ≡ false → is_place_type s ≡ false → broken THIRD p s fs ≡ broken SECOND p s fs
unfolding broken
broken_other p s fs f g = rw (ten_is (under_map_of p) s, f, eleven_is (under_map_of p) s, ten_other (under_map_of p) s g)

-- what a node breaks in the second edition and in the third: the same where it is no INT96; where it is one, the same rule, or 10; and of GEOMETRY and GEOGRAPHY
-- that it breaks some rule where it is an INT96
abbrev Third : SlotBytes → ℕ → ℕ → Type 0
Third s m n = ((is_int96 s ≡ false) × (n ≡ m)) ⊎ (((0 < n) × (n ≡ m)) ⊎ (((is_int96 s ≡ true) × (n ≡ MISPLACED)) ⊎ ((is_place_type s ≡ true) × (is_int96 s ≡ true → 0 < n))))

node_third : (p : Standing) (s : SlotBytes) (fs : Fields) → Third s (broken SECOND p s fs) (broken THIRD p s fs)
unfolding broken
node_third p s fs =
    by_test (is_int96 s)
    (λ t. by_test (rule8 p s fs)
    (λ e. by_test (rule9 s) (λ n. inr (inr (inl (t, broken_int96 p s fs t ∙ rw (e, n))))) (λ n. inr (inl (positive 8 (broken_int96 p s fs t ∙ rw (e, n)), broken_int96 p s fs t ∙ rw (e, n)))))
    (λ e. inr (inl (positive 7 (broken_int96 p s fs t ∙ rw e), broken_int96 p s fs t ∙ rw e))))
    (λ f. by_test (is_place_type s) (λ g. inr (inr (inr (g, λ t. absurd (true≢false (sym t ∙ f)))))) (λ g. inl (f, broken_other p s fs f g)))
  where
    positive : {n : ℕ} (m : ℕ) → n ≡ suc m → 0 < n
    positive m e = omega (arith, e)

-- so of each of some nodes
abbrev Thirds : List SlotBytes → List ℕ → List ℕ → Type 0
Thirds [] [] [] = Unit {0}
Thirds [] [] (n ∷ ns) = ⊥
Thirds [] (m ∷ ms) ns = ⊥
Thirds (s ∷ ss) [] ns = ⊥
Thirds (s ∷ ss) (m ∷ ms) [] = ⊥
Thirds (s ∷ ss) (m ∷ ms) (n ∷ ns) = Third s m n × Thirds ss ms ns

thirds_append : (ss : List SlotBytes) (ms ns : List ℕ) (ss' : List SlotBytes) (ms' ns' : List ℕ) → Thirds ss ms ns → Thirds ss' ms' ns' → Thirds (ss ++ ss') (ms ++ ms') (ns ++ ns')
thirds_append [] [] [] ss' ms' ns' h k = k
thirds_append [] [] (n ∷ ns) ss' ms' ns' h k = absurd h
thirds_append [] (m ∷ ms) ns ss' ms' ns' h k = absurd h
thirds_append (s ∷ ss) [] ns ss' ms' ns' h k = absurd h
thirds_append (s ∷ ss) (m ∷ ms) [] ss' ms' ns' h k = absurd h
thirds_append (s ∷ ss) (m ∷ ms) (n ∷ ns) ss' ms' ns' h k = (h.0, thirds_append ss ms ns ss' ms' ns' h.1 k)

mutual
  unfolding faults listing

  tree_thirds : (t : Tree) (p : Standing) → Thirds (listing t) (faults SECOND p t) (faults THIRD p t)
  tree_thirds (node s fs) p = (node_third p s fs, run_thirds fs (standing_below p s))

  run_thirds : (fs : Fields) (p : Standing) → Thirds (listings fs) (run_faults SECOND p fs) (run_faults THIRD p fs)
  run_thirds empty p = tt
  run_thirds (field t fs) p = thirds_append (listing t) (faults SECOND p t) (faults THIRD p t) (listings fs) (run_faults SECOND p fs) (run_faults THIRD p fs) (tree_thirds t p) (run_thirds fs p)

-- the first of some slots that is an INT96
abbrev pub FirstInt96 : List SlotBytes → ℕ → Type 0
FirstInt96 ss j = FirstMarked is_int96 0 [] ss j

-- one of some slots is GEOMETRY or GEOGRAPHY
abbrev SomePlaceType : List SlotBytes → Type 0
SomePlaceType ss = (j : ℕ) × (j < length ss) × (is_place_type (get_or ss j []) ≡ true)

-- what the third edition answers of nodes from the k-th on, where none is: what the second does, or 10 at the first INT96
abbrev SameOr : List SlotBytes → ℕ → Verdict → Verdict → Type 0
SameOr ss k v w = (v ≡ w) ⊎ (((j : ℕ) × (v ≡ Err (refusal MISPLACED (k + j))) × FirstInt96 ss j) ⊎ SomePlaceType ss)

first_thirds : (ss : List SlotBytes) (ms ns : List ℕ) (k : ℕ) → Thirds ss ms ns → SameOr ss k (first_fault k ns) (first_fault k ms)
unfolding first_fault
first_thirds [] [] [] k h = inl refl
first_thirds [] [] (n ∷ ns) k h = absurd h
first_thirds [] (m ∷ ms) ns k h = absurd h
first_thirds (s ∷ ss) [] ns k h = absurd h
first_thirds (s ∷ ss) (m ∷ ms) [] k h = absurd h
first_thirds (s ∷ ss) (m ∷ ms) (n ∷ ns) k h = at h.0 (first_thirds ss ms ns (suc k) h.1)
  where
    later : is_int96 s ≡ false → SameOr ss (suc k) (first_fault (suc k) ns) (first_fault (suc k) ms) → SameOr (s ∷ ss) k (first_fault (suc k) ns) (first_fault (suc k) ms)
    later f (inl e) = inl e
    later f (inr (inr g)) = inr (inr (suc g.0, omega (arith, g.1), g.2))
    later f (inr (inl r)) =
        inr (inl (suc r.0, r.1 ∙ ap (λ (i : ℕ). Err (refusal MISPLACED i)) (omega arith), record { below = omega (arith, r.2.below); here = r.2.here; earlier = earlier r.0 r.2.earlier }))
      where
        earlier : (j : ℕ) → ((i : ℕ) → i < j → is_int96 (get_or ss i []) ≡ false) → (i : ℕ) → i < suc j → is_int96 (get_or (s ∷ ss) i []) ≡ false
        earlier j before zero l = f
        earlier j before (suc i) l = before i (omega arith)

    same : (x : ℕ) → is_int96 s ≡ false → SameOr ss (suc k) (first_fault (suc k) ns) (first_fault (suc k) ms) → SameOr (s ∷ ss) k (first_fault k (x ∷ ns)) (first_fault k (x ∷ ms))
    same zero f rest = later f rest
    same (suc x) f rest = inl refl

    told : (x : ℕ) → 0 < x → first_fault k (x ∷ ns) ≡ first_fault k (x ∷ ms)
    told zero l = absurd (omega arith)
    told (suc x) l = refl

    at : Third s m n → SameOr ss (suc k) (first_fault (suc k) ns) (first_fault (suc k) ms) → SameOr (s ∷ ss) k (first_fault k (n ∷ ns)) (first_fault k (m ∷ ms))
    at (inl h) rest = rw h.1 (same m h.0 rest)
    at (inr (inl h)) rest = inl (told n h.0 ∙ ap (λ (x : ℕ). first_fault k (x ∷ ms)) h.1)
    at (inr (inr (inl h))) rest =
        inr (inl (0, ap (λ (x : ℕ). first_fault k (x ∷ ns)) h.1 ∙ ap (λ (i : ℕ). Err (refusal MISPLACED i)) (omega arith), record { below = omega arith; here = h.0; earlier = λ i l. absurd (omega arith) }))
    at (inr (inr (inr h))) rest = inr (inr (0, omega arith, h.0))

-- and where it refuses none, none is one
none_thirds : (ss : List SlotBytes) (ms ns : List ℕ) (k : ℕ) → Thirds ss ms ns → first_fault k ns ≡ Ok tt → (j : ℕ) → j < length ss → is_int96 (get_or ss j []) ≡ false
unfolding first_fault
none_thirds [] ms ns k h e j l = absurd (omega arith)
none_thirds (s ∷ ss) [] ns k h e j l = absurd h
none_thirds (s ∷ ss) (m ∷ ms) [] k h e j l = absurd h
none_thirds (s ∷ ss) (m ∷ ms) (suc n ∷ ns) k h e j l = absurd (let z : ◌≡◌ {A = ℕ} 0 1 = cc in omega arith)
none_thirds (s ∷ ss) (m ∷ ms) (zero ∷ ns) k h e zero l = other h.0
  where
    other : Third s m 0 → is_int96 s ≡ false
    other (inl q) = q.0
    other (inr (inl q)) = absurd (omega (arith, q.0))
    other (inr (inr (inl q))) = absurd (omega (arith, q.1))
    other (inr (inr (inr q))) = by_test (is_int96 s) (λ t. absurd (omega (arith, q.1 t))) (λ f. f)
none_thirds (s ∷ ss) (m ∷ ms) (zero ∷ ns) k h e (suc j) l = none_thirds ss ms ns (suc k) h.1 e j (omega arith)

pub keeps_none : (t : Tree) → unlawful THIRD t ≡ Ok tt → (j : ℕ) → j < length (listing t) → is_int96 (get_or (listing t) j []) ≡ false
unfolding unlawful
keeps_none t e = none_thirds (listing t) (faults SECOND Root t) (faults THIRD Root t) 0 (tree_thirds t Root) e

-- so of any slots, whatever else is wrong with them
slots_third : (ss : List SlotBytes) → SameOr ss 0 (tree_refusal THIRD ss) (tree_refusal SECOND ss)
unfolding or_else unlawful
slots_third ss = rw (tree_refusal_places THIRD ss, tree_refusal_places SECOND ss) (places (or_else (left_over ss) (missing ss)) refl)
  where
    deeper : (v : Verdict) → listing (tree_of ss) ≡ ss → SameOr ss 0 (or_else v (unlawful THIRD (tree_of ss))) (or_else v (unlawful SECOND (tree_of ss)))
    deeper (Err r) e = inl refl
    deeper (Ok _) e =
        subst (λ (l : List SlotBytes). SameOr l 0 (unlawful THIRD (tree_of ss)) (unlawful SECOND (tree_of ss))) e
        (first_thirds (listing (tree_of ss)) (faults SECOND Root (tree_of ss)) (faults THIRD Root (tree_of ss)) 0 (tree_thirds (tree_of ss) Root))

    -- where 5 and 6 refuse nothing, the slots are the tree's
    fills : or_else (left_over ss) (missing ss) ≡ Ok tt → listing (tree_of ss) ≡ ss
    fills e = let none = none_or_else _ _ e in fills_listing ss (accepted_fills ss none.0 none.1)

    places : (v : Verdict) → or_else (left_over ss) (missing ss) ≡ v → SameOr ss 0 (or_else v (or_else (too_deep (tree_of ss)) (unlawful THIRD (tree_of ss)))) (or_else v (or_else (too_deep (tree_of ss)) (unlawful SECOND (tree_of ss))))
    places (Err r) e = inl refl
    places (Ok _) e = deeper (too_deep (tree_of ss)) (fills e)

-- and of any sheet, which the second edition may refuse with 4 at the first of the two
abbrev pub Answered : List ℕ → Verdict → Verdict → Type 0
Answered bytes v w =
    (v ≡ w)
    ⊎ (((j : ℕ) × (v ≡ Err (refusal MISPLACED j)) × FirstInt96 (slots bytes) j)
    ⊎ ((j : ℕ) × (w ≡ Err (refusal SLOT j)) × FirstGeospatial bytes j))

pub judgement_third : (bytes : List ℕ) → Answered bytes (judgement THIRD bytes) (judgement SECOND bytes)
unfolding judgement judged_as outcome outcome_of
judgement_third bytes = opened (open_of_third bytes)
  where
    -- a sheet that the second opens has none of the two
    from_first : (t : ℕ) → open_of SECOND bytes ≡ Ok t → {v w : Verdict} → SameOr (slots bytes) 0 v w → Answered bytes v w
    from_first t e (inl q) = inl q
    from_first t e (inr (inl r)) = inr (inl (r.0, r.1 ∙ ap (λ (i : ℕ). Err (refusal MISPLACED i)) (omega arith), r.2))
    from_first t e (inr (inr g)) =
        let low : g.0 < t = omega (arith, g.1, open_of_slots_length SECOND bytes t e) in
        absurd (true≢false (sym g.2 ∙ ap is_place_type (slots_at_lem bytes g.0 [] (omega (arith, low, open_of_total SECOND bytes t e))) ∙ sound_other (slot_at bytes g.0) (open_of_sound SECOND bytes t e g.0 low)))

    on : (c : Counted) → open_of SECOND bytes ≡ c → Answered bytes (judged_as THIRD (outcome_of bytes c)) (judged_as SECOND (outcome_of bytes c))
    on (Ok t) e = from_first t e (slots_third (slots bytes))
    on (Err r) e = inl refl

    opened : Opened bytes (open_of THIRD bytes) (open_of SECOND bytes) → Answered bytes (judged_as THIRD (outcome_of bytes (open_of THIRD bytes))) (judged_as SECOND (outcome_of bytes (open_of SECOND bytes)))
    opened (inl e) = rw e (on (open_of SECOND bytes) refl)
    opened (inr r) = inr (inr (r.0, ap (λ (c : Counted). judged_as SECOND (outcome_of bytes c)) r.1, r.2))
