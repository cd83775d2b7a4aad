-- What comparing answers, case by case, which sheet a refusal is laid on, and what the output then holds.
use Prim.Native.Nat.{ℕ, ◌*◌, ◌≤◌, ◌<◌}
use mathlib.Core.Path.{◌≡◌, refl, sym, ap, ◌∙◌}
use mathlib.Core.Bool.{Bool, true, false, cond}
use mathlib.Core.List.{List}
use mathlib.Core.Logic.{◌⊎◌, inl, inr, ◌↔◌}
use native.Mathlib.Omega.{arith}
use lib.Dec.{ltb}
use lib.ListN.{length}
use borrow.Author.Tests.{lt-ltb, le-ltb, ltb-true}
use Rattle.std.specs.Prelude.{Result, Ok, Err}
use Rattle.refusal.specs.Outcome.{refusal, unknown_edition, short_output}
use Rattle.refusal.specs.Faults.{NEITHER, FIRST, SECOND, fault}
use Rattle.refusal.specs.Numbers.{SHORT_OUTPUT, UNKNOWN_EDITION}
use Rattle.refusal.specs.declared.answers.Fault.{Fault}
use Rattle.refusal.specs.declared.answers.Refusal.{Refusal}
use Rattle.refusal.specs.Outcome.{Verdict}
use Rattle.edition.specs.Editions.{is_known}
use Rattle.sheet.specs.Block.{total_of}
use Rattle.sheet.proofs.OpeningLaws.{open_of_known}
use Rattle.tree.specs.Judgement.{judgement, judged_nodes, judgement_of}
use Rattle.tree.proofs.JudgementLaws.{lawful_opened}
use Rattle.matching.specs.Outcome.{laid_on, both_judged, matched_of}
use Rattle.differences.specs.Entry.{entry_size}
use Rattle.differences.specs.Outcome.{list_for, answer, compare_outcome}

-- ---- by what each sheet is judged

-- 21 before all; the first sheet's refusal, then the second's, then 14 where the output is too short; or n entries
abbrev pub compared_by : Bool → Verdict → Verdict → Bool → ℕ → Result ℕ Fault
compared_by false v w short n = Err (fault NEITHER unknown_edition)
compared_by true (Err r) w short n = Err (fault FIRST r)
compared_by true (Ok _) (Err r) short n = Err (fault SECOND r)
compared_by true (Ok _) (Ok _) true n = Err (fault NEITHER short_output)
compared_by true (Ok _) (Ok _) false n = Ok n

-- a sheet is lawful in a known edition
pub lawful_known : (edition : ℕ) (sheet : List ℕ) → judgement edition sheet ≡ Ok tt → is_known edition ≡ true
lawful_known edition sheet e = let (n, opens) = lawful_opened edition sheet e in open_of_known edition sheet n opens

fault_is : {f g : Fault} → ◌≡◌ {A = Result ℕ Fault} (Err f) (Err g) → f ≡ g
fault_is e = cc

side_is : {f g : Fault} → ◌≡◌ {A = Result ℕ Fault} (Err f) (Err g) → f.side ≡ g.side
side_is e = ap (λ (x : Fault). x.side) (fault_is e)

refusal_is : {f g : Fault} → ◌≡◌ {A = Result ℕ Fault} (Err f) (Err g) → f.refusal ≡ g.refusal
refusal_is e = ap (λ (x : Fault). x.refusal) (fault_is e)

entries_other : {n : ℕ} {f : Fault} → Ok n ≡ Err f → ⊥
entries_other e = let z : ◌≡◌ {A = ℕ} 0 1 = cc in omega arith

module _ (edition : ℕ) (first second : List ℕ) (lent : ℕ) where
  -- how many entries there are, and whether too few bytes are lent for them
  abbrev entries : ℕ
  entries = length (list_for first second)

  abbrev short : Bool
  short = ltb lent (entry_size * entries)

  pub compared_is : compare_outcome edition first second lent ≡ compared_by (is_known edition) (judgement edition first) (judgement edition second) short entries
  unfolding compare_outcome answer matched_of judgement_of judged_nodes
  compared_is = go (is_known edition) (judgement edition first) (judgement edition second)
    where
      last : (s : Bool) → cond s (Err (fault NEITHER short_output)) (Ok entries) ≡ compared_by true (Ok tt) (Ok tt) s entries
      last true = refl
      last false = refl

      go : (k : Bool) (v w : Verdict)
          → answer
          (cond k (both_judged (laid_on FIRST (judged_nodes v (total_of first))) (laid_on SECOND (judged_nodes w (total_of second)))) (Err (fault NEITHER unknown_edition)))
          entries lent
          ≡ compared_by k v w short entries
      go false v w = refl
      go true (Err r) w = refl
      go true (Ok _) (Err r) = refl
      go true (Ok _) (Ok _) = last short

  -- ---- of two accepted sheets

  module _ (one : judgement edition first ≡ Ok tt) (two : judgement edition second ≡ Ok tt) where
    lawful_compared : compare_outcome edition first second lent ≡ compared_by true (Ok tt) (Ok tt) short entries
    lawful_compared = compared_is ∙ rw (lawful_known edition first one, one, two)

    -- the number of entries, where enough bytes are lent
    pub enough_compared : entry_size * entries ≤ lent → compare_outcome edition first second lent ≡ Ok entries
    enough_compared h = lawful_compared ∙ rw (le-ltb lent (entry_size * entries) h)

  -- ---- whose refusal it is

  module _ (number place : ℕ) where
    -- the first sheet's: what judging answers for it
    to_first : compare_outcome edition first second lent ≡ Err (fault FIRST (refusal number place))
        → (is_known edition ≡ true) × (judgement edition first ≡ Err (refusal number place))
    to_first e = go (is_known edition) refl (judgement edition first) refl (judgement edition second) short (sym compared_is ∙ e)
      where
        go : (k : Bool) → is_known edition ≡ k → (v : Verdict) → judgement edition first ≡ v → (w : Verdict) (s : Bool)
            → compared_by k v w s entries ≡ Err (fault FIRST (refusal number place))
            → (is_known edition ≡ true) × (judgement edition first ≡ Err (refusal number place))
        go false p v q w s f = absurd (omega (arith, side_is f))
        go true p (Err r) q w s f = (p, q ∙ ap Err (refusal_is f))
        go true p (Ok _) q (Err r) s f = absurd (omega (arith, side_is f))
        go true p (Ok _) q (Ok _) true f = absurd (omega (arith, side_is f))
        go true p (Ok _) q (Ok _) false f = absurd (entries_other f)

    pub first_exactly : (compare_outcome edition first second lent ≡ Err (fault FIRST (refusal number place)))
        ↔ ((is_known edition ≡ true) × (judgement edition first ≡ Err (refusal number place)))
    first_exactly = (to_first, λ h. compared_is ∙ rw (h.0, h.1))

    -- the second's: the first is accepted, and judging answers it for the second
    to_second : compare_outcome edition first second lent ≡ Err (fault SECOND (refusal number place))
        → (judgement edition first ≡ Ok tt) × (judgement edition second ≡ Err (refusal number place))
    to_second e = go (is_known edition) (judgement edition first) refl (judgement edition second) refl short (sym compared_is ∙ e)
      where
        go : (k : Bool) (v : Verdict) → judgement edition first ≡ v → (w : Verdict) → judgement edition second ≡ w → (s : Bool)
            → compared_by k v w s entries ≡ Err (fault SECOND (refusal number place))
            → (judgement edition first ≡ Ok tt) × (judgement edition second ≡ Err (refusal number place))
        go false v p w q s f = absurd (omega (arith, side_is f))
        go true (Err r) p w q s f = absurd (omega (arith, side_is f))
        go true (Ok _) p (Err r) q s f = (p, q ∙ ap Err (refusal_is f))
        go true (Ok _) p (Ok _) q true f = absurd (omega (arith, side_is f))
        go true (Ok _) p (Ok _) q false f = absurd (entries_other f)

    pub second_exactly : (compare_outcome edition first second lent ≡ Err (fault SECOND (refusal number place)))
        ↔ ((judgement edition first ≡ Ok tt) × (judgement edition second ≡ Err (refusal number place)))
    second_exactly = (to_second, λ h. compared_is ∙ rw (lawful_known edition first h.0, h.0, h.1))

    -- neither's: 21 of an unknown edition, or 14 of an output that is too short for the entries
    abbrev pub OfNeither : Type 0
    OfNeither = ((is_known edition ≡ false) × (number ≡ UNKNOWN_EDITION) × (place ≡ 0))
        ⊎ ((judgement edition first ≡ Ok tt) × (judgement edition second ≡ Ok tt) × (lent < entry_size * entries)
        × (number ≡ SHORT_OUTPUT) × (place ≡ 0))

    to_neither : compare_outcome edition first second lent ≡ Err (fault NEITHER (refusal number place)) → OfNeither
    to_neither e = go (is_known edition) refl (judgement edition first) refl (judgement edition second) refl short refl (sym compared_is ∙ e)
      where
        number_is : {r : Refusal} → r ≡ refusal number place → number ≡ r.number
        number_is f = sym (ap (λ (x : Refusal). x.number) f)

        place_is : {r : Refusal} → r ≡ refusal number place → place ≡ r.place
        place_is f = sym (ap (λ (x : Refusal). x.place) f)

        go : (k : Bool) → is_known edition ≡ k → (v : Verdict) → judgement edition first ≡ v → (w : Verdict) → judgement edition second ≡ w
            → (s : Bool) → short ≡ s → compared_by k v w s entries ≡ Err (fault NEITHER (refusal number place)) → OfNeither
        go false p v q w r s t f = inl (p, number_is (refusal_is f), place_is (refusal_is f))
        go true p (Err x) q w r s t f = absurd (omega (arith, side_is f))
        go true p (Ok _) q (Err x) r s t f = absurd (omega (arith, side_is f))
        go true p (Ok _) q (Ok _) r true t f =
            inr (q, r, ltb-true lent (entry_size * entries) t, number_is (refusal_is f), place_is (refusal_is f))
        go true p (Ok _) q (Ok _) r false t f = absurd (entries_other f)

    from_neither : OfNeither → compare_outcome edition first second lent ≡ Err (fault NEITHER (refusal number place))
    from_neither (inl (u, n, p)) = compared_is ∙ rw (u, n, p)
    from_neither (inr (one, two, h, n, p)) =
        compared_is ∙ rw (lawful_known edition first one, one, two, lt-ltb lent (entry_size * entries) h, n, p)

    pub neither_exactly : (compare_outcome edition first second lent ≡ Err (fault NEITHER (refusal number place))) ↔ OfNeither
    neither_exactly = (to_neither, from_neither)

    -- there is no other side
    pub side_most : (side : ℕ) → compare_outcome edition first second lent ≡ Err (fault side (refusal number place)) → side ≤ 2
    side_most side e = go (is_known edition) (judgement edition first) (judgement edition second) short (sym compared_is ∙ e)
      where
        go : (k : Bool) (v w : Verdict) (s : Bool) → compared_by k v w s entries ≡ Err (fault side (refusal number place)) → side ≤ 2
        go false v w s f = omega (arith, side_is f)
        go true (Err r) w s f = omega (arith, side_is f)
        go true (Ok _) (Err r) s f = omega (arith, side_is f)
        go true (Ok _) (Ok _) true f = omega (arith, side_is f)
        go true (Ok _) (Ok _) false f = absurd (entries_other f)

-- two sheets that are accepted in two editions have one answer in both
pub same_outcome : (edition other : ℕ) (first second : List ℕ) (lent : ℕ)
    → judgement edition first ≡ Ok tt → judgement edition second ≡ Ok tt
    → judgement other first ≡ Ok tt → judgement other second ≡ Ok tt
    → compare_outcome edition first second lent ≡ compare_outcome other first second lent
same_outcome edition other first second lent one two one' two' =
    lawful_compared edition first second lent one two ∙ sym (lawful_compared other first second lent one' two')
