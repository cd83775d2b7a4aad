-- Sheets in the editions: what the first accepts the second accepts; what the second accepts and the first refuses, it refuses with 11 at the first DECIMAL whose
-- scale equals its precision. Of any sheet the third answers what the second does, or 10 at the first INT96, or the second refuses it with 4 at the first GEOMETRY
-- or GEOGRAPHY.
use Prim.Native.Nat.{ℕ, zero, suc, ◌+◌, ◌*◌, ◌<◌}
use mathlib.Core.Path.{◌≡◌, refl, sym, ap, ◌∙◌}
use mathlib.Core.Bool.{true, false, true≢false}
use mathlib.Core.Logic.{◌⊎◌, inl, inr}
use mathlib.Core.List.{List, [], map}
use native.Mathlib.Omega.{arith}
use lib.ListN.{length, get_or, drop}
use lib.Seq.{drop-drop}
use Rattle.edition.specs.Editions.{FIRST, SECOND, THIRD}
use Rattle.edition.proofs.EditionLaws.{first, second, known_of}
use Rattle.refusal.specs.Numbers.{SLOT, MISPLACED, BAD_DECIMAL}
use Rattle.refusal.specs.Outcome.{refusal}
use Rattle.refusal.specs.declared.answers.Refusal.{Refusal}
use Rattle.refusal.specs.Outcome.{Verdict}
use Rattle.std.specs.Prelude.{Ok, Err}
use Rattle.annotation.specs.declared.resolution.Kind.{Kind}
use Rattle.annotation.proofs.EditionLaws.{is_equal}
use Rattle.sheet.specs.Block.{total_of}
use Rattle.sheet.specs.Slot.{slot_at, slots}
use Rattle.sheet.proofs.OpeningLaws.{open_of_known, open_of_blocks, open_of_slots, open_of_total, open_of_sound}
use Rattle.sheet.proofs.EditionLaws.{slots_second, slots_first, sound_other, FirstGeospatial}
use Rattle.sheet.proofs.SlotLaws.{slots_at_lem, slots_length}
use Rattle.tree.specs.Tree.{Tree, size}
use Rattle.tree.specs.Reading.{tree_of}
use Rattle.tree.specs.Judgement.{or_else, unlawful, first_fault, judgement}
use Rattle.tree.specs.declared.standing.Standing.TheVariants.{Root}
use Rattle.tree.proofs.FaultLaws.{at_most_deep_none, keeps_none as keeps-lawful, refused_not_lawful}
use Rattle.tree.proofs.TreeOfLaws.{tree_refusal_tree}
use Rattle.tree.proofs.JudgementLaws.{lawful_opened}
use Rattle.tree.proofs.EditionLaws.{keeps_second, marked_first, unmarked, mark_equal, faults_first, is_int96, is_place_type, FirstInt96 as FirstListed, keeps_none, Answered, judgement_third}
use Rattle.schema.specs.Rows.{row_width, rows, number_in, kinds_in}
use Rattle.schema.specs.Demand.{IsTreeOf, Sound, kind_in}
use Rattle.schema.proofs.DemandLaws.{tree_accepted, accepted_tree, sound_judgement}
use Rattle.schema.proofs.RowKindLaws.{rows_kinds}

-- a lawful sheet is sound
lawful_sound : (edition : ℕ) (bytes : List ℕ) → judgement edition bytes ≡ Ok tt → Sound edition bytes
lawful_sound edition bytes e =
    let o = lawful_opened edition bytes e in
    record { known = open_of_known edition bytes o.0 o.1; blocks = open_of_blocks edition bytes o.0 o.1; slots = open_of_slots edition bytes o.0 o.1 }

-- what the first edition accepts, the second accepts
pub second_lawful : (bytes : List ℕ) → judgement FIRST bytes ≡ Ok tt → judgement SECOND bytes ≡ Ok tt
second_lawful bytes e =
    let s = lawful_sound FIRST bytes e in
    let tree = accepted_tree FIRST bytes (sym (sound_judgement FIRST bytes s) ∙ e) in
    sound_judgement SECOND bytes (record { known = known_of second; blocks = s.blocks; slots = slots_second bytes s.slots })
    ∙ tree_accepted SECOND bytes _ (record { deep = tree.deep; keeps = keeps_second _ Root tree.keeps; claims = tree.claims; lists = tree.lists })

-- the kind in a row
kinds_in_at : (numbers : List ℕ) (n k : ℕ) (other : Kind) → k < n → get_or (kinds_in numbers n) k other ≡ kind_in numbers k
unfolding kinds_in number_in
kinds_in_at numbers zero k other h = absurd (omega arith)
kinds_in_at numbers (suc n) zero other h = refl
kinds_in_at numbers (suc n) (suc k) other h =
    let rest : row_width + row_width * k ≡ row_width * suc k = omega arith in
    kinds_in_at (drop row_width numbers) n k other (omega arith)
    ∙ ap (λ (l : List ℕ). record { kind = get_or l 3 0; p1 = get_or l 4 0; p2 = get_or l 5 0 }) (drop-drop (row_width * k) row_width numbers ∙ ap (λ (m : ℕ). drop m numbers) rest)

kinds_in_length : (numbers : List ℕ) (n : ℕ) → length (kinds_in numbers n) ≡ n
unfolding kinds_in
kinds_in_length numbers zero = refl
kinds_in_length numbers (suc n) = ap suc (kinds_in_length (drop row_width numbers) n)

-- the first row that has a DECIMAL whose scale equals its precision
pub record FirstIn (t : Tree) (k : ℕ) : Type 0 where
  pub below : k < size t
  pub here : is_equal (kind_in (rows t) k) ≡ true
  pub earlier : (j : ℕ) → j < k → is_equal (kind_in (rows t) j) ≡ false

module _ (bytes : List ℕ) (t : Tree) (sound : Sound SECOND bytes) (tree : IsTreeOf SECOND bytes t) where
  -- what the first edition answers for a sheet that the second accepts: the first fault of its tree
  verdict_first : judgement FIRST bytes ≡ first_fault 0 (map mark_equal (kinds_in (rows t) (size t)))
  unfolding or_else unlawful
  verdict_first =
      sound_judgement FIRST bytes (record { known = known_of first; blocks = sound.blocks; slots = slots_first bytes sound.slots })
      ∙ tree_refusal_tree FIRST (slots bytes) t tree.claims tree.lists
      ∙ ap (λ (v : Verdict). or_else v (unlawful FIRST t)) (at_most_deep_none t tree.deep)
      ∙ ap (first_fault 0) (faults_first t Root tree.keeps ∙ ap (map mark_equal) (sym (rows_kinds t)))

  abbrev none : Kind
  none = record { kind = 0; p1 = 0; p2 = 0 }

  at_row : (k : ℕ) → k < size t → get_or (kinds_in (rows t) (size t)) k none ≡ kind_in (rows t) k
  at_row k h = kinds_in_at (rows t) (size t) k none h

  pub first_refused : (r : Refusal) → judgement FIRST bytes ≡ Err r → (k : ℕ) × (r ≡ refusal BAD_DECIMAL k) × FirstIn t k
  first_refused r e =
      let found = marked_first is_equal 10 none (kinds_in (rows t) (size t)) 0 r (sym verdict_first ∙ e) in
      let k = found.0 in
      let m = found.2 in
      let low : k < size t = omega (arith, m.below, kinds_in_length (rows t) (size t)) in
      (k, found.1 ∙ ap (refusal BAD_DECIMAL) (omega arith), record { below = low; here = sym (ap is_equal (at_row k low)) ∙ m.here; earlier = λ j h. sym (ap is_equal (at_row j (omega (arith, low, h)))) ∙ m.earlier j h })

  pub first_lawful : judgement FIRST bytes ≡ Ok tt → (k : ℕ) → k < size t → is_equal (kind_in (rows t) k) ≡ false
  first_lawful e k h =
      sym (ap is_equal (at_row k h)) ∙ unmarked is_equal 10 none (kinds_in (rows t) (size t)) 0 (sym verdict_first ∙ e) k (omega (arith, h, kinds_in_length (rows t) (size t)))

-- the first INT96 of a sheet
pub record FirstInt96 (bytes : List ℕ) (k : ℕ) : Type 0 where
  pub below : k < total_of bytes
  pub here : is_int96 (slot_at bytes k) ≡ true
  pub earlier : (j : ℕ) → j < k → is_int96 (slot_at bytes j) ≡ false

-- a sheet without one
abbrev pub NoInt96 : List ℕ → Type 0
NoInt96 bytes = (k : ℕ) → k < total_of bytes → is_int96 (slot_at bytes k) ≡ false

-- and one without GEOMETRY and GEOGRAPHY
abbrev pub NoGeospatial : List ℕ → Type 0
NoGeospatial bytes = (k : ℕ) → k < total_of bytes → is_place_type (slot_at bytes k) ≡ false

module _ (bytes : List ℕ) where
  at_slot : (k : ℕ) → k < total_of bytes → is_int96 (get_or (slots bytes) k []) ≡ is_int96 (slot_at bytes k)
  at_slot k h = ap is_int96 (slots_at_lem bytes k [] h)

  first_listed : (k : ℕ) → FirstListed (slots bytes) k → FirstInt96 bytes k
  first_listed k m =
      let low : k < total_of bytes = omega (arith, m.below, slots_length bytes) in
      record { below = low; here = sym (at_slot k low) ∙ m.here; earlier = λ j h. sym (at_slot j (omega (arith, low, h))) ∙ m.earlier j h }

  -- what the third edition answers of any sheet: what the second does, or 10 at the first INT96; or the second answers 4 at the first GEOMETRY or GEOGRAPHY
  abbrev pub ThirdAnswers : Type 0
  ThirdAnswers =
      (judgement THIRD bytes ≡ judgement SECOND bytes)
      ⊎ (((k : ℕ) × (judgement THIRD bytes ≡ Err (refusal MISPLACED k)) × FirstInt96 bytes k)
      ⊎ ((k : ℕ) × (judgement SECOND bytes ≡ Err (refusal SLOT k)) × FirstGeospatial bytes k))

  pub third_answers : ThirdAnswers
  third_answers = on (judgement_third bytes)
    where
      on : Answered bytes (judgement THIRD bytes) (judgement SECOND bytes) → ThirdAnswers
      on (inl e) = inl e
      on (inr (inl r)) = inr (inl (r.0, r.1, first_listed r.0 r.2))
      on (inr (inr r)) = inr (inr r)

  -- so what the second does, where there is none of these
  pub third_same : NoInt96 bytes → NoGeospatial bytes → judgement THIRD bytes ≡ judgement SECOND bytes
  third_same none other = on third_answers
    where
      on : ThirdAnswers → judgement THIRD bytes ≡ judgement SECOND bytes
      on (inl e) = e
      on (inr (inl r)) = absurd (true≢false (sym r.2.here ∙ none r.0 r.2.below))
      on (inr (inr r)) = absurd (true≢false (sym r.2.here ∙ other r.0 r.2.below))

  -- what it accepts has no INT96
  pub third_none : judgement THIRD bytes ≡ Ok tt → NoInt96 bytes
  third_none e k h =
      let kept = sym (sound_judgement THIRD bytes (lawful_sound THIRD bytes e)) ∙ e in
      let tree = accepted_tree THIRD bytes kept in
      let listed = keeps_none (tree_of (slots bytes)) (keeps-lawful THIRD (tree_of (slots bytes)) tree.keeps) k (omega (arith, h, slots_length bytes, ap length tree.lists)) in
      sym (at_slot k h) ∙ sym (ap (λ (ss : List (List ℕ)). is_int96 (get_or ss k [])) tree.lists) ∙ listed

  -- and what the second accepts has no GEOMETRY and no GEOGRAPHY
  pub second_none : judgement SECOND bytes ≡ Ok tt → NoGeospatial bytes
  second_none e k h =
      let o = lawful_opened SECOND bytes e in
      sound_other (slot_at bytes k) (open_of_sound SECOND bytes o.0 o.1 k (omega (arith, h, open_of_total SECOND bytes o.0 o.1)))

  -- of what the second accepts the third refuses what has an INT96, at the first
  pub third_refused : judgement SECOND bytes ≡ Ok tt → (r : Refusal) → judgement THIRD bytes ≡ Err r → (k : ℕ) × (r ≡ refusal MISPLACED k) × FirstInt96 bytes k
  third_refused lawful r e = on third_answers
    where
      refused_is : {q s : Refusal} → ◌≡◌ {A = Verdict} (Err q) (Err s) → q ≡ s
      refused_is h = cc

      on : ThirdAnswers → (k : ℕ) × (r ≡ refusal MISPLACED k) × FirstInt96 bytes k
      on (inl same) = absurd (refused_not_lawful r (sym e ∙ same ∙ lawful))
      on (inr (inl found)) = (found.0, refused_is (sym e ∙ found.1), found.2)
      on (inr (inr other)) = absurd (refused_not_lawful (refusal SLOT other.0) (sym other.1 ∙ lawful))
