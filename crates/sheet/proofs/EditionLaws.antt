-- Opening in the editions: the first two open alike, and the third opens what the second does, and sheets that the second refuses with 4 at the first GEOMETRY or
-- GEOGRAPHY.
-- Assumes nothing.
use Prim.Native.Nat.{ℕ, zero, suc, ◌+◌, ◌*◌, ◌≤◌, ◌<◌}
use mathlib.Core.Path.{◌≡◌, refl, sym, ap, subst, ◌∙◌}
use mathlib.Core.Bool.{Bool, true, false, true≢false, cond, ◌&&◌}
use mathlib.Core.Logic.{◌⊎◌, inl, inr, ⊎_elim}
use mathlib.Core.List.{List}
use native.Mathlib.Omega.{arith}
use native.Mathlib.Nat.{eq-or-lt_of_le}
use lib.Dec.{ltb, eqb}
use lib.ListN.{length}
use borrow.Author.Tests.{ltb-true, lt-ltb, eqb-true}
use Rattle.laws.proofs.BoolLaws.{and_both, is_false, by_test}
use Rattle.edition.specs.Editions.{FIRST, SECOND, THIRD, is_known, has_geospatial}
use Rattle.refusal.specs.Numbers.{SLOT}
use Rattle.refusal.specs.Outcome.{refusal}
use Rattle.refusal.specs.Outcome.{Counted}
use Rattle.std.specs.Prelude.{Ok, Err}
use Rattle.parquet.specs.Logical.{GEOMETRY, GEOGRAPHY, is_geospatial}
use Rattle.sheet.specs.Block.{slots_in_block, block_count, total_of}
use Rattle.sheet.specs.Check.{check_right}
use Rattle.sheet.specs.Header.{length_right, header_right}
use Rattle.sheet.specs.First.{first_wrong_from, first_wrong}
use Rattle.sheet.specs.Slot.{logical, slot_at}
use Rattle.sheet.specs.Sound.{physical_listed, repetition_listed, converted_listed, logical_listed, codes_listed, name_right, slot_sound, slot_right}
use Rattle.sheet.specs.Opening.{at_first, open_of, SlotsSound}

-- the first two ------------------------------------------------------------------------------------------------------------

-- the first two editions list the same codes, so a slot is right in both or in neither
first_right : (sheet : List ℕ) → slot_right SECOND sheet ≡ slot_right FIRST sheet
unfolding slot_right slot_sound codes_listed logical_listed has_geospatial
first_right sheet = refl

pub slots_second : (sheet : List ℕ) → SlotsSound FIRST sheet → SlotsSound SECOND sheet
slots_second sheet s = record { slots_right = λ k h. ap (λ (right : ℕ → Bool). right k) (first_right sheet) ∙ s.slots_right k h }

pub slots_first : (sheet : List ℕ) → SlotsSound SECOND sheet → SlotsSound FIRST sheet
slots_first sheet s = record { slots_right = λ k h. sym (ap (λ (right : ℕ → Bool). right k) (first_right sheet)) ∙ s.slots_right k h }

pub open_of_first : (sheet : List ℕ) → open_of SECOND sheet ≡ open_of FIRST sheet
unfolding open_of is_known
open_of_first sheet = rw (first_right sheet)

-- the third ----------------------------------------------------------------------------------------------------------------

-- a slot that is sound in the second edition is neither GEOMETRY nor GEOGRAPHY
unlisted : (code : ℕ) → is_geospatial code ≡ true → logical_listed SECOND code ≡ false
unfolding logical_listed has_geospatial
unlisted code e =
    by_test (eqb code GEOMETRY)
    (λ t. rw (eqb-true code GEOMETRY t))
    (λ f. rw (eqb-true code GEOGRAPHY (rw f at e)))

pub sound_other : (slot : List ℕ) → slot_sound SECOND slot ≡ true → is_geospatial (logical slot) ≡ false
unfolding slot_sound codes_listed
sound_other slot e =
    let codes = and_both (physical_listed _ && repetition_listed _ && converted_listed _) (logical_listed SECOND (logical slot)) (and_both _ (name_right slot) e).0 in
    is_false _ (λ t. true≢false (sym codes.1 ∙ unlisted (logical slot) t))

-- any other slot is sound in the third exactly where it is in the second
sound_alike : (slot : List ℕ) → is_geospatial (logical slot) ≡ false → slot_sound THIRD slot ≡ slot_sound SECOND slot
unfolding slot_sound codes_listed logical_listed
sound_alike slot e = rw e

-- the slot of a node, and it is one of the two
is_one : List ℕ → ℕ → Bool
is_one sheet k = ltb k (total_of sheet) && is_geospatial (logical (slot_at sheet k))

module _ (sheet : List ℕ) (k : ℕ) where
  -- a slot that is right in the second edition is right in the third, and none of these
  right_too : slot_right SECOND sheet k ≡ true → (slot_right THIRD sheet k ≡ true) × (is_one sheet k ≡ false)
  unfolding slot_right is_one
  right_too e =
      by_test (ltb k (total_of sheet))
      (λ t.
      let sound : slot_sound SECOND (slot_at sheet k) ≡ true = rw t at e in
      let other = sound_other (slot_at sheet k) sound in
      rw (t, other) (sound_alike (slot_at sheet k) other ∙ sound, refl))
      (λ f. rw f ((rw f at e), refl))

  -- and one that is right in the third alone is one
  right_alone : slot_right SECOND sheet k ≡ false → slot_right THIRD sheet k ≡ true → is_one sheet k ≡ true
  unfolding slot_right is_one
  right_alone w r =
      by_test (ltb k (total_of sheet))
      (λ t. rw t (by_test (is_geospatial (logical (slot_at sheet k))) (λ g. g) (λ g. absurd (true≢false (sym (rw t at r) ∙ sound_alike (slot_at sheet k) g ∙ (rw t at w))))))
      (λ f. absurd (true≢false (sym (rw f at r) ∙ (rw f at w))))

-- the first slot that is wrong is the same in both, or it is one of these in the second, and none before it is
abbrev Sooner : List ℕ → ℕ → ℕ → ℕ → Type 0
Sooner sheet k n w = (w < k + n) × (is_one sheet w ≡ true) × ((j : ℕ) → k ≤ j → j < w → is_one sheet j ≡ false)

wrong_third : (sheet : List ℕ) (n k : ℕ) → (first_wrong_from (slot_right THIRD sheet) k n ≡ first_wrong_from (slot_right SECOND sheet) k n) ⊎ Sooner sheet k n (first_wrong_from (slot_right SECOND sheet) k n)
unfolding first_wrong_from
wrong_third sheet zero k = inl refl
wrong_third sheet (suc n) k =
    by_test (slot_right SECOND sheet k)
    (λ e. let both = right_too sheet k e in rw (e, both.0) (later _ _ both.1 (wrong_third sheet n (suc k))))
    (λ e. by_test (slot_right THIRD sheet k) (λ r. rw (e, r) (inr (omega arith, right_alone sheet k e r, λ j l h. absurd (omega arith)))) (λ r. rw (e, r) (inl refl)))
  where
    later : (v w : ℕ) → is_one sheet k ≡ false → (v ≡ w) ⊎ Sooner sheet (suc k) n w → (v ≡ w) ⊎ Sooner sheet k (suc n) w
    later v w none (inl e) = inl e
    later v w none (inr s) = inr (omega (arith, s.0), s.1, before)
      where
        before : (j : ℕ) → k ≤ j → j < w → is_one sheet j ≡ false
        before j l h = ⊎_elim (λ e. subst (λ (i : ℕ). is_one sheet i ≡ false) e none) (λ l'. s.2 j l' h) (eq-or-lt_of_le l)

-- the first GEOMETRY or GEOGRAPHY of a sheet
pub record FirstGeospatial (sheet : List ℕ) (k : ℕ) : Type 0 where
  pub below : k < total_of sheet
  pub here : is_geospatial (logical (slot_at sheet k)) ≡ true
  pub earlier : (j : ℕ) → j < k → is_geospatial (logical (slot_at sheet j)) ≡ false

-- what the third edition answers, and the second
abbrev pub Opened : List ℕ → Counted → Counted → Type 0
Opened sheet c d = (c ≡ d) ⊎ ((k : ℕ) × (d ≡ Err (refusal SLOT k)) × FirstGeospatial sheet k)

through : (sheet : List ℕ) (b : Bool) (x c d : Counted) → Opened sheet c d → Opened sheet (cond b x c) (cond b x d)
through sheet true x c d o = inl refl
through sheet false x c d o = o

through_else : (sheet : List ℕ) (b : Bool) (x c d : Counted) → Opened sheet c d → Opened sheet (cond b c x) (cond b d x)
through_else sheet true x c d o = o
through_else sheet false x c d o = inl refl

slots_third : (sheet : List ℕ) (next : Counted) → let n = slots_in_block * block_count sheet in Opened sheet (at_first (slot_right THIRD sheet) n SLOT next) (at_first (slot_right SECOND sheet) n SLOT next)
unfolding at_first first_wrong is_one
slots_third sheet next = on (wrong_third sheet n 0)
  where
    n : ℕ
    n = slots_in_block * block_count sheet

    w : ℕ
    w = first_wrong_from (slot_right SECOND sheet) 0 n

    answer : ℕ → Counted
    answer i = cond (ltb i n) (Err (refusal SLOT i)) next

    on : (first_wrong_from (slot_right THIRD sheet) 0 n ≡ w) ⊎ Sooner sheet 0 n w → Opened sheet (answer (first_wrong_from (slot_right THIRD sheet) 0 n)) (answer w)
    on (inl e) = inl (ap answer e)
    on (inr s) =
        let one = and_both (ltb w (total_of sheet)) _ s.1 in
        let low = ltb-true w (total_of sheet) one.0 in
        inr (w, rw (lt-ltb w n (omega (arith, s.0))), record { below = low; here = one.1; earlier = λ j h. rw (lt-ltb j (total_of sheet) (omega (arith, h, low))) at (s.2 j (omega arith) h) })

pub open_of_third : (sheet : List ℕ) → Opened sheet (open_of THIRD sheet) (open_of SECOND sheet)
unfolding open_of is_known at_first
open_of_third sheet =
    through_else sheet (length_right (length sheet)) _ _ _
    (through sheet (ltb (first_wrong (check_right sheet) (block_count sheet)) (block_count sheet)) _ _ _
    (through sheet (ltb (first_wrong (header_right sheet) (block_count sheet)) (block_count sheet)) _ _ _
    (slots_third sheet (Ok (total_of sheet)))))
