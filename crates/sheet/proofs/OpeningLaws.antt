-- Laws of opening a sheet.
use mathlib.Core.Path.{◌≡◌, refl, sym, ◌∙◌, ap}
use mathlib.Core.Bool.{Bool, true, false, and-eq-true_iff}
use mathlib.Core.List.{List}
use Prim.Native.Nat.{ℕ, ◌*◌, ◌≤◌, ◌<◌}
use native.Mathlib.Nat.{le_of_eq}
use native.Mathlib.Decide.{dec_le}
use native.Mathlib.Omega.{arith}
use lib.ListN.{length}
use borrow.Author.Tests.{lt-ltb, le-ltb}
use Rattle.edition.specs.Editions.{is_known}
use Rattle.sheet.specs.Block.{most_nodes, slots_in_block, block_count, block_at, total_of}
use Rattle.sheet.specs.Check.{check_right}
use Rattle.sheet.specs.Header.{length_right, blocks_for, total_right, numbers_right, header_right}
use Rattle.sheet.specs.Slot.{slot_at, slots}
use Rattle.sheet.specs.Sound.{slot_sound, slot_right}
use Rattle.sheet.specs.First.{first_wrong}
use Rattle.sheet.specs.Opening.{at_first, open_of, BlocksSound, SlotsSound}
use Rattle.sheet.proofs.FirstLaws.{first_wrong_none, first_wrong_all}
use Rattle.sheet.proofs.SlotLaws.{slots_length}
use Rattle.sheet.proofs.SoundLaws.{slot_right_used}
use Rattle.sheet.proofs.HeaderLaws.{length_right_least, block_count_least, total_right_least, total_right_most, total_right_within, total_right_needed}
use Rattle.refusal.specs.Numbers.{SHEET_LENGTH, BLOCK_CHECK, BLOCK_HEADER, SLOT}
use Rattle.refusal.specs.Outcome.{refusal, unplaced, unknown_edition}
use Rattle.refusal.specs.declared.answers.Refusal.{Refusal}
use Rattle.refusal.specs.Outcome.{Counted}
use Rattle.std.specs.Prelude.{Ok, Err}

module _ (right : ℕ → Bool) (n number : ℕ) (next : Counted) where
  -- a first place that is wrong is refused
  pub at_first_at : {i : ℕ} → i ≡ first_wrong right n → i < n → at_first right n number next ≡ Err (refusal number i)
  unfolding at_first
  at_first_at {i} e h = rw (← e, lt-ltb i n h)

  -- where there is none, what follows is the answer
  pub at_first_none : {i : ℕ} → i ≡ first_wrong right n → n ≤ i → at_first right n number next ≡ next
  unfolding at_first
  at_first_none {i} e h = rw (← e, le-ltb i n h)

-- an unknown edition is refused first
pub open_of_unknown : (edition : ℕ) (sheet : List ℕ) → is_known edition ≡ false → open_of edition sheet ≡ Err unknown_edition
unfolding open_of
open_of_unknown edition sheet e = rw e

-- then a wrong length
pub open_of_length : (edition : ℕ) (sheet : List ℕ) → is_known edition ≡ true → length_right (length sheet) ≡ false → open_of edition sheet ≡ Err (unplaced SHEET_LENGTH)
unfolding open_of
open_of_length edition sheet known e = rw (known, e)

module _ (edition : ℕ) (sheet : List ℕ) (known : is_known edition ≡ true) (right : length_right (length sheet) ≡ true) {check : ℕ} (check_is : check ≡ first_wrong (check_right sheet) (block_count sheet)) where
  -- then a wrong check
  pub open_of_check : check < block_count sheet → open_of edition sheet ≡ Err (refusal BLOCK_CHECK check)
  unfolding open_of
  open_of_check h = rw (known, right) (at_first_at _ _ _ _ check_is h)

  module _ (checks : block_count sheet ≤ check) {header : ℕ} (header_is : header ≡ first_wrong (header_right sheet) (block_count sheet)) where
    -- then a wrong header
    pub open_of_header : header < block_count sheet → open_of edition sheet ≡ Err (refusal BLOCK_HEADER header)
    unfolding open_of
    open_of_header h = rw (known, right) (at_first_none _ _ _ _ check_is checks ∙ at_first_at _ _ _ _ header_is h)

    module _ (headers : block_count sheet ≤ header) {slot : ℕ} (slot_is : slot ≡ first_wrong (slot_right edition sheet) (slots_in_block * block_count sheet)) where
      -- then a wrong slot
      pub open_of_slot : slot < slots_in_block * block_count sheet → open_of edition sheet ≡ Err (refusal SLOT slot)
      unfolding open_of
      open_of_slot h =
          rw (known, right) (at_first_none _ _ _ _ check_is checks ∙ at_first_none _ _ _ _ header_is headers ∙ at_first_at _ _ _ _ slot_is h)

      -- and a sheet with nothing wrong has its nodes
      pub open_of_nodes : slots_in_block * block_count sheet ≤ slot → open_of edition sheet ≡ Ok (total_of sheet)
      unfolding open_of
      open_of_nodes h =
          rw (known, right) (at_first_none _ _ _ _ check_is checks ∙ at_first_none _ _ _ _ header_is headers ∙ at_first_none _ _ _ _ slot_is h)

-- a refusal is no number of nodes
pub refused_other : (r : Refusal) (t : ℕ) → ◌≡◌ {A = Counted} (Err r) (Ok t) → ⊥
refused_other r t e = let z : ◌≡◌ {A = ℕ} 0 1 = cc in omega arith

-- an answer of nodes comes past every test
at_first_nodes : (right : ℕ → Bool) (n number : ℕ) (next : Counted) (t : ℕ)
    → at_first right n number next ≡ Ok t
    → ((k : ℕ) → k < n → right k ≡ true) × (next ≡ Ok t)
at_first_nodes right n number next t e = cases (dec_le n (first_wrong right n))
  where
    cases : Dec (n ≤ first_wrong right n) → ((k : ℕ) → k < n → right k ≡ true) × (next ≡ Ok t)
    cases (yes h) = (first_wrong_all right n h, sym (at_first_none right n number next refl h) ∙ e)
    cases (no h) = absurd (refused_other (refusal number (first_wrong right n)) t (sym (at_first_at right n number next refl (omega arith)) ∙ e))

module _ (edition : ℕ) (sheet : List ℕ) (t : ℕ) (opened : open_of edition sheet ≡ Ok t) where
  -- a sheet opens in a known edition
  pub open_of_known : is_known edition ≡ true
  open_of_known = cases (is_known edition) refl
    where
      cases : (b : Bool) → is_known edition ≡ b → is_known edition ≡ true
      cases true e = e
      cases false e = absurd (refused_other unknown_edition t (sym (open_of_unknown edition sheet e) ∙ opened))

  -- and has a right length
  open_of_length_right : length_right (length sheet) ≡ true
  open_of_length_right = cases (length_right (length sheet)) refl
    where
      cases : (b : Bool) → length_right (length sheet) ≡ b → length_right (length sheet) ≡ true
      cases true e = e
      cases false e = absurd (refused_other (unplaced SHEET_LENGTH) t (sym (open_of_length edition sheet open_of_known e) ∙ opened))

  past_length : at_first (check_right sheet) (block_count sheet) BLOCK_CHECK
      (at_first (header_right sheet) (block_count sheet) BLOCK_HEADER
      (at_first (slot_right edition sheet) (slots_in_block * block_count sheet) SLOT
      (Ok (total_of sheet))))
      ≡ Ok t
  unfolding open_of
  past_length = rw (open_of_known, open_of_length_right) at opened

  past_checks : ((i : ℕ) → i < block_count sheet → check_right sheet i ≡ true)
      × (at_first (header_right sheet) (block_count sheet) BLOCK_HEADER
      (at_first (slot_right edition sheet) (slots_in_block * block_count sheet) SLOT
      (Ok (total_of sheet)))
      ≡ Ok t)
  past_checks = at_first_nodes _ _ _ _ t past_length

  past_headers : ((i : ℕ) → i < block_count sheet → header_right sheet i ≡ true)
      × (at_first (slot_right edition sheet) (slots_in_block * block_count sheet) SLOT (Ok (total_of sheet)) ≡ Ok t)
  past_headers = at_first_nodes _ _ _ _ t past_checks.1

  past_slots : ((k : ℕ) → k < slots_in_block * block_count sheet → slot_right edition sheet k ≡ true) × (◌≡◌ {A = Counted} (Ok (total_of sheet)) (Ok t))
  past_slots = at_first_nodes _ _ _ _ t past_headers.1

  -- a sheet that opens has sound blocks
  pub open_of_blocks : BlocksSound sheet
  open_of_blocks = record { length_right_lem = open_of_length_right; checks_right = past_checks.0; headers_right = past_headers.0 }

  -- and sound slots
  pub open_of_slots : SlotsSound edition sheet
  open_of_slots = record { slots_right = past_slots.0 }

  -- and as many nodes as block 0 says
  pub open_of_total : t ≡ total_of sheet
  open_of_total = let e = past_slots.1 in cc

  open_of_total_right : total_right (total_of sheet) (block_count sheet) ≡ true
  unfolding header_right
  open_of_total_right =
      ((and-eq-true_iff (numbers_right (total_of sheet) 0 (block_at sheet 0)) (total_right (total_of sheet) (block_count sheet))).0
      (past_headers.0 0 (block_count_least sheet (length_right_least (length sheet) open_of_length_right)))
      ).1

  -- at least one
  pub open_of_least : 1 ≤ t
  open_of_least = omega (arith, open_of_total, total_right_least (total_of sheet) (block_count sheet) open_of_total_right)

  -- at most 896
  pub open_of_most : t ≤ most_nodes
  open_of_most = omega (arith, open_of_total, total_right_most (total_of sheet) (block_count sheet) open_of_total_right)

  -- all of them in the blocks
  pub open_of_within : t ≤ slots_in_block * block_count sheet
  open_of_within = omega (arith, open_of_total, total_right_within (total_of sheet) (block_count sheet) open_of_total_right)

  -- which are as many as they need
  pub open_of_needed : blocks_for t ≡ block_count sheet
  open_of_needed = ap blocks_for open_of_total ∙ total_right_needed (total_of sheet) (block_count sheet) open_of_total_right

  -- the used slots are as many
  pub open_of_slots_length : length (slots sheet) ≡ t
  open_of_slots_length = slots_length sheet ∙ sym open_of_total

  -- each of them is sound
  pub open_of_sound : (k : ℕ) → k < t → slot_sound edition (slot_at sheet k) ≡ true
  open_of_sound k h =
      sym (slot_right_used edition sheet k (omega (arith, open_of_total))) ∙ past_slots.0 k (omega (arith, open_of_within))

-- a sheet of sound blocks and slots opens in a known edition
pub open_of_accepts : (edition : ℕ) (sheet : List ℕ) → is_known edition ≡ true → BlocksSound sheet → SlotsSound edition sheet → open_of edition sheet ≡ Ok (total_of sheet)
open_of_accepts edition sheet known blocks slots_sound =
    open_of_nodes edition sheet known blocks.length_right_lem refl (le_of_eq (sym (first_wrong_none _ _ blocks.checks_right)))
    refl (le_of_eq (sym (first_wrong_none _ _ blocks.headers_right)))
    refl (le_of_eq (sym (first_wrong_none _ _ slots_sound.slots_right)))
