-- What opening a sheet gives in an edition: its nodes, or refusal 21, or one of refusals 1 to 4 with its place.
use Rattle.std.specs.Prelude.{◌≡◌, ℕ, ◌*◌, ◌<◌, Bool, true, cond, List, ltb, length}
use Rattle.refusal.specs.Numbers.{SHEET_LENGTH, BLOCK_CHECK, BLOCK_HEADER, SLOT}
use Rattle.refusal.specs.Outcome.{Outcome, given, refused, refusal, unplaced, unknown_edition}
use Rattle.edition.specs.Editions.{is_known}
use Rattle.refusal.specs.Outcome.{Counted}
use Rattle.std.specs.Prelude.{Ok, Err}
use Rattle.sheet.specs.Block.{slots_in_block, block_count, total_of}
use Rattle.sheet.specs.Check.{check_right}
use Rattle.sheet.specs.Slot.{slots}
use Rattle.sheet.specs.Sound.{slot_right}
use Rattle.sheet.specs.Header.{length_right, header_right}
use Rattle.sheet.specs.First.{first_wrong}

-- the refusal of that number at the first of n places where the test fails, or what follows where it fails at none
unfoldable pub at_first : (ℕ → Bool) → ℕ → ℕ → Counted → Counted
at_first right n number next = cond (ltb (first_wrong right n) n) (Err (refusal number (first_wrong right n))) next

-- the answer for any bytes: the edition is judged "before all others", then each refusal over the whole sheet before the next
unfoldable pub open_of : ℕ → List ℕ → Counted
open_of edition sheet =
    cond (is_known edition)
    (cond (length_right (length sheet))
    (at_first (check_right sheet) (block_count sheet) BLOCK_CHECK
    (at_first (header_right sheet) (block_count sheet) BLOCK_HEADER
    (at_first (slot_right edition sheet) (slots_in_block * block_count sheet) SLOT
    (Ok (total_of sheet)))))
    (Err (unplaced SHEET_LENGTH)))
    (Err unknown_edition)

-- "blocks are sound where refusals 1 to 3 don't hold"
pub record BlocksSound (sheet : List ℕ) : Type 0 where
  pub length_right_lem : length_right (length sheet) ≡ true
  pub checks_right : (i : ℕ) → i < block_count sheet → check_right sheet i ≡ true
  pub headers_right : (i : ℕ) → i < block_count sheet → header_right sheet i ≡ true

-- "node slots where 4 doesn't"
pub record SlotsSound (edition : ℕ) (sheet : List ℕ) : Type 0 where
  pub slots_right : (k : ℕ) → k < slots_in_block * block_count sheet → slot_right edition sheet k ≡ true

-- what an opened sheet has: T, and the used slots
pub record Nodes : Type 0 where
  pub total : ℕ
  pub used : List (List ℕ)

-- what each answer stands for
unfoldable pub outcome_of : List ℕ → Counted → Outcome Nodes
outcome_of sheet (Ok t) = given (record { total = t; used = slots sheet })
outcome_of sheet (Err r) = refused r

-- the outcome of any list of bytes in any edition
unfoldable pub outcome : ℕ → List ℕ → Outcome Nodes
outcome edition sheet = outcome_of sheet (open_of edition sheet)
