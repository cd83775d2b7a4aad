-- "A reader keeps hold of the lent sheet and its next node. It opens under refusals 1 to 4 and hands out each slot once, in order, ending after T steps."
use Rattle.std.specs.Prelude.{ℕ, ◌≡◌, List, map}
use Rattle.std.specs.Borrow.{Bor}
use Rattle.sheet.specs.Opening.{outcome, open_of}
use Rattle.sheet.specs.Slot.{slots}
use Rattle.std.specs.Prelude.{Ok}
use Rattle.sheet_reader.specs.Step.{handout_of, slot_handed}
use Rattle.sheet_reader.specs.Reading.{opened_on, moved_by, steps, handouts}

-- a reader opened on any bytes
pub record Reader (edition : ℕ) : Type 1 where
  -- any number of steps hands out, of an accepted sheet, its used slots, each once and in order, and then the end; of a refused sheet nothing
  pub handed_out : (sheet : Bor (List ℕ)) (n : ℕ) → map (handout_of sheet.now) (steps n (opened_on edition sheet)) ≡ handouts (outcome edition sheet.now) n
  -- "ending after T steps": the first T steps hand out all of them
  pub all_handed_out : (sheet : Bor (List ℕ)) (t : ℕ) → open_of edition sheet.now ≡ Ok t → map (handout_of sheet.now) (steps t (opened_on edition sheet)) ≡ map slot_handed (slots sheet.now)
  -- it "keeps hold of the lent sheet": after any number of steps it holds the same, and what opening found
  pub held : (sheet : Bor (List ℕ)) (n : ℕ) → (moved_by n (opened_on edition sheet)).sheet ≡ sheet
  pub found : (sheet : Bor (List ℕ)) (n : ℕ) → (moved_by n (opened_on edition sheet)).opened ≡ open_of edition sheet.now
