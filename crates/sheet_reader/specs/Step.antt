-- One step over a sheet that opening has judged ("hands out each slot once, in order, ending after T steps").
use Rattle.std.specs.Prelude.{ℕ, suc, cond, List, ltb, take, drop, Option, Some, None}
use Rattle.sheet.specs.Slot.{numbers_of, slot_at, name}
use Rattle.sheet.specs.Name.{stretch_of}
use Rattle.refusal.specs.Outcome.{Counted}
use Rattle.std.specs.Prelude.{Ok, Err}
use Rattle.sheet.specs.declared.slots.Slot.{Slot as Numbers}
use Rattle.sheet.specs.declared.names.Stretch.{Stretch}

-- how many slots there are to hand out: T, and none of a sheet that is refused
unfoldable pub total : Counted → ℕ
total (Ok t) = t
total (Err r) = 0

-- what a step hands out: a slot's numbers and where its name stands in the sheet, or the end
abbrev pub Step : Type 0
Step = Option (Numbers × Stretch)

-- a node's step: its slot's numbers and where its name stands, or the end
unfoldable pub step_at : List ℕ → ℕ → Counted → Step
step_at sheet node opened = cond (ltb node (total opened)) (Some (numbers_of (slot_at sheet node), stretch_of sheet node)) None

-- the node that a step leads to; the end leads nowhere
unfoldable pub node_after : ℕ → Counted → ℕ
node_after node opened = cond (ltb node (total opened)) (suc node) node

-- what is handed out: a slot's numbers and its name, or nothing any more
pub data Handout : Type 0 where
  handed : Numbers → List ℕ → Handout
  ended : Handout

-- each step's values: the name is the bytes at its stretch
unfoldable pub handout_of : List ℕ → Step → Handout
handout_of sheet (Some (numbers, stretch)) = handed numbers (take stretch.len (drop stretch.start sheet))
handout_of sheet None = ended

-- a slot, handed out
unfoldable pub slot_handed : List ℕ → Handout
slot_handed slot = handed (numbers_of slot) (name slot)
