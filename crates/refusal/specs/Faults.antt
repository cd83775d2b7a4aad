-- The outcome of a call on two things, whose refusal says besides "which .. is at fault, 1 or 2, and 0 for neither" (document 02, R-6).
use Rattle.std.specs.Prelude.{ℕ}
use Rattle.refusal.specs.Outcome.{unplaced}
use Rattle.refusal.specs.declared.answers.Refusal.{Refusal}
-- a type of the code: a side and a refusal
use Rattle.refusal.specs.declared.answers.Fault.{Fault}

-- the sides
abbrev pub NEITHER : ℕ
NEITHER = 0

abbrev pub FIRST : ℕ
FIRST = 1

abbrev pub SECOND : ℕ
SECOND = 2

-- a refusal of the thing on a side
abbrev pub fault : ℕ → Refusal → Fault
fault side r = record { side = side; refusal = r }

-- and of neither, which names no place
abbrev pub of_neither : ℕ → Fault
of_neither number = fault NEITHER (unplaced number)

-- what was asked for, or a refusal with its side
pub data Sided (A : Type 0) : Type 0 where
  given : A → Sided A
  refused : Fault → Sided A
