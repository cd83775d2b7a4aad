-- The outcome of a call: "the result or one numbered refusal", which has a place.
use Rattle.std.specs.Prelude.{ℕ, Result, Ok, Err}
-- a type of the code: a number and a place
use Rattle.refusal.specs.declared.answers.Refusal.{Refusal}
use Rattle.refusal.specs.Numbers.{SHORT_OUTPUT, UNKNOWN_EDITION}

-- a refusal of its number and place
abbrev pub refusal : ℕ → ℕ → Refusal
refusal number place = record { number = number; place = place }

-- what was asked for, or a refusal
pub data Outcome (A : Type 0) : Type 0 where
  given : A → Outcome A
  refused : Refusal → Outcome A

-- a refusal that names neither a block nor a node nor a byte: its place is 0
abbrev pub unplaced : ℕ → Refusal
unplaced number = refusal number 0

-- "output too short" is at 0
abbrev pub short_output : Refusal
short_output = unplaced SHORT_OUTPUT

-- "21, edition unknown, .. place 0"
abbrev pub unknown_edition : Refusal
unknown_edition = unplaced UNKNOWN_EDITION

-- what a call answers that tells whether anything is refused
abbrev pub Verdict : Type 0
Verdict = Result (Unit {0}) Refusal

-- nothing is refused
abbrev pub no_refusal : Verdict
no_refusal = Ok tt

-- what a call answers that tells how many there are
abbrev pub Counted : Type 0
Counted = Result ℕ Refusal

-- the outcome of a call that answers whether anything is refused
abbrev pub judged : Verdict → Outcome (Unit {0})
judged (Ok _) = given tt
judged (Err r) = refused r

-- the outcome of a call that answers how many there are
abbrev pub counted : Counted → Outcome ℕ
counted (Ok n) = given n
counted (Err r) = refused r
