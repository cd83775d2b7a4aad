-- What comparing two sheets answers in one number, and how great it is.
use Rattle.std.specs.Prelude.{ℕ, ◌≤◌, Result, Ok, Err}
use Rattle.refusal.specs.Bounds.{FaultBounded}
use Rattle.refusal.specs.declared.answers.Fault.{Fault}
use Rattle.c_answer.specs.Answers.{RESULT, packed, fault_answer}
use Rattle.c_answer.specs.Packing.{PacksResult, PacksFault}

-- the number of entries, or a refusal, which has the sheet at fault where one of ordering has the value
abbrev pub compared_answer : Result ℕ Fault → ℕ
compared_answer (Ok n) = packed RESULT n
compared_answer (Err f) = fault_answer f

-- it has the number of entries, or the refusal with its sheet
abbrev pub PacksCompared : Result ℕ Fault → Type 0
PacksCompared (Ok n) = PacksResult (compared_answer (Ok n)) n
PacksCompared (Err f) = PacksFault (compared_answer (Err f)) f.side f.refusal

-- there are at most so many entries, and a refusal is within these
abbrev pub ComparedBounded : ℕ → ℕ → ℕ → Result ℕ Fault → Type 0
ComparedBounded most number place (Ok n) = n ≤ most
ComparedBounded most number place (Err f) = FaultBounded number place f
