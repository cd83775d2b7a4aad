-- What comparing two sheets answers in an edition: the number of entries, or a refusal and the sheet at fault; and what the output then holds.
use Rattle.std.specs.Prelude.{ℕ, ◌*◌, cond, List, ◌++◌, ltb, length, drop, Result, Ok, Err}
use Rattle.refusal.specs.Outcome.{short_output}
use Rattle.refusal.specs.Faults.{Sided, given, refused, NEITHER, fault}
use Rattle.sheet.specs.Slot.{slots}
use Rattle.tree.specs.Reading.{tree_of}
use Rattle.matching.specs.Outcome.{matched_of}
use Rattle.refusal.specs.declared.answers.Fault.{Fault}
use Rattle.matching.specs.declared.sheets.Totals.{Totals}
use Rattle.differences.specs.Entry.{Entry, entry_size, list_bytes}
use Rattle.differences.specs.Differences.{differences}

-- the list of two sheets
unfoldable pub list_for : List ℕ → List ℕ → List Entry
list_for first second = differences (tree_of (slots first)) (tree_of (slots second))

-- "the first sheet's, then the second's, then 14": of n entries, where so many bytes are lent
unfoldable pub answer : Result Totals Fault → ℕ → ℕ → Result ℕ Fault
answer (Err f) n lent = Err f
answer (Ok t) n lent = cond (ltb lent (entry_size * n)) (Err (fault NEITHER short_output)) (Ok n)

-- what comparing answers for any bytes and any number of lent bytes
unfoldable pub compare_outcome : ℕ → List ℕ → List ℕ → ℕ → Result ℕ Fault
compare_outcome edition first second lent = answer (matched_of edition first second) (length (list_for first second)) lent

-- what the lent bytes hold afterwards: "the rest of the output stays"
unfoldable pub compare_written : Result ℕ Fault → List ℕ → List ℕ → List ℕ → List ℕ
compare_written (Err f) first second lent = lent
compare_written (Ok n) first second lent = list_bytes (list_for first second) ++ drop (entry_size * n) lent

-- what each answer stands for
abbrev pub outcome_of : Result ℕ Fault → Sided ℕ
outcome_of (Ok n) = given n
outcome_of (Err f) = refused f
