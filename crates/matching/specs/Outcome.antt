-- What matching two sheets answers in an edition: what each node of the first matches, or refusal 21, the first sheet's or the second's, with its side.
use Rattle.std.specs.Prelude.{ℕ, ◌-◌, cond, List, ◌++◌, map, length, replicate, Result, Ok, Err, Option as Found, Some, None}
use Rattle.std.proofs.Math.Option.{Option, none, some}
use Rattle.refusal.specs.Outcome.{unknown_edition}
use Rattle.refusal.specs.Faults.{NEITHER, FIRST, SECOND, fault}
use Rattle.refusal.specs.Outcome.{Counted}
use Rattle.refusal.specs.declared.answers.Fault.{Fault}
use Rattle.edition.specs.Editions.{is_known}
use Rattle.sheet.specs.Block.{most_nodes}
use Rattle.sheet.specs.Slot.{slots}
use Rattle.tree.specs.Reading.{tree_of}
use Rattle.tree.specs.Judgement.{judgement_of}
use Rattle.matching.specs.Matching.{matching}
-- types of the code: what a node matches; how many nodes the first and the second have; and that with what each node matches
use Rattle.matching.specs.declared.fields.Match.{Match}
use Rattle.matching.specs.declared.sheets.Totals.{Totals}
use Rattle.matching.specs.declared.sheets.Matching.{Matching}

-- what a node matches, if it matches one, as the code has it: the code's Option is another type than the definitions' one
abbrev pub held_of : Option Match → Found Match
held_of none = None
held_of (some m) = Some m

-- how many nodes both have
abbrev pub totals : ℕ → ℕ → Totals
totals t u = record { first = t; second = u }

-- what judging a sheet answers, its refusal laid on a side
abbrev pub laid_on : ℕ → Counted → Result ℕ Fault
laid_on side (Err r) = Err (fault side r)
laid_on side (Ok n) = Ok n

-- both judged, the first first
abbrev pub both_judged : Result ℕ Fault → Result ℕ Fault → Result Totals Fault
both_judged (Err f) second = Err f
both_judged (Ok t) (Err f) = Err f
both_judged (Ok t) (Ok u) = Ok (totals t u)

-- "the first sheet's, then the second's"; an edition is at fault in neither
unfoldable pub matched_of : ℕ → List ℕ → List ℕ → Result Totals Fault
matched_of edition first second =
    cond (is_known edition) (both_judged (laid_on FIRST (judgement_of edition first)) (laid_on SECOND (judgement_of edition second))) (Err (fault NEITHER unknown_edition))

-- nothing behind what nodes match
unfoldable pub padded : List (Found Match) → List (Found Match)
padded ms = ms ++ replicate (most_nodes - length ms) None

unfoldable pub matches_of : List ℕ → List ℕ → List (Found Match)
matches_of first second = padded (map held_of (matching (tree_of (slots first)) (tree_of (slots second))))

-- nothing is matched where a sheet is refused
abbrev pub matching_by : Result Totals Fault → List ℕ → List ℕ → Result Matching Fault
matching_by (Err f) first second = Err f
matching_by (Ok t) first second = Ok (record { totals = t; matches = matches_of first second })

unfoldable pub matching_of : ℕ → List ℕ → List ℕ → Result Matching Fault
matching_of edition first second = matching_by (matched_of edition first second) first second
