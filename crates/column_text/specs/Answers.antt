-- What reading a value answers, as text: the value, or `refused N at P`.
use Rattle.std.specs.Prelude.{ℕ, List}
use Rattle.text.specs.Refusals.{refusal_text}
use Rattle.refusal.specs.Outcome.{Outcome, given, refused}
use Rattle.column.specs.Outcome.{outcome_of}
use Rattle.column.specs.declared.value.Value.{Value}
use Rattle.std.specs.Prelude.{Result}
use Rattle.refusal.specs.declared.answers.Refusal.{Refusal}
use Rattle.column_text.specs.Values.{value_text}

-- an outcome of reading
unfoldable pub outcome_text : Outcome Value → List ℕ
outcome_text (given v) = value_text v
outcome_text (refused r) = refusal_text r

-- an answer of reading, by what it stands for
abbrev pub read_text : Result Value Refusal → List ℕ
read_text r = outcome_text (outcome_of r)
