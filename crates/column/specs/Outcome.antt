-- The outcome of reading a value: the value, or a numbered refusal and its place.
use Rattle.std.specs.Prelude.{ℕ, List, Result, Ok, Err}
use Rattle.refusal.specs.declared.answers.Refusal.{Refusal}
use Rattle.refusal.specs.Outcome.{Outcome, given, refused}
use Rattle.column_type.specs.declared.types.ColumnType.{ColumnType}
use Rattle.column.specs.declared.value.Value.{Value}
use Rattle.column.specs.Reading.{read_of}

-- what each answer of reading stands for
abbrev pub outcome_of : Result Value Refusal → Outcome Value
outcome_of (Ok v) = given v
outcome_of (Err r) = refused r

-- the outcome of reading any bytes in any column
unfoldable pub outcome : ℕ → ColumnType → List ℕ → Outcome Value
outcome edition c bs = outcome_of (read_of edition c bs)
