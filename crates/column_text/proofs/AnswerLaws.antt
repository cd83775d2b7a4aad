-- What is printed of any bytes: the text of their outcome.
-- Assumes nothing.
use Prim.Native.Nat.{ℕ}
use mathlib.Core.List.{List}
use mathlib.Core.Path.{◌≡◌, refl}
use Rattle.column_type.specs.declared.types.ColumnType.{ColumnType}
use Rattle.column.specs.Outcome as column
use Rattle.column.specs.Reading.{read_of}
use Rattle.column_text.specs.Answers.{outcome_text, read_text}

-- in any column
pub read_outcome : (edition : ℕ) (c : ColumnType) (bs : List ℕ) → read_text (read_of edition c bs) ≡ outcome_text (column.outcome edition c bs)
unfolding column.outcome
read_outcome edition c bs = refl
