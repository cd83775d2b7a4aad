-- What the promises on order speak of: valid values, NaNs, an answer turned round, and answers that say at most.
use Rattle.std.specs.Prelude.{◌≡◌, Bool, false, List, ℕ, Option, Some, None, Ok, Err}
use Rattle.std.specs.declared.cmp.Ordering.{Ordering}
use Rattle.std.specs.declared.cmp.Ordering.TheVariants.{Less, Equal, Greater}
use Rattle.column.specs.Reading.{read_of}
use Rattle.column.specs.declared.value.Value.{Value}
use Rattle.column_type.specs.declared.types.ColumnType.{ColumnType}
use Rattle.float_order.specs.Floats.{less_or_equal}
use Rattle.column_order.specs.Keys.{none, key_of}
use Rattle.column_order.specs.Order.{Order}

-- bytes that a value is read of
abbrev pub Valid : ℕ → ColumnType → List ℕ → Type 0
Valid edition c bs = (x : Value) × (read_of edition c bs ≡ Ok x)

-- a FLOAT or a DOUBLE that is a NaN
abbrev pub NotANumber : ColumnType → List ℕ → Type 0
NotANumber c bs = key_of c bs ≡ none

-- how the second value stands to the first
abbrev pub reversed : Option Ordering → Option Ordering
reversed (Some Less) = Some Greater
reversed (Some Equal) = Some Equal
reversed (Some Greater) = Some Less
reversed None = None

-- the answer with the values exchanged; a refusal, which valid values do not get, stays
abbrev pub turned : Order → Order
turned (Ok r) = Ok (reversed r)
turned (Err f) = Err f

-- the first value is at most the second
abbrev pub at_most : Order → Bool
at_most (Ok r) = less_or_equal r
at_most (Err f) = false
