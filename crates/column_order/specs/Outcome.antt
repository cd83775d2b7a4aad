-- The outcome of ordering two values: how they stand, or a numbered refusal, its place and the value at fault.
use Rattle.std.specs.Prelude.{ℕ, List, Option, Ok, Err}
use Rattle.std.specs.declared.cmp.Ordering.{Ordering}
use Rattle.refusal.specs.Faults.{Sided, given, refused}
use Rattle.column_type.specs.declared.types.ColumnType.{ColumnType}
use Rattle.column_order.specs.Order.{Order, order_of}

-- what each answer of ordering stands for
abbrev pub outcome_of : Order → Sided (Option Ordering)
outcome_of (Ok r) = given r
outcome_of (Err f) = refused f

-- the outcome of ordering any two values in any column
unfoldable pub outcome : ℕ → ColumnType → List ℕ → List ℕ → Sided (Option Ordering)
outcome edition c a b = outcome_of (order_of edition c a b)
