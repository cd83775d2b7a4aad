-- What the contracts of private functions cite, and no promise to a caller: what a DECIMAL stands on, and the slot of another kind.
use Rattle.std.specs.Prelude.{ℕ, Bool, cond, ◌&&◌, ltb, pos, Option, Some, None}
use Rattle.annotation.specs.Rule10.{decimal_on}
use Rattle.annotation.specs.Rule11.{physical_holds}
use Rattle.tree.specs.Rules.{length_shape}
use Rattle.annotation.specs.declared.slot.Annotated.{Annotated}
use Rattle.column_type.specs.Lawful.{slot_of, signed_numbers, fits, is_leaf}
use Rattle.column_type.specs.declared.types.ColumnType.{ColumnType}

-- a DECIMAL of this precision may stand on a physical type and length: a leaf's, with the length that rule 8 asks for, by rules 10 and 11
unfoldable pub stands_on : ℕ → ℕ → ℕ → Bool
stands_on physical length precision =
    ltb length signed_numbers
    && is_leaf physical
    && length_shape physical (pos length)
    && (decimal_on physical && physical_holds physical length precision)

-- the slot of a column type where each number fits its field
unfoldable pub slot_in : ColumnType → Option Annotated
slot_in c = cond (fits c) (Some (slot_of c)) None
