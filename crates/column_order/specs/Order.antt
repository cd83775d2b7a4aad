-- What ordering two values answers, for any column type and any bytes.
use Rattle.std.specs.Prelude.{ℕ, Bool, false, cond, not, ◌&&◌, ◌||◌, List, eqb, Option, Result, Ok, Err}
use Rattle.std.specs.declared.cmp.Ordering.{Ordering}
use Rattle.refusal.specs.declared.answers.Fault.{Fault}
use Rattle.refusal.specs.Faults.{NEITHER, FIRST, SECOND, fault, of_neither}
use Rattle.refusal.specs.Numbers.{NO_ORDER, UNKNOWN_TYPE, UNKNOWN_EDITION}
use Rattle.column_type.specs.declared.types.ColumnType.{ColumnType}
use Rattle.column_type.specs.Lawful.{is_lawful, type_refusal}
use Rattle.parquet.specs.Physical.{INT96}
use Rattle.parquet.specs.Converted.{INTERVAL}
use Rattle.parquet.specs.Logical.{is_geospatial}
use Rattle.column.specs.Reading.{read_of}
use Rattle.column.specs.declared.value.Value.{Value}
use Rattle.refusal.specs.declared.answers.Refusal.{Refusal}
use Rattle.column_order.specs.Keys.{key_of, key_order}

-- what ordering answers: how the first value stands to the second, none where they are unordered; or the first refusal that holds
abbrev pub Order : Type 0
Order = Result (Option Ordering) Fault

-- "INTERVAL and INT96 have none", INT96 whatever its kind is; and GEOMETRY and GEOGRAPHY: "17 for order" (document 02, R-11)
abbrev pub has_order : ColumnType → Bool
has_order c = not (eqb c.physical INT96) && not (eqb c.kind INTERVAL) && not (is_geospatial c.kind)

-- 21 or 20, as reading answers them
abbrev pub is_of_unknown_type : Result Value Refusal → Bool
is_of_unknown_type (Ok v) = false
is_of_unknown_type (Err r) = eqb r.number UNKNOWN_TYPE || eqb r.number UNKNOWN_EDITION

-- the refusal of the value on a side, or what follows where it is read
abbrev pub unless_refused : ℕ → Result Value Refusal → Order → Order
unless_refused side (Ok v) next = next
unless_refused side (Err r) next = Err (fault side r)

-- two values of a column that has an order: the refusal of the first, that of the second, or the order of their keys
abbrev pub values_order : ℕ → ColumnType → List ℕ → List ℕ → Order
values_order edition c a b = unless_refused FIRST (read_of edition c a) (unless_refused SECOND (read_of edition c b) (Ok (key_order (key_of c a) (key_of c b))))

-- "Checks: 20, 17, first value, second value", and 21 "before all others"
unfoldable pub order_of : ℕ → ColumnType → List ℕ → List ℕ → Order
order_of edition c a b = cond (is_lawful edition c) (cond (has_order c) (values_order edition c a b) (Err (of_neither NO_ORDER))) (Err (fault NEITHER (type_refusal edition)))
