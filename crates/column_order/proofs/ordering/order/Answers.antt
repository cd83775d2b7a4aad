-- `column_order::ordering::order` meets its contract: decimals in bytes go one way, and all else the other.
-- Assumes nothing.
use mathlib.Core.Path.{◌≡◌, sym, ap, ◌∙◌}
use mathlib.Core.List.{List}
use Prim.Native.Nat.{ℕ}
use Rattle.column_type.specs.declared.types.ColumnType.{ColumnType}
use Rattle.column_order.specs.Order.{Order, order_of}
use Rattle.column_order.specs.Outcome.{outcome_of, outcome}
use Rattle.column_order.proofs.Turning.{faulted}
use Rattle.column_order.proofs.RefusalLaws.{order_unlawful}
use Rattle.column_order.proofs.ordering.order.Goals as goal

-- an answer, and what it stands for
answered : (edition : ℕ) (c : ColumnType) (a b : List ℕ) {o : Order} → o ≡ order_of edition c a b → (o ≡ order_of edition c a b) × (outcome_of o ≡ outcome edition c a b)
unfolding outcome
answered edition c a b e = (e, ap outcome_of e)

pub returns-then-not-is_lawful : goal.returns-then-not-is_lawful
returns-then-not-is_lawful c =
    let s = c.args in
    let e = ap faulted c.unlawful_type.ensures ∙ order_unlawful s.edition s.c s.a.now s.b.now (sym c.is_lawful.ensures ∙ c.if-not-is_lawful.true) in
    let both = answered s.edition s.c s.a.now s.b.now e in
    record { value = both.0; result_value = both.1 }

pub order_decimals-requires : goal.order_decimals-requires
order_decimals-requires c = (sym c.is_lawful.ensures ∙ c.if-not-is_lawful.false, sym c.is_byte_decimal.ensures ∙ c.if-is_byte_decimal.true)

pub returns-then-is_byte_decimal : goal.returns-then-is_byte_decimal
returns-then-is_byte_decimal c =
    let s = c.args in
    let both = answered s.edition s.c s.a.now s.b.now c.order_decimals.ensures in
    record { value = both.0; result_value = both.1 }

pub order_others-requires : goal.order_others-requires
order_others-requires c = sym c.is_byte_decimal.ensures ∙ c.if-is_byte_decimal.false

pub returns : goal.returns
returns c =
    let s = c.args in
    let both = answered s.edition s.c s.a.now s.b.now c.order_others.ensures in
    record { value = both.0; result_value = both.1 }
