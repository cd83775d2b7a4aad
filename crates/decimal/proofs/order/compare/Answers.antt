-- `decimal::order::compare` meets its contract: by numbers of 128 bits where both are short. Assumes nothing.
use mathlib.Core.Path.{◌≡◌, sym, ap, ap₂, ◌∙◌}
use Prim.Native.Nat.{◌≤◌}
use lib.ListN.{length}
use Rattle.decimal.specs.Outcome.{compared}
use Rattle.decimal_bytes.specs.Order.{order, order_of}
use Rattle.std.specs.Prelude.{Ok}
use Rattle.decimal.proofs.WordLaws.{is_short_bounds, short_length, cmp_order}
use Rattle.decimal_bytes.proofs.OrderLaws.{answer, order_of_order}
use Rattle.decimal.proofs.order.compare.Goals as goal
use Rattle.decimal.proofs.order.compare.Goals.{Then-is_short, Then-is_short-2}

first : (c : Then-is_short) → let n = length c.args.a.now in (1 ≤ n) × (n ≤ 16)
first c = is_short_bounds _ (sym c.is_short.ensures ∙ c.if-is_short.true)

second : (c : Then-is_short-2) → let n = length c.args.b.now in (1 ≤ n) × (n ≤ 16)
second c = is_short_bounds _ (sym c.is_short-then-is_short.ensures ∙ c.if-is_short-2.true)

pub raised-requires : goal.raised-requires
raised-requires c = first (goal.at.raised-requires c).Then-is_short

pub raised-requires-then-is_short-2 : goal.raised-requires-then-is_short-2
raised-requires-then-is_short-2 c = second (goal.at.raised-requires-then-is_short-2 c).Then-is_short-2

pub returns-then-is_short-2 : goal.returns-then-is_short-2
returns-then-is_short-2 c =
    let short-a = first (goal.at.returns-then-is_short-2 c).Then-is_short in
    let short-b = second (goal.at.returns-then-is_short-2 c).Then-is_short-2 in
    let e : Ok c.cmp.result ≡ order_of c.args.a.now c.args.b.now
    = ap answer (c.cmp.ensures ∙ cmp_order c.raised.result c.raised-then-is_short-2.result ∙ ap₂ order c.raised.ensures c.raised-then-is_short-2.ensures)
    ∙ sym (order_of_order _ _ (short_length _ short-a.0 short-a.1) (short_length _ short-b.0 short-b.1)) in
    record { value = e; result_value = ap compared e }

pub returns : goal.returns
returns c = record { value = c.compare_by_bytes.ensures; result_value = ap compared c.compare_by_bytes.ensures }
