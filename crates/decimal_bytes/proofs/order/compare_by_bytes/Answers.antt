-- `decimal_bytes::order::compare_by_bytes` meets its contract: wrong lengths first, then the numbers. Assumes nothing.
use mathlib.Core.Path.{sym, ap, ◌∙◌}
use Rattle.decimal_bytes.proofs.OrderLaws.{answer, order_of_order, order_of_wrong_left, order_of_wrong_right}
use Rattle.decimal_bytes.proofs.order.compare_by_bytes.Goals as goal

pub returns-then-not-is_length : goal.returns-then-not-is_length
returns-then-not-is_length c = sym (order_of_wrong_left _ _ (sym c.is_length.ensures ∙ c.if-not-is_length.true))

pub returns-then-not-is_length-2 : goal.returns-then-not-is_length-2
returns-then-not-is_length-2 c = sym (order_of_wrong_right _ _ (sym c.is_length-2.ensures ∙ c.if-not-is_length-2.true))

pub returns : goal.returns
returns c =
    ap answer c.compare_numbers.ensures
    ∙ sym (order_of_order _ _ (sym c.is_length.ensures ∙ c.if-not-is_length.false) (sym c.is_length-2.ensures ∙ c.if-not-is_length-2.false))
