-- `c_values::values::order` meets its contract: an order by its number, and a refusal by its parts.
use Prim.Native.Nat.{ℕ}
use mathlib.Core.Path.{sym, ap, ◌∙◌}
use native.Mathlib.Omega.{arith}
use Rattle.column_order.proofs.FaultLaws.{order_bounded}
use Rattle.c_answer.specs.Answers.{packed, RESULT}
use Rattle.c_values.proofs.ValueLaws.{ordering_of}
use Rattle.c_values.proofs.values.order.Goals as goal

pub returns-in-Ok : goal.returns-in-Ok
returns-in-Ok c =
    c.packed.ensures
    ∙ ap (λ (n : ℕ). packed RESULT n) c.relation.ensures
    ∙ sym (ordering_of _ _ _ _ (sym c.in-Ok.is ∙ c.order-order.ensures.value))

pub returns-in-Err : goal.returns-in-Err
returns-in-Err c =
    let bounded = order_bounded _ _ _ _ _ (sym c.order-order.ensures.value ∙ c.in-Err.is) in
    c.faulted.ensures.answer (omega (arith, bounded.refusal.most_place))
    ∙ sym (ordering_of _ _ _ _ (sym c.in-Err.is ∙ c.order-order.ensures.value))
