-- `column_order::ordering::order_others` meets its contract: 21 or 20 where no value can be read, then 17, then the values.
-- Assumes nothing.
use mathlib.Core.Path.{◌≡◌, sym, ap, ap₂, ◌∙◌}
use mathlib.Core.Bool.{Bool, cond}
use Rattle.refusal.specs.Faults.{FIRST, SECOND, of_neither}
use Rattle.refusal.specs.Numbers.{NO_ORDER}
use Rattle.column.specs.Reading.{read_of}
use Rattle.column.specs.declared.value.Both.{Both}
use Rattle.std.specs.Prelude.{Result}
use Rattle.column.specs.declared.value.Value.{Value}
use Rattle.refusal.specs.declared.answers.Refusal.{Refusal}
use Rattle.column_order.specs.Keys.{key_of, key_order}
use Rattle.column_order.specs.Order.{is_of_unknown_type, unless_refused, values_order, order_of}
use Rattle.column_order.proofs.Turning.{related, faulted}
use Rattle.column_order.proofs.RefusalLaws.{read_unlawful, read_lawful_lem}
use Rattle.column_order.proofs.ordering.order_others.Goals as goal
use Rattle.column_order.proofs.ordering.order_others.Goals.{After-has_order, After-is_of_unknown_type, After-read_both-both}

-- the two values, as they were read
first : (c : After-read_both-both) → let s = c.args in c.read_both-both.result.first ≡ read_of s.edition s.c s.a.now
first c = ap (λ (r : Both). r.first) c.read_both-both.ensures.value

second : (c : After-read_both-both) → let s = c.args in c.read_both-both.result.second ≡ read_of s.edition s.c s.b.now
second c = ap (λ (r : Both). r.second) c.read_both-both.ensures.value

-- the test of 21 and 20, on the first of them
unknown : (c : After-is_of_unknown_type) → let s = c.args in c.is_of_unknown_type.result ≡ is_of_unknown_type (read_of s.edition s.c s.a.now)
unknown c = c.is_of_unknown_type.ensures ∙ ap (λ (r : Both). is_of_unknown_type r.first) c.read_both-both.ensures.value

-- past them, by whether the column has an order
lawful : (c : After-has_order) (t : Bool) → c.has_order.result ≡ t
    → let s = c.args in
    cond t (values_order s.edition s.c s.a.now s.b.now) (faulted (of_neither NO_ORDER)) ≡ order_of s.edition s.c s.a.now s.b.now
lawful c t e =
    let s = c.args in
    ap (λ (u : Bool). cond u (values_order s.edition s.c s.a.now s.b.now) (faulted (of_neither NO_ORDER))) (sym e ∙ c.has_order.ensures)
    ∙ read_lawful_lem s.edition s.c s.a.now s.b.now
    (sym (c.is_of_unknown_type.ensures ∙ ap (λ (r : Both). is_of_unknown_type r.first) c.read_both-both.ensures.value) ∙ c.if-is_of_unknown_type.false)

pub returns-then-is_of_unknown_type : goal.returns-then-is_of_unknown_type
returns-then-is_of_unknown_type c =
    let s = c.args in
    ap faulted c.unlawful_type.ensures ∙ read_unlawful s.edition s.c s.a.now s.b.now (sym (unknown (goal.at.returns-then-is_of_unknown_type c).After-is_of_unknown_type) ∙ c.if-is_of_unknown_type.true)

pub returns-then-not-has_order : goal.returns-then-not-has_order
returns-then-not-has_order c = lawful (goal.at.returns-then-not-has_order c).After-has_order _ c.if-not-has_order.true

pub order_values-requires : goal.order_values-requires
order_values-requires c = (record { edition = c.args.edition; first_is = first (goal.at.order_values-requires c).After-read_both-both; second_is = second (goal.at.order_values-requires c).After-read_both-both }, c.requires)

pub returns : goal.returns
returns c =
    let s = c.args in
    c.order_values.ensures
    ∙ ap₂ (λ (x y : Result Value Refusal). unless_refused FIRST x (unless_refused SECOND y (related (key_order (key_of s.c s.a.now) (key_of s.c s.b.now))))) (first (goal.at.returns c).After-read_both-both) (second (goal.at.returns c).After-read_both-both)
    ∙ lawful (goal.at.returns c).After-has_order _ c.if-not-has_order.false
