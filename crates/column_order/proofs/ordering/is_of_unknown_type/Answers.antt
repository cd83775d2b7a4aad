-- `column_order::ordering::is_of_unknown_type` meets its contract.
-- Assumes nothing.
use Rattle.column_order.proofs.ordering.is_of_unknown_type.Goals as goal

pub returns-in-Err : goal.returns-in-Err
returns-in-Err c = rw c.in-Err.is
