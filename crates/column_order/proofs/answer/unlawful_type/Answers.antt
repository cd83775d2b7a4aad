-- `column_order::answer::unlawful_type` meets its contract: the column type's refusal, laid on neither value.
-- Assumes nothing.
use mathlib.Core.Path.{ap}
use Rattle.refusal.specs.Faults.{NEITHER, fault}
use Rattle.column_order.proofs.answer.unlawful_type.Goals as goal

pub returns : goal.returns
returns c = ap (fault NEITHER) c.type_refusal-refusal.ensures
