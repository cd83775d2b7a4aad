-- `column::reading::read` meets its contract: 21 and 20, then what is left behind it.
-- Assumes nothing.
use Rattle.column.proofs.ReadingLaws.{refused_as, read_as, outcome_is}
use Rattle.column.proofs.reading.read.Goals as goal

pub returns-then-not-is_lawful-clause-value : goal.returns-then-not-is_lawful-clause-value
returns-then-not-is_lawful-clause-value c = refused_as _ _ _ c.if-not-is_lawful.ensures c.type_refusal.ensures

pub returns-then-not-is_lawful-clause-result_value : goal.returns-then-not-is_lawful-clause-result_value
returns-then-not-is_lawful-clause-result_value c =
    let s = c.args in outcome_is s.edition s.c s.value.now (refused_as s.edition s.c s.value.now c.if-not-is_lawful.ensures c.type_refusal.ensures)

pub returns-clause-value : goal.returns-clause-value
returns-clause-value c = read_as _ _ _ c.if-not-is_lawful.ensures c.read_lawful.ensures

pub returns-clause-result_value : goal.returns-clause-result_value
returns-clause-result_value c =
    let s = c.args in outcome_is s.edition s.c s.value.now (read_as s.edition s.c s.value.now c.if-not-is_lawful.ensures c.read_lawful.ensures)
