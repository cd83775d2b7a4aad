-- `column::reading::read_both` meets its contract: 21 or 20 for both values, or what is left behind it for each.
-- Assumes nothing.
use Rattle.column.proofs.ReadingLaws.{refused_as, read_as, outcome_is, both_is}
use Rattle.column.proofs.reading.read_both.Goals as goal

pub returns-then-not-is_lawful-clause-value : goal.returns-then-not-is_lawful-clause-value
returns-then-not-is_lawful-clause-value c =
    let s = c.args in both_is s.edition s.c s.a.now s.b.now (refused_as s.edition s.c s.a.now c.if-not-is_lawful.ensures c.type_refusal-refusal.ensures) (refused_as s.edition s.c s.b.now c.if-not-is_lawful.ensures c.type_refusal-refusal.ensures)

pub returns-then-not-is_lawful-clause-first_value : goal.returns-then-not-is_lawful-clause-first_value
returns-then-not-is_lawful-clause-first_value c = let s = c.args in outcome_is s.edition s.c s.a.now (refused_as s.edition s.c s.a.now c.if-not-is_lawful.ensures c.type_refusal-refusal.ensures)

pub returns-then-not-is_lawful-clause-second_value : goal.returns-then-not-is_lawful-clause-second_value
returns-then-not-is_lawful-clause-second_value c = let s = c.args in outcome_is s.edition s.c s.b.now (refused_as s.edition s.c s.b.now c.if-not-is_lawful.ensures c.type_refusal-refusal.ensures)

pub returns-clause-value : goal.returns-clause-value
returns-clause-value c =
    let s = c.args in both_is s.edition s.c s.a.now s.b.now (read_as s.edition s.c s.a.now c.if-not-is_lawful.ensures c.read_lawful-first.ensures) (read_as s.edition s.c s.b.now c.if-not-is_lawful.ensures c.read_lawful-second.ensures)

pub returns-clause-first_value : goal.returns-clause-first_value
returns-clause-first_value c = let s = c.args in outcome_is s.edition s.c s.a.now (read_as s.edition s.c s.a.now c.if-not-is_lawful.ensures c.read_lawful-first.ensures)

pub returns-clause-second_value : goal.returns-clause-second_value
returns-clause-second_value c = let s = c.args in outcome_is s.edition s.c s.b.now (read_as s.edition s.c s.b.now c.if-not-is_lawful.ensures c.read_lawful-second.ensures)
