-- `column::reading::read_lawful` meets its contract: 15, then 16.
-- Assumes nothing.
use mathlib.Core.Path.{sym}
use borrow.Author.Tests.{eq-eqb}
use Rattle.column.specs.Annotations.{keeps}
use Rattle.column.proofs.ReadingLaws.{unknown_place}
use Rattle.column.proofs.reading.read_lawful.Goals as goal

pub returns-then-c-eq-UNKNOWN : goal.returns-then-c-eq-UNKNOWN
unfolding keeps
returns-then-c-eq-UNKNOWN c =
    let s = c.args in
    rw (sym c.if-not-length_right.ensures, eq-eqb _ _ c.if-c-eq-UNKNOWN.true, unknown_place s.c s.value.now c.if-c-eq-UNKNOWN.true)
