-- `column::reading::read_bytes` meets its contract, by the kind.
-- Assumes nothing.
use mathlib.Core.Path.{sym}
use borrow.Author.Tests.{eq-eqb, ne_eqb}
use Rattle.column.specs.Annotations.{bytes_keep}
use Rattle.column.proofs.reading.read_bytes.Goals as goal

pub read_decimal-requires : goal.read_decimal-requires
read_decimal-requires c = c.requires (eq-eqb _ _ c.if-c-eq-DECIMAL.true)

pub returns-then-c-eq-DECIMAL : goal.returns-then-c-eq-DECIMAL
unfolding bytes_keep
returns-then-c-eq-DECIMAL c = rw c.if-c-eq-DECIMAL.true c.read_decimal.ensures

pub returns-then-is_text : goal.returns-then-is_text
unfolding bytes_keep
returns-then-is_text c = rw (ne_eqb _ _ c.if-c-eq-DECIMAL.false, sym c.if-is_text.ensures) c.read_text.ensures

pub returns : goal.returns
unfolding bytes_keep
returns c = rw (ne_eqb _ _ c.if-c-eq-DECIMAL.false, sym c.if-is_text.ensures, c.stretch.ensures)
