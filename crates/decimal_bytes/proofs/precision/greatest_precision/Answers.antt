-- `decimal_bytes::precision::greatest_precision` meets its contract: the table's entry of a length that it has. Assumes nothing.
use mathlib.Core.Path.{sym, ◌∙◌}
use Rattle.decimal_bytes.specs.Precision.{greatest_precision}
use Rattle.decimal_bytes.proofs.PrecisionLaws.{is_length_bounds}
use Rattle.decimal_bytes.proofs.precision.greatest_precision.Goals as goal

pub returns-then-not-is_length : goal.returns-then-not-is_length
unfolding greatest_precision
returns-then-not-is_length c = rw (sym c.is_length.ensures ∙ c.if-not-is_length.true)

pub entry_of-requires : goal.entry_of-requires
entry_of-requires c = is_length_bounds _ (sym c.is_length.ensures ∙ c.if-not-is_length.false)
