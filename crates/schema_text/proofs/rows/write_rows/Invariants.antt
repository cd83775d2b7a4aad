-- `schema_text::rows::write_rows` meets its contract.
use Rattle.text.proofs.PlacingLaws.{Holds}
use Rattle.schema_text.specs.Rows.{cut, lines_of}
use Rattle.schema_text.proofs.rows.write_rows.Given as goal

abbrev pub invariant-loop-i : goal.invariant-loop-i
invariant-loop-i l = Holds l.initial.out l.out l.at l.next (lines_of (cut l.i l.rows))
