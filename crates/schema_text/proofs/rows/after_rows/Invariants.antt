-- `schema_text::rows::after_rows` meets its contract.
use mathlib.Core.Path.{◌≡◌}
use lib.ListN.{length}
use Rattle.text.specs.Placing.{position_after}
use Rattle.schema_text.specs.Rows.{cut, lines_of}
use Rattle.schema_text.proofs.rows.after_rows.Given as goal

abbrev pub invariant-loop-i : goal.invariant-loop-i
invariant-loop-i l = l.next ≡ position_after (length l.out) l.at (lines_of (cut l.i l.rows))
