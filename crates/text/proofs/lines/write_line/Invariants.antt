-- `text::lines::write_line` meets its contract.
use mathlib.Core.List.{map}
use lib.ListN.{take}
use Rattle.text.specs.Lines.{spaced}
use Rattle.text.specs.Numbers.{decimal_text}
use Rattle.text.proofs.PlacingLaws.{Holds}
use Rattle.text.proofs.lines.write_line.Given as goal

abbrev pub invariant-loop-i : goal.invariant-loop-i
invariant-loop-i l = Holds l.initial.out l.out l.at l.next (spaced (map decimal_text (take l.i l.numbers)))
