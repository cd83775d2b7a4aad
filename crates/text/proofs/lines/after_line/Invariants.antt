-- `text::lines::after_line` meets its contract: number by number, with the space before each but the first, and the end of the line.
use mathlib.Core.List.{map}
use mathlib.Core.Path.{◌≡◌}
use lib.ListN.{length, take}
use Rattle.text.specs.Placing.{position_after}
use Rattle.text.specs.Lines.{spaced}
use Rattle.text.specs.Numbers.{decimal_text}
use Rattle.text.proofs.lines.after_line.Given as goal

abbrev pub invariant-loop-i : goal.invariant-loop-i
invariant-loop-i l = l.next ≡ position_after (length l.out) l.at (spaced (map decimal_text (take l.i l.numbers)))
