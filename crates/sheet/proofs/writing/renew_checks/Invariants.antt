-- `sheet::writing::renew_checks` meets its contract. The invariant: the checks of the blocks passed are stored.
use mathlib.Core.Path.{◌≡◌}
use lib.ListN.{length}
use Rattle.sheet.specs.Check.{with_checks}
use Rattle.sheet.proofs.writing.renew_checks.Given as goal

abbrev pub invariant-loop-i : goal.invariant-loop-i
invariant-loop-i l = (length l.sheet ≡ length l.initial.sheet) × (l.sheet ≡ with_checks l.initial.sheet l.i)
