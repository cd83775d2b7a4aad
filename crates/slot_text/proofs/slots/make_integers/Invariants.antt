-- `slot_text::slots::make_integers` meets its contract: integer by integer, with a space before each but the first.
use Prim.Native.Nat.{◌*◌, ◌<◌}
use mathlib.Core.Path.{◌≡◌}
use lib.ListN.{length, take}
use Rattle.text.proofs.PlacingLaws.{Holds}
use Rattle.slot_text.specs.Slots.{integers_text}
use Rattle.slot_text.proofs.slots.make_integers.Given as goal

abbrev pub invariant-loop-i : goal.invariant-loop-i
invariant-loop-i l = Holds l.initial.room l.room 0 l.next (integers_text (take l.i l.numbers)) × (length l.initial.room ≡ 230) × (length (integers_text (take l.i l.numbers)) < 21 * l.i)
