-- `decimal_bytes::power::scale` meets its contract. The loop's invariant: the bytes from `at` on are scaled, but for the carry. Assumes
-- nothing.
use Rattle.decimal_bytes.proofs.PowerLaws.{Scaled}
use Rattle.decimal_bytes.proofs.power.scale.Given as goal

abbrev pub invariant-loop-at : goal.invariant-loop-at
invariant-loop-at l = Scaled l.initial.bytes l.factor l.bytes l.carry l.at
