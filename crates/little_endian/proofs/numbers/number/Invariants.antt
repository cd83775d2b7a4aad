-- `little_endian::numbers::number` meets its contract: the bytes are read from the last of the first eight on.
use lib.ListN.{take}
use Rattle.little_endian.proofs.NumberLaws.{Read}
use Rattle.little_endian.proofs.numbers.number.Given as goal

abbrev pub invariant-loop-at : goal.invariant-loop-at
invariant-loop-at l = Read (take 8 l.bytes) l.n l.at
