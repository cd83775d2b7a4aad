-- `little_endian::numbers::store` meets its contract: the bytes are stored from the first on.
use Rattle.little_endian.proofs.NumberLaws.{Stored}
use Rattle.little_endian.proofs.numbers.store.Given as goal

abbrev pub invariant-loop-byte : goal.invariant-loop-byte
invariant-loop-byte l = Stored l.number l.initial.out l.out l.rest l.byte-index
