-- `column::numbers::in_bits` meets its contract: a number has 64 bits, and nothing is left once as many as it has are gone.
-- Assumes nothing.
use mathlib.Core.Path.{sym}
use native.Mathlib.Nat.{lt_of_lt_of_le}
use lib.Pow.{pow_pos, pow_mono}
use borrow.Author.Tests.{lt-ltb}
use Rattle.column.proofs.NumberLaws.{div_eqb}
use Rattle.column.proofs.numbers.in_bits.Goals as goal

pub returns-then-bits-ge-BITS : goal.returns-then-bits-ge-BITS
returns-then-bits-ge-BITS c = sym (lt-ltb _ _ (lt_of_lt_of_le c.ranges.n.fits (pow_mono c.if-bits-ge-BITS.true)))

pub returns : goal.returns
returns c = div_eqb c.args.n _ (pow_pos c.args.bits)
