-- `utf8::ascii::is_ascii_pair` meets its contract: no highest bit of two words is set where none of either is. Assumes nothing.
use Rattle.utf8.proofs.AsciiLaws.{high_bits_twice}
use Rattle.utf8.proofs.ascii.is_ascii_pair.Goals as goal

pub returns : goal.returns
returns c = rw (c.high_bits-first.ensures, c.high_bits-second.ensures) (high_bits_twice 8 _ _)
