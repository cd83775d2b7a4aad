-- `utf8::ascii::is_ascii_double` meets its contract: no highest bit is set in it where none is in either half. Assumes nothing.
use Rattle.utf8.proofs.AsciiLaws.{high_bits_twice}
use Rattle.utf8.proofs.ascii.is_ascii_double.Goals as goal

pub returns : goal.returns
returns c = rw (c.is_ascii_block-first.ensures, c.is_ascii_block-second.ensures) (high_bits_twice 32 _ _)
