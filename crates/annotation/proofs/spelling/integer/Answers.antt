-- `annotation::spelling::integer` meets its contract: each arm knows the parameters, and the last that they are not valid.
-- Assumes nothing.
use Rattle.logical_type.specs.Parameters.{bit_width_of, valid_parameters}
use Rattle.logical_type.specs.Spelling.{named_of, stated_of}
use Rattle.annotation.specs.Packed.{packed_of}
use Rattle.annotation.proofs.PairLaws.{sized_rest}
use borrow.Author.Rules.{rules}
use Rattle.annotation.proofs.spelling.integer.Goals as goal

pub returns-in_default : goal.returns-in_default
unfolding stated_of valid_parameters named_of bit_width_of packed_of
returns-in_default c = rw (sized_rest c.args.pair (search rules))
