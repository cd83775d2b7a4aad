-- `annotation::spelling::timestamp` meets its contract: each arm knows the parameters, and the last that they are not valid.
-- Assumes nothing.
use Rattle.logical_type.specs.Parameters.{unit_of, valid_parameters}
use Rattle.logical_type.specs.Spelling.{named_of, stated_of}
use Rattle.annotation.specs.Packed.{packed_of}
use Rattle.annotation.proofs.PairLaws.{timed_rest}
use borrow.Author.Rules.{rules}
use Rattle.annotation.proofs.spelling.timestamp.Goals as goal

pub returns-in_default : goal.returns-in_default
unfolding stated_of valid_parameters named_of unit_of packed_of
returns-in_default c = rw (timed_rest c.args.pair (search rules))
