-- `annotation::spelling::with_parameters` meets its contract: each arm knows the code, and the last that the type has no parameters.
-- Assumes nothing.
use borrow.Author.Rules.{rules}
use borrow.Author.Tests.{ne_eqb}
use Rattle.parquet.specs.Logical as logical
use Rattle.logical_type.specs.Parameters.{valid_parameters}
use Rattle.logical_type.specs.Spelling.{stated_of}
use Rattle.annotation.specs.Packed.{packed_of}
use Rattle.annotation.proofs.PairLaws.{unused_pair}
use Rattle.annotation.proofs.spelling.with_parameters.Goals as goal

pub returns-in_default : goal.returns-in_default
unfolding stated_of valid_parameters packed_of
returns-in_default c =
    let code = c.args.logical in
    rw (
      ne_eqb code logical.TIME (search rules),
      ne_eqb code logical.TIMESTAMP (search rules),
      ne_eqb code logical.INTEGER (search rules),
      ne_eqb code logical.GEOGRAPHY (search rules),
      unused_pair _ c.requires,
    )
