-- `annotation::slot::converted_alone` meets its contract: each return rewrites with the test that led there.
-- Assumes nothing.
use Rattle.logical_type.specs.Parameters.{valid_parameters}
use Rattle.annotation.specs.Packed.{packed_of}
use Rattle.annotation.proofs.PairLaws.{unused_pair}
use Rattle.annotation.proofs.slot.converted_alone.Goals as goal

pub returns-then-pair-eq-NO_PAIR : goal.returns-then-pair-eq-NO_PAIR
unfolding valid_parameters
returns-then-pair-eq-NO_PAIR c = cc

pub returns : goal.returns
unfolding valid_parameters packed_of
returns c = rw (unused_pair _ c.if-pair-eq-NO_PAIR.false)
