-- `block_check::lanes::Lanes::of_chunk` meets its contract. The invariant: the lanes passed hold their words.
use Rattle.std.proofs.Common.{arith}
use Rattle.block_check.proofs.LaneLaws.{filled_none, filled_more}
use Rattle.block_check.proofs.lanes.Lanes.of_chunk.Invariants.{word_of, high_of}
use Rattle.block_check.proofs.lanes.Lanes.of_chunk.Goals as goal

pub loop-j-init : goal.loop-j-init
loop-j-init c = record { words = filled_none _ _ (omega arith); highs = filled_none _ _ (omega arith) }

pub loop-j-preserved : goal.loop-j-preserved
unfolding word_of high_of
loop-j-preserved c =
    record {
      words = filled_more _ _ c.loop-j.j _ c.loop-j.lanes.words (omega arith) (omega (arith, c.from_le_bytes-word.ensures)) c.loop-j.invariant.words;
      highs = filled_more _ _ c.loop-j.j _ c.loop-j.lanes.highs (omega arith) (omega (arith, c.from_le_bytes-word.ensures)) c.loop-j.invariant.highs;
    }

pub returns : goal.returns
unfolding word_of high_of
returns c = record { words = λ j l. c.loop-j.invariant.words.done j (omega arith); highs = λ j l. c.loop-j.invariant.highs.done j (omega arith) }
