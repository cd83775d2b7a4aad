-- `block_check::lanes::Lanes::add` meets its contract. The invariant: the lanes passed have been added to.
use Rattle.std.proofs.Common.{arith}
use Rattle.block_check.proofs.LaneLaws.{filled_none, filled_more}
use Rattle.block_check.proofs.lanes.Lanes.add.Invariants.{sum_of}
use Rattle.block_check.proofs.lanes.Lanes.add.Goals as goal

pub loop-j-init : goal.loop-j-init
loop-j-init c = record { words = filled_none _ _ (omega arith); highs = filled_none _ _ (omega arith) }

pub loop-j-preserved : goal.loop-j-preserved
unfolding sum_of
loop-j-preserved c =
    let words = c.loop-j.invariant.words in
    let highs = c.loop-j.invariant.highs in
    record {
      words = filled_more _ _ c.loop-j.j _ c.loop-j.self.words (omega arith) (omega (arith, words.left c.loop-j.j (omega arith))) words;
      highs = filled_more _ _ c.loop-j.j _ c.loop-j.self.highs (omega arith) (omega (arith, highs.left c.loop-j.j (omega arith))) highs;
    }

pub returns : goal.returns
unfolding sum_of
returns c = record { words = λ j l. c.loop-j.invariant.words.done j (omega arith); highs = λ j l. c.loop-j.invariant.highs.done j (omega arith) }
