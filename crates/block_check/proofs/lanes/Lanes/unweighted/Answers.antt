-- `block_check::lanes::Lanes::unweighted` meets its contract. The invariant: the sum so far is that of the lanes passed, and bounded.
use Rattle.std.proofs.Common.{◌+◌, refl, sym, ◌∙◌, ap₂, arith}
use Rattle.block_check.specs.Check.{sum_below}
use Rattle.block_check.proofs.SumLaws.{sum_below_more}
use Rattle.block_check.proofs.lanes.Lanes.unweighted.Goals as goal

pub loop-j-init : goal.loop-j-init
unfolding sum_below
loop-j-init c = record { value = refl; bound = omega arith }

pub loop-j-preserved : goal.loop-j-preserved
loop-j-preserved c = record {
  value = ap₂ ◌+◌ c.loop-j.invariant.value (ap₂ ◌+◌ (c.from.ensures ∙ c.low_of.ensures) c.from-in-loop-j.ensures) ∙ sym (sum_below_more _ c.loop-j.j);
  bound = omega arith;
}
