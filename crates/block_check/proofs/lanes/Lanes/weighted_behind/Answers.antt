-- `block_check::lanes::Lanes::weighted_behind` meets its contract. The invariant: the sum so far is that of the lanes passed, and bounded.
use Rattle.std.proofs.Common.{ℕ, ◌+◌, ◌*◌, refl, sym, ap, ◌∙◌, ap₂, arith}
use Rattle.block_check.specs.Check.{block_size, sum_below}
use Rattle.block_check.specs.Steps.{pair_weight}
use Rattle.block_check.proofs.SumLaws.{sum_below_more}
use Rattle.block_check.proofs.lanes.Lanes.weighted_behind.Goals as goal

pub loop-j-init : goal.loop-j-init
unfolding sum_below
loop-j-init c = record { value = refl; bound = omega arith }

pub loop-j-preserved : goal.loop-j-preserved
unfolding pair_weight
loop-j-preserved c =
    let low = c.weigh.ensures.value ∙ ap (λ (n : ℕ). (block_size + 2 * c.loop-j.j + 1) * n) c.low_of-low.ensures in
    record {
      value = ap₂ ◌+◌ c.loop-j.invariant.value (ap₂ ◌+◌ low c.weigh-in-loop-j.ensures.value) ∙ sym (sum_below_more _ c.loop-j.j);
      bound = omega arith;
    }
