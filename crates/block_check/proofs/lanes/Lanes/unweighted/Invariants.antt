-- `block_check::lanes::Lanes::unweighted` meets its contract. The invariant: the sum so far is that of the lanes passed, and bounded.
use Rattle.std.proofs.Common.{◌≡◌, ◌*◌, ◌≤◌}
use Rattle.block_check.specs.Check.{sum_below}
use Rattle.block_check.specs.Steps.{highs_of, lows_of, pair_of}
use Rattle.block_check.proofs.lanes.Lanes.unweighted.Given as goal

abbrev pub invariant-loop-j : goal.invariant-loop-j
invariant-loop-j l = record {
  value : l.sum ≡ sum_below (pair_of (lows_of l.self) (highs_of l.self)) l.j;
  bound : l.sum ≤ 2 * 65535 * l.j;
}
