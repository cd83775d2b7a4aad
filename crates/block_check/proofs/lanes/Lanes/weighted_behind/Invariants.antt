-- `block_check::lanes::Lanes::weighted_behind` meets its contract. The invariant: the sum so far is that of the lanes passed, and bounded.
use Rattle.std.proofs.Common.{◌≡◌, ℕ, ◌+◌, ◌*◌, ◌≤◌}
use Rattle.block_check.specs.Check.{block_size, sum_below}
use Rattle.block_check.specs.Steps.{chunk_size, highs_of, lows_of, most_of, pair_weight}
use Rattle.block_check.proofs.lanes.Lanes.weighted_behind.Given as goal

-- what a lane adds at most
abbrev pub most : ℕ
most = 2 * ((block_size + chunk_size) * most_of block_size)

abbrev pub invariant-loop-j : goal.invariant-loop-j
invariant-loop-j l = record {
  value : l.sum ≡ sum_below (pair_weight block_size (lows_of l.self) (highs_of l.self)) l.j;
  bound : l.sum ≤ most * l.j;
}
