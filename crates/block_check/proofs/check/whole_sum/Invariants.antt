-- `block_check::check::whole_sum` meets its contract. The invariant: the sums are those over the bytes of the chunks passed.
use Rattle.std.proofs.Common.{◌+◌, ◌*◌}
use Rattle.block_check.specs.Steps.{chunk_size}
use Rattle.block_check.proofs.LaneLaws.{Summed}
use Rattle.block_check.proofs.check.whole_sum.Given as goal

abbrev pub invariant-loop-turn : goal.invariant-loop-turn
invariant-loop-turn l = Summed l.block (chunk_size * (2 * l.turn)) l.plain l.cumulative

abbrev pub invariant-loop-k : goal.invariant-loop-k
invariant-loop-k l = Summed l.block (chunk_size * (2 * l.turn + l.k)) l.plain l.cumulative
