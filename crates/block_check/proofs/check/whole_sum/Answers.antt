-- `block_check::check::whole_sum` meets its contract. The invariant: the sums are those over the bytes of the chunks passed.
use Rattle.std.proofs.Common.{ℕ, ◌+◌, ◌*◌, ◌-◌, take, drop, arith}
use mathlib.Core.Path.{subst}
use Rattle.block_check.specs.Steps.{chunk_size, OfChunk}
use Rattle.block_check.proofs.LaneLaws.{Summed, summed_none, summed_more}
use Rattle.block_check.proofs.check.whole_sum.Goals as goal
use Rattle.block_check.proofs.check.whole_sum.Goals.{After-unweighted}

pub loop-turn-init : goal.loop-turn-init
loop-turn-init c = rw (c.none-plain.ensures, c.none-cumulative.ensures) (summed_none c.args.block.now)

pub loop-k-preserved : goal.loop-k-preserved
loop-k-preserved c =
    let block = c.args.block.now in
    let n = chunk_size * (2 * c.loop-turn.turn + c.loop-k.k) in
    let words = subst (λ (size : ℕ). OfChunk (take size (drop n block)) c.of_chunk.result) {x = n + chunk_size - n} {y = chunk_size} (omega arith) c.of_chunk.ensures in
    subst (λ (m : ℕ). Summed block m c.add.new.self c.add-in-loop-k.new.self) {x = n + chunk_size} {y = chunk_size * (2 * c.loop-turn.turn + (c.loop-k.k + 1))} (omega arith)
    (summed_more block n c.loop-k.plain c.loop-k.cumulative c.of_chunk.result _ _ (λ i. omega (arith, c.type_inv.block i)) (omega arith) c.loop-k.invariant words c.add.ensures c.add-in-loop-k.ensures)
