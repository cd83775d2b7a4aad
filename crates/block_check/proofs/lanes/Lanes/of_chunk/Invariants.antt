-- `block_check::lanes::Lanes::of_chunk` meets its contract. The invariant: the lanes passed hold their words.
use Rattle.std.proofs.Common.{ℕ, ◌*◌, ◌/◌, List}
use Rattle.block_check.specs.Steps.{word_at}
use Rattle.block_check.proofs.LaneLaws.{FilledTo}
use Rattle.block_check.proofs.lanes.Lanes.of_chunk.Given as goal

unfoldable pub word_of : List ℕ → ℕ → ℕ
word_of chunk j = word_at chunk (2 * j)

unfoldable pub high_of : List ℕ → ℕ → ℕ
high_of chunk j = word_at chunk (2 * j) / 256

abbrev pub invariant-loop-j : goal.invariant-loop-j
invariant-loop-j l = record {
  words : FilledTo (word_of l.chunk) l.initial.lanes.words l.j l.lanes.words;
  highs : FilledTo (high_of l.chunk) l.initial.lanes.highs l.j l.lanes.highs;
}
