-- `block_check::lanes::Lanes::add` meets its contract. The invariant: the lanes passed have been added to.
use Rattle.std.proofs.Common.{ℕ, ◌+◌, ◌%◌, ◌^◌, List, get_or}
use Rattle.block_check.proofs.LaneLaws.{FilledTo}
use Rattle.block_check.proofs.lanes.Lanes.add.Given as goal

unfoldable pub sum_of : List ℕ → List ℕ → ℕ → ℕ
sum_of numbers more j = (get_or numbers j 0 + get_or more j 0) % 2 ^ 16

abbrev pub invariant-loop-j : goal.invariant-loop-j
invariant-loop-j l = record {
  words : FilledTo (sum_of l.initial.self.words l.more.words) l.initial.self.words l.j l.self.words;
  highs : FilledTo (sum_of l.initial.self.highs l.more.highs) l.initial.self.highs l.j l.self.highs;
}
