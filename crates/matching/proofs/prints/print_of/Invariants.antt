-- `matching::prints::print_of` meets its contract: the bytes passed, and those that are left, give the print.
use mathlib.Core.Path.{◌≡◌}
use Rattle.std.specs.Slice.Iter.{chunks_exact_rest, chunks_exact_size}
use Rattle.matching.proofs.PrintLaws.{Printed}
use Rattle.matching.proofs.prints.print_of.Given as goal

abbrev pub invariant-loop-pair : goal.invariant-loop-pair
invariant-loop-pair l = record {
  size : chunks_exact_size l.pair-iterator ≡ 2;
  printed : Printed l.name (chunks_exact_rest l.pair-iterator) l.print;
}
