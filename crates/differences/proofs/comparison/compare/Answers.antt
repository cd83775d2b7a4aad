-- `differences::comparison::compare` meets its contract: sheets of the same bytes have no differences.
use Rattle.differences.proofs.SameLaws.{equal_same}
use Rattle.differences.proofs.ComparedLaws.{compares_self}
use Rattle.differences.proofs.comparison.compare.Goals as goal

pub returns-then-eq : goal.returns-then-eq
returns-then-eq c =
    let both = compares_self _ _ _ _ _ (equal_same _ _ c.eq.ensures c.if-eq.true) c.compare_same.ensures in
    record { value = both.0; out_after = both.1 }
