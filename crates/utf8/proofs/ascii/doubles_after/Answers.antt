-- `utf8::ascii::doubles_after` meets its contract. The loop's invariant is what is promised of the octets passed; the measure is what is
-- left of the length.
use mathlib.Core.Path.{sym, ◌∙◌}
use native.Mathlib.Omega.{arith}
use borrow.Author.Tests.{eqb-true}
use Rattle.utf8.proofs.AsciiLaws.{passes_clear}
use Rattle.utf8.proofs.ascii.doubles_after.Goals as goal

pub loop-at-preserved : goal.loop-at-preserved
loop-at-preserved c =
    let none = eqb-true _ 0 (sym c.is_ascii_double.ensures ∙ c.if-not-is_ascii_double.false) in
    passes_clear 64 _ _ c.loop-at.at (omega arith) none c.loop-at.invariant
