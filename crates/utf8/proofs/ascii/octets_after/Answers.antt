-- `utf8::ascii::octets_after` meets its contract. The loop's invariant is what is promised of the octets passed.
use mathlib.Core.Path.{refl}
use native.Mathlib.Omega.{arith}
use Rattle.utf8.proofs.ValidLaws.{passes_one}
use Rattle.utf8.proofs.ascii.octets_after.Goals as goal

pub loop-at-preserved : goal.loop-at-preserved
loop-at-preserved c = passes_one _ _ c.loop-at.at _ refl (omega arith) c.if-text-at-gt-UTF8_1_LAST.false c.loop-at.invariant
