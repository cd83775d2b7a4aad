-- `differences::marks::mark` meets its contract: each node passed has what it matches marked.
use native.Mathlib.Omega.{arith}
use lib.ListN.{take}
use Rattle.differences.proofs.MarkLaws.{marks_none, marks_next, marks_all}
use Rattle.differences.proofs.marks.mark.Goals as goal

pub loop-matched-init : goal.loop-matched-init
loop-matched-init c = marks_none c.args.matches.now _ c.requires.marks_value

pub loop-matched-preserved : goal.loop-matched-preserved
loop-matched-preserved c = marks_next (take c.args.nodes c.args.matches.now) _ c.loop-matched.matched-index c.loop-matched-test.true c.loop-matched.invariant _ c.mark_one.ensures

pub returns : goal.returns
returns c = marks_all _ _ c.loop-matched.matched-index c.loop-matched.invariant (omega (arith, c.loop-matched-test.false))
