-- `matching::heads::write_heads` meets its contract: each field passed has its head, or an earlier one of its rest has.
use Rattle.matching.proofs.HeadLaws.{HeadsTo}
use Rattle.matching.proofs.heads.write_heads.Given as goal

abbrev pub invariant-loop-place : goal.invariant-loop-place
invariant-loop-place l = HeadsTo l.side.sheet.now l.fn.start l.count l.taker l.heads l.number l.place
