-- `matching::candidates::first_free` meets its contract: what is passed over is taken or has another name.
use Rattle.matching.specs.Steps.{first_free}
use Rattle.matching.proofs.CandidateLaws.{Passed}
use Rattle.matching.proofs.candidates.first_free.Given as goal

abbrev pub invariant-loop-place : goal.invariant-loop-place
invariant-loop-place l = Passed (first_free l.takers l.taker l.sought.name.now) l.side.sheet.now l.fn.from l.count l.number l.place
