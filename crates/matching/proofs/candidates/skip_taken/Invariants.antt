-- `matching::candidates::skip_taken` meets its contract: what is passed over is taken.
use Rattle.matching.specs.Steps.{untaken}
use Rattle.matching.proofs.CandidateLaws.{Passed}
use Rattle.matching.proofs.candidates.skip_taken.Given as goal

abbrev pub invariant-loop-place : goal.invariant-loop-place
invariant-loop-place l = Passed (untaken l.takers l.taker) l.side.sheet.now l.fn.from l.count l.number l.place
