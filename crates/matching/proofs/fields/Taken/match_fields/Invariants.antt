-- `matching::fields::Taken::match_fields` meets its contract: each field takes the candidate that it matches.
use Rattle.matching.proofs.FieldsLaws.{Spread, Headed}
use Rattle.matching.proofs.fields.Taken.match_fields.Given as goal

abbrev pub invariant-loop-place : goal.invariant-loop-place
invariant-loop-place l = Spread l.first.sheet.now l.second.sheet.now l.node l.partner l.count l.others l.initial.self.matches l.self.takers l.self.matches l.from l.at l.place × Headed l.second.sheet.now l.partner l.others l.taker l.self.heads
