-- `matching::sheets::judge_both` meets its contract, case by case.
use Rattle.std.proofs.Common.{rules}
use Rattle.matching.specs.Outcome.{matched_of}
use Rattle.matching.proofs.sheets.judge_both.Goals as goal

pub returns-then-not-is_known : goal.returns-then-not-is_known
unfolding matched_of
returns-then-not-is_known c = search rules

pub returns-in_err-judged : goal.returns-in_err-judged
unfolding matched_of
returns-in_err-judged c = search rules

pub returns-in_err-judged-2 : goal.returns-in_err-judged-2
unfolding matched_of
returns-in_err-judged-2 c = search rules

pub returns : goal.returns
unfolding matched_of
returns c = search rules
