-- `matching::sheets::match_sheets` meets its contract.
use mathlib.Core.Path.{sym, ◌∙◌}
use Rattle.std.proofs.Common.{rules}
use Rattle.tree.proofs.JudgementLaws.{judged_total}
use Rattle.matching.specs.Outcome.{matching_of}
use Rattle.matching.proofs.OutcomeLaws.{both_counted, one_tree}
use Rattle.matching.proofs.sheets.match_sheets.Goals as goal

pub returns-in_err-totals : goal.returns-in_err-totals
unfolding matching_of
returns-in_err-totals c = search rules

pub match_nodes-requires : goal.match_nodes-requires
match_nodes-requires c = let both = both_counted _ _ _ _ _ (sym c.judge_both.ensures ∙ c.in_ok-totals.was) in record { one_tree = one_tree _ _ _ both.0; one_tree_2 = one_tree _ _ _ both.1; nodes_value = judged_total _ _ _ both.0; others_value = judged_total _ _ _ both.1 }

pub returns : goal.returns
unfolding matching_of
returns c = search rules
