-- `tree::judgement::judge_root` meets its contract, case by case.
use Rattle.tree.proofs.JudgementLaws.{run_deep, run_judged}
use Rattle.tree.proofs.VisitLaws.{root_claimed}
use mathlib.Core.Path.{sym, ◌∙◌}
use native.Mathlib.Omega.{arith}
use Rattle.tree.proofs.judgement.judge_root.Goals as goal

pub judge_run-judged-requires : goal.judge_run-judged-requires
judge_run-judged-requires c = record { count_bound = root_claimed _ c.requires.claimed c.requires.sheet_nonzero; allowed_bound = omega arith }

pub returns-in-Err : goal.returns-in-Err
returns-in-Err c = run_deep _ _ c.requires.claimed c.requires.sheet_nonzero _ (sym c.judge_run-judged.ensures ∙ c.in-Err.is)

pub returns-in-Ok : goal.returns-in-Ok
returns-in-Ok c =
    c.verdict_of.ensures
    ∙ run_judged _ _ c.requires.claimed c.requires.sheet_nonzero _ (sym c.judge_run-judged.ensures ∙ c.in-Ok.is)
