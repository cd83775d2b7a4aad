-- `tree::judgement::judge` meets its contract, case by case.
use Rattle.std.proofs.lemmas.Result.{err_from_is_err_and}
use Rattle.tree.proofs.JudgementLaws.{nodes_total, judgement_nodes, judgement_refused}
use Rattle.tree.specs.Judgement.{judgement_of, judged_nodes}
use mathlib.Core.Path.{sym, ◌∙◌}
use Rattle.tree.proofs.judgement.judge.Goals as goal

pub judge_slots-requires : goal.judge_slots-requires
judge_slots-requires c = sym c.open.ensures.value ∙ c.in_ok-total.was

pub returns-in_err-total : goal.returns-in_err-total
unfolding judgement_of judged_nodes
returns-in_err-total c =
    let p = err_from_is_err_and c.from_residual.result c.from_residual.ensures.1 in
    rw (p.1, p.2) (sym (rw (judgement_refused _ _ _ (sym c.open.ensures.value ∙ c.in_err-total.was))))

pub returns-in_err-judge_slots : goal.returns-in_err-judge_slots
unfolding judgement_of judged_nodes
returns-in_err-judge_slots c =
    let p = err_from_is_err_and c.from_residual-in_err-judge_slots.result c.from_residual-in_err-judge_slots.ensures.1 in
    let o = sym c.open.ensures.value ∙ c.in_ok-total.was in
    rw (p.1, p.2, judgement_nodes _ _ _ o, ← c.judge_slots.ensures, c.in_err-judge_slots.was)

pub returns : goal.returns
unfolding judgement_of judged_nodes
returns c =
    let o = sym c.open.ensures.value ∙ c.in_ok-total.was in
    rw (judgement_nodes _ _ _ o, ← nodes_total _ _ _ o, ← c.judge_slots.ensures, c.in_ok-judge_slots.was)
