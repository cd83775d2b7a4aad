-- `schema::resolving::resolve` meets its contract: refused before anything is written, or the rows of its tree.
use Rattle.std.proofs.lemmas.Result.{err_from_is_err_and}
use Rattle.tree.proofs.JudgementLaws.{judged_total, judged_some, judged_claimed}
use Rattle.tree.proofs.VisitLaws.{root_claimed}
use Rattle.schema.proofs.DepthLaws.{root_deep}
use Rattle.schema.proofs.ResolvingLaws.{resolve_short, resolve_refused, resolve_rows, written_refused, written_rows}
use Rattle.tree.specs.Judgement.{judgement_of}
use Rattle.std.specs.Prelude.{Ok, Err}
use Rattle.schema.specs.Levels.{how_many}
use native.Mathlib.Omega.{arith}
use mathlib.Core.Path.{◌≡◌, refl, sym, ap, ◌∙◌}
use mathlib.Core.List.{[]}
use Rattle.schema.proofs.resolving.resolve.Goals as goal
use Rattle.schema.proofs.resolving.resolve.Goals.{In_ok-total}

nodes : (c : In_ok-total) → judgement_of c.args.edition c.args.sheet.now ≡ Ok c.in_ok-total.total
nodes c = sym c.judge.ensures ∙ c.in_ok-total.was

pub overflow_mul-total : goal.overflow_mul-total
overflow_mul-total c = omega (arith, judged_total _ _ _ (nodes (goal.at.overflow_mul-total c).In_ok-total), (judged_claimed _ _ _ (nodes (goal.at.overflow_mul-total c).In_ok-total)).most)

pub returns-then-rows-total : goal.returns-then-rows-total
returns-then-rows-total c = let short = resolve_short _ _ _ (nodes (goal.at.returns-then-rows-total c).In_ok-total) c.args.rows.now c.if-rows-total.true in record { value = ap Err c.short_output.ensures ∙ sym short; rows_after = written_refused _ _ _ _ short }

pub write_run-requires : goal.write_run-requires
write_run-requires c =
    let known = nodes (goal.at.write_run-requires c).In_ok-total in
    let some = judged_some _ _ _ known in record { claimed = judged_claimed _ _ _ known; count_bound = root_claimed _ (judged_claimed _ _ _ known) some; parent_at_bound = some; sheet_in_bounds = omega (arith, judged_total _ _ _ known, c.if-rows-total.false); levels_at_most = record { definition_most = omega arith; repetition_most = omega arith }; allowed_bound = omega arith; none_too_deep = root_deep _ _ _ known }

pub returns-in_err-total : goal.returns-in_err-total
returns-in_err-total c =
    let p = err_from_is_err_and c.from_residual.result c.from_residual.ensures.1 in
    let refused = resolve_refused _ _ _ c.args.rows.now (sym c.judge.ensures ∙ c.in_err-total.was) in record { value = p.1 ∙ ap Err p.2 ∙ sym refused; rows_after = written_refused _ _ _ _ refused }

pub returns : goal.returns
unfolding how_many
returns c = record { value = sym (resolve_rows _ _ _ (nodes (goal.at.returns c).In_ok-total) c.args.rows.now c.if-rows-total.false); rows_after = written_rows _ _ _ (nodes (goal.at.returns c).In_ok-total) _ _ c.if-rows-total.false (c.write_run.ensures.rows_after [] (record { definition_is = refl; repetition_is = refl })) }
