-- `schema::rewriting::rewrite` meets its contract: refused before anything is written, or the rewritten sheet in its stretch.
use Rattle.std.proofs.lemmas.Result.{err_from_is_err_and}
use native.Mathlib.Omega.{arith}
use mathlib.Core.Path.{◌≡◌, sym, ap, ◌∙◌}
use lib.ListN.{length-take, length-drop}
use Rattle.tree.specs.Judgement.{judgement_of}
use Rattle.std.specs.Prelude.{Ok, Err}
use Rattle.schema.proofs.RewriteLaws.{rewrite_refused, rewrite_kept, rewrite_short, rewrite_bytes, rewrite_written_lem}
use Rattle.schema.proofs.rewriting.rewrite.Goals as goal
use Rattle.schema.proofs.rewriting.rewrite.Goals.{In_ok-total}

nodes : (c : In_ok-total) → judgement_of c.args.edition c.args.sheet.now ≡ Ok c.in_ok-total.total
nodes c = sym c.judge.ensures ∙ c.in_ok-total.was

pub returns-then-out-start : goal.returns-then-out-start
returns-then-out-start c = let short = rewrite_short _ c.args.sheet.now c.args.out.now c.args.start _ (nodes (goal.at.returns-then-out-start c).In_ok-total) (omega (arith, c.if-out-start.true)) in record { value = ap Err c.short_output.ensures ∙ sym short; out_after = sym (rewrite_kept _ _ _ _ _ short) }

pub returns-then-out-start-2 : goal.returns-then-out-start-2
returns-then-out-start-2 c = let short = rewrite_short _ c.args.sheet.now c.args.out.now c.args.start _ (nodes (goal.at.returns-then-out-start-2 c).In_ok-total) (omega (arith, c.if-out-start-2.true)) in record { value = ap Err c.short_output-then-out-start-2.ensures ∙ sym short; out_after = sym (rewrite_kept _ _ _ _ _ short) }

pub write_sheet-requires : goal.write_sheet-requires
write_sheet-requires c = record { accepted_of = (_, nodes (goal.at.write_sheet-requires c).In_ok-total); out_len = simp (length-take, length-drop) (omega arith) }

pub returns-in_err-total : goal.returns-in_err-total
returns-in_err-total c =
    let p = err_from_is_err_and c.from_residual.result c.from_residual.ensures.1 in
    let refused = rewrite_refused _ c.args.sheet.now c.args.out.now c.args.start _ (sym c.judge.ensures ∙ c.in_err-total.was) in record { value = p.1 ∙ ap Err p.2 ∙ sym refused; out_after = sym (rewrite_kept _ _ _ _ _ refused) }

pub returns : goal.returns
returns c = record { value = sym (rewrite_bytes _ c.args.sheet.now c.args.out.now c.args.start _ (nodes (goal.at.returns c).In_ok-total) (omega arith)); out_after = rewrite_written_lem _ c.args.sheet.now c.args.out.now c.args.start _ (nodes (goal.at.returns c).In_ok-total) (omega arith) _ c.write_sheet.ensures }
