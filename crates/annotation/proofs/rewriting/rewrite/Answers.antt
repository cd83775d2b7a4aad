-- `annotation::rewriting::rewrite` meets its contract: the first rule that is broken tells the answer.
-- Assumes nothing.
use mathlib.Core.Path.{◌≡◌, sym, ap, ◌∙◌}
use borrow.Author.Rules.{rules}
use Rattle.std.specs.Prelude.{Ok, Err}
use Rattle.annotation.specs.Rewriting.{rewriting_of, outcome_of, outcome}
use Rattle.annotation.proofs.SlotLaws.{written_read, broken_read, resolved_read}
use Rattle.annotation.proofs.RewritingLaws.{written_rewriting, refused_rewriting}
use Rattle.annotation.proofs.rewriting.rewrite.Goals as goal

pub returns-in_err-check : goal.returns-in_err-check
unfolding outcome
returns-in_err-check c =
    let broken : c.from_residual.result ≡ Err c.in_err-check.field-0.0 = search rules in
    let refused = broken_read _ _ _ c.annotation-annotation.ensures _ _ (search rules) (sym c.in_err-check.was ∙ c.check.ensures) in
    let value = broken ∙ refused_rewriting _ _ _ _ refused in
    record { value = value; by_index = λ k. ap (outcome_of k) value }

pub returns : goal.returns
unfolding outcome
returns c =
    let a = c.args in
    let resolved = resolved_read _ _ _ c.annotation-annotation.ensures _ (search rules) (sym c.in_ok-check.was ∙ c.check.ensures) in
    let value : Ok c.written_as.result ≡ rewriting_of a.edition a.n a.under_map =
    written_rewriting _ _ _ _ _ resolved (c.written_as.ensures ∙ written_read _ _ _ c.annotation-annotation.ensures) in
    record { value = value; by_index = λ k. ap (outcome_of k) value }
