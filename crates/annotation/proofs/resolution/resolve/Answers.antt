-- `annotation::resolution::resolve` meets its contract: the first rule that is broken tells the answer.
-- Assumes nothing.
use mathlib.Core.Path.{◌≡◌, sym, ap, ◌∙◌}
use borrow.Author.Rules.{rules}
use Rattle.std.specs.Prelude.{Ok, Err}
use Rattle.annotation.specs.Outcome.{resolution_of, outcome_of, outcome}
use Rattle.annotation.proofs.SlotLaws.{kind_read, broken_read, resolved_read}
use Rattle.annotation.proofs.resolution.resolve.Goals as goal

pub returns-in_err-check : goal.returns-in_err-check
unfolding outcome
returns-in_err-check c =
    let broken : c.from_residual.result ≡ Err c.in_err-check.field-0.0 = search rules in
    let refused = broken_read _ _ _ c.annotation-annotation.ensures _ _ (search rules) (sym c.in_err-check.was ∙ c.check.ensures) in
    let value = broken ∙ sym refused in
    record { value = value; by_index = λ k. ap (outcome_of k) value }

pub returns : goal.returns
unfolding outcome
returns c =
    let a = c.args in
    let resolved = resolved_read _ _ _ c.annotation-annotation.ensures _ (search rules) (sym c.in_ok-check.was ∙ c.check.ensures) in
    let value : Ok c.kind_as.result ≡ resolution_of a.edition a.n a.under_map =
    ap Ok (c.kind_as.ensures ∙ kind_read _ _ _ c.annotation-annotation.ensures) ∙ sym resolved in
    record { value = value; by_index = λ k. ap (outcome_of k) value }
