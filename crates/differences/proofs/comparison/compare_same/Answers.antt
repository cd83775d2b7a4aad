-- `differences::comparison::compare_same` meets its contract: the sheet's judgement is that of both.
use mathlib.Core.Path.{◌≡◌, refl, sym, ap, ◌∙◌, subst}
use mathlib.Core.Bool.{true}
use Rattle.std.specs.Prelude.{Err}
use Rattle.refusal.specs.Faults.{NEITHER, FIRST, fault}
use Rattle.refusal.specs.declared.answers.Refusal.{Refusal}
use Rattle.std.proofs.Common.{rules}
use Rattle.edition.specs.Editions.{is_known}
use Rattle.tree.specs.Judgement.{judgement_of}
use Rattle.matching.specs.Outcome.{laid_on}
use Rattle.matching.proofs.OutcomeLaws.{matched_unknown}
use Rattle.differences.specs.Steps.{Self}
use Rattle.differences.proofs.ComparedLaws.{self_refused, self_judged_err, self_judged_ok}
use Rattle.differences.proofs.comparison.compare_same.Goals as goal
use Rattle.differences.proofs.comparison.compare_same.Goals.{Else-not-is_known, After-map_err}

-- the edition is known where the sheet is judged
known : (c : Else-not-is_known) → is_known c.args.edition ≡ true
known c = search rules

pub returns-then-not-is_known : goal.returns-then-not-is_known
returns-then-not-is_known c =
    self_refused _ _ _
    (matched_unknown _ _ _ (search rules)
    ∙ sym (ap (λ (r : Refusal). Err (fault NEITHER r)) c.unknown_edition.ensures))

-- what judging the sheet answers is laid on the first
laid : (c : After-map_err) → c.map_err.result ≡ laid_on FIRST (judgement_of c.args.edition c.args.sheet.now)
laid c = search rules

pub returns-in_err-map_err : goal.returns-in_err-map_err
returns-in_err-map_err c =
    let is : c.from_residual.result ≡ Err c.in_err-map_err.field-0.0 = search rules in
    subst (Self c.args.edition c.args.sheet.now) (sym is)
    (self_judged_err _ _ (known (goal.at.returns-in_err-map_err c).Else-not-is_known) _ refl _ (sym (laid (goal.at.returns-in_err-map_err c).After-map_err) ∙ c.in_err-map_err.was))

pub returns : goal.returns
returns c = self_judged_ok _ _ (known (goal.at.returns c).Else-not-is_known) _ refl _ (sym (laid (goal.at.returns c).After-map_err) ∙ c.in_ok-map_err.was)
