-- `differences::comparison::compare_nodes` meets its contract: a refusal of either sheet, or what their list answers.
use mathlib.Core.Path.{◌≡◌, sym, ◌∙◌}
use Rattle.std.proofs.Common.{rules}
use Rattle.std.specs.Prelude.{Err}
use Rattle.differences.proofs.ComparedLaws.{comparable_both, compares_listed, compares_refused}
use Rattle.differences.proofs.comparison.compare_nodes.Goals as goal

pub list-requires : goal.list-requires
list-requires c = comparable_both _ _ _ _ (sym c.in_ok-matching.was ∙ c.match_sheets.ensures)

pub returns-in_err-matching : goal.returns-in_err-matching
returns-in_err-matching c =
    let is : c.from_residual.result ≡ Err c.in_err-matching.field-0.0 = search rules in
    let both = compares_refused _ _ _ _ (sym c.in_err-matching.was ∙ c.match_sheets.ensures) _ in
    record { value = is ∙ both.0; out_after = both.1 }

pub returns : goal.returns
returns c =
    let both = compares_listed _ _ _ _ (sym c.in_ok-matching.was ∙ c.match_sheets.ensures) _ _ _ c.list.ensures.value c.list.ensures.out_after in
    record { value = both.0; out_after = both.1 }
