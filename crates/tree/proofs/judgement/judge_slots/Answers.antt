-- `tree::judgement::judge_slots` meets its contract, case by case.
use Rattle.std.proofs.lemmas.Result.{err_from_is_err_and}
use Rattle.tree.proofs.JudgementLaws.{nodes_total, nodes_most, nodes_some, places_claimed, tree_refusal_places}
use Rattle.tree.specs.Judgement.{or_else}
use mathlib.Core.Path.{sym, ◌∙◌}
use Rattle.tree.proofs.judgement.judge_slots.Goals as goal

pub places_filled-requires : goal.places_filled-requires
places_filled-requires c = record { total_value = nodes_total _ _ _ c.requires; total_le_most_nodes = nodes_most _ _ _ c.requires }

pub judge_root-requires : goal.judge_root-requires
judge_root-requires c = record { claimed = places_claimed _ _ _ c.requires (sym c.places_filled.ensures ∙ c.in_ok-places_filled.was); sheet_nonzero = nodes_some _ _ _ c.requires }

pub returns-in_err-places_filled : goal.returns-in_err-places_filled
unfolding or_else
returns-in_err-places_filled c =
    let p = err_from_is_err_and c.from_residual.result c.from_residual.ensures.1 in
    rw (p.1, p.2) (sym (tree_refusal_places _ _ ∙ rw (sym c.places_filled.ensures ∙ c.in_err-places_filled.was)))

pub returns : goal.returns
unfolding or_else
returns c = c.judge_root.ensures ∙ sym (tree_refusal_places _ _ ∙ rw (sym c.places_filled.ensures ∙ c.in_ok-places_filled.was))
