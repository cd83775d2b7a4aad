-- The cycle of calls of judging meets its contracts: what each call asks, and what each answer is by the laws of one visit.
use Rattle.std.proofs.Common.{ℕ, ◌≡◌, ◌-◌, [], ◌∷◌, refl, sym, ap, ◌∙◌, arith}
use Rattle.std.proofs.lemmas.Result.{err_from_is_err_and}
use Rattle.tree.specs.Steps.{tree_found, first_of, fault_from}
use Rattle.tree.proofs.JudgingSteps.{judging_start, judging_end_lem, judging_deep, judging_next, run_empty, tree_deep, tree_inner, tree_run_deep, tree_judged, tree_falls, fields_falls}
use Rattle.tree.proofs.VisitLaws.{run_below, children_claimed}
use Rattle.tree.proofs.NodeLaws.{below_judged, own_judged}
use Rattle.tree.proofs.judging.+judging.Goals as goal

pub judge_fields-returns-then-count-eq0 : goal.judge_fields-returns-then-count-eq0
judge_fields-returns-then-count-eq0 t c = run_empty _ _ _ _ _ _ _ c.nothing_found.ensures c.if-count-eq0.true

pub judge_run-loop-field-init : goal.judge_run-loop-field-init
judge_run-loop-field-init t c = judging_start _ _ _ _ _ _ _ c.nothing_found-run.ensures c.requires.count_bound

pub judge_run-judge_tree-requires : goal.judge_run-judge_tree-requires
judge_run-judge_tree-requires t c =
    let judging = c.loop-field.invariant in
    let some : c.args.count - c.loop-field._field ≡ 0 → ⊥ = λ e. omega arith in
    let below = run_below c.args.sheet.bytes.now c.loop-field.run.next (c.args.count - c.loop-field._field) c.args.sheet.claimed some judging.claimed in
    (tree_falls _ _ _ _ _ judging.reached c.decreases, (below, c.requires.allowed_bound))

pub judge_run-returns-in_err-tree : goal.judge_run-returns-in_err-tree
judge_run-returns-in_err-tree t c =
    let some : c.args.count - c.loop-field._field ≡ 0 → ⊥ = λ e. omega arith in
    let p = err_from_is_err_and c.from_residual.result c.from_residual.ensures.1 in
    rw (p.1, p.2)
    (judging_deep _ _ _ _ _ _ _ _ c.loop-field.invariant c.args.sheet.claimed some _ (sym c.judge_tree.ensures ∙ c.in_err-tree.was))

pub judge_run-loop-field-preserved : goal.judge_run-loop-field-preserved
judge_run-loop-field-preserved t c =
    let some : c.args.count - c.loop-field._field ≡ 0 → ⊥ = λ e. omega arith in
    judging_next _ _ _ _ _ _ _ _ c.loop-field.invariant c.args.sheet.claimed some _ refl _ _ (sym c.judge_tree.ensures ∙ c.in_ok-tree.was) c.first_of.ensures

pub judge_run-returns : goal.judge_run-returns
judge_run-returns t c = judging_end_lem _ _ _ _ _ _ _ _ c.loop-field.invariant (omega arith)

pub judge_tree-returns-then-allowed-eq0 : goal.judge_tree-returns-then-allowed-eq0
judge_tree-returns-then-allowed-eq0 t c = tree_deep _ _ _ _ _ c.if-allowed-eq0.true

pub judge_tree-judge_fields-requires : goal.judge_tree-judge_fields-requires
judge_tree-judge_fields-requires t c =
    let here = c.node_at-node.ensures.visited in (
      fields_falls _ _ _ _ here.below c.if-allowed-eq0.false c.decreases,
      (children_claimed _ _ _ here.numbers here.claimed here.below, omega (arith, c.requires.allowed_bound)),
    )

pub judge_tree-returns-in_err-run : goal.judge_tree-returns-in_err-run
judge_tree-returns-in_err-run t c =
    let here = c.node_at-node.ensures.visited in
    let below = below_judged _ _ _ c.args.standing here _ _ _ _ c.annotated.ensures c.under_map.ensures c.judge-judged.ensures.logical_value c.standing_under-below.ensures in
    let p = err_from_is_err_and c.from_residual.result c.from_residual.ensures.1 in
    rw (p.1, p.2)
    (tree_run_deep _ _ _ _ here _ _ _ below c.if-allowed-eq0.false c.requires.allowed_bound _ c.judge_fields.ensures _ c.in_err-run.was)

pub judge_tree-broken_with_13-own-requires-clause-value_value : goal.judge_tree-broken_with_13-own-requires-clause-value_value
judge_tree-broken_with_13-own-requires-clause-value_value t c =
    let here = c.node_at-node.ensures.visited in
    let below = below_judged _ _ _ c.args.standing here _ _ _ _ c.annotated.ensures c.under_map.ensures c.judge-judged.ensures.logical_value c.standing_under-below.ensures in
    tree_inner _ _ _ _ here _ _ _ below c.if-allowed-eq0.false c.requires.allowed_bound _ c.judge_fields.ensures _ c.in_ok-run.was

pub judge_tree-returns : goal.judge_tree-returns
judge_tree-returns t c =
    let here = c.node_at-node.ensures.visited in
    let below = below_judged _ _ _ c.args.standing here _ _ _ _ c.annotated.ensures c.under_map.ensures c.judge-judged.ensures.logical_value c.standing_under-below.ensures in
    let own = own_judged _ _ _ c.args.standing here _ _ _ _ c.annotated.ensures c.under_map.ensures c.judge-judged.ensures.logical_value c.standing_under-below.ensures c.args.edition _ _ _ c.judge-judged.ensures.refusal_value (rw (c.node_at-node.ensures.sheet_same, c.node_at-node.ensures.at_same) at c.broken_to_12-least.ensures) c.broken_with_13-own.ensures in
    ap (tree_found c.in_ok-run.run'.next c.in_ok-run.run'.last)
    (c.own_first.ensures ∙ ap (λ (n : ℕ). first_of (fault_from c.args.at (n ∷ [])) c.in_ok-run.run'.fault) own)
    ∙ sym (tree_judged _ _ _ _ here _ _ _ below c.if-allowed-eq0.false c.requires.allowed_bound _ c.judge_fields.ensures _ c.in_ok-run.was)
