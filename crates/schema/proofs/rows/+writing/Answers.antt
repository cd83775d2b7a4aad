-- The cycle of calls that writes rows meets its contracts: what each call asks, and what each leaves in the output, by the laws of one visit.
use Rattle.std.proofs.Common.{◌≡◌, ◌-◌, refl, ◌∙◌, arith}
use Rattle.sheet.specs.Slot.{slot_at}
use Rattle.tree.specs.Steps.{Visited}
use Rattle.tree.proofs.JudgingSteps.{tree_falls, fields_falls}
use Rattle.tree.proofs.VisitLaws.{run_below, children_claimed, tree_end, tree_within, run_end_empty}
use Rattle.schema.specs.Steps.{row_numbers}
use Rattle.schema.proofs.DepthLaws.{level_left, fields_deep, first_deep}
use Rattle.schema.proofs.LevelsLaws.{levels_below, levels_most, at_most_lem}
use Rattle.schema.proofs.RowsSteps.{behind_start, behind_end, behind_next, run_rows_empty, tree_rows, parent_is, row_is, long_enough}
use Rattle.schema.proofs.rows.+writing.Goals as goal

pub write_fields-returns-then-count-eq0 : goal.write_fields-returns-then-count-eq0
write_fields-returns-then-count-eq0 t c =
    record { value = run_end_empty _ _ _ c.if-count-eq0.true; rows_after = λ path g. run_rows_empty _ _ _ _ _ _ _ path c.if-count-eq0.true }

pub write_run-loop-field-init : goal.write_run-loop-field-init
write_run-loop-field-init t c = behind_start _ _ _ _ _ _ _ _ _ _ c.requires.count_bound c.requires.none_too_deep

pub write_run-write_tree-at-requires : goal.write_run-write_tree-at-requires
write_run-write_tree-at-requires t c =
    let asked = c.requires in
    let behind = c.loop-field.invariant in
    let some : c.args.count - c.loop-field._field ≡ 0 → ⊥ = λ e. omega arith in
    let below = run_below c.args.sheet.now c.loop-field.at (c.args.count - c.loop-field._field) asked.claimed some behind.claimed in (
      tree_falls _ _ _ _ _ behind.reached c.decreases,
      (
        asked.claimed,
        (
          below,
          (
            asked.parent_at_bound,
            (
              long_enough _ _ _ asked.sheet_in_bounds behind.long,
              (
                at_most_lem _ _ _ _ asked.levels_at_most behind.reached,
                (asked.allowed_bound, first_deep _ _ _ _ asked.claimed some behind.claimed behind.deep),
              ),
            ),
          ),
        ),
      ),
    )

pub write_run-loop-field-preserved : goal.write_run-loop-field-preserved
write_run-loop-field-preserved t c =
    let tree = c.write_tree-at in
    let some : c.args.count - c.loop-field._field ≡ 0 → ⊥ = λ e. omega arith in
    behind_next _ _ _ _ _ _ _ _ _ _ _ _ _ _ c.loop-field.invariant c.requires.claimed c.requires.sheet_in_bounds some _ refl _ _ _ tree.ensures.value tree.ensures.rows_after tree.auto.rows c.after_first-above.ensures

pub write_run-returns : goal.write_run-returns
write_run-returns t c =
    let end = behind_end _ _ _ _ _ _ _ _ _ _ _ _ _ _ c.loop-field.invariant (omega arith) in
    record { value = end.0; rows_after = end.1 }

pub write_tree-overflow_sub-allowed : goal.write_tree-overflow_sub-allowed
write_tree-overflow_sub-allowed t c = omega (arith, level_left c.args.allowed _ c.requires.none_too_deep)

pub write_tree-write_fields-next-requires : goal.write_tree-write_fields-next-requires
write_tree-write_fields-next-requires t c =
    let asked = c.requires in
    let here : Visited c.args.sheet.now c.args.at c.slot_at-s.result = record { claimed = asked.claimed; below = asked.at_bound; numbers = c.slot_at-s.ensures } in
    let levels = levels_most c.args.sheet.now c.args.at c.slot_at-s.result _ _ _ _ _ _ c.in_definition.ensures c.in_repetition.ensures refl refl _ asked.levels_at_most in (
      fields_falls _ _ _ _ here.below (level_left _ _ asked.none_too_deep) c.decreases,
      (
        here.claimed,
        (
          children_claimed _ _ _ here.numbers here.claimed here.below,
          (
            here.below,
            (
              long_enough _ _ _ asked.sheet_in_bounds c.write_row.auto.rows,
              (levels, (omega (arith, asked.allowed_bound), fields_deep _ _ _ _ here asked.allowed_bound asked.none_too_deep)),
            ),
          ),
        ),
      ),
    )

pub write_tree-overflow_cast-rows : goal.write_tree-overflow_cast-rows
write_tree-overflow_cast-rows t c =
    let here : Visited c.args.sheet.now c.args.at c.slot_at-s.result = record { claimed = c.requires.claimed; below = c.requires.at_bound; numbers = c.slot_at-s.ensures } in
    let end = tree_end c.args.sheet.now c.args.at _ here _ c.write_fields-next.ensures.value in
    omega (arith, tree_within c.args.sheet.now c.args.at here.claimed here.below, here.claimed.most, end)

pub write_tree-returns : goal.write_tree-returns
unfolding row_numbers
write_tree-returns t c =
    let here : Visited c.args.sheet.now c.args.at c.slot_at-s.result = record { claimed = c.requires.claimed; below = c.requires.at_bound; numbers = c.slot_at-s.ensures } in
    let run = c.write_fields-next in
    let end = tree_end c.args.sheet.now c.args.at _ here _ run.ensures.value in
    let above = slot_at c.args.sheet.now c.args.parent_at in
    let numbers = c.annotated-n.ensures in
    let map = c.is_map_parent.ensures in
    let kind = c.resolved_kind-kind.ensures in
    let below = parent_is c.args.sheet.now c.args.rows.now c.args.at c.args.parent_at _ c.args.parent above here _ _ _ _ _ numbers map kind c.role_of-own.ensures refl in
    record {
      value = end;
      rows_after = λ path g.
          let levels = levels_below c.args.sheet.now c.args.at _ _ _ _ _ _ _ c.in_definition.ensures c.in_repetition.ensures refl refl here path g in
          let row = row_is c.args.sheet.now c.args.rows.now c.args.at c.args.parent_at _ c.args.parent above here path _ _ levels _ _ _ _ _ _ numbers map kind (c.number.ensures ∙ c.role_of-own.ensures) end c.type_length.ensures in
          tree_rows c.args.sheet.now c.args.rows.now c.args.at c.args.parent_at _ c.args.parent above here path c.requires.sheet_in_bounds _ below _ _ _ refl c.write_row.ensures (run.ensures.rows_after _ levels) _ _ row refl;
    }
