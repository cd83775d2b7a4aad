-- `schema_text::sheets::sheet_text` meets its contract.
use mathlib.Core.Path.{sym, ◌∙◌}
use native.Mathlib.Omega.{arith}
use lib.Seq.{length-take-le}
use Rattle.text.proofs.PlacingLaws.{holds_front, holds_within, holds_back}
use Rattle.sheet.proofs.OpeningLaws.{refused_other}
use Rattle.schema_text.proofs.PrintedLaws.{Steps, steps_written, steps_made, steps_hold}
use Rattle.schema_text.proofs.sheets.sheet_text.Goals as goal
use Rattle.schema_text.proofs.sheets.sheet_text.Goals.{After-answer_text-made}

-- what the two calls came to
steps : (c : After-answer_text-made) → Steps c.args.edition c.args.sheet.now c.args.rows.now c.resolve-resolved.new.rows c.args.out.now c.answer_text-made.new.out c.resolve-resolved.result c.answer_text-made.result
steps c =
    record {
      places = omega (arith, c.well_formed);
      room = omega (arith, c.well_formed);
      answered = c.resolve-resolved.ensures.value;
      left = c.resolve-resolved.ensures.rows_after;
      kept = c.resolve-resolved.auto.rows;
      told = c.answer_text-made.ensures.value;
      filled = c.answer_text-made.ensures.out_after;
      most = c.answer_text-made.ensures.by_index;
    }

pub returns-in-Ok : goal.returns-in-Ok
returns-in-Ok c =
    let done = steps (goal.at.returns-in-Ok c).After-answer_text-made in
    let held = steps_hold _ done _ c.in-Ok.is in record { prefix_len = (holds_within held, sym (length-take-le _ _ (holds_within held))); out_after = holds_front held; out_unchanged = holds_back held; rows_after = steps_written _ done }

pub returns-in-Err : goal.returns-in-Err
returns-in-Err c = absurd (refused_other _ _ (sym c.in-Err.is ∙ steps_made _ (steps (goal.at.returns-in-Err c).After-answer_text-made)))
