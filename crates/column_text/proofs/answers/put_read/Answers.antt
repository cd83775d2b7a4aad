-- `column_text::answers::put_read` meets its contract.
use mathlib.Core.Path.{sym, ap, ◌∙◌}
use native.Mathlib.Omega.{arith}
use lib.ListN.{length}
use Rattle.text.proofs.PlacingLaws.{put_as}
use Rattle.column_text.specs.Answers.{outcome_text, read_text}
use Rattle.column_text.proofs.answers.put_read.Goals as goal

pub returns-in-Ok : goal.returns-in-Ok
unfolding outcome_text
returns-in-Ok c =
    let text = c.make_value-count.ensures.room_after ∙ ap read_text (sym c.in-Ok.is) in
    let put = put_as _ _ text (c.put.ensures.value, c.put.ensures.out_after) in record { value = put.0; out_after = put.1; r_len_bound = omega (arith, c.make_value-count.ensures.prefix_len.1, c.make_value-count.ensures.upper_bound, ap length text) }

pub returns-in-Err : goal.returns-in-Err
unfolding outcome_text
returns-in-Err c =
    let text = ap read_text (sym c.in-Err.is) in
    let put = put_as _ _ text (c.put_refusal.ensures.value, c.put_refusal.ensures.out_after) in record { value = put.0; out_after = put.1; r_len_bound = omega (arith, c.put_refusal.ensures.refusal_len_bound, ap length text) }
