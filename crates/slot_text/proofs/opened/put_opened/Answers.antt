-- `slot_text::opened::put_opened` meets its contract, case by case.
use mathlib.Core.Path.{sym}
use native.Mathlib.Omega.{arith}
use Rattle.slot_text.specs.Opened.{opened_text}
use Rattle.slot_text.proofs.OpenedLaws.{put_opened_as}
use Rattle.slot_text.proofs.opened.put_opened.Goals as goal

pub returns-in-Ok : goal.returns-in-Ok
unfolding opened_text
returns-in-Ok c =
    let put = put_opened_as _ _ (sym c.in-Ok.is) (c.put.ensures.value, c.put.ensures.out_after) (omega arith) in
    record { value = put.0; out_after = put.1.0; opened_len_bound = put.1.1 }

pub returns-in-Err : goal.returns-in-Err
unfolding opened_text
returns-in-Err c =
    let put = put_opened_as _ _ (sym c.in-Err.is) (c.put_refusal.ensures.value, c.put_refusal.ensures.out_after) c.put_refusal.ensures.refusal_len_bound in
    record { value = put.0; out_after = put.1.0; opened_len_bound = put.1.1 }
