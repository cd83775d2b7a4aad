-- `text::placing::put` meets its contract: the bytes are copied into the part of the buffer that they take.
use mathlib.Core.Path.{sym}
use native.Mathlib.Omega.{arith}
use lib.ListN.{length-take, length-drop}
use Rattle.text.proofs.PlacingLaws.{past_within, past_beyond, placed_short, copied_placed}
use Rattle.text.proofs.placing.put.Goals as goal

pub slice_bounds-copy_from_slice-count : goal.slice_bounds-copy_from_slice-count
slice_bounds-copy_from_slice-count c = omega (arith, past_within _ _ _ _ c.after-next.ensures c.if-next-out.true)

pub slice_bounds-copy_from_slice-start : goal.slice_bounds-copy_from_slice-start
slice_bounds-copy_from_slice-start c = omega (arith, past_within _ _ _ _ c.after-next.ensures c.if-next-out.true)

pub copy_from_slice-requires : goal.copy_from_slice-requires
copy_from_slice-requires c =
    let next = past_within _ _ _ _ c.after-next.ensures c.if-next-out.true in
    simp (length-take, length-drop) (omega (arith, next))

pub returns-then-next-out : goal.returns-then-next-out
returns-then-next-out c =
    let past = c.after-next.ensures in
    let within = c.if-next-out.true in record { value = past; out_after = copied_placed _ _ _ _ _ (past_within _ _ _ _ past within) within c.copy_from_slice.ensures.after }

pub returns-else-next-out : goal.returns-else-next-out
returns-else-next-out c = let past = c.after-next.ensures in record { value = past; out_after = sym (placed_short _ _ _ (past_beyond _ _ _ _ past c.if-next-out.false)) }
