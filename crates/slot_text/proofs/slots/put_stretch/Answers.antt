-- `slot_text::slots::put_stretch` meets its contract: the numbers and the space are put together, and stored at once.
use Prim.Native.Nat.{◌≤◌}
use mathlib.Core.Path.{sym}
use native.Mathlib.Omega.{arith}
use lib.ListN.{length, replicate, length-append}
use lib.Seq.{length-take-le}
use Rattle.text.specs.Characters.{ascii}
use Rattle.text.specs.Numbers.{decimal_text}
use Rattle.text.proofs.NumberLaws.{decimal_most}
use Rattle.text.proofs.PlacingLaws.{Holds, holds_none, holds_more, holds_front, holds_within, put_as}
use Rattle.slot_text.specs.Slots.{stretch_text}
use borrow.Author.Rules.{rules}
use Rattle.slot_text.proofs.slots.put_stretch.Goals as goal
use Rattle.slot_text.proofs.slots.put_stretch.Goals.{After-put_decimal-end}

-- what the room holds
held : (c : After-put_decimal-end) → Holds (replicate 41 0) c.put_decimal-end.new.out 0 c.put_decimal-end.result (stretch_text c.args.stretch)
unfolding stretch_text
held c =
    let first = decimal_text c.args.stretch.start in
    let second = decimal_text c.args.stretch.len in
    let most : length first ≤ 20 = decimal_most _ (record { fits = search rules }) in
    let most' : length second ≤ 20 = decimal_most _ (record { fits = search rules }) in
    let started = holds_more (holds_none (replicate 41 0) 0 (omega arith)) first (omega arith) (c.put_decimal-start.ensures.value, c.put_decimal-start.ensures.out_after) in
    let space = holds_more started (ascii " ") (simp length-append (omega arith)) (c.put-space.ensures.value, c.put-space.ensures.out_after) in
    holds_more space second (simp length-append (omega arith)) (c.put_decimal-end.ensures.value, c.put_decimal-end.ensures.out_after)

pub slice_bounds-room-end : goal.slice_bounds-room-end
slice_bounds-room-end c = holds_within (held (goal.at.slice_bounds-room-end c).After-put_decimal-end)

pub slice_bounds-put-end-3 : goal.slice_bounds-put-end-3
slice_bounds-put-end-3 c = sym (length-take-le _ _ (holds_within (held (goal.at.slice_bounds-put-end-3 c).After-put_decimal-end)))

pub returns : goal.returns
returns c =
    let text = held (goal.at.returns c).After-put_decimal-end in
    let put = put_as _ _ (holds_front text) (c.put.ensures.value, c.put.ensures.out_after) in record { value = put.0; out_after = put.1; stretch_len_bound = omega (arith, text.enough) }
