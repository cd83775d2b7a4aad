-- `slot_text::slots::slot_line` meets its contract: piece by piece, and there is room for all.
use mathlib.Core.List.{[], ◌∷◌}
use native.Mathlib.Omega.{arith}
use lib.ListN.{length-append}
use Rattle.text.specs.Characters.{ascii, LF}
use Rattle.text.proofs.PlacingLaws.{Holds, holds_none, holds_more, holds_made, holds_back}
use Rattle.slot_text.specs.Slots.{slot_text, stretch_text, slot_line}
use Rattle.slot_text.proofs.slots.slot_line.Goals as goal
use Rattle.slot_text.proofs.slots.slot_line.Goals.{After-put}

-- what the room holds
held : (c : After-put) → Holds c.args.out.now c.put.new.out 0 c.put.result (slot_line c.args.slot c.args.name)
unfolding slot_line
held c =
    let numbers = holds_more (holds_none c.args.out.now 0 (omega arith)) (slot_text c.args.slot) (omega (arith, c.put_slot-numbers.ensures.slot_len_bound)) (c.put_slot-numbers.ensures.value, c.put_slot-numbers.ensures.out_after) in
    let space = holds_more numbers (ascii " ") (omega (arith, c.put_slot-numbers.ensures.slot_len_bound)) (c.put-space.ensures.value, c.put-space.ensures.out_after) in
    let stretch = holds_more space (stretch_text c.args.name) (simp length-append (omega (arith, c.put_slot-numbers.ensures.slot_len_bound, c.put_stretch-stretch.ensures.stretch_len_bound))) (c.put_stretch-stretch.ensures.value, c.put_stretch-stretch.ensures.out_after) in
    holds_more stretch (LF ∷ []) (simp length-append (omega (arith, c.put_slot-numbers.ensures.slot_len_bound, c.put_stretch-stretch.ensures.stretch_len_bound))) (c.put.ensures.value, c.put.ensures.out_after)

pub returns : goal.returns
returns c = let made = holds_made (held c) in record { prefix_len = made.0; out_after = made.1; out_unchanged = holds_back (held c) }
