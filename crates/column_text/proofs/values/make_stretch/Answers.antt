-- `column_text::values::make_stretch` meets its contract.
use Prim.Native.Nat.{◌≤◌}
use mathlib.Core.Path.{refl}
use native.Mathlib.Omega.{arith}
use lib.ListN.{length, length-append}
use Rattle.text.specs.Characters.{ascii}
use Rattle.text.specs.Numbers.{decimal_text}
use Rattle.text.proofs.NumberLaws.{decimal_most}
use Rattle.text.proofs.PlacingLaws.{holds_none, holds_more}
use Rattle.column_text.specs.Values.{stretch_text}
use Rattle.column_text.proofs.ValueLaws.{made}
use Rattle.column_text.proofs.values.make_stretch.Goals as goal

pub returns : goal.returns
unfolding stretch_text
returns c =
    let first = decimal_text c.args.start in
    let second = decimal_text c.args.len in
    let most : length first ≤ 20 = decimal_most _ c.ranges.start in
    let most' : length second ≤ 20 = decimal_most _ c.ranges.len in
    let word = holds_more (holds_none c.args.room.now 0 (omega arith)) (ascii "bytes ") (omega arith) (c.put-word.ensures.value, c.put-word.ensures.out_after) in
    let started = holds_more word first (omega arith) (c.put_decimal-first.ensures.value, c.put_decimal-first.ensures.out_after) in
    let space = holds_more started (ascii " ") (simp length-append (omega arith)) (c.put-space.ensures.value, c.put-space.ensures.out_after) in
    let m = made (holds_more space second (simp length-append (omega arith)) (c.put_decimal.ensures.value, c.put_decimal.ensures.out_after)) refl (simp length-append (omega arith)) in
    record { prefix_len = m.counted; room_after = m.front; upper_bound = m.short }
