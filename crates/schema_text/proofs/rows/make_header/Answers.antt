-- `schema_text::rows::make_header` meets its contract.
use Prim.Native.Nat.{◌≤◌}
use mathlib.Core.List.{[], ◌∷◌}
use mathlib.Core.Path.{sym}
use native.Mathlib.Omega.{arith}
use lib.ListN.{length, length-append}
use lib.Seq.{length-take-le}
use Rattle.text.specs.Numbers.{decimal_text}
use Rattle.text.specs.Characters.{ascii, LF}
use Rattle.text.proofs.PlacingLaws.{Holds, holds_none, holds_more, holds_front, holds_within}
use Rattle.text.proofs.NumberLaws.{decimal_most}
use Rattle.schema_text.specs.Rows.{header_text}
use Rattle.schema_text.proofs.rows.make_header.Goals as goal
use Rattle.schema_text.proofs.rows.make_header.Goals.{After-put}

-- what the room holds
held : (c : After-put) → Holds c.args.room.now c.put.new.out 0 c.put.result (header_text c.args.total)
unfolding header_text
held c =
    let total = c.args.total in
    let most : length (decimal_text total) ≤ 20 = decimal_most total c.ranges.total in
    let word = holds_more (holds_none c.args.room.now 0 (omega arith)) (ascii "nodes ") (omega arith) (c.put-word.ensures.value, c.put-word.ensures.out_after) in
    let number = holds_more word (decimal_text total) (omega arith) (c.put_decimal-number.ensures.value, c.put_decimal-number.ensures.out_after) in
    holds_more number (LF ∷ []) (simp length-append (omega arith)) (c.put.ensures.value, c.put.ensures.out_after)

pub returns : goal.returns
returns c = let within = holds_within (held c) in record { prefix_len = (within, sym (length-take-le _ _ within)); room_after = holds_front (held c) }
