-- `text::numbers::put_behind` meets its contract: the byte and the digits are put together, and stored at once.
use mathlib.Core.List.{◌∷◌}
use mathlib.Core.Path.{sym, ap, ◌∙◌}
use native.Mathlib.Omega.{arith}
use lib.ListN.{replicate}
use lib.Seq.{length-take-le}
use Rattle.text.specs.Numbers.{decimal_text}
use Rattle.text.specs.Placing.{position_after, placed_text}
use Rattle.text.proofs.NumberLaws.{decimal_most}
use Rattle.text.proofs.PlacingLaws.{Holds, holds_first, holds_more, holds_front, holds_within}
use Rattle.text.proofs.numbers.put_behind.Goals as goal
use Rattle.text.proofs.numbers.put_behind.Goals.{After-put_decimal-end}

-- what the room holds
held : (c : After-put_decimal-end) → Holds (c.args.byte ∷ replicate 20 0) c.put_decimal-end.new.out 0 c.put_decimal-end.result (c.args.byte ∷ decimal_text c.args.n)
held c =
    holds_more (holds_first _ _) (decimal_text c.args.n)
    (omega (arith, decimal_most c.args.n c.ranges.n))
    (c.put_decimal-end.ensures.value, c.put_decimal-end.ensures.out_after)

pub slice_bounds-text-end : goal.slice_bounds-text-end
slice_bounds-text-end c = holds_within (held (goal.at.slice_bounds-text-end c).After-put_decimal-end)

pub slice_bounds-put-end : goal.slice_bounds-put-end
slice_bounds-put-end c = sym (length-take-le _ _ (holds_within (held (goal.at.slice_bounds-put-end c).After-put_decimal-end)))

pub returns : goal.returns
returns c = let text = holds_front (held (goal.at.returns c).After-put_decimal-end) in record { value = c.put.ensures.value ∙ ap (position_after _ _) text; out_after = c.put.ensures.out_after ∙ ap (placed_text _ _) text }
