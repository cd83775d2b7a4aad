-- `text::numbers::put_decimal` meets its contract.
use mathlib.Core.Path.{ap, ◌∙◌}
use Rattle.text.specs.Placing.{position_after, placed_text}
use Rattle.text.proofs.NumberLaws.{fewest_decimal}
use Rattle.text.proofs.numbers.put_decimal.Goals as goal

pub returns : goal.returns
returns c =
    let text = fewest_decimal _ _ c.decimal-count.ensures.len c.decimal-count.ensures.digits in record { value = c.put.ensures.value ∙ ap (position_after _ _) text; out_after = c.put.ensures.out_after ∙ ap (placed_text _ _) text }
