-- `text::numbers::put_hex` meets its contract: of all sixteen digits the last are stored.
use mathlib.Core.Path.{ap, ◌∙◌}
use native.Mathlib.Omega.{arith}
use Rattle.text.specs.Placing.{position_after, placed_text}
use Rattle.text.proofs.NumberLaws.{last_hex}
use Rattle.text.proofs.numbers.put_hex.Goals as goal

pub returns : goal.returns
returns g c =
    let text = last_hex _ _ _ _ (omega arith) (omega (arith, c.ranges.bits)) c.hex-count.ensures.len c.hex-count.ensures.digits in
    record { value = c.put.ensures.value ∙ ap (position_after _ _) text; out_after = c.put.ensures.out_after ∙ ap (placed_text _ _) text }
