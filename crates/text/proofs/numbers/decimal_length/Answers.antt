-- `text::numbers::decimal_length` meets its contract.
use mathlib.Core.Path.{sym, ◌∙◌}
use native.Mathlib.Omega.{arith}
use Rattle.text.proofs.NumberLaws.{fewest_digit_count, length_decimal, decimal_most}
use Rattle.text.proofs.numbers.decimal_length.Goals as goal

pub returns : goal.returns
returns c = let count = fewest_digit_count _ _ c.decimal.ensures.len ∙ sym (length_decimal _) in record { value = count; upper_bound = omega (arith, count, decimal_most c.args.n c.ranges.n) }
