-- Texts of numbers and refusals, computed.
-- Assumes nothing.
use mathlib.Core.List.{[], ◌∷◌}
use mathlib.Core.Path.{◌≡◌, refl}
use lib.IntN.{negsuc}
use Rattle.refusal.specs.Outcome.{refusal}
use Rattle.text.specs.Characters.{ascii}
use Rattle.text.specs.Numbers.{enough_digits, digit_count, decimal_text, signed_text, hex_text}
use Rattle.text.specs.Lines.{spaced, numbers_line}
use Rattle.text.specs.Refusals.{refusal_text}

-- the least and the greatest number of 64 bits
zero_text : decimal_text 0 ≡ ascii "0"
unfolding decimal_text digit_count enough_digits
zero_text = refl

greatest_text : decimal_text 18446744073709551615 ≡ ascii "18446744073709551615"
unfolding decimal_text digit_count enough_digits
greatest_text = refl

-- the least signed number of 64 bits
least_text : signed_text (negsuc 9223372036854775807) ≡ ascii "-9223372036854775808"
unfolding signed_text decimal_text digit_count enough_digits
least_text = refl

-- the bits of the FLOAT 1
hex_text_lem : hex_text 8 1065353216 ≡ ascii "3f800000"
unfolding hex_text
hex_text_lem = refl

-- the last row of document 01's example
row_text : numbers_line (6 ∷ 0 ∷ 1 ∷ 1 ∷ 0 ∷ 0 ∷ 2 ∷ 4 ∷ 2 ∷ []) ≡ ascii "6 0 1 1 0 0 2 4 2\n"
unfolding numbers_line spaced decimal_text digit_count enough_digits
row_text = refl

-- the first node of the second block at fault
refusal_text_lem : refusal_text (refusal 11 7) ≡ ascii "refused 11 at 7"
unfolding refusal_text decimal_text digit_count enough_digits
refusal_text_lem = refl
