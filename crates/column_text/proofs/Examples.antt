-- Texts of values and answers, computed.
-- Assumes nothing.
use mathlib.Core.Bool.{true}
use mathlib.Core.Path.{◌≡◌, refl}
use lib.Ieee.{nan, inf}
use lib.Ieee as Ieee
use lib.IntN.{negsuc}
use Rattle.refusal.specs.Outcome.{refusal}
use Rattle.text.specs.Characters.{ascii}
use Rattle.text.specs.Numbers.{enough_digits, digit_count, decimal_text, signed_text, hex_text}
use Rattle.text.specs.Refusals.{refusal_text}
use Rattle.column.specs.declared.value.Value.TheVariants.{Signed, Float, Double, Bytes}
use Rattle.std.specs.Prelude.{Err}
use Rattle.column_text.specs.Values.{float_text, stretch_text, value_text}
use Rattle.column_text.specs.Answers.{outcome_text, read_text}

-- a number below 0
signed_example : value_text (Signed (negsuc 6)) ≡ ascii "-7"
unfolding value_text signed_text decimal_text digit_count enough_digits
signed_example = refl

-- the least DOUBLE below each number, and a NaN
infinity_example : value_text (Double (inf true)) ≡ ascii "double fff0000000000000"
unfolding value_text float_text hex_text Ieee.is_nan Ieee.to_bits
infinity_example = refl

nan_example : value_text (Float nan) ≡ ascii "float NaN"
unfolding value_text float_text Ieee.is_nan
nan_example = refl

-- twelve bytes of an INT96
stretch_example : value_text (Bytes 0 12) ≡ ascii "bytes 0 12"
unfolding value_text stretch_text decimal_text digit_count enough_digits
stretch_example = refl

-- a TIME of a whole day, and text that goes bad at its thirteenth byte
refused_example : read_text (Err (refusal 16 0)) ≡ ascii "refused 16 at 0"
unfolding outcome_text refusal_text decimal_text digit_count enough_digits
refused_example = refl

placed_example : read_text (Err (refusal 16 12)) ≡ ascii "refused 16 at 12"
unfolding outcome_text refusal_text decimal_text digit_count enough_digits
placed_example = refl
