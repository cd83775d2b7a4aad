-- The lines of a slot and of a refusal, computed.
-- Assumes nothing.
use mathlib.Core.Path.{◌≡◌, refl}
use lib.IntN.{pos, negsuc}
use Rattle.text.specs.Characters.{ascii}
use Rattle.text.specs.Numbers.{enough_digits, digit_count, decimal_text, signed_text}
use Rattle.text.specs.Lines.{spaced}
use Rattle.text.specs.Refusals.{refusal_text}
use Rattle.refusal.specs.Outcome.{refusal}
use Rattle.std.specs.Prelude.{Err}
use Rattle.slot_text.specs.Slots.{integers_text, slot_text, stretch_text, slot_line}
use Rattle.slot_text.specs.Opened.{opened_text}

-- an optional FIXED_LEN_BYTE_ARRAY with a type length below 0
line_example : slot_line (record { physical = 7; repetition = 1; converted = 255; logical = 0; a = 0; b = 0; children = 0; type_length = negsuc 0; scale = pos 0; precision = pos 0; name_length = 2 }) (record { start = 102; len = 2 })
    ≡ ascii "7 1 255 0 0 0 0 -1 0 0 2 102 2\n"
unfolding slot_line slot_text stretch_text integers_text spaced signed_text decimal_text digit_count enough_digits
line_example = refl

-- a byte of the third block changed
refused_example : opened_text (Err (refusal 2 2)) ≡ ascii "refused 2 at 2"
unfolding opened_text refusal_text decimal_text digit_count enough_digits
refused_example = refl
