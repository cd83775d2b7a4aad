-- What making a text answers and leaves in the lent buffer, for a text that is there or not.
use Rattle.std.specs.Prelude.{ℕ, suc, ◌+◌, ◌*◌, cond, List, length}
use Rattle.std.proofs.Math.Option.{Option, none, some}
use Rattle.refusal.specs.Outcome.{short_output}
use Rattle.text.specs.Placing.{fits, placed_text}
use Rattle.text.specs.Refusals.{most_refusal}
use Rattle.schema.specs.Rows.{row_width}
use Rattle.refusal.specs.Outcome.{Counted}
use Rattle.std.specs.Prelude.{Ok, Err}
use Rattle.schema_text.specs.Rows.{header_text}

-- its length, where a buffer of so many bytes has room for it from the first on; "output too short" is said of that buffer, and, as by
-- resolving, of numbers too few for the rows
unfoldable pub made : Option (List ℕ) → ℕ → Counted
made none room = Err short_output
made (some text) room = cond (fits room 0 (length text)) (Ok (length text)) (Err short_output)

-- what the buffer holds: the text and what stood past it, and where it was not made what it held
unfoldable pub made_in : Option (List ℕ) → List ℕ → List ℕ
made_in none lent = lent
made_in (some text) lent = placed_text lent 0 text

-- the most bytes that so many rows take: their first line, and for each number of 32 bits ten digits and the byte after them
unfoldable pub most_rows_bytes : ℕ → ℕ
most_rows_bytes total = length (header_text total) + 11 * (row_width * total)

-- and a refusal's line
abbrev pub most_refusal_bytes : ℕ
most_refusal_bytes = suc most_refusal

-- the most bytes that an answer takes
unfoldable pub most_bytes : Counted → ℕ
most_bytes (Ok total) = most_rows_bytes total
most_bytes (Err r) = most_refusal_bytes
