-- What document 01's program prints, for any bytes that it reads: "The program reads a sheet and prints rows, or `refused N at P`".
use Rattle.std.specs.Prelude.{ℕ, ◌*◌, List}
use Rattle.sheet.specs.Block.{most_nodes}
use Rattle.sheet.specs.Slot.{slots}
use Rattle.schema.specs.Rows.{rows, row_width}
use Rattle.tree.specs.Reading.{tree_of}
use Rattle.schema.specs.Outcome.{outcome}
use Rattle.refusal.specs.Outcome.{Counted}
use Rattle.std.specs.Prelude.{Ok, Err}
use Rattle.schema_text.specs.Rows.{rows_text, refusal_line}

-- as many numbers as the rows of any sheet have
abbrev pub most_numbers : ℕ
most_numbers = row_width * most_nodes

-- the text of an answer: the rows of the sheet's tree, or the refusal
unfoldable pub printed_as : Counted → List ℕ → List ℕ
printed_as (Ok total) bytes = rows_text total (rows (tree_of (slots bytes)))
printed_as (Err r) bytes = refusal_line r

-- what is printed of any bytes in any edition; there is output enough for any sheet
unfoldable pub printed : ℕ → List ℕ → List ℕ
printed edition bytes = printed_as (outcome edition bytes most_numbers) bytes
