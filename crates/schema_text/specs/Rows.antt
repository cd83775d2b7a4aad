-- Rows and refusals as text: "prints rows, or `refused N at P`".
use Rattle.std.specs.Prelude.{ℕ, zero, suc, ◌*◌, cond, List, [], ◌∷◌, ◌++◌, ltb, length, take, drop}
use Rattle.std.proofs.Math.Option.{Option, none, some}
use Rattle.text.specs.Characters.{ascii}
use Rattle.text.specs.Numbers.{decimal_text}
use Rattle.text.specs.Lines.{line_of, numbers_line}
use Rattle.text.specs.Refusals.{refusal_text}
use Rattle.schema.specs.Rows.{row_width}
use Rattle.refusal.specs.declared.answers.Refusal.{Refusal}
use Rattle.refusal.specs.Outcome.{Counted}
use Rattle.std.specs.Prelude.{Ok, Err}

-- numbers cut into so many rows
unfoldable pub cut : ℕ → List ℕ → List (List ℕ)
cut zero ns = []
cut (suc t) ns = take row_width ns ∷ cut t (drop row_width ns)

-- a line for each row
unfoldable pub lines_of : List (List ℕ) → List ℕ
lines_of [] = []
lines_of (row ∷ rows) = numbers_line row ++ lines_of rows

-- the line before them, with their number
unfoldable pub header_text : ℕ → List ℕ
header_text total = line_of (ascii "nodes " ++ decimal_text total)

-- so many rows, "nodes 4" first
unfoldable pub rows_text : ℕ → List ℕ → List ℕ
rows_text total ns = header_text total ++ lines_of (cut total ns)

-- the same, if there are numbers enough
unfoldable pub rows_text_of : ℕ → List ℕ → Option (List ℕ)
rows_text_of total ns = cond (ltb (length ns) (row_width * total)) none (some (rows_text total ns))

-- the line of a refusal
unfoldable pub refusal_line : Refusal → List ℕ
refusal_line r = line_of (refusal_text r)

-- what resolving answered: the rows, in the numbers that it wrote, or the refusal
unfoldable pub answer_text : Counted → List ℕ → Option (List ℕ)
answer_text (Ok total) ns = rows_text_of total ns
answer_text (Err r) ns = some (refusal_line r)
