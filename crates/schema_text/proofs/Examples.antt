-- The text of document 01's example, with the levels of document 02's R-8, computed.
-- Assumes nothing.
use Prim.Native.Nat.{ℕ}
use mathlib.Core.List.{List, [], ◌∷◌}
use mathlib.Core.Path.{◌≡◌, refl}
use Rattle.text.specs.Characters.{ascii}
use Rattle.text.specs.Numbers.{enough_digits, digit_count, decimal_text}
use Rattle.text.specs.Lines.{spaced, numbers_line}
use Rattle.schema_text.specs.Rows.{cut, lines_of, header_text, rows_text}

-- "Root `r`; required LIST `parts`; repeated `list`; optional UTF8 `element`"
example_rows : List ℕ
example_rows =
    255 ∷ 0 ∷ 255 ∷ 30 ∷ 0 ∷ 0 ∷ 0 ∷ 4 ∷ 0 ∷ 0 ∷ 0
    ∷ 255 ∷ 0 ∷ 0 ∷ 3 ∷ 0 ∷ 0 ∷ 0 ∷ 4 ∷ 0 ∷ 0 ∷ 0
    ∷ 255 ∷ 0 ∷ 2 ∷ 30 ∷ 0 ∷ 0 ∷ 1 ∷ 4 ∷ 1 ∷ 1 ∷ 1
    ∷ 6 ∷ 0 ∷ 1 ∷ 1 ∷ 0 ∷ 0 ∷ 2 ∷ 4 ∷ 2 ∷ 2 ∷ 1
    ∷ []

example_text : rows_text 4 example_rows ≡ ascii "nodes 4\n255 0 255 30 0 0 0 4 0 0 0\n255 0 0 3 0 0 0 4 0 0 0\n255 0 2 30 0 0 1 4 1 1 1\n6 0 1 1 0 0 2 4 2 2 1\n"
unfolding example_rows rows_text header_text lines_of cut numbers_line spaced decimal_text digit_count enough_digits
example_text = refl
