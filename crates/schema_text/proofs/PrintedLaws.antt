-- The text of what resolving answers is what is printed of the sheet, and a sheet with a tree has its rows printed.
-- Assumes nothing.
use Prim.Native.Nat.{ℕ, ◌+◌, ◌*◌, ◌≤◌}
use mathlib.Core.List.{List, ◌++◌}
use mathlib.Core.Option.{Option, some}
use mathlib.Core.Path.{◌≡◌, refl, sym, ap, subst, ◌∙◌}
use native.Mathlib.Omega.{arith}
use lib.ListN.{length, drop, length-append, length-drop}
use Rattle.sheet.specs.Block.{total_of, most_nodes}
use Rattle.sheet.specs.Slot.{slots}
use Rattle.tree.specs.Tree.{Tree}
use Rattle.schema.specs.Rows.{rows, row_width}
use Rattle.tree.specs.Reading.{tree_of}
use Rattle.schema.specs.Outcome.{outcome, written}
use Rattle.schema.specs.Demand.{IsTreeOf, Sound, EnoughOutput}
use Rattle.refusal.specs.Outcome.{Counted}
use Rattle.std.specs.Prelude.{Ok, Err}
use Rattle.sheet.proofs.OpeningLaws.{open_of_accepts, open_of_most}
use Rattle.text.proofs.PlacingLaws.{placed_fits, Holds}
use Rattle.schema.proofs.AcceptedLaws.{rows_fit}
use Rattle.tree.proofs.TreeOfLaws.{tree_of_listing}
use Rattle.schema.proofs.DemandLaws.{tree_rows}
use Rattle.schema_text.specs.Rows.{lines_of, header_text, rows_text, answer_text}
use Rattle.schema_text.specs.Making.{made, made_in, most_bytes}
use Rattle.schema_text.specs.Printed.{most_numbers, printed_as, printed}
use Rattle.schema_text.proofs.RowsLaws.{cut_front}
use Rattle.schema_text.proofs.MakingLaws.{made_fits, rows_enough}
use Rattle.schema_text.proofs.GreatestLaws.{most_fits}

-- numbers past the rows do not matter
rows_text_front : (total : ℕ) (ns ms : List ℕ) → row_width * total ≤ length ns → rows_text total (ns ++ ms) ≡ rows_text total ns
unfolding rows_text
rows_text_front total ns ms h = ap (λ (rows : List (List ℕ)). header_text total ++ lines_of rows) (cut_front total ns ms h)

-- the numbers that resolving leaves in lent places, as many as it was lent
module _ (edition : ℕ) (bytes lent numbers : List ℕ) (most : length lent ≡ most_numbers) (after : numbers ≡ written (outcome edition bytes most_numbers) bytes lent) (kept : length numbers ≡ length lent) where
  by_case : (o : Counted) → outcome edition bytes most_numbers ≡ o → answer_text o numbers ≡ some (printed_as o bytes)
  unfolding answer_text printed_as written
  by_case (Err r) e = refl
  by_case (Ok total) e =
      let fit : row_width * total ≤ most_numbers = rows_fit edition bytes most_numbers total e in
      let row : List ℕ = rows (tree_of (slots bytes)) in
      let is : numbers ≡ row ++ drop (row_width * total) lent = after ∙ ap (λ (o : Counted). written o bytes lent) e in
      rows_enough total numbers (omega arith)
      ∙ ap some
      (ap (rows_text total) is
      ∙ rows_text_front total row (drop (row_width * total) lent) (omega (arith, ap length is, length-append row (drop (row_width * total) lent), length-drop (row_width * total) lent)))

  pub answer_printed : answer_text (outcome edition bytes most_numbers) numbers ≡ some (printed edition bytes)
  unfolding printed
  answer_printed = by_case (outcome edition bytes most_numbers) refl

-- of a sheet with a tree the rows of the tree are printed: there are numbers enough
pub tree_printed : (edition : ℕ) (bytes : List ℕ) (t : Tree) → Sound edition bytes → IsTreeOf edition bytes t → printed edition bytes ≡ rows_text (total_of bytes) (rows t)
unfolding printed printed_as EnoughOutput
tree_printed edition bytes t sound is =
    let few : total_of bytes ≤ most_nodes = open_of_most edition bytes (total_of bytes) (open_of_accepts edition bytes sound.known sound.blocks sound.slots) in
    rw (tree_rows edition bytes most_numbers t sound (omega arith) is, tree_of_listing t (slots bytes) is.claims is.lists)

-- what the steps of making a sheet's text came to, of one that is resolved in places enough for any sheet
pub record Steps (edition : ℕ) (bytes lent numbers out held : List ℕ) (answer result : Counted) : Type 0 where
  pub places : length lent ≡ most_numbers
  pub room : 11 * most_numbers + 16 ≤ length out
  pub answered : answer ≡ outcome edition bytes (length lent)
  pub left : numbers ≡ written (outcome edition bytes (length lent)) bytes lent
  pub kept : length numbers ≡ length lent
  pub told : result ≡ made (answer_text answer numbers) (length out)
  pub filled : held ≡ made_in (answer_text answer numbers) out
  pub most : (text : List ℕ) → answer_text answer numbers ≡ some text → length text ≤ most_bytes answer

module _ (edition : ℕ) {bytes lent numbers out held : List ℕ} {answer result : Counted} (steps : Steps edition bytes lent numbers out held answer result) where
  outcome_is : answer ≡ outcome edition bytes most_numbers
  outcome_is = steps.answered ∙ ap (outcome edition bytes) steps.places

  pub steps_written : numbers ≡ written (outcome edition bytes most_numbers) bytes lent
  steps_written = steps.left ∙ ap (λ (n : ℕ). written (outcome edition bytes n) bytes lent) steps.places

  text_is : answer_text answer numbers ≡ some (printed edition bytes)
  text_is = ap (λ (o : Counted). answer_text o numbers) outcome_is ∙ answer_printed edition bytes lent numbers steps.places steps_written steps.kept

  fits : length (printed edition bytes) ≤ length out
  fits =
      let h : most_bytes answer ≤ 11 * most_numbers + 16 = most_fits answer (λ total e. rows_fit edition bytes most_numbers total (sym outcome_is ∙ e)) in
      omega (arith, h, steps.room, steps.most (printed edition bytes) text_is)

  -- the text is made
  pub steps_made : result ≡ Ok (length (printed edition bytes))
  steps_made = steps.told ∙ ap (λ (may : Option (List ℕ)). made may (length out)) text_is ∙ made_fits (printed edition bytes) (length out) fits

  steps_hold_all : Holds out held 0 (length (printed edition bytes)) (printed edition bytes)
  unfolding made_in
  steps_hold_all =
      record {
        enough = omega (arith, fits);
        end = omega arith;
        bytes = steps.filled ∙ ap (λ (may : Option (List ℕ)). made_in may out) text_is ∙ placed_fits out 0 (printed edition bytes) (omega (arith, fits));
      }

  pub steps_hold : (count : ℕ) → result ≡ Ok count → Holds out held 0 count (printed edition bytes)
  steps_hold count e =
      let q = steps_made in
      let same : length (printed edition bytes) ≡ count = cc in
      subst (λ (n : ℕ). Holds out held 0 n (printed edition bytes)) same steps_hold_all
