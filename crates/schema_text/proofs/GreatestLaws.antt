-- The most bytes that texts take: rows whose numbers are of 32 bits, and refusals.
-- Assumes nothing.
use Prim.Native.Nat.{ℕ, zero, suc, ◌+◌, ◌*◌, ◌^◌, ◌≤◌, ◌<◌}
use mathlib.Core.List.{List}
use mathlib.Core.Option.{Option, none, some}
use mathlib.Core.Path.{◌≡◌, refl, sym, ap, subst, ◌∙◌}
use native.Mathlib.Omega.{arith}
use lib.ListN.{length, get_or, take, drop, length-append, length-take, length-drop, get_or-eq_default}
use lib.Seq.{length-take-le, get_or-take, get_or-drop}
use Rattle.text.specs.Lines.{numbers_line}
use Rattle.schema.specs.Rows.{row_width}
use Rattle.refusal.specs.declared.answers.Refusal.{Refusal}
use Rattle.refusal.specs.Outcome.{Counted}
use Rattle.std.specs.Prelude.{Ok, Err}
use Rattle.laws.proofs.DifferenceLaws.{below?}
use Rattle.text.proofs.NumberLaws.{digits_below}
use Rattle.text.proofs.LineLaws.{line_most}
use Rattle.schema_text.specs.Rows.{cut, lines_of, header_text, rows_text, rows_text_of, refusal_line, answer_text}
use Rattle.schema_text.specs.Making.{most_rows_bytes, most_refusal_bytes, most_bytes}
use Rattle.schema_text.specs.Printed.{most_numbers}
use Rattle.schema_text.proofs.MakingLaws.{rows_few, rows_enough}

-- numbers of 32 bits
abbrev pub Small : List ℕ → Type 0
Small ns = (i : ℕ) → get_or ns i 0 < 2 ^ 32

small_take : (n : ℕ) (ns : List ℕ) → Small ns → Small (take n ns)
small_take n ns small i =
    below? i n
    (λ h. subst (λ (m : ℕ). m < 2 ^ 32) (sym (get_or-take n ns i 0 h)) (small i))
    (λ h. subst (λ (m : ℕ). m < 2 ^ 32) (sym (get_or-eq_default (take n ns) 0 (omega (arith, length-take n ns)))) (omega arith))

small_drop : (n : ℕ) (ns : List ℕ) → Small ns → Small (drop n ns)
small_drop n ns small i = subst (λ (m : ℕ). m < 2 ^ 32) (sym (get_or-drop n ns i 0)) (small (n + i))

lines_most : (t : ℕ) (ns : List ℕ) → Small ns → row_width * t ≤ length ns → length (lines_of (cut t ns)) ≤ 11 * (row_width * t)
unfolding cut lines_of
lines_most zero ns small h = omega arith
lines_most (suc t) ns small h =
    let row : length (take row_width ns) ≡ row_width = length-take-le row_width ns (omega arith) in
    omega (arith, row, line_most (take row_width ns) (omega arith) (small_take row_width ns small), lines_most t (drop row_width ns) (small_drop row_width ns small) (omega (arith, length-drop row_width ns)), length-append (numbers_line (take row_width ns)) (lines_of (cut t (drop row_width ns))))

rows_text_most : (total : ℕ) (ns : List ℕ) → Small ns → row_width * total ≤ length ns → length (rows_text total ns) ≤ most_rows_bytes total
unfolding rows_text most_rows_bytes
rows_text_most total ns small enough = omega (arith, lines_most total ns small enough, length-append (header_text total) (lines_of (cut total ns)))

pub rows_most : (total : ℕ) (ns text : List ℕ) → Small ns → rows_text_of total ns ≡ some text → length text ≤ most_rows_bytes total
rows_most total ns text small e =
    below? (length ns) (row_width * total)
    (λ few. absurd (never (sym (rows_few total ns (omega arith)) ∙ e)))
    (λ enough. fits enough (sym e ∙ rows_enough total ns enough))
  where
    never : ◌≡◌ {A = Option (List ℕ)} none (some text) → ⊥
    never q = let z : ◌≡◌ {A = ℕ} 0 1 = cc in omega arith

    fits : row_width * total ≤ length ns → some text ≡ some (rows_text total ns) → length text ≤ most_rows_bytes total
    fits enough q = let same : text ≡ rows_text total ns = cc in omega (arith, ap length same, rows_text_most total ns small enough)

-- an answer by its case
pub answer_rows_most : (o : Counted) (total : ℕ) (ns : List ℕ) → o ≡ Ok total
    → ((text : List ℕ) → rows_text_of total ns ≡ some text → length text ≤ most_rows_bytes total)
    → (text : List ℕ) → answer_text o ns ≡ some text → length text ≤ most_bytes o
unfolding answer_text most_bytes
answer_rows_most o total ns is most text e =
    rw is (most text (sym (ap (λ (p : Counted). answer_text p ns) is) ∙ e))

pub answer_refusal_most : (o : Counted) (r : Refusal) (ns : List ℕ) → o ≡ Err r → length (refusal_line r) ≤ most_refusal_bytes
    → (text : List ℕ) → answer_text o ns ≡ some text → length text ≤ most_bytes o
unfolding answer_text most_bytes
answer_refusal_most o r ns is most text e =
    let line : some (refusal_line r) ≡ some text = sym (ap (λ (p : Counted). answer_text p ns) is) ∙ e in
    let same : refusal_line r ≡ text = cc in
    rw is (omega (arith, ap length same))

-- no answer takes more than there is room for where the rows of any sheet fit
pub most_fits : (o : Counted) → ((total : ℕ) → o ≡ Ok total → row_width * total ≤ most_numbers) → most_bytes o ≤ 11 * most_numbers + 16
unfolding most_bytes most_rows_bytes header_text
most_fits (Ok total) h =
    let most : row_width * total ≤ most_numbers = h total refl in
    simp length-append (omega (arith, digits_below total 3 (omega arith) (omega arith)))
most_fits (Err r) h = omega arith
