-- Rows as text, row by row.
-- Assumes nothing.
use Prim.Native.Nat.{ℕ, zero, suc, ◌+◌, ◌*◌, ◌-◌, ◌≤◌, ◌<◌}
use mathlib.Core.List.{List, [], ◌∷◌, ◌++◌, append_assoc, append-nil}
use mathlib.Core.Path.{◌≡◌, refl, sym, ap, ◌∙◌}
use native.Mathlib.Omega.{arith}
use lib.ListN.{length, take, drop, length-append, length-drop}
use lib.Seq.{drop-drop, take-append-le, drop-append-le}
use Rattle.text.specs.Lines.{numbers_line}
use Rattle.schema.specs.Rows.{row_width}
use Rattle.schema_text.specs.Rows.{cut, lines_of}

-- the numbers of a row
abbrev pub row_at : ℕ → List ℕ → List ℕ
row_at i ns = take row_width (drop (row_width * i) ns)

-- the part of the numbers that is a row
pub part_row : (i : ℕ) (ns : List ℕ) → take (row_width * i + row_width - row_width * i) (drop (row_width * i) ns) ≡ row_at i ns
part_row i ns =
    let width : row_width * i + row_width - row_width * i ≡ row_width = omega arith in
    ap (λ (n : ℕ). take n (drop (row_width * i) ns)) width

-- some rows and the others
cut_add : (i j k : ℕ) (ns : List ℕ) → k ≡ i + j → cut k ns ≡ cut i ns ++ cut j (drop (row_width * i) ns)
unfolding cut
cut_add zero j k ns e = let same : k ≡ j = omega arith in ap (λ (n : ℕ). cut n ns) same
cut_add (suc i) j zero ns e = absurd (omega arith)
cut_add (suc i) j (suc k) ns e =
    let further : row_width + row_width * i ≡ row_width * suc i = omega arith in
    ap (λ (rows : List (List ℕ)). take row_width ns ∷ rows)
    (cut_add i j k (drop row_width ns) (omega arith)
    ∙ ap (λ (l : List ℕ). cut i (drop row_width ns) ++ cut j l) (drop-drop (row_width * i) row_width ns ∙ ap (λ (n : ℕ). drop n ns) further))

lines_of_append : (xs ys : List (List ℕ)) → lines_of (xs ++ ys) ≡ lines_of xs ++ lines_of ys
unfolding lines_of
lines_of_append [] ys = refl
lines_of_append (x ∷ xs) ys = ap (λ (l : List ℕ). numbers_line x ++ l) (lines_of_append xs ys) ∙ sym (append_assoc (numbers_line x) (lines_of xs) (lines_of ys))

lines_add : (i j k : ℕ) (ns : List ℕ) → k ≡ i + j → lines_of (cut k ns) ≡ lines_of (cut i ns) ++ lines_of (cut j (drop (row_width * i) ns))
lines_add i j k ns e = ap lines_of (cut_add i j k ns e) ∙ lines_of_append (cut i ns) (cut j (drop (row_width * i) ns))

-- the lines of some rows, and that of the next
pub lines_suc : (i : ℕ) (ns : List ℕ) → lines_of (cut (i + 1) ns) ≡ lines_of (cut i ns) ++ numbers_line (row_at i ns)
lines_suc i ns = lines_add i 1 (i + 1) ns refl ∙ ap (λ (l : List ℕ). lines_of (cut i ns) ++ l) (one (drop (row_width * i) ns))
  where
    one : (l : List ℕ) → lines_of (cut 1 l) ≡ numbers_line (take row_width l)
    one l = unfold lines_of cut in append-nil (numbers_line (take row_width l))

-- they take no more than those of all
pub lines_longer : (i t : ℕ) (ns : List ℕ) → i < t → length (lines_of (cut i ns)) + length (numbers_line (row_at i ns)) ≤ length (lines_of (cut t ns))
lines_longer i t ns h =
    omega (arith, ap length (lines_add (i + 1) (t - (i + 1)) t ns (omega arith)), length-append (lines_of (cut (i + 1) ns)) (lines_of (cut (t - (i + 1)) (drop (row_width * (i + 1)) ns))), ap length (lines_suc i ns), length-append (lines_of (cut i ns)) (numbers_line (row_at i ns)))

-- numbers past the rows do not matter
pub cut_front : (t : ℕ) (ns ms : List ℕ) → row_width * t ≤ length ns → cut t (ns ++ ms) ≡ cut t ns
unfolding cut
cut_front zero ns ms h = refl
cut_front (suc t) ns ms h =
    ap (λ (row : List ℕ). row ∷ cut t (drop row_width (ns ++ ms))) (take-append-le row_width ns ms (omega arith))
    ∙ ap (λ (rows : List (List ℕ)). take row_width ns ∷ rows)
    (ap (cut t) (drop-append-le row_width ns ms (omega arith)) ∙ cut_front t (drop row_width ns) ms (omega (arith, length-drop row_width ns)))
