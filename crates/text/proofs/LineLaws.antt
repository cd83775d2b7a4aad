-- A line of numbers, number by number.
-- Assumes nothing.
use Prim.Native.Nat.{ℕ, zero, suc, ◌+◌, ◌*◌, ◌^◌, ◌≤◌, ◌<◌}
use mathlib.Core.List.{List, [], ◌∷◌, ◌++◌, append_assoc, map, map-append}
use mathlib.Core.Path.{◌≡◌, refl, sym, ap, ◌∙◌}
use native.Mathlib.Omega.{arith}
use lib.ListN.{length, take, drop, get_or, length-append, take-append-drop}
use lib.Seq.{take-suc, take-length}
use Rattle.text.specs.Characters.{SPACE, LF}
use Rattle.text.specs.Numbers.{decimal_text}
use Rattle.text.specs.Lines.{spaced, line_of, numbers_line}
use Rattle.text.specs.Steps.{item}
use Rattle.text.proofs.NumberLaws.{digits_below}

-- a number of a line, the first and each later one
pub item_first : (i n : ℕ) → i ≡ 0 → item i n ≡ decimal_text n
unfolding item
item_first zero n e = refl
item_first (suc i) n e = absurd (omega arith)

pub item_later : (i n : ℕ) → (i ≡ 0 → ⊥) → item i n ≡ SPACE ∷ decimal_text n
unfolding item
item_later zero n e = absurd (e refl)
item_later (suc i) n e = refl

-- a text behind others
pub spaced_snoc : (t u : List ℕ) (ts : List (List ℕ)) → spaced ((t ∷ ts) ++ (u ∷ [])) ≡ spaced (t ∷ ts) ++ SPACE ∷ u
unfolding spaced
spaced_snoc t u [] = refl
spaced_snoc t u (s ∷ ts) =
    ap (λ (l : List ℕ). t ++ SPACE ∷ l) (spaced_snoc s u ts) ∙ append_assoc_of (spaced (s ∷ ts))
  where
    append_assoc_of : (l : List ℕ) → t ++ SPACE ∷ (l ++ SPACE ∷ u) ≡ (t ++ SPACE ∷ l) ++ SPACE ∷ u
    append_assoc_of l = simp append_assoc

-- the numbers of a line up to an index, and the one there
pub spaced_suc : (ns : List ℕ) (i : ℕ) → i < length ns → spaced (map decimal_text (take (suc i) ns)) ≡ spaced (map decimal_text (take i ns)) ++ item i (get_or ns i 0)
spaced_suc ns i h =
    ap (λ (l : List ℕ). spaced (map decimal_text l)) (take-suc ns i 0 h)
    ∙ ap spaced (map-append decimal_text (take i ns) (get_or ns i 0 ∷ []))
    ∙ last ns i h
  where
    last : (ns : List ℕ) (i : ℕ) → i < length ns → spaced (map decimal_text (take i ns) ++ (decimal_text (get_or ns i 0) ∷ [])) ≡ spaced (map decimal_text (take i ns)) ++ item i (get_or ns i 0)
    last [] i h = absurd (omega arith)
    last (n ∷ ns) zero h = unfold spaced item in refl
    last (n ∷ ns) (suc i) h = unfold item in spaced_snoc (decimal_text n) (decimal_text (get_or ns i 0)) (map decimal_text (take i ns))

-- the first of some texts take no more than all
spaced_longer : (ts us : List (List ℕ)) → length (spaced ts) ≤ length (spaced (ts ++ us))
unfolding spaced
spaced_longer [] us = omega arith
spaced_longer (t ∷ []) [] = omega arith
spaced_longer (t ∷ []) (u ∷ us) = omega (arith, length-append t (SPACE ∷ spaced (u ∷ us)))
spaced_longer (t ∷ s ∷ ts) us =
    omega (arith, spaced_longer (s ∷ ts) us, length-append t (SPACE ∷ spaced (s ∷ ts)), length-append t (SPACE ∷ spaced (s ∷ ts ++ us)))

-- the numbers up to an index and the one there take less than the line
pub line_longer : (ns : List ℕ) (i : ℕ) → i < length ns → length (spaced (map decimal_text (take i ns))) + length (item i (get_or ns i 0)) ≤ length (numbers_line ns)
unfolding numbers_line
line_longer ns i h =
    let cut : map decimal_text (take (suc i) ns) ++ map decimal_text (drop (suc i) ns) ≡ map decimal_text ns =
    sym (map-append decimal_text (take (suc i) ns) (drop (suc i) ns)) ∙ ap (map decimal_text) (take-append-drop (suc i) ns) in
    omega (arith, length-append (spaced (map decimal_text (take i ns))) (item i (get_or ns i 0)), ap length (spaced_suc ns i h), spaced_longer (map decimal_text (take (suc i) ns)) (map decimal_text (drop (suc i) ns)), ap (λ (ts : List (List ℕ)). length (spaced ts)) cut, length-append (spaced (map decimal_text ns)) (LF ∷ []))

-- all of them, and the line's end
pub line_end : (ns : List ℕ) (i : ℕ) → i ≡ length ns → spaced (map decimal_text (take i ns)) ++ LF ∷ [] ≡ numbers_line ns
unfolding numbers_line
line_end ns i e = ap (λ (l : List ℕ). line_of (spaced (map decimal_text l))) (ap (λ (k : ℕ). take k ns) e ∙ take-length ns)

-- numbers of 32 bits take at most ten digits each, and the byte after them
spaced_most : (n : ℕ) (ns : List ℕ) → ((i : ℕ) → get_or (n ∷ ns) i 0 < 2 ^ 32) → length (spaced (map decimal_text (n ∷ ns))) + 1 ≤ 11 * length (n ∷ ns)
unfolding spaced
spaced_most n [] small = omega (arith, digits_below n 10 (omega arith) (omega (arith, small 0)))
spaced_most n (m ∷ ns) small =
    omega (arith, digits_below n 10 (omega arith) (omega (arith, small 0)), spaced_most m ns (λ i. small (suc i)), length-append (decimal_text n) (SPACE ∷ spaced (map decimal_text (m ∷ ns))))

pub line_most : (ns : List ℕ) → 0 < length ns → ((i : ℕ) → get_or ns i 0 < 2 ^ 32) → length (numbers_line ns) ≤ 11 * length ns
unfolding numbers_line
line_most [] some small = absurd (omega arith)
line_most (n ∷ ns) some small = omega (arith, spaced_most n ns small, length-append (spaced (map decimal_text (n ∷ ns))) (LF ∷ []))
