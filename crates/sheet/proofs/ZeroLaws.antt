-- Laws of bytes that are zero.
use mathlib.Core.Path.{◌≡◌, refl, sym, ap, ◌∙◌}
use mathlib.Core.Bool.{Bool, true, ◌&&◌, and-eq-true_iff}
use mathlib.Core.List.{List, [], ◌∷◌}
use Prim.Native.Nat.{ℕ, zero, suc, ◌+◌, ◌-◌, ◌≤◌, ◌<◌}
use native.Mathlib.Decide.{dec_lt}
use native.Mathlib.Omega.{arith}
use lib.Dec.{eqb}
use lib.ListN.{length, get_or, take, drop, length-take, length-drop}
use lib.Seq.{get_or-take, get_or-drop}
use borrow.Author.Tests.{eq-eqb, eqb-true}
use Rattle.std.specs.List.{list_all}
use Rattle.sheet.specs.Number.{number_at}
use Rattle.sheet.specs.Block.{slot_size}
use Rattle.sheet.specs.Slot.{name_at}
use Rattle.sheet.specs.Sound.{all_zero}
use Rattle.sheet.specs.Steps.{pair_size, stretch_zero}
use Rattle.sheet.proofs.NumberLaws.{Zeros, number_at_zero, number_at_none}
use Rattle.laws.proofs.BoolLaws.{same_test}

all_zero_true : (bytes : List ℕ) → ((k : ℕ) → k < length bytes → get_or bytes k 0 ≡ 0) → all_zero bytes ≡ true
unfolding all_zero
all_zero_true [] zeros = refl
all_zero_true (byte ∷ bytes) zeros = rw (eq-eqb byte 0 (zeros 0 (omega arith))) (all_zero_true bytes (λ k h. zeros (suc k) (omega arith)))

-- the library's word for it
pub list_all_zero : (bytes : List ℕ) → list_all (λ byte. eqb byte 0) bytes ≡ all_zero bytes
unfolding all_zero
list_all_zero [] = refl
list_all_zero (byte ∷ bytes) = ap (λ (t : Bool). eqb byte 0 && t) (list_all_zero bytes)

-- where all bytes are zero, each is
pub all_zero_each : (bytes : List ℕ) → all_zero bytes ≡ true → (k : ℕ) → get_or bytes k 0 ≡ 0
unfolding all_zero
all_zero_each [] e k = refl
all_zero_each (byte ∷ bytes) e zero = eqb-true byte 0 ((and-eq-true_iff (eqb byte 0) (all_zero bytes)).0 e).0
all_zero_each (byte ∷ bytes) e (suc k) = all_zero_each bytes ((and-eq-true_iff (eqb byte 0) (all_zero bytes)).0 e).1 k

-- a stretch is zero where its bytes are
pub stretch_true : (bytes : List ℕ) (a n : ℕ) → Zeros bytes a (a + n) → stretch_zero bytes a n ≡ true
stretch_true bytes a n zeros = all_zero_true (take n (drop a bytes)) each
  where
    each : (k : ℕ) → k < length (take n (drop a bytes)) → get_or (take n (drop a bytes)) k 0 ≡ 0
    each k h =
        let l : k < n = omega (arith, length-take n (drop a bytes)) in
        get_or-take n (drop a bytes) k 0 l ∙ get_or-drop a bytes k 0 ∙ zeros (a + k) (omega arith) (omega arith)

pub stretch_zeros : (bytes : List ℕ) (a n : ℕ) → stretch_zero bytes a n ≡ true → Zeros bytes a (a + n)
stretch_zeros bytes a n e k l h =
    let there : k ≡ a + (k - a) = omega arith in
    ap (λ (i : ℕ). get_or bytes i 0) there
    ∙ sym (get_or-take n (drop a bytes) (k - a) 0 (omega arith) ∙ get_or-drop a bytes (k - a) 0)
    ∙ all_zero_each (take n (drop a bytes)) e (k - a)

-- a rest is zero where its bytes are
pub rest_true : (bytes : List ℕ) (a : ℕ) → Zeros bytes a (length bytes) → all_zero (drop a bytes) ≡ true
rest_true bytes a zeros = all_zero_true (drop a bytes) each
  where
    each : (k : ℕ) → k < length (drop a bytes) → get_or (drop a bytes) k 0 ≡ 0
    each k h = get_or-drop a bytes k 0 ∙ zeros (a + k) (omega arith) (omega (arith, length-drop a bytes))

pub rest_zeros : (bytes : List ℕ) (a b : ℕ) → all_zero (drop a bytes) ≡ true → Zeros bytes a b
rest_zeros bytes a b e k l h =
    let there : k ≡ a + (k - a) = omega arith in
    ap (λ (i : ℕ). get_or bytes i 0) there ∙ sym (get_or-drop a bytes (k - a) 0) ∙ all_zero_each (drop a bytes) e (k - a)

-- every stretch of a rest that is zero is zero
pub rest_stretch : (bytes : List ℕ) (from a n : ℕ) → from ≤ a → all_zero (drop from bytes) ≡ true → stretch_zero bytes a n ≡ true
rest_stretch bytes from a n l e = stretch_true bytes a n (λ k low high. rest_zeros bytes from (a + n) e k (omega arith) high)

-- zeros, and zeros that start no later than those end
pub zeros_join : (bytes : List ℕ) {a b c d : ℕ} → Zeros bytes a b → c ≤ b → Zeros bytes c d → Zeros bytes a d
zeros_join bytes {a} {b} {c} {d} front meet back k l h = cases (dec_lt k b)
  where
    cases : Dec (k < b) → get_or bytes k 0 ≡ 0
    cases (yes q) = front k l q
    cases (no q) = back k (omega arith) h

-- a stretch is zero just where its number is
pub stretch_number : (bytes : List ℕ) (a n : ℕ) → stretch_zero bytes a n ≡ eqb (number_at bytes a n) 0
stretch_number bytes a n = same_test _ _
    (λ e. eq-eqb _ 0 (number_at_none n bytes a (stretch_zeros bytes a n e)))
    (λ e. stretch_true bytes a n (number_at_zero n bytes a (eqb-true _ 0 e)))

-- a pair of words is zero just where both numbers are
pub pair_words : (bytes : List ℕ) (a : ℕ) → stretch_zero bytes a pair_size ≡ (eqb (number_at bytes a 8) 0 && eqb (number_at bytes (a + 8) 8) 0)
pair_words bytes a = same_test _ _
    (λ e.
    let zeros = stretch_zeros bytes a pair_size e in
    (and-eq-true_iff _ _).1 (
      eq-eqb _ 0 (number_at_none 8 bytes a (λ k l h. zeros k l (omega arith))),
      eq-eqb _ 0 (number_at_none 8 bytes (a + 8) (λ k l h. zeros k (omega arith) (omega arith))),
    ))
    (λ e.
    let both = (and-eq-true_iff _ _).0 e in
    let low = number_at_zero 8 bytes a (eqb-true _ 0 both.0) in
    let high = number_at_zero 8 bytes (a + 8) (eqb-true _ 0 both.1) in
    stretch_true bytes a pair_size (λ k l h. zeros_join bytes low (omega arith) high k l (omega arith)))

-- a slot is zero just where its first 24 bytes, by two pairs of words, and the rest are
pub slot_parts : (slot : List ℕ) → length slot ≡ slot_size
    → all_zero slot ≡ (stretch_zero slot 0 pair_size && stretch_zero slot 8 pair_size && all_zero (drop name_at slot))
slot_parts slot n = same_test (all_zero slot) _
    (λ e. (and-eq-true_iff _ _).1 ((and-eq-true_iff _ _).1 (rest_stretch slot 0 0 pair_size (omega arith) e, rest_stretch slot 0 8 pair_size (omega arith) e), rest_true slot name_at (λ k l h. rest_zeros slot 0 slot_size e k (omega arith) (omega arith))))
    (λ e.
    let parts = (and-eq-true_iff _ _).0 e in
    let pairs = (and-eq-true_iff _ _).0 parts.0 in
    let front = zeros_join slot (stretch_zeros slot 0 pair_size pairs.0) (omega arith) (stretch_zeros slot 8 pair_size pairs.1) in
    rest_true slot 0 (λ k l h. zeros_join slot front (omega arith) (rest_zeros slot name_at slot_size parts.1) k l (omega arith)))

-- a rest of one pair of words or more, and less than two with a byte, is zero just where its first pair and the slot's last are
pub rest_pairs : (slot : List ℕ) (from : ℕ) → length slot ≡ slot_size → 40 < from → from ≤ 56
    → all_zero (drop from slot) ≡ (stretch_zero slot from pair_size && stretch_zero slot 56 pair_size)
rest_pairs slot from n l h = same_test _ _
    (λ e. (and-eq-true_iff _ _).1 (rest_stretch slot from from pair_size (omega arith) e, rest_stretch slot from 56 pair_size (omega arith) e))
    (λ e.
    let pairs = (and-eq-true_iff _ _).0 e in
    rest_true slot from (λ k low high. zeros_join slot (stretch_zeros slot from pair_size pairs.0) (omega arith) (stretch_zeros slot 56 pair_size pairs.1) k low (omega arith)))

-- and a longer one just where the pair before the last is zero too
pub long_rest_pairs : (slot : List ℕ) (from : ℕ) → length slot ≡ slot_size → name_at ≤ from → from ≤ 40
    → all_zero (drop from slot) ≡ (stretch_zero slot from pair_size && stretch_zero slot 56 pair_size && stretch_zero slot 40 pair_size)
long_rest_pairs slot from n l h = same_test _ _
    (λ e. (and-eq-true_iff _ _).1 ((and-eq-true_iff _ _).1 (rest_stretch slot from from pair_size (omega arith) e, rest_stretch slot from 56 pair_size (omega arith) e), rest_stretch slot from 40 pair_size h e))
    (λ e.
    let parts = (and-eq-true_iff _ _).0 e in
    let pairs = (and-eq-true_iff _ _).0 parts.0 in
    let back = zeros_join slot (stretch_zeros slot 40 pair_size parts.1) (omega arith) (stretch_zeros slot 56 pair_size pairs.1) in
    rest_true slot from (λ k low high. zeros_join slot (stretch_zeros slot from pair_size pairs.0) (omega arith) back k low (omega arith)))
