-- Laws of numbers of up to 16 bytes, plus 2^127: their value, their distance from 0, and their order. Assumes nothing.
use mathlib.Core.Path.{◌≡◌, refl, sym, ap, ap₂, subst, ◌∙◌}
use mathlib.Core.Bool.{Bool, true, false}
use mathlib.Core.List.{List, [], ◌∷◌}
use mathlib.Core.Logic.{⊎_elim}
use Prim.Native.Nat.{ℕ, zero, suc, ◌+◌, ◌*◌, ◌-◌, ◌/◌, ◌^◌, ◌≤◌, ◌<◌}
use native.Mathlib.Nat.{one-mul, le_refl, le_of_lt, lt_of_le_of_lt, lt_of_lt_of_le, eq-or-lt_of_le, pow-le-pow_right, pow-suc, mul-div_cancel, min-eq_left}
use native.Mathlib.Numerals.{add-one}
use native.Mathlib.Omega.{arith}
use lib.Bits.{bit_xor, xor_block, xor_comm, xor_shifted, xor_zero_r}
use lib.Dec.{leb, ltb, ltb→lt}
use lib.IntN.{nat_abs, sub_ℕ}
use lib.ListN.{length, get_or, take, drop, length-take, length-drop, take-append-drop}
use lib.Pow.{pow-add, pow_mono, pow_pos}
use lib.Seq.{get_or-take, get_or-drop, take_all, take-suc}
use borrow.Author.Tests.{le-leb, lt-leb, leb-true, lt-ltb, le-ltb}
use Rattle.std.specs.Int.{w64, from_be_bytes, abs_diff}
use Rattle.decimal_bytes.specs.Number.{unsigned, is_negative, number}
use Rattle.decimal_bytes.specs.Precision.{is_length}
use Rattle.std.specs.Cmp.{nat_cmp_is}
use Rattle.std.specs.Ordering.{nat_cmp}
use Rattle.std.specs.declared.cmp.Ordering.TheVariants.{Less, Equal, Greater}
use Rattle.decimal_bytes.specs.Order.{order}
use Rattle.decimal_bytes.proofs.OrderLaws.{subℕ_order}
use Rattle.decimal.specs.Steps.{is_short, sign_weight, taken, four_bytes, eight_bytes}
use Rattle.laws.proofs.BoolLaws.{and_left, and_right}
use Rattle.laws.proofs.DifferenceLaws.{sub_below, sub_above, sub_eq, below?}
use Rattle.decimal_bytes.proofs.PrecisionLaws.{is_length_within}
use Rattle.laws.proofs.ByteLaws.{EachByte}
use Rattle.decimal_bytes.proofs.UnsignedLaws.{unsigned_drop, unsigned-++}
use Rattle.decimal_bytes.proofs.NumberLaws.{sign_bit}
use Rattle.decimal_bytes.proofs.BoundLaws.{sign_clear, sign_set}

-- ---- eight bytes as a word

none : (bs : List ℕ) → length bs ≡ 0 → unsigned bs ≡ 0
none [] e = refl
none (b ∷ bs) e = absurd (omega arith)

module _ (bs : List ℕ) (e : length bs ≡ 8) where
  -- the number from a place on, by its first byte
  from : (k : ℕ) → k < 8 → unsigned (drop k bs) ≡ get_or bs k 0 * 256 ^ (8 - suc k) + unsigned (drop (suc k) bs)
  from k h =
      subst (λ (n : ℕ). unsigned (drop k bs) ≡ get_or bs k 0 * 256 ^ (n - suc k) + unsigned (drop (suc k) bs)) e
      (unsigned_drop bs k (rw e h))

  first : unsigned bs ≡ four_bytes bs 0 * 256 ^ 4 + unsigned (drop 4 bs)
  unfolding four_bytes
  first = omega (arith, from 0 (omega arith), from 1 (omega arith), from 2 (omega arith), from 3 (omega arith))

  end : unsigned (drop 8 bs) ≡ 0
  end = none (drop 8 bs) (length-drop 8 bs ∙ omega (arith, e))

  second : unsigned (drop 4 bs) ≡ four_bytes bs 4
  unfolding four_bytes
  second = omega (arith, end, from 4 (omega arith), from 5 (omega arith), from 6 (omega arith), from 7 (omega arith))

  eight : eight_bytes bs 0 ≡ unsigned bs
  unfolding eight_bytes
  eight = omega (arith, first, second)

-- the word from a place on is the number of the eight bytes there
module _ (bs : List ℕ) (at : ℕ) (h : at + 8 ≤ length bs) where
  abbrev part : List ℕ
  part = take 8 (drop at bs)

  part_length : length part ≡ 8
  part_length = simp (length-take, length-drop) (omega arith)

  byte : (n k : ℕ) → k < 8 → n ≡ at + k → get_or bs n 0 ≡ get_or part k 0
  byte n k l e = ap (λ (m : ℕ). get_or bs m 0) e ∙ sym (get_or-take 8 (drop at bs) k 0 l ∙ get_or-drop at bs k 0)

  four_first : four_bytes bs at ≡ four_bytes part 0
  unfolding four_bytes
  four_first = omega (arith, byte at 0 (omega arith) (omega arith), byte (at + 1) 1 (omega arith) (omega arith), byte (at + 2) 2 (omega arith) (omega arith), byte (at + 3) 3 (omega arith) (omega arith))

  four_second : four_bytes bs (at + 4) ≡ four_bytes part 4
  unfolding four_bytes
  four_second = omega (arith, byte (at + 4) 4 (omega arith) (omega arith), byte (at + 4 + 1) 5 (omega arith) (omega arith), byte (at + 4 + 2) 6 (omega arith) (omega arith), byte (at + 4 + 3) 7 (omega arith) (omega arith))

  pub word_unsigned : eight_bytes bs at ≡ unsigned (take 8 (drop at bs))
  unfolding eight_bytes
  word_unsigned = ap₂ (λ (m n : ℕ). m * 2 ^ 32 + n) four_first four_second ∙ eight part part_length

-- ---- the first bytes

pub unsigned_next : (bs : List ℕ) (at : ℕ) → at < length bs → unsigned (take (at + 1) bs) ≡ unsigned (take at bs) * 256 + get_or bs at 0
unsigned_next bs at h =
    rw (add-one, take-suc bs at 0) (unsigned-++ (take at bs) (get_or bs at 0 ∷ []) ∙ omega arith)

pub power_next : (n b at : ℕ) → n < 256 ^ at → b < 256 → n * 256 + b < 256 ^ (at + 1)
power_next n b at h k = rw (add-one, pow-suc) (omega arith)

-- the bytes in front of the last eight, and those
unsigned_split : (bs : List ℕ) (count : ℕ) → length bs ≡ count + 8
    → unsigned bs ≡ unsigned (take count bs) * 2 ^ 64 + unsigned (take 8 (drop count bs))
unsigned_split bs count e =
    let rest : length (drop count bs) ≡ 8 = length-drop count bs ∙ omega arith in
    sym (ap unsigned (take-append-drop count bs))
    ∙ unsigned-++ (take count bs) (drop count bs)
    ∙ ap₂ (λ (n : ℕ) (l : List ℕ). unsigned (take count bs) * 256 ^ n + unsigned l) rest (sym (take_all 8 (drop count bs) (omega arith)))

-- ---- the first bit, which is the sign

-- a bit is added where it is clear, and taken where it is set
xor_clear : (k n : ℕ) → n < 2 ^ k → bit_xor n (2 ^ k) ≡ n + 2 ^ k
xor_clear k n h = xor_comm n (2 ^ k) ∙ ap (λ (m : ℕ). bit_xor m n) (sym (one-mul (2 ^ k))) ∙ xor_shifted 1 k n h ∙ omega arith

xor_set : (k n : ℕ) → 2 ^ k ≤ n → n < 2 * 2 ^ k → bit_xor n (2 ^ k) ≡ n - 2 ^ k
xor_set k n h l =
    let e : n ≡ 1 * 2 ^ k + (n - 2 ^ k) = omega arith in
    let f : 2 ^ k ≡ 1 * 2 ^ k + 0 = omega arith in
    ap₂ bit_xor e f
    ∙ xor_block k 1 1 (n - 2 ^ k) 0 (omega arith) (pow_pos k)
    ∙ ap (λ (m : ℕ). 0 * 2 ^ k + m) (xor_zero_r (n - 2 ^ k))
    ∙ omega arith

-- half of what so many bytes hold
power_sign : (count : ℕ) → 1 ≤ count → 256 ^ count ≡ 2 * sign_weight count
power_sign zero h = absurd (omega arith)
power_sign (suc n) h = omega (arith, pow-suc 256 n, sign_bit n)

pub sign-≤ : (count : ℕ) → count ≤ 8 → sign_weight count ≤ 2 ^ 63
sign-≤ count h = pow_mono {j = 63} (omega arith)

pub sign_shifted : (count : ℕ) → 1 ≤ count → count ≤ 8 → 2 ^ 63 / 2 ^ (64 - 8 * count) ≡ sign_weight count
sign_shifted count h l =
    let e : 8 * count - 1 + (64 - 8 * count) ≡ 63 = omega arith in
    ap (λ (n : ℕ). n / 2 ^ (64 - 8 * count)) (sym (ap (λ (n : ℕ). 2 ^ n) e) ∙ pow-add 2 (8 * count - 1) (64 - 8 * count))
    ∙ mul-div_cancel (sign_weight count) (pow_pos (64 - 8 * count))

module _ (n count : ℕ) (some : 1 ≤ count) (word : count ≤ 8) (h : n < 256 ^ count) where
  twice : n < 2 * sign_weight count
  twice = subst (λ (m : ℕ). n < m) (power_sign count some) h

  sign_xor : bit_xor n (sign_weight count) + taken (leb (sign_weight count) n) count ≡ n + sign_weight count
  sign_xor =
      below? n (sign_weight count)
      (λ l. rw (lt-leb (sign_weight count) n l) (omega (arith, xor_clear (8 * count - 1) n l)))
      (λ l. rw (le-leb (sign_weight count) n l) (omega (arith, xor_set (8 * count - 1) n l twice, power_sign count some)))

  sign-xor-< : bit_xor n (sign_weight count) < 2 * sign_weight count
  sign-xor-< =
      below? n (sign_weight count)
      (λ l. omega (arith, xor_clear (8 * count - 1) n l))
      (λ l. omega (arith, xor_set (8 * count - 1) n l twice, twice))

  pub lifted_fits : bit_xor n (sign_weight count) + (2 ^ 63 - sign_weight count) < 2 ^ 64
  lifted_fits = omega (arith, sign-xor-<, sign-≤ count word)

  pub lifted_number : bit_xor n (sign_weight count) + (2 ^ 63 - sign_weight count) + taken (leb (sign_weight count) n) count ≡ n + 2 ^ 63
  lifted_number = omega (arith, sign_xor, sign-≤ count word)

-- the first bit of bytes is their sign
sign_first : (bs : List ℕ) → EachByte bs → 1 ≤ length bs → leb (sign_weight (length bs)) (unsigned bs) ≡ is_negative bs
sign_first [] h k = absurd (omega arith)
sign_first (b ∷ bs) h k =
    below? (unsigned (b ∷ bs)) (128 * 256 ^ length bs)
    (λ l. lt-leb _ _ (subst (λ (m : ℕ). unsigned (b ∷ bs) < m) (sign_bit (length bs)) l) ∙ sym (sign_clear b bs h l))
    (λ l. le-leb _ _ (subst (λ (m : ℕ). m ≤ unsigned (b ∷ bs)) (sign_bit (length bs)) l) ∙ sym (sign_set b bs h l))

Bytes_take : (n : ℕ) (bs : List ℕ) → EachByte bs → EachByte (take n bs)
Bytes_take zero bs h = tt
Bytes_take (suc n) [] h = tt
Bytes_take (suc n) (b ∷ bs) h = (h.0, Bytes_take n bs h.1)

sign_front : (bs : List ℕ) (count : ℕ) → EachByte bs → 1 ≤ count → count ≤ length bs
    → leb (sign_weight count) (unsigned (take count bs)) ≡ is_negative bs
sign_front bs count h some within =
    let e : length (take count bs) ≡ count = length-take count bs ∙ min-eq_left within in
    subst (λ (n : ℕ). leb (sign_weight n) (unsigned (take count bs)) ≡ is_negative (take count bs)) e
    (sign_first (take count bs) (Bytes_take count bs h) (omega arith))
    ∙ ap (leb 128) (get_or-take count bs 0 0 some)

pub lifted_front : (bs : List ℕ) (count n lifted : ℕ) → EachByte bs → 1 ≤ count → count ≤ length bs → n ≡ unsigned (take count bs)
    → lifted + taken (leb (sign_weight count) n) count ≡ n + 2 ^ 63 → lifted + taken (is_negative bs) count ≡ unsigned (take count bs) + 2 ^ 63
lifted_front bs count n lifted h some within e f =
    ap (λ (t : Bool). lifted + taken t count) (sym (sign_front bs count h some within) ∙ ap (leb (sign_weight count)) (sym e))
    ∙ f
    ∙ ap (λ (m : ℕ). m + 2 ^ 63) e

-- ---- the number of the words

taken_more : (t : Bool) (count : ℕ) → taken t (count + 8) ≡ taken t count * 2 ^ 64
taken_more true count = pow-add 256 count 8
taken_more false count = refl

-- two words, of which the first is the number of the bytes in front, plus half of what it holds
words_joined : (high low u h t a : ℕ) → high + a ≡ u + h → h * 2 ^ 64 ≡ t → high * 2 ^ 64 + low + a * 2 ^ 64 ≡ u * 2 ^ 64 + low + t
words_joined high low u h t a e f = omega arith

-- and two of a number that one word holds
words_moved : (v l u h t a : ℕ) → v + h ≡ l + t → l + a ≡ u + h → v + a ≡ u + t
words_moved v l u h t a e f = omega arith

number_words : (bs : List ℕ) (value : ℕ) → value + taken (is_negative bs) (length bs) ≡ unsigned bs + 2 ^ 127
    → sub_ℕ value (2 ^ 127) ≡ number bs
unfolding number
number_words bs value e = sub_eq value (2 ^ 127) (unsigned bs) (taken (is_negative bs) (length bs)) e

pub two_words : (bs : List ℕ) (count high low : ℕ) → length bs ≡ count + 8 → high + taken (is_negative bs) count ≡ unsigned (take count bs) + 2 ^ 63
    → low ≡ unsigned (take 8 (drop count bs)) → sub_ℕ (high * 2 ^ 64 + low) (2 ^ 127) ≡ number bs
two_words bs count high low e f g =
    number_words bs (high * 2 ^ 64 + low)
    (ap (λ (a : ℕ). high * 2 ^ 64 + low + a) (ap (taken (is_negative bs)) e ∙ taken_more (is_negative bs) count)
    ∙ words_joined high low (unsigned (take count bs)) (2 ^ 63) (2 ^ 127) (taken (is_negative bs) count) f refl
    ∙ ap (λ (u : ℕ). u + 2 ^ 127) (ap (λ (l : ℕ). unsigned (take count bs) * 2 ^ 64 + l) g ∙ sym (unsigned_split bs count e)))

pub one_word : (bs : List ℕ) (v lifted : ℕ) → v + 2 ^ 63 ≡ lifted + 2 ^ 127
    → lifted + taken (is_negative bs) (length bs) ≡ unsigned (take (length bs) bs) + 2 ^ 63 → sub_ℕ v (2 ^ 127) ≡ number bs
one_word bs v lifted e f =
    number_words bs v
    (words_moved v lifted (unsigned (take (length bs) bs)) (2 ^ 63) (2 ^ 127) (taken (is_negative bs) (length bs)) e f
    ∙ ap (λ (l : List ℕ). unsigned l + 2 ^ 127) (take_all (length bs) bs (le_refl (length bs))))

-- ---- the distance from 0, which stands at m

module _ (v m : ℕ) where
  far_above : m ≤ v → nat_abs (sub_ℕ v m) ≡ v - m
  far_above h = ap nat_abs (sub_above v m h)

  far_below : v < m → nat_abs (sub_ℕ v m) ≡ m - v
  far_below h = ap nat_abs (sub_below v m h) ∙ omega arith

  far-≤ : v ≤ m + m → nat_abs (sub_ℕ v m) ≤ m
  far-≤ h = below? v m (λ l. omega (arith, far_below l)) (λ l. omega (arith, far_above l))

  pub far : nat_abs (sub_ℕ v m) ≡ abs_diff v m
  far = below? v m (λ l. far_below l ∙ omega arith) (λ l. far_above l ∙ omega arith)

-- ---- the order of two values

pub cmp_order : (m n : ℕ) → nat_cmp m n ≡ order (sub_ℕ m (2 ^ 127)) (sub_ℕ n (2 ^ 127))
cmp_order m n =
    below? m n
    (λ h. sym (nat_cmp_is m n Less h) ∙ subℕ_order m n (2 ^ 127) true _ (lt-ltb m n h) refl)
    (λ h. ⊎_elim
    (λ e. sym (nat_cmp_is m n Equal (sym e)) ∙ subℕ_order m n (2 ^ 127) false false (le-ltb m n h) (le-ltb n m (omega arith)))
    (λ l. sym (nat_cmp_is m n Greater l) ∙ subℕ_order m n (2 ^ 127) false true (le-ltb m n h) (lt-ltb n m l))
    (eq-or-lt_of_le h))

-- 39 digits are more than what 16 bytes hold
power_beyond : (u precision : ℕ) → u ≤ 2 ^ 127 → 39 ≤ precision → u < 10 ^ precision
power_beyond u precision h k =
    lt_of_lt_of_le (lt_of_le_of_lt h (ltb→lt (2 ^ 127) (10 ^ 39) tt)) (pow-le-pow_right {n = 10} (omega arith) k)

pub far_beyond : (n precision : ℕ) → n < 2 ^ 128 → 39 ≤ precision → true ≡ ltb (nat_abs (sub_ℕ n (2 ^ 127))) (10 ^ precision)
far_beyond n precision h k =
    sym (lt-ltb _ _ (power_beyond _ precision (far-≤ n (2 ^ 127) (le_of_lt h)) k))

-- ---- the lengths of short numbers

pub is_short_bounds : (n : ℕ) → is_short n ≡ true → (1 ≤ n) × (n ≤ 16)
is_short_bounds n e = (leb-true 1 n (and_left (leb 1 n) (leb n 16) e), leb-true n 16 (and_right (leb 1 n) (leb n 16) e))

pub short_length : (n : ℕ) → 1 ≤ n → n ≤ 16 → is_length n ≡ true
short_length n h l = is_length_within n h (omega arith)

-- ---- eight bytes, the most significant first

pub from_eight : (bs : List ℕ) (at : ℕ)
    → from_be_bytes w64 (get_or bs at 0 ∷ get_or bs (at + 1) 0 ∷ get_or bs (at + 2) 0 ∷ get_or bs (at + 3) 0 ∷ get_or bs (at + 4) 0 ∷ get_or bs (at + 5) 0 ∷ get_or bs (at + 6) 0 ∷ get_or bs (at + 7) 0 ∷ [])
    ≡ eight_bytes bs at
unfolding eight_bytes four_bytes
from_eight bs at =
    eight (get_or bs at 0) (get_or bs (at + 1) 0) (get_or bs (at + 2) 0) (get_or bs (at + 3) 0) (get_or bs (at + 4) 0) (get_or bs (at + 5) 0) (get_or bs (at + 6) 0) (get_or bs (at + 7) 0)
    ∙ ap (λ (n : ℕ). (((get_or bs at 0 * 256 + get_or bs (at + 1) 0) * 256 + get_or bs (at + 2) 0) * 256 + get_or bs (at + 3) 0) * 2 ^ 32 + n) places
  where
    place : (k l m : ℕ) → k + l ≡ m → get_or bs (at + m) 0 ≡ get_or bs (at + k + l) 0
    place k l m e = ap (λ (n : ℕ). get_or bs n 0) (omega arith)

    places : ((get_or bs (at + 4) 0 * 256 + get_or bs (at + 5) 0) * 256 + get_or bs (at + 6) 0) * 256 + get_or bs (at + 7) 0
        ≡ ((get_or bs (at + 4) 0 * 256 + get_or bs (at + 4 + 1) 0) * 256 + get_or bs (at + 4 + 2) 0) * 256 + get_or bs (at + 4 + 3) 0
    places = rw (place 4 1 5 refl, place 4 2 6 refl, place 4 3 7 refl)

    eight : (a b c d e f g h : ℕ) → from_be_bytes w64 (a ∷ b ∷ c ∷ d ∷ e ∷ f ∷ g ∷ h ∷ []) ≡ (((a * 256 + b) * 256 + c) * 256 + d) * 2 ^ 32 + (((e * 256 + f) * 256 + g) * 256 + h)
    eight a b c d e f g h = omega arith
