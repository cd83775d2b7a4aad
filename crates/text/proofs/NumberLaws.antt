-- How many digits numbers have: the kit's `IsDigitCount` holds of one count alone, which is `digit_count` for decimal digits.
-- Assumes nothing.
use Prim.Native.Nat.{ℕ, zero, suc, ◌+◌, ◌-◌, ◌/◌, ◌%◌, ◌^◌, ◌≤◌, ◌<◌}
use mathlib.Core.Bool.{Bool, true, false}
use mathlib.Core.List.{List, [], ◌∷◌, ◌++◌}
use mathlib.Core.Path.{◌≡◌, refl, sym, ap, subst, ◌∙◌}
use native.Mathlib.Nat.{add-zero, add-suc, lt_of_lt_of_le, pow-le-pow_right, pow-suc}
use native.Mathlib.Omega.{arith}
use lib.Dec.{ltb}
use lib.IntN.{ℤ, pos, negsuc, nat_abs}
use lib.ListN.{length, take, drop, length-append, length-drop}
use lib.Seq.{drop-length, drop-append-le, take-length}
use lib.Signed.{lt_z}
use mir.Syntax.{w64}
use mir.Val.{Fits, SFits}
use borrow.Author.Tests.{ltb-true, ltb-false}
use Rattle.io.specs.Digits.{last_digits, hex_digit_ascii, IsDigitCount}
use Rattle.laws.proofs.DifferenceLaws.{below?}
use Rattle.text.specs.Characters.{MINUS}
use Rattle.text.specs.Numbers.{enough_digits, digit_count, decimal_text, signed_text, hex_text}

pub length_digits : (b k n : ℕ) → length (last_digits b k n) ≡ k
length_digits b zero n = refl
length_digits b (suc k) n = length-append (last_digits b k _) _ ∙ ap (λ (m : ℕ). m + 1) (length_digits b k _) ∙ omega arith

-- of two counts that are the fewest, none is less
fewest-≤ : (b least n j k : ℕ) → 0 < b → IsDigitCount b least n j → IsDigitCount b least n k → j ≤ k
fewest-≤ b least n j k base f g =
    below? k j
    (λ less. absurd (omega (arith, f.2 (omega arith), g.1, pow-le-pow_right {n = b} base {i = k} {j = j - 1} (omega arith))))
    (λ enough. enough)

pub fewest_unique : (b least n j k : ℕ) → 0 < b → IsDigitCount b least n j → IsDigitCount b least n k → j ≡ k
fewest_unique b least n j k base f g = omega (arith, fewest-≤ b least n j k base f g, fewest-≤ b least n k j base g f)

-- a number is below the power of ten that it is the exponent of
below_power : (n : ℕ) → n < 10 ^ n
below_power zero = omega arith
below_power (suc n) = omega (arith, below_power n, pow-suc 10 n)

enough_fewest : (more : ℕ) (enough : Bool) (k n : ℕ) → ltb n (10 ^ k) ≡ enough → 1 ≤ k → n < 10 ^ (k + more) → (1 < k → 10 ^ (k - 1) ≤ n)
    → IsDigitCount 10 1 n (enough_digits more enough k n)
unfolding enough_digits
enough_fewest zero enough k n e some below least = (some, subst (λ (m : ℕ). n < 10 ^ m) (omega arith) below, least)
enough_fewest (suc more) true k n e some below least = (some, ltb-true n (10 ^ k) e, least)
enough_fewest (suc more) false k n e some below least =
    enough_fewest more (ltb n (10 ^ suc k)) (suc k) n refl (omega arith)
    (subst (λ (m : ℕ). n < 10 ^ m) (omega arith) below)
    (λ _. subst (λ (m : ℕ). 10 ^ m ≤ n) (omega arith) (ltb-false n (10 ^ k) e))

-- the count of decimal digits is the fewest that hold the number
pub digit_count_fewest : (n : ℕ) → IsDigitCount 10 1 n (digit_count n)
unfolding digit_count
digit_count_fewest n =
    enough_fewest n (ltb n (10 ^ 1)) 1 n refl (omega arith)
    (lt_of_lt_of_le (below_power n) (pow-le-pow_right {n = 10} (omega arith) {i = n} {j = 1 + n} (omega arith)))
    (λ h. absurd (omega arith))

pub fewest_digit_count : (n k : ℕ) → IsDigitCount 10 1 n k → k ≡ digit_count n
fewest_digit_count n k f = fewest_unique 10 1 n k (digit_count n) (omega arith) f (digit_count_fewest n)

-- the digits of the fewest are the text
pub fewest_decimal : (n k : ℕ) {text : List ℕ} → IsDigitCount 10 1 n k → text ≡ last_digits 10 k n → text ≡ decimal_text n
unfolding decimal_text
fewest_decimal n k f e = e ∙ ap (λ (m : ℕ). last_digits 10 m n) (fewest_digit_count n k f)

pub length_decimal : (n : ℕ) → length (decimal_text n) ≡ digit_count n
unfolding decimal_text
length_decimal n = length_digits 10 (digit_count n) n

pub length_hex : (k n : ℕ) → length (hex_text k n) ≡ k
unfolding hex_text
length_hex k n = length_digits 16 k n

-- a number below a power of ten has no more digits than the exponent
pub digits_below : (n k : ℕ) → 1 ≤ k → n < 10 ^ k → length (decimal_text n) ≤ k
digits_below n k some below =
    let f = digit_count_fewest n in
    below? k (digit_count n)
    (λ more. absurd (omega (arith, f.2 (omega arith), pow-le-pow_right {n = 10} (omega arith) {i = k} {j = digit_count n - 1} (omega arith))))
    (λ few. omega (arith, length_decimal n))

-- a number of 64 bits has at most 20
pub decimal_most : (n : ℕ) → Fits w64 n → length (decimal_text n) ≤ 20
decimal_most n h = digits_below n 20 (omega arith) (omega (arith, h))

-- an integer of 64 bits takes no more, with its sign
pub signed_most : (z : ℤ) → SFits w64 z → length (signed_text z) ≤ 20
unfolding signed_text
signed_most (pos n) h = decimal_most n (record { fits = omega (arith, h.sfits) })
signed_most (negsuc n) h = omega (arith, digits_below (suc n) 19 (omega arith) (omega (arith, h.sfits)))

-- a number that so many hexadecimal digits hold has just these
pub fewest_hex : (k n j : ℕ) {text : List ℕ} → n < 16 ^ k → IsDigitCount 16 k n j → text ≡ last_digits 16 j n → text ≡ hex_text k n
unfolding hex_text
fewest_hex k n j below f e =
    e ∙ ap (λ (m : ℕ). last_digits 16 m n) (fewest_unique 16 k n j k (omega arith) f (omega arith, below, λ h. absurd (omega arith)))

-- of all the digits of a number the last so many
last_behind : (b j k n : ℕ) → drop j (last_digits b (j + k) n) ≡ last_digits b k n
last_behind b j zero n = rw add-zero (drop-all-of (last_digits b j n) j (length_digits b j n))
  where
    drop-all-of : (l : List ℕ) (j : ℕ) → length l ≡ j → drop j l ≡ []
    drop-all-of l j e = rw (← e) (drop-length l)
last_behind b j (suc k) n =
    rw add-suc
    (drop-append-le j (last_digits b (j + k) (n / b)) (hex_digit_ascii (n % b) ∷ []) (omega (arith, length_digits b (j + k) (n / b)))
    ∙ ap (λ (l : List ℕ). l ++ hex_digit_ascii (n % b) ∷ []) (last_behind b j k (n / b)))

-- as they stand in the part of a room that all of them take
pub last_hex : (k n j : ℕ) (room : List ℕ) → k ≤ 16 → n < 16 ^ 16 → IsDigitCount 16 16 n j → take j room ≡ last_digits 16 j n
    → take (length (take j room) - (j - k)) (drop (j - k) (take j room)) ≡ hex_text k n
unfolding hex_text
last_hex k n j room few below f e =
    let digits = take j room in
    let all : j ≡ (j - k) + k = omega (arith, f.0) in
    ap (λ (m : ℕ). take m (drop (j - k) digits)) (sym (length-drop (j - k) digits))
    ∙ take-length (drop (j - k) digits)
    ∙ ap (drop (j - k)) (e ∙ ap (λ (m : ℕ). last_digits 16 m n) all)
    ∙ last_behind 16 (j - k) k n

-- an integer by its magnitude, behind its sign where it is below 0
pub signed_below : (z : ℤ) → lt_z z (pos 0) ≡ true → MINUS ∷ decimal_text (nat_abs z) ≡ signed_text z
unfolding signed_text
signed_below (pos n) h = absurd (omega (arith, ltb-true n 0 h))
signed_below (negsuc n) h = refl

pub signed_from_zero : (z : ℤ) → lt_z z (pos 0) ≡ false → decimal_text (nat_abs z) ≡ signed_text z
unfolding signed_text
signed_from_zero (pos n) h = refl
signed_from_zero (negsuc n) h = cc
