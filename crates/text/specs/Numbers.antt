-- Numbers as text.
use Rattle.std.specs.Prelude.{ℕ, zero, suc, ◌^◌, Bool, true, false, List, ◌∷◌, ltb, ℤ, pos, negsuc}
use Rattle.io.specs.Digits.{last_digits}
use Rattle.text.specs.Characters.{MINUS}

-- the first of k, suc k and so on that is enough decimal digits for n, where one of the next so many is; the truth value says whether k is
unfoldable pub enough_digits : ℕ → Bool → ℕ → ℕ → ℕ
enough_digits zero enough k n = k
enough_digits (suc more) true k n = k
enough_digits (suc more) false k n = enough_digits more (ltb n (10 ^ suc k)) (suc k) n

-- how many decimal digits a number has, at least one; as many as the number are more than enough
unfoldable pub digit_count : ℕ → ℕ
digit_count n = enough_digits n (ltb n (10 ^ 1)) 1 n

-- a number in decimal digits, the most significant first, with no zero in front
unfoldable pub decimal_text : ℕ → List ℕ
decimal_text n = last_digits 10 (digit_count n) n

-- an integer in decimal digits, behind its sign where it is below 0
unfoldable pub signed_text : ℤ → List ℕ
signed_text (pos n) = decimal_text n
signed_text (negsuc n) = MINUS ∷ decimal_text (suc n)

-- the last so many hexadecimal digits of a number
unfoldable pub hex_text : ℕ → ℕ → List ℕ
hex_text count n = last_digits 16 count n
