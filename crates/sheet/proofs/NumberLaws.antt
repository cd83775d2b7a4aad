-- Laws of the numbers in a list of bytes.
use mathlib.Core.Path.{◌≡◌, refl, sym, ap, ◌∙◌}
use mathlib.Core.Logic.{⊎_elim}
use mathlib.Core.List.{List}
use Prim.Native.Nat.{ℕ, zero, suc, ◌+◌, ◌-◌, ◌*◌, ◌^◌, ◌≤◌, ◌<◌}
use native.Mathlib.Numerals.{towards_suc}
use native.Mathlib.Nat.{eq-or-lt_of_le}
use native.Mathlib.Omega.{arith}
use lib.IntN.{pos, negsuc}
use lib.ListN.{get_or}
use lib.Signed.{mag}
use Rattle.laws.specs.Bytes.{Bytes, little}
use Rattle.laws.proofs.ByteLaws.{little_part, twos_below, twos_above, twos-mag-<}
use Rattle.sheet.specs.Number.{number_at, signed32}

-- a number of no bytes
pub number_at_nothing : (bytes : List ℕ) (at : ℕ) → number_at bytes at 0 ≡ 0
unfolding number_at little
number_at_nothing bytes at = refl

-- a number of one byte more
pub number_at_more : (bytes : List ℕ) (at size : ℕ) → number_at bytes at (suc size) ≡ get_or bytes at 0 + 256 * number_at bytes (suc at) size
unfolding number_at
number_at_more bytes at size = little_part bytes at size

-- a number of one byte
pub number_at_one : (bytes : List ℕ) (at : ℕ) → number_at bytes at 1 ≡ get_or bytes at 0
number_at_one bytes at = omega (arith, number_at_more bytes at 0, number_at_nothing bytes (suc at))

-- a number of two bytes, written out
pub number_at_two : (bytes : List ℕ) (at : ℕ) → number_at bytes at 2 ≡ get_or bytes at 0 + 256 * get_or bytes (at + 1) 0
number_at_two bytes at = simp towards_suc (omega (arith, number_at_more bytes at 1, number_at_one bytes (suc at)))

-- a number of four bytes, written out
pub number_at_four : (bytes : List ℕ) (at : ℕ)
    → number_at bytes at 4 ≡ get_or bytes at 0 + 256 * (get_or bytes (at + 1) 0 + 256 * (get_or bytes (at + 2) 0 + 256 * get_or bytes (at + 3) 0))
number_at_four bytes at =
    simp towards_suc (omega (arith, number_at_more bytes at 3, number_at_more bytes (suc at) 2, number_at_more bytes (suc (suc at)) 1, number_at_one bytes (suc (suc (suc at)))))

-- a number of eight bytes, written out
pub number_at_eight : (bytes : List ℕ) (at : ℕ)
    → number_at bytes at 8 ≡ get_or bytes at 0 + 256 * (get_or bytes (at + 1) 0 + 256 * (get_or bytes (at + 2) 0 + 256 * (get_or bytes (at + 3) 0 + 256 * (get_or bytes (at + 4) 0 + 256 * (get_or bytes (at + 5) 0 + 256 * (get_or bytes (at + 6) 0 + 256 * get_or bytes (at + 7) 0))))))
number_at_eight bytes at = simp towards_suc (omega (
  arith,
  number_at_more bytes at 7,
  number_at_more bytes (suc at) 6,
  number_at_more bytes (suc (suc at)) 5,
  number_at_more bytes (suc (suc (suc at))) 4,
  number_at_more bytes (suc (suc (suc (suc at)))) 3,
  number_at_more bytes (suc (suc (suc (suc (suc at))))) 2,
  number_at_more bytes (suc (suc (suc (suc (suc (suc at)))))) 1,
  number_at_one bytes (suc (suc (suc (suc (suc (suc (suc at))))))),
))

-- the bytes from a on are zero up to b
abbrev pub Zeros : List ℕ → ℕ → ℕ → Type 0
Zeros bytes a b = (k : ℕ) → a ≤ k → k < b → get_or bytes k 0 ≡ 0

-- where a number is zero, so are its bytes
pub number_at_zero : (size : ℕ) (bytes : List ℕ) (at : ℕ) → number_at bytes at size ≡ 0 → Zeros bytes at (at + size)
number_at_zero zero bytes at none k l h = absurd (omega arith)
number_at_zero (suc size) bytes at none k l h = ⊎_elim
    (λ q. ap (λ (i : ℕ). get_or bytes i 0) (sym q) ∙ omega (arith, number_at_more bytes at size))
    (λ q. number_at_zero size bytes (suc at) (omega (arith, number_at_more bytes at size)) k q (omega arith))
    (eq-or-lt_of_le l)

-- and where its bytes are zero, it is
pub number_at_none : (size : ℕ) (bytes : List ℕ) (at : ℕ) → Zeros bytes at (at + size) → number_at bytes at size ≡ 0
number_at_none zero bytes at zeros = number_at_nothing bytes at
number_at_none (suc size) bytes at zeros = omega (
  arith,
  number_at_more bytes at size,
  zeros at (omega arith) (omega arith),
  number_at_none size bytes (suc at) (λ k l h. zeros k (omega arith) (omega arith)),
)

-- the lower half stands for itself
pub signed32_low : (n : ℕ) → n < 2 ^ 31 → signed32 n ≡ pos n
signed32_low n h = twos_below (2 ^ 31) n h

-- the upper half counts up to -1
pub signed32_high : (n : ℕ) → 2 ^ 31 ≤ n → n < 2 ^ 32 → signed32 n ≡ negsuc (2 ^ 32 - suc n)
signed32_high n l h = twos_above (2 ^ 31) n l h ∙ ap negsuc (omega arith)

-- a number of two bytes
pub number_at_two_lt : (bytes : List ℕ) (at : ℕ) → Bytes bytes → number_at bytes at 2 < 2 ^ 16
number_at_two_lt bytes at all = omega (arith, number_at_two bytes at, all at, all (at + 1))

-- and of four
pub number_at_four_lt : (bytes : List ℕ) (at : ℕ) → Bytes bytes → number_at bytes at 4 < 2 ^ 32
number_at_four_lt bytes at all =
    omega (arith, number_at_four bytes at, all at, all (at + 1), all (at + 2), all (at + 3))

-- a signed number of 32 bits is within their range
pub signed32_mag : (n : ℕ) → n < 2 ^ 32 → mag (signed32 n) < 2 ^ 31
signed32_mag n h = twos-mag-< (2 ^ 31) n h
