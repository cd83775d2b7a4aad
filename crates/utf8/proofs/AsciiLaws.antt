-- Laws of octets of UTF8-1 that stand in a row: what the highest bits of octets tell of it, and how reading passes it.
-- Assumes nothing.
use Prim.Native.Nat.{ℕ, zero, suc, ◌+◌, ◌-◌, ◌*◌, ◌/◌, ◌%◌, ◌^◌, ◌≤◌, ◌<◌}
use mathlib.Core.Bool.{Bool, true, false, ◌&&◌, cond}
use mathlib.Core.List.{List}
use mathlib.Core.Logic.{⊎_elim}
use mathlib.Core.Path.{◌≡◌, refl, sym, ap, ap₂, ◌∙◌}
use native.Mathlib.Nat.{zero-add, add-zero, add-suc, mul-zero, mul-one, one-mul, mul_assoc, mul-pos, div-one, eq-zero-or-pos}
use native.Mathlib.Numerals.{towards_suc}
use native.Mathlib.Omega.{arith}
use borrow.Author.Tests.{ltb-true, ltb-false, eqb-true, eqb-false, eq-eqb, ne_eqb}
use lib.Bits.{bit_and, and_block, and_high, shifted_half, shifted_even}
use lib.Count.{count_trailing_zeros, under}
use lib.Dec.{ltb, eqb}
use lib.ListN.{length, get_or}
use lib.Pow.{pow-add, pow_pos, shr-shr}
use Rattle.utf8.specs.Steps.{Passes, NoAscii, run, high_bits}
use Rattle.utf8.proofs.ValidLaws.{passes_one}

-- The run

-- reading passes it
passes_it : (n : ℕ) (s : List ℕ) (from at : ℕ) → at + n ≤ length s → Passes s from at → Passes s from (at + run s at n)
unfolding run
passes_it zero s from at h p = rw add-zero p
passes_it (suc n) s from at h p = go (ltb 0x7F (get_or s at 0)) refl (passes_it n s from (suc at) (omega arith))
  where
    go : (t : Bool) → ltb 0x7F (get_or s at 0) ≡ t → (Passes s from (suc at) → Passes s from (suc at + run s (suc at) n))
        → Passes s from (at + cond t 0 (suc (run s (suc at) n)))
    go true e more = rw add-zero p
    go false e more =
        let same : at + suc (run s (suc at) n) ≡ suc at + run s (suc at) n = omega arith in
        rw same (more (passes_one s from at (suc at) (omega arith) (omega arith) (ltb-false _ _ e) p))

passes_run : (n r : ℕ) (s : List ℕ) (from at : ℕ) → at + n ≤ length s → r ≡ run s at n → Passes s from at → Passes s from (at + r)
passes_run n r s from at h e p = rw e (passes_it n s from at h p)

-- The highest bits of octets

abbrev bit : ℕ → ℕ
bit b = cond (ltb 0x7F b) 0x80 0

-- that of one
high_bit : (b : ℕ) → b < 256 → bit_and b 0x80 ≡ bit b
high_bit b h = and_high b 1 7 ∙ go (ltb 0x7F b) refl
  where
    go : (t : Bool) → ltb 0x7F b ≡ t → (b / 2 ^ 7 % 2 ^ 1) * 2 ^ 7 ≡ cond t 0x80 0
    go true e = omega (arith, ltb-true 0x7F b e)
    go false e = omega (arith, ltb-false 0x7F b e)

-- that of the lowest octet of a number, and those of the others
high_bit_first : (b n mask : ℕ) → b < 256 → bit_and (b + 256 * n) (0x80 + 256 * mask) ≡ bit b + 256 * bit_and n mask
high_bit_first b n mask h =
    let number : b + 256 * n ≡ n * 2 ^ 8 + b = omega arith in
    let masks : 0x80 + 256 * mask ≡ mask * 2 ^ 8 + 0x80 = omega arith in
    let apart = and_block 8 n mask b 0x80 h (omega arith) in
    ap₂ bit_and number masks ∙ apart ∙ omega (arith, high_bit b h)

-- those of four octets, written out
high_bits_written : (s : List ℕ) (at : ℕ)
    → high_bits s at 4 ≡ bit (get_or s at 0) + 256 * (bit (get_or s (at + 1) 0) + 256 * (bit (get_or s (at + 2) 0) + 256 * bit (get_or s (at + 3) 0)))
unfolding high_bits
high_bits_written s at = simp towards_suc (omega arith)

-- and in a number
pub high_bits_four : (s : List ℕ) (at : ℕ) → ((i : ℕ) → get_or s i 0 < 256)
    → bit_and (get_or s at 0 + 256 * (get_or s (at + 1) 0 + 256 * (get_or s (at + 2) 0 + 256 * get_or s (at + 3) 0))) 0x8080_8080 ≡ high_bits s at 4
high_bits_four s at each =
    let b = get_or s (at + 1) 0 in
    let c = get_or s (at + 2) 0 in
    let d = get_or s (at + 3) 0 in
    omega (
      arith,
      high_bits_written s at,
      high_bit_first (get_or s at 0) (b + 256 * (c + 256 * d)) 0x80_8080 (each at),
      high_bit_first b (c + 256 * d) 0x8080 (each (at + 1)),
      high_bit_first c d 0x80 (each (at + 2)),
      high_bit d (each (at + 3)),
    )

-- those of the first j, and of those behind them
high_bits_parts : (j n : ℕ) (s : List ℕ) (at : ℕ) → high_bits s at (n + j) ≡ high_bits s at j + 2 ^ (8 * j) * high_bits s (at + j) n
unfolding high_bits
high_bits_parts zero n s at = simp (add-zero, one-mul, zero-add)
high_bits_parts (suc j) n s at =
    let eight : 8 * suc j ≡ 8 + 8 * j = omega arith in
    let place : suc at + j ≡ at + suc j = omega arith in
    let more = high_bits_parts j n s (suc at) in
    rw (add-suc n j, eight, pow-add, more, place, mul_assoc) (omega arith)

-- eight octets as a number, of which the first is the lowest
abbrev pub word_at : List ℕ → ℕ → ℕ
word_at s at =
    get_or s at 0
    + 256 * (get_or s (at + 1) 0 + 256 * (get_or s (at + 2) 0 + 256 * get_or s (at + 3) 0))
    + 2 ^ 32 * (get_or s (at + 4) 0 + 256 * (get_or s (at + 5) 0 + 256 * (get_or s (at + 6) 0 + 256 * get_or s (at + 7) 0)))

-- those of eight octets in a number, by halves
pub high_bits_eight : (s : List ℕ) (at : ℕ) → ((i : ℕ) → get_or s i 0 < 256) → bit_and (word_at s at) 0x8080_8080_8080_8080 ≡ high_bits s at 8
high_bits_eight s at each =
    let low = get_or s at 0 + 256 * (get_or s (at + 1) 0 + 256 * (get_or s (at + 2) 0 + 256 * get_or s (at + 3) 0)) in
    let high = get_or s (at + 4) 0 + 256 * (get_or s (at + 5) 0 + 256 * (get_or s (at + 6) 0 + 256 * get_or s (at + 7) 0)) in
    let small : low < 2 ^ 32 = omega (arith, each at, each (at + 1), each (at + 2), each (at + 3)) in
    let number : word_at s at ≡ high * 2 ^ 32 + low = omega arith in
    let five : at + 4 + 1 ≡ at + 5 = omega arith in
    let six : at + 4 + 2 ≡ at + 6 = omega arith in
    let seven : at + 4 + 3 ≡ at + 7 = omega arith in
    ap (λ (n : ℕ). bit_and n 0x8080_8080_8080_8080) number
    ∙ and_block 32 high 0x8080_8080 low 0x8080_8080 small (omega arith)
    ∙ ap₂ (λ (x y : ℕ). x * 2 ^ 32 + y) (rw (five, six, seven) at (high_bits_four s (at + 4) each)) (high_bits_four s at each)
    ∙ omega (arith, high_bits_parts 4 4 s at)

-- those of the octets behind the first
high_bits_tail : (t : Bool) (n : ℕ) → (cond t 0x80 0 + 256 * n) / 2 ^ 8 ≡ n
high_bits_tail true n = omega arith
high_bits_tail false n = omega arith

-- and behind the first j
high_bits_behind : (j n : ℕ) (s : List ℕ) (at : ℕ) → high_bits s at (n + j) / 2 ^ (8 * j) ≡ high_bits s (at + j) n
unfolding high_bits
high_bits_behind zero n s at = simp (add-zero, div-one)
high_bits_behind (suc j) n s at =
    let eight : 8 * suc j ≡ 8 + 8 * j = omega arith in
    let place : suc at + j ≡ at + suc j = omega arith in
    rw (add-suc n j, eight, ← shr-shr, high_bits_tail, ← place) (high_bits_behind j n s (suc at))

-- those of what is left after `from`, by the word with which the octets end
pub high_bits_last : (s : List ℕ) (from left : ℕ) → left ≤ 8 → 8 ≤ length s → from + left ≡ length s
    → high_bits s (length s - 8) 8 / 2 ^ (8 * (8 - left)) ≡ high_bits s from left
high_bits_last s from left few long e =
    let count : left + (8 - left) ≡ 8 = omega arith in
    let place : length s - 8 + (8 - left) ≡ from = omega arith in
    rw (count, place) at (high_bits_behind (8 - left) left s (length s - 8))

-- two of them are zero exactly where their number is
zero_parts : (a b k n : ℕ) → 0 < k → n ≡ a + k * b → (eqb a 0 && eqb b 0) ≡ eqb n 0
zero_parts a b k n some e = go (eqb a 0) (eqb b 0) refl refl
  where
    go : (t u : Bool) → eqb a 0 ≡ t → eqb b 0 ≡ u → (t && u) ≡ eqb n 0
    go true true ea eb = sym (eq-eqb n 0 (e ∙ rw (eqb-true a 0 ea, eqb-true b 0 eb, mul-zero)))
    go true false ea eb =
        sym (ne_eqb n 0 (λ z. ⊎_elim (eqb-false b 0 eb) (λ set. absurd (omega (arith, mul-pos some set))) (eq-zero-or-pos b)))
    go false u ea eb = sym (ne_eqb n 0 (λ z. eqb-false a 0 ea (omega arith)))

-- no bit is set in two stretches of a length exactly where none is in both together
pub high_bits_twice : (n : ℕ) (s : List ℕ) (at : ℕ) → (eqb (high_bits s at n) 0 && eqb (high_bits s (at + n) n) 0) ≡ eqb (high_bits s at (n + n)) 0
high_bits_twice n s at = zero_parts _ _ (2 ^ (8 * n)) _ (pow_pos (8 * n)) (high_bits_parts n n s at)

-- where one is set, an octet of another kind ends the run
run_ends : (n : ℕ) (s : List ℕ) (at : ℕ) → 0 < high_bits s at n → 0x7F < get_or s (at + run s at n) 0
unfolding run high_bits
run_ends zero s at some = absurd (omega arith)
run_ends (suc n) s at some = go (ltb 0x7F (get_or s at 0)) refl some (run_ends n s (suc at))
  where
    go : (t : Bool) → ltb 0x7F (get_or s at 0) ≡ t → 0 < cond t 0x80 0 + 256 * high_bits s (suc at) n
        → (0 < high_bits s (suc at) n → 0x7F < get_or s (suc at + run s (suc at) n) 0) → 0x7F < get_or s (at + cond t 0 (suc (run s (suc at) n))) 0
    go true e some more = rw add-zero (ltb-true _ _ e)
    go false e some more =
        let same : at + suc (run s (suc at) n) ≡ suc at + run s (suc at) n = omega arith in
        rw same (more (omega arith))

pub passes_ended : (n r : ℕ) (s : List ℕ) (from at : ℕ) → at + n ≤ length s → 0 < high_bits s at n → r ≡ run s at n → Passes s from at
    → Passes s from (at + r) × NoAscii s (at + r)
passes_ended n r s from at h some e p = (passes_run n r s from at h e p, λ inside. rw e (run_ends n s at some))

-- none is set where the run is as long as the octets are many
run_whole : (n : ℕ) (s : List ℕ) (at : ℕ) → high_bits s at n ≡ 0 → run s at n ≡ n
unfolding run high_bits
run_whole zero s at none = refl
run_whole (suc n) s at none = go (ltb 0x7F (get_or s at 0)) none (run_whole n s (suc at))
  where
    go : (t : Bool) → cond t 0x80 0 + 256 * high_bits s (suc at) n ≡ 0 → (high_bits s (suc at) n ≡ 0 → run s (suc at) n ≡ n)
        → cond t 0 (suc (run s (suc at) n)) ≡ suc n
    go true none more = absurd (omega arith)
    go false none more = omega (arith, more (omega arith))

-- and reading passes them all then
pub passes_clear : (n : ℕ) (s : List ℕ) (from at : ℕ) → at + n ≤ length s → high_bits s at n ≡ 0 → Passes s from at → Passes s from (at + n)
passes_clear n s from at h none p = passes_run n n s from at h (sym (run_whole n s at none)) p

-- The bits below the lowest that is set

trailing_shifted : (j k n : ℕ) → count_trailing_zeros (k + j) (n * 2 ^ j) ≡ count_trailing_zeros k n + j
unfolding count_trailing_zeros
trailing_shifted zero k n = simp (add-zero, mul-one)
trailing_shifted (suc j) k n =
    rw (add-suc k j, shifted_even n j, shifted_half n j, trailing_shifted j k n, add-suc (count_trailing_zeros k n) j)

trailing_odd : (k n : ℕ) → count_trailing_zeros (suc k) (1 + n * 2) ≡ 0
unfolding count_trailing_zeros
trailing_odd k n =
    let odd : (1 + n * 2) % 2 ≡ 1 = omega arith in
    ap (λ (d : ℕ). under d (count_trailing_zeros k ((1 + n * 2) / 2))) odd

-- eight for each octet of the run, and seven of the octet that ends it
pub run_trailing : (n e : ℕ) (s : List ℕ) (at : ℕ) → 0 < high_bits s at n → count_trailing_zeros (8 * n + e) (high_bits s at n) ≡ 8 * run s at n + 7
unfolding run high_bits
run_trailing zero e s at some = absurd (omega arith)
run_trailing (suc n) e s at some = go (ltb 0x7F (get_or s at 0)) some (run_trailing n e s (suc at))
  where
    go : (t : Bool) → 0 < cond t 0x80 0 + 256 * high_bits s (suc at) n
        → (0 < high_bits s (suc at) n → count_trailing_zeros (8 * n + e) (high_bits s (suc at) n) ≡ 8 * run s (suc at) n + 7)
        → count_trailing_zeros (8 * suc n + e) (cond t 0x80 0 + 256 * high_bits s (suc at) n) ≡ 8 * cond t 0 (suc (run s (suc at) n)) + 7
    go true some more =
        let digits : 8 * suc n + e ≡ suc (8 * n + e) + 7 = omega arith in
        let number : 0x80 + 256 * high_bits s (suc at) n ≡ (1 + high_bits s (suc at) n * 2) * 2 ^ 7 = omega arith in
        ap₂ count_trailing_zeros digits number
        ∙ trailing_shifted 7 (suc (8 * n + e)) (1 + high_bits s (suc at) n * 2)
        ∙ ap (λ (z : ℕ). z + 7) (trailing_odd (8 * n + e) (high_bits s (suc at) n))
    go false some more =
        let digits : 8 * suc n + e ≡ 8 * n + e + 8 = omega arith in
        let number : 0 + 256 * high_bits s (suc at) n ≡ high_bits s (suc at) n * 2 ^ 8 = omega arith in
        ap₂ count_trailing_zeros digits number
        ∙ trailing_shifted 8 (8 * n + e) (high_bits s (suc at) n)
        ∙ omega (arith, more (omega arith))
