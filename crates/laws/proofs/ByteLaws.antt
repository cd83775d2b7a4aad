-- Laws of bytes, and of the numbers that they stand for: a number's bytes stand for it, and the bytes of what bytes stand for are those.
use Prim.Native.Nat.{ℕ, zero, suc, ◌+◌, ◌*◌, ◌-◌, ◌/◌, ◌%◌, ◌^◌, ◌≤◌, ◌<◌}
use mathlib.Core.Path.{◌≡◌, refl, ap, ap₂, ◌∙◌}
use mathlib.Core.List.{List, [], ◌∷◌, ◌++◌}
use native.Mathlib.Nat.{pow-suc}
use native.Mathlib.Omega.{arith}
use lib.IntN.{pos, negsuc}
use lib.ListN.{length, get_or, set, take, drop, replicate}
use lib.Seq.{take-nil, drop-nil}
use lib.Signed.{mag}
use borrow.Author.Tests.{lt-ltb, le-ltb}
use Rattle.laws.specs.Bytes.{Bytes, little, bytes_of, twos_complement}
use Rattle.laws.proofs.DifferenceLaws.{sub_below, sub_above, below?}

-- ---- lists of bytes

pub bytes_nil : Bytes []
bytes_nil i = omega arith

pub bytes_cons : (b : ℕ) (bs : List ℕ) → b < 256 → Bytes bs → Bytes (b ∷ bs)
bytes_cons b bs h all zero = h
bytes_cons b bs h all (suc i) = all i

-- each element of a list that is written out is a byte
abbrev pub EachByte : List ℕ → Type 0
EachByte [] = Unit {0}
EachByte (b ∷ bs) = (b < 256) × EachByte bs

pub all_bytes : (bs : List ℕ) → EachByte bs → Bytes bs
all_bytes [] h = bytes_nil
all_bytes (b ∷ bs) h = bytes_cons b bs h.0 (all_bytes bs h.1)

pub bytes_append : (bs cs : List ℕ) → Bytes bs → Bytes cs → Bytes (bs ++ cs)
bytes_append [] cs p q = q
bytes_append (b ∷ bs) cs p q = bytes_cons b (bs ++ cs) (p 0) (bytes_append bs cs (λ i. p (suc i)) q)

pub bytes_replicate : (n b : ℕ) → b < 256 → Bytes (replicate n b)
bytes_replicate zero b h = bytes_nil
bytes_replicate (suc n) b h = bytes_cons b (replicate n b) h (bytes_replicate n b h)

pub bytes_set : (bs : List ℕ) (i b : ℕ) → b < 256 → Bytes bs → Bytes (set bs i b)
bytes_set [] i b h all = all
bytes_set (c ∷ bs) zero b h all = bytes_cons b bs h (λ i. all (suc i))
bytes_set (c ∷ bs) (suc i) b h all = bytes_cons c (set bs i b) (all 0) (bytes_set bs i b h (λ j. all (suc j)))

pub bytes_take : (n : ℕ) (bs : List ℕ) → Bytes bs → Bytes (take n bs)
bytes_take zero bs all = bytes_nil
bytes_take (suc n) [] all = all
bytes_take (suc n) (b ∷ bs) all = bytes_cons b (take n bs) (all 0) (bytes_take n bs (λ i. all (suc i)))

pub bytes_drop : (n : ℕ) (bs : List ℕ) → Bytes bs → Bytes (drop n bs)
bytes_drop zero bs all = all
bytes_drop (suc n) [] all = all
bytes_drop (suc n) (b ∷ bs) all = bytes_drop n bs (λ i. all (suc i))

-- ---- numbers in bytes

pub length_bytes_of : (size n : ℕ) → length (bytes_of size n) ≡ size
unfolding bytes_of
length_bytes_of zero n = refl
length_bytes_of (suc size) n = ap suc (length_bytes_of size (n / 256))

pub bytes_bytes_of : (size n : ℕ) → Bytes (bytes_of size n)
unfolding bytes_of
bytes_bytes_of zero n = bytes_nil
bytes_bytes_of (suc size) n = bytes_cons (n % 256) (bytes_of size (n / 256)) (omega arith) (bytes_bytes_of size (n / 256))

-- a number's bytes stand for it
pub little_bytes_of : (size n : ℕ) → n < 256 ^ size → little (bytes_of size n) ≡ n
unfolding little bytes_of
little_bytes_of zero n h = omega arith
little_bytes_of (suc size) n h = omega (arith, little_bytes_of size (n / 256) (omega (arith, pow-suc 256 size)))

-- what bytes stand for is below the number of their values
pub little_lt : (bs : List ℕ) → Bytes bs → little bs < 256 ^ length bs
unfolding little
little_lt [] all = omega arith
little_lt (b ∷ bs) all = omega (arith, all 0, little_lt bs (λ i. all (suc i)), pow-suc 256 (length bs))

-- and its bytes are those
pub bytes_of_little : (bs : List ℕ) → Bytes bs → bytes_of (length bs) (little bs) ≡ bs
unfolding little bytes_of
bytes_of_little [] all = refl
bytes_of_little (b ∷ bs) all =
    let low : (b + 256 * little bs) % 256 ≡ b = omega (arith, all 0) in
    let rest : (b + 256 * little bs) / 256 ≡ little bs = omega (arith, all 0) in
    ap₂ ◌∷◌ low (ap (bytes_of (length bs)) rest ∙ bytes_of_little bs (λ i. all (suc i)))

-- a part of bytes, by its first; behind the end stand zeros
pub little_part : (bs : List ℕ) (at size : ℕ) → little (take (suc size) (drop at bs)) ≡ get_or bs at 0 + 256 * little (take size (drop (suc at) bs))
unfolding little
little_part [] at size = simp (drop-nil, take-nil)
little_part (b ∷ bs) zero size = refl
little_part (b ∷ bs) (suc at) size = little_part bs at size

-- ---- two's complement

pub twos_below : (weight n : ℕ) → n < weight → twos_complement weight n ≡ pos n
unfolding twos_complement
twos_below weight n h = rw (lt-ltb n weight h) (sub_above n 0 (omega arith) ∙ ap pos (omega arith))

pub twos_above : (weight n : ℕ) → weight ≤ n → n < 2 * weight → twos_complement weight n ≡ negsuc (weight - 1 - (n - weight))
unfolding twos_complement
twos_above weight n h k = rw (le-ltb n weight h) (sub_below n (2 * weight) k ∙ ap negsuc (omega arith))

pub twos-mag-< : (weight n : ℕ) → n < 2 * weight → mag (twos_complement weight n) < weight
twos-mag-< weight n h =
    below? n weight (λ k. rw (twos_below weight n k) k) (λ k. rw (twos_above weight n k h) (omega arith))
