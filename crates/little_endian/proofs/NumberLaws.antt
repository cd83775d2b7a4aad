-- Laws of reading a number from bytes, and of storing one in them, byte by byte. Assumes nothing.
use mathlib.Core.Path.{◌≡◌, refl, sym, ap, ◌∙◌}
use mathlib.Core.List.{List, [], ◌++◌, append_assoc, append-nil}
use Prim.Native.Nat.{ℕ, zero, suc, ◌+◌, ◌-◌, ◌*◌, ◌/◌, ◌%◌, ◌^◌, ◌<◌, ◌≤◌}
use native.Mathlib.Nat.{pow-suc, one-le-pow}
use native.Mathlib.Numerals.{add-one}
use native.Mathlib.Omega.{arith}
use lib.ListN.{length, get_or, take, drop, set, length-set}
use lib.Seq.{drop-cons, drop-length, take_all, take-suc-set}
use Rattle.laws.specs.Bytes.{little, bytes_of}

-- ---- reading, from the last byte on

-- what was read of bytes from a place on: their number, which is below 256 for each of them
pub record Read (bs : List ℕ) (n at : ℕ) : Type 0 where
  pub within : at ≤ length bs
  pub is : n ≡ little (drop at bs)
  pub small : n < 256 ^ (length bs - at)

little_drop : (bs : List ℕ) (at : ℕ) → at < length bs → little (drop at bs) ≡ get_or bs at 0 + 256 * little (drop (suc at) bs)
unfolding little
little_drop bs at h = ap little (drop-cons bs at 0 h)

-- at the end nothing is read
pub read_end : (bs : List ℕ) → Read bs 0 (length bs)
unfolding little
read_end bs =
    record { within = omega arith; is = sym (ap little (drop-length bs)); small = one-le-pow (length bs - length bs) 256 (omega arith) }

-- a byte in front of those that were read
pub read_back : (bs : List ℕ) (n at b : ℕ) → 0 < at → Read bs n at → b ≡ get_or bs (at - 1) 0 → b < 256 → Read bs (n * 256 + b) (at - 1)
read_back bs n zero b h r e small = absurd (omega arith)
read_back bs n (suc k) b h r e small =
    let p : suc k - 1 ≡ k = omega arith in
    let byte : b ≡ get_or bs k 0 = rw p at e in
    let left : length bs - k ≡ suc (length bs - suc k) = omega (arith, r.within) in
    rw p
    (record {
      within = omega (arith, r.within);
      is = omega (arith, little_drop bs k r.within, r.is, byte);
      small = rw left (omega (arith, pow-suc 256 (length bs - suc k), r.small, small));
    })

-- and at the start all bytes are read
pub read_start : (bs : List ℕ) (n at : ℕ) → at ≡ 0 → Read bs n at → n ≡ little bs
read_start bs n at z r = rw z at r.is

-- ---- storing, from the first byte on

-- what was stored up to a place, and the number whose bytes are to follow: together they are the bytes of the whole
pub record Stored (number : ℕ) (out₀ out : List ℕ) (rest i : ℕ) : Type 0 where
  pub long : length out ≡ length out₀
  pub within : i ≤ length out
  pub are : take i out ++ bytes_of (length out - i) rest ≡ bytes_of (length out) number

-- at the start nothing is stored
pub stored_start : (number : ℕ) (out : List ℕ) → Stored number out out number 0
stored_start number out =
    let all : length out - 0 ≡ length out = omega arith in
    record { long = refl; within = omega arith; are = ap (λ (n : ℕ). bytes_of n number) all }

-- a byte behind those that were stored
pub stored_next : (number : ℕ) (out₀ out : List ℕ) (rest i : ℕ) → i < length out → Stored number out₀ out rest i
    → Stored number out₀ (set out i (rest % 256)) (rest / 256) (i + 1)
unfolding bytes_of
stored_next number out₀ out rest i h s =
    let left : length out - i ≡ suc (length out - suc i) = omega arith in
    let same : length (set out i (rest % 256)) ≡ length out = length-set out i (rest % 256) in
    record {
      long = same ∙ s.long;
      within = omega (arith, same);
      are = rw (same, add-one, take-suc-set, append_assoc) (rw left at s.are);
    }

-- and at the end the bytes are those of the number
pub stored_end : (number : ℕ) (out₀ out : List ℕ) (rest i : ℕ) → length out ≤ i → Stored number out₀ out rest i → out ≡ bytes_of (length out₀) number
unfolding bytes_of
stored_end number out₀ out rest i h s =
    let none : length out - i ≡ 0 = omega arith in
    sym (append-nil out) ∙ ap (λ (bs : List ℕ). bs ++ []) (sym (take_all i out h)) ∙ rw none at s.are ∙ ap (λ (n : ℕ). bytes_of n number) s.long
