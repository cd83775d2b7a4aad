-- What private functions promise each other; nothing here is a promise to a caller.
use Rattle.std.specs.Prelude.{ℕ, zero, suc, ◌+◌, ◌*◌, ◌≤◌, ◌<◌, cond, List, ◌≡◌, ltb, length, take, drop, get_or, replicate, ◌∷◌, Option, None, Some}
use Rattle.utf8.specs.Sequence.{◌to◌, tail, spells}
use Rattle.utf8.specs.Valid.{leading, valid_up_to}
-- a type of the code: what follows the first octet of a sequence
use Rattle.utf8.specs.declared.Rest.{Rest}

-- reading from `from` stops as far on as reading from r does: what lies between is whole sequences
pub record Passes (s : List ℕ) (from r : ℕ) : Type 0 where
  pub onward : from ≤ r
  pub within : r ≤ length s
  pub reads : from + valid_up_to (drop from s) ≡ r + valid_up_to (drop r s)

-- at r stands no octet of UTF8-1
abbrev pub NoAscii : List ℕ → ℕ → Type 0
NoAscii s r = r < length s → 0x7F < get_or s r 0

-- at r no sequence of several octets begins
abbrev pub NoLetter : List ℕ → ℕ → Type 0
NoLetter s r = r < length s → 0x7F < get_or s r 0 → leading (drop r s) ≡ 0

-- how many octets the sequence has that octets begin with, if they begin with one, by `leading`
abbrev pub begun : ℕ → Option ℕ
begun zero = None
begun (suc n) = Some (suc n)

-- how many octets a sequence has whose first octet is followed by these, by what may follow it
abbrev pub followed : Option Rest → List ℕ → ℕ
followed None rest = 0
followed (Some r) rest = cond (spells (r.low to r.high ∷ replicate r.tails tail) (take (suc r.tails) rest)) (r.tails + 2) 0

-- how many of n octets from `at` on stand before the first that is not of UTF8-1; all n where each is
unfoldable pub run : List ℕ → ℕ → ℕ → ℕ
run s at zero = 0
run s at (suc n) = cond (ltb 0x7F (get_or s at 0)) 0 (suc (run s (suc at) n))

-- the highest bits of n octets from `at` on, those of the first the lowest in the number: a bit is set where the octet is not of UTF8-1
unfoldable pub high_bits : List ℕ → ℕ → ℕ → ℕ
high_bits s at zero = 0
high_bits s at (suc n) = cond (ltb 0x7F (get_or s at 0)) 0x80 0 + 256 * high_bits s (suc at) n
