-- Laws of RFC 3629's grammar: which octets are inside a range, how many an alternative spells, and what a first octet says of a rule.
-- Assumes nothing.
use Prim.Native.Nat.{ℕ, zero, suc, ◌≤◌, ◌<◌}
use mathlib.Core.Bool.{Bool, true, false, ◌&&◌, and-false}
use mathlib.Core.Path.{◌≡◌, refl, ap}
use mathlib.Core.List.{List, [], ◌∷◌}
use native.Mathlib.Omega.{arith}
use borrow.Author.Tests.{le-leb, lt-leb}
use lib.Dec.{T, leb, leb→le}
use lib.Ieee.Fits.{and_l, and_r}
use lib.ListN.{length, get_or, take, drop, replicate, length-take, length-replicate}
use lib.Seq.{drop-cons}
use Rattle.std.specs.List.{list_all}
use Rattle.laws.proofs.BoolLaws.{T_false, T_or_cases}
use Rattle.utf8.specs.Sequence.{Range, Rule, tail, inside, spells, derives, utf8_char, utf8_1, utf8_2, utf8_3, utf8_4}

pub inside_true : (range : Range) (b : ℕ) → range.lo ≤ b → b ≤ range.hi → inside range b ≡ true
unfolding inside
inside_true range b low high = rw (le-leb _ _ low, le-leb _ _ high)

pub inside_below : (range : Range) (b : ℕ) → b < range.lo → inside range b ≡ false
unfolding inside
inside_below range b h = rw (lt-leb _ _ h)

pub inside_above : (range : Range) (b : ℕ) → range.hi < b → inside range b ≡ false
unfolding inside
inside_above range b h = rw (lt-leb _ _ h, and-false)

pub inside_low : (range : Range) (b : ℕ) → T (inside range b) → range.lo ≤ b
unfolding inside
inside_low range b t = leb→le _ _ (and_l (leb range.lo b) (leb b range.hi) t)

pub inside_high : (range : Range) (b : ℕ) → T (inside range b) → b ≤ range.hi
unfolding inside
inside_high range b t = leb→le _ _ (and_r (leb range.lo b) (leb b range.hi) t)

-- an alternative spells as many octets as it has ranges
pub spells_length : (ranges : List Range) (s : List ℕ) → T (spells ranges s) → length s ≡ length ranges
unfolding spells
spells_length [] [] t = refl
spells_length [] (b ∷ s) t = absurd t
spells_length (range ∷ ranges) [] t = absurd t
spells_length (range ∷ ranges) (b ∷ s) t = ap suc (spells_length ranges s (and_r (inside range b) _ t))

pub spells_short : (ranges : List Range) (s : List ℕ) → length s < length ranges → spells ranges s ≡ false
spells_short ranges s h = T_false _ (λ t. omega (arith, spells_length ranges s t))

-- of the octets from i on, the one at i is of the first range, and those after it are of the others
pub spells_at : (range : Range) (ranges : List Range) (n i j : ℕ) (s : List ℕ) (t : Bool) → i < length s → j ≡ suc i → t ≡ inside range (get_or s i 0)
    → spells (range ∷ ranges) (take (suc n) (drop i s)) ≡ (t && spells ranges (take n (drop j s)))
unfolding spells
spells_at range ranges n i j s t h e f = rw (drop-cons s i 0 h, e, f)

-- octets are all of UTF8-tail where each is
pub all_tails : (n : ℕ) (s : List ℕ) → length s ≡ n → list_all (inside tail) s ≡ spells (replicate n tail) s
unfolding spells
all_tails n [] e = rw (← e)
all_tails zero (b ∷ s) e = absurd (omega arith)
all_tails (suc n) (b ∷ s) e = ap (λ (t : Bool). inside tail b && t) (all_tails n s (omega arith))

pub spells_tails : (n m i j : ℕ) (s : List ℕ) (t : Bool) → n ≡ suc m → i < length s → j ≡ suc i → t ≡ inside tail (get_or s i 0)
    → spells (replicate n tail) (take n (drop i s)) ≡ (t && spells (replicate m tail) (take m (drop j s)))
spells_tails n m i j s t e h f g = rw e (spells_at tail (replicate m tail) m i j s t h f g)

-- too few octets are none of an alternative's
pub spells_cut : (range : Range) (n : ℕ) (s : List ℕ) → length s ≤ n → spells (range ∷ replicate n tail) (take (suc n) s) ≡ false
spells_cut range n s h = spells_short _ (take (suc n) s) (simp (length-take, length-replicate) (omega arith))

-- every first octet of a rule lies above n, and every one below n
abbrev pub Above : ℕ → Rule → Type 0
Above n [] = Unit {0}
Above n ([] ∷ rule) = ⊥
Above n ((range ∷ ranges) ∷ rule) = (n < range.lo) × Above n rule

abbrev pub Below : ℕ → Rule → Type 0
Below n [] = Unit {0}
Below n ([] ∷ rule) = ⊥
Below n ((range ∷ ranges) ∷ rule) = (range.hi < n) × Below n rule

-- a rule's alternatives stand in the order of their first octets, and no two share one
abbrev pub Ordered : Rule → Type 0
Ordered [] = Unit {0}
Ordered ([] ∷ rule) = ⊥
Ordered ((range ∷ ranges) ∷ rule) = Above range.hi rule × Ordered rule

pub utf8_char_ordered : Ordered utf8_char
unfolding utf8_char utf8_1 utf8_2 utf8_3 utf8_4
utf8_char_ordered = (
  omega arith,
  (
    omega arith,
    (omega arith, (omega arith, (omega arith, (omega arith, (omega arith, (omega arith, (omega arith, tt))))))),
  ),
)

-- what a rule derives has a first octet, and that is above what its first octets are above
pub derives_above : (n b : ℕ) (s : List ℕ) (rule : Rule) → Above n rule → T (derives rule (b ∷ s)) → n < b
unfolding derives spells
derives_above n b s [] h t = absurd t
derives_above n b s ([] ∷ rule) h t = absurd h
derives_above n b s ((range ∷ ranges) ∷ rule) h t =
    T_or_cases (spells (range ∷ ranges) (b ∷ s)) (derives rule (b ∷ s)) t
    (λ here. omega (arith, inside_low range b (and_l (inside range b) (spells ranges s) here)))
    (λ later. derives_above n b s rule h.1 later)

pub derives_nil : (rule : Rule) → Ordered rule → T (derives rule []) → ⊥
unfolding derives spells
derives_nil [] h t = t
derives_nil ([] ∷ rule) h t = h
derives_nil ((range ∷ ranges) ∷ rule) h t = derives_nil rule h.1 t
