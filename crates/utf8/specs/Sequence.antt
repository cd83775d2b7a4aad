-- The well-formed sequences of RFC 3629, as the ABNF of its section 4 has them.
use Rattle.std.specs.Prelude.{ℕ, Bool, true, false, ◌&&◌, ◌||◌, List, [], ◌∷◌, ◌++◌, leb}

infix 80 ◌to◌
-- %xLO-HI: the octets from lo to hi
pub record Range : Type 0 where
  pub lo : ℕ
  pub hi : ℕ

abbrev pub ◌to◌ : ℕ → ℕ → Range
lo to hi = record { lo = lo; hi = hi }

-- %xB: the octet b alone
abbrev pub only : ℕ → Range
only b = b to b

-- UTF8-tail = %x80-BF
abbrev pub tail : Range
tail = 0x80 to 0xBF

-- a rule of the ABNF is its alternatives, and an alternative the ranges of its octets in their order
abbrev pub Rule : Type 0
Rule = List (List Range)

-- UTF8-1 = %x00-7F
unfoldable pub utf8_1 : Rule
utf8_1 = (0x00 to 0x7F ∷ []) ∷ []

-- UTF8-2 = %xC2-DF UTF8-tail
unfoldable pub utf8_2 : Rule
utf8_2 = (0xC2 to 0xDF ∷ tail ∷ []) ∷ []

-- UTF8-3 = %xE0 %xA0-BF UTF8-tail / %xE1-EC 2( UTF8-tail ) / %xED %x80-9F UTF8-tail / %xEE-EF 2( UTF8-tail )
unfoldable pub utf8_3 : Rule
utf8_3 =
    (only 0xE0 ∷ 0xA0 to 0xBF ∷ tail ∷ [])
    ∷ (0xE1 to 0xEC ∷ tail ∷ tail ∷ [])
    ∷ (only 0xED ∷ 0x80 to 0x9F ∷ tail ∷ [])
    ∷ (0xEE to 0xEF ∷ tail ∷ tail ∷ [])
    ∷ []

-- UTF8-4 = %xF0 %x90-BF 2( UTF8-tail ) / %xF1-F3 3( UTF8-tail ) / %xF4 %x80-8F 2( UTF8-tail )
unfoldable pub utf8_4 : Rule
utf8_4 =
    (only 0xF0 ∷ 0x90 to 0xBF ∷ tail ∷ tail ∷ [])
    ∷ (0xF1 to 0xF3 ∷ tail ∷ tail ∷ tail ∷ [])
    ∷ (only 0xF4 ∷ 0x80 to 0x8F ∷ tail ∷ tail ∷ [])
    ∷ []

-- UTF8-char = UTF8-1 / UTF8-2 / UTF8-3 / UTF8-4
unfoldable pub utf8_char : Rule
utf8_char = utf8_1 ++ utf8_2 ++ utf8_3 ++ utf8_4

-- an octet is of a range
unfoldable pub inside : Range → ℕ → Bool
inside range b = leb range.lo b && leb b range.hi

-- octets are those of an alternative: one of each range, in their order
unfoldable pub spells : List Range → List ℕ → Bool
spells [] [] = true
spells [] (b ∷ s) = false
spells (range ∷ ranges) [] = false
spells (range ∷ ranges) (b ∷ s) = inside range b && spells ranges s

-- octets are those of some alternative of a rule
unfoldable pub derives : Rule → List ℕ → Bool
derives [] s = false
derives (ranges ∷ rule) s = spells ranges s || derives rule s

-- a well-formed sequence is a UTF8-char
unfoldable pub sequence : List ℕ → Bool
sequence s = derives utf8_char s
