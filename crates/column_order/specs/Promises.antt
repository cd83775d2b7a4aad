-- The terms in which demand 2 says how the values of a column are ordered.
use Rattle.std.specs.Prelude.{ℕ, ◌%◌, ◌<◌, ◌^◌, ◌≡◌, cond, List, [], ◌∷◌, ◌↔◌, leb, ℤ, pos, neg_ℤ, ◌<ℤ◌, Some, Ok}
use Rattle.column_type.specs.declared.types.ColumnType.{ColumnType}
use Rattle.column_order.specs.Order.{order_of}
use Rattle.std.specs.declared.cmp.Ordering.TheVariants.{Less, Equal, Greater}

-- two values stand to each other as two numbers do
pub record AsNumbers (edition : ℕ) (c : ColumnType) (a b : List ℕ) (x y : ℤ) : Type 0 where
  pub less : (order_of edition c a b ≡ Ok (Some Less)) ↔ (x <ℤ y)
  pub equal : (order_of edition c a b ≡ Ok (Some Equal)) ↔ (x ≡ y)
  pub greater : (order_of edition c a b ≡ Ok (Some Greater)) ↔ (y <ℤ x)

-- "unsigned byte-wise .., a proper prefix being less"
pub data Before : List ℕ → List ℕ → Type 0 where
  prefix : (y : ℕ) (ys : List ℕ) → Before [] (y ∷ ys)
  lower : (x y : ℕ) (xs ys : List ℕ) → x < y → Before (x ∷ xs) (y ∷ ys)
  further : (x : ℕ) (xs ys : List ℕ) → Before xs ys → Before (x ∷ xs) (x ∷ ys)

-- two values stand to each other as their bytes do
pub record AsBytes (edition : ℕ) (c : ColumnType) (a b : List ℕ) : Type 0 where
  pub less : (order_of edition c a b ≡ Ok (Some Less)) ↔ Before a b
  pub equal : (order_of edition c a b ≡ Ok (Some Equal)) ↔ (a ≡ b)
  pub greater : (order_of edition c a b ≡ Ok (Some Greater)) ↔ Before b a

-- a FLOAT or a DOUBLE over its bits, of which the sign has a weight: "those below the sign as a whole number, negated where the sign is set"
abbrev pub bits_below : ℕ → ℕ → ℤ
bits_below sign bits = cond (leb sign bits) (neg_ℤ (pos (bits % sign))) (pos (bits % sign))

-- the weight of the sign, and the bits of infinity: what lies above these below the sign is a NaN
abbrev pub FLOAT_SIGN : ℕ
FLOAT_SIGN = 2 ^ 31

abbrev pub FLOAT_INFINITY : ℕ
FLOAT_INFINITY = 0x7f800000

abbrev pub DOUBLE_SIGN : ℕ
DOUBLE_SIGN = 2 ^ 63

abbrev pub DOUBLE_INFINITY : ℕ
DOUBLE_INFINITY = 0x7ff0000000000000

abbrev pub IsNan : ℕ → ℕ → ℕ → Type 0
IsNan sign infinity bits = infinity < bits % sign
