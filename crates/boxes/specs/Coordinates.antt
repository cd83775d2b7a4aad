-- One coordinate: how two compare, and which a kind allows on an axis.
use Rattle.std.specs.Prelude.{ℕ, ◌≡◌, Bool, true, false, cond, ◌&&◌, ◌||◌, eqb, pos, neg_ℤ, Float, Option, Some, None}
use Rattle.std.specs.Float.{binary64}
use Rattle.std.specs.Float.Ieee.{is_nan, of_int}
use Rattle.parquet.specs.Logical as logical
use Rattle.float_order.specs.Floats.{float_order, less_or_equal}
use Rattle.std.specs.declared.cmp.Ordering.{Ordering}
use Rattle.std.specs.declared.cmp.Ordering.TheVariants.{Less, Equal, Greater}

-- "compared as document 01 orders DOUBLE"
abbrev pub is_greater : Option Ordering → Bool
is_greater (Some Less) = false
is_greater (Some Equal) = false
is_greater (Some Greater) = true
is_greater None = false

-- v is less than w or equal to it, and v is above w: neither where one of them is a NaN
unfoldable pub at_most : Float → Float → Bool
at_most v w = less_or_equal (float_order v w)

unfoldable pub is_above : Float → Float → Bool
is_above v w = is_greater (float_order v w)

-- "numerically equals": the two zeros do
abbrev pub Same : Float → Float → Type 0
Same v w = float_order v w ≡ Some Equal

-- "on or between the bounds"
unfoldable pub is_between : Float → Float → Float → Bool
is_between least greatest v = at_most least v && at_most v greatest

-- the axes
abbrev pub X : ℕ
X = 0

abbrev pub Y : ℕ
Y = 1

-- "for GEOGRAPHY .. [-180, 180] or [-90, 90]": the greatest degree of an axis
abbrev pub most_degree : ℕ → ℕ
most_degree axis = cond (eqb axis X) 180 90

unfoldable pub in_range : ℕ → Float → Bool
in_range axis v = is_between (of_int binary64 (neg_ℤ (pos (most_degree axis)))) (of_int binary64 (pos (most_degree axis))) v

-- the coordinates that a kind allows on an axis: "the same range holds for its points, NaN aside"
unfoldable pub is_allowed : ℕ → ℕ → Float → Bool
is_allowed kind axis v = cond (eqb kind logical.GEOGRAPHY) (is_nan v || in_range axis v) true
