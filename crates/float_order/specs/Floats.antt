-- The order of two floats as numbers.
use Rattle.std.specs.Prelude.{Bool, true, false, cond, Float, Option, Some, None}
use Rattle.std.specs.Float.Ieee.{lt, eq}
use Rattle.std.specs.declared.cmp.Ordering.{Ordering}
use Rattle.std.specs.declared.cmp.Ordering.TheVariants.{Less, Equal, Greater}

-- floats compare as numbers, and zeros are equal; a NaN is neither less, greater nor equal
unfoldable pub float_order : Float → Float → Option Ordering
float_order x y = cond (lt x y) (Some Less) (cond (lt y x) (Some Greater) (cond (eq x y) (Some Equal) None))

-- less or equal
abbrev pub less_or_equal : Option Ordering → Bool
less_or_equal (Some Less) = true
less_or_equal (Some Equal) = true
less_or_equal (Some Greater) = false
less_or_equal None = false
