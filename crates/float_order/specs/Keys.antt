-- What a float is ordered by, over its bits alone: a whole number.
use Rattle.std.specs.Prelude.{ℕ, ◌%◌, cond, leb, ℤ, pos, neg_ℤ, Option, Some, None}
use Rattle.std.specs.declared.cmp.Ordering.{Ordering}
use Rattle.std.specs.declared.cmp.Ordering.TheVariants.{Less, Equal, Greater}
use Rattle.std.specs.Float.{Format}
use Rattle.std.specs.Float.Ieee.{top, nan_bits}
use Rattle.std.specs.Int.Signed.{lt_z}

-- "FLOAT, DOUBLE numeric, stated over their bits (those below the sign as a whole number, negated where the sign is set)": 0 and -0 have
-- one key, and a NaN has none
unfoldable pub float_key : Format → ℕ → Option ℤ
float_key f bits =
    cond (nan_bits f bits) None (Some (cond (leb (top f) bits) (neg_ℤ (pos (bits % top f))) (pos (bits % top f))))

-- the order of two whole numbers
unfoldable pub whole_order : ℤ → ℤ → Ordering
whole_order x y = cond (lt_z x y) Less (cond (lt_z y x) Greater Equal)

-- the order of two keys: "NaN is answered as unordered"
unfoldable pub key_order : Option ℤ → Option ℤ → Option Ordering
key_order None l = None
key_order (Some x) None = None
key_order (Some x) (Some y) = Some (whole_order x y)
