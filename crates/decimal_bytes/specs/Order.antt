-- The order of decimals: that of the signed numbers that their bytes stand for (document 01, single values).
use Rattle.std.specs.Prelude.{ℕ, cond, ◌&&◌, List, ℤ, length, Result, Ok, Err}
use Rattle.std.specs.Int.Signed.{lt_z}
use Rattle.std.specs.declared.cmp.Ordering.{Ordering}
use Rattle.std.specs.declared.cmp.Ordering.TheVariants.{Less, Equal, Greater}
-- a type of the code with one value: the answer for a length outside 1 to 256
use Rattle.decimal_bytes.specs.declared.precision.WrongLength.{WrongLength}
use Rattle.decimal_bytes.specs.Precision.{is_length}
use Rattle.decimal_bytes.specs.Number.{number}

-- the order of two whole numbers
abbrev pub order : ℤ → ℤ → Ordering
order x y = cond (lt_z x y) Less (cond (lt_z y x) Greater Equal)

-- the order of two decimals of 1 to 256 bytes each; any other length is wrong
unfoldable pub order_of : List ℕ → List ℕ → Result Ordering WrongLength
order_of a b = cond (is_length (length a) && is_length (length b)) (Ok (order (number a) (number b))) (Err (record {}))
