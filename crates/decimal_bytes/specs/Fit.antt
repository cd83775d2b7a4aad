-- Whether a decimal keeps to its precision: |unscaled| < 10^precision (document 01, single values).
use Rattle.std.specs.Prelude.{ℕ, ◌^◌, Bool, cond, List, ltb, nat_abs, length, Result, Ok, Err}
-- a type of the code with one value: the answer for a length outside 1 to 256
use Rattle.decimal_bytes.specs.declared.precision.WrongLength.{WrongLength}
use Rattle.decimal_bytes.specs.Precision.{is_length}
use Rattle.decimal_bytes.specs.Number.{number}

-- a decimal of 1 to 256 bytes is within its precision where |number| < 10^precision; any other length is wrong
unfoldable pub fit_of : List ℕ → ℕ → Result Bool WrongLength
fit_of bs precision = cond (is_length (length bs)) (Ok (ltb (nat_abs (number bs)) (10 ^ precision))) (Err (record {}))
