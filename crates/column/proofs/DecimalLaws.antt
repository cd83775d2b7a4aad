-- What the fit of a decimal says of its number. Assumes nothing.
use mathlib.Core.Path.{◌≡◌}
use mathlib.Core.Bool.{true, false}
use mathlib.Core.List.{List}
use Prim.Native.Nat.{ℕ}
use lib.ListN.{length}
use Rattle.std.specs.Result.{result_unwrap_or}
use Rattle.decimal_bytes.specs.Precision.{is_length}
use Rattle.decimal_bytes.specs.Number.{number}
use Rattle.decimal_bytes.specs.Fit.{fit_of}
use Rattle.column.specs.Annotations.{in_digits}

pub fits_within : (bs : List ℕ) (precision : ℕ) → is_length (length bs) ≡ true → result_unwrap_or (fit_of bs precision) false ≡ in_digits precision (number bs)
unfolding fit_of
fits_within bs precision e = rw e
