-- `decimal_bytes::power::is_below_power` meets its contract: 20 digits are more than a word holds. Assumes nothing.
use mathlib.Core.Path.{sym}
use native.Mathlib.Nat.{lt_of_lt_of_le, pow-le-pow_right}
use native.Mathlib.Omega.{arith}
use borrow.Author.Tests.{lt-ltb}
use Rattle.decimal_bytes.proofs.PowerLaws.{power_held}
use Rattle.decimal_bytes.proofs.power.is_below_power.Goals as goal

pub returns-then-exponent-ge-BEYOND_WORD : goal.returns-then-exponent-ge-BEYOND_WORD
returns-then-exponent-ge-BEYOND_WORD c = sym (lt-ltb _ _ (lt_of_lt_of_le (omega arith) (pow-le-pow_right {n = 10} (omega arith) c.if-exponent-ge-BEYOND_WORD.true)))

pub returns : goal.returns
returns c = rw (power_held _ _ c.power_of_ten.ensures (omega arith))
