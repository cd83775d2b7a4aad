-- A signed number as a natural.
-- Assumes nothing.
use Prim.Native.Nat.{ℕ}
use native.Mathlib.Omega.{arith}
use mathlib.Core.Path.{◌≡◌, refl}
use lib.IntN.{ℤ, pos, negsuc, nat_abs}
use mir.Syntax.{w32}
use mir.Val.{SFits}
use Rattle.std.specs.Prelude.{Result, Ok, Err}
use Rattle.std.specs.Result.{OkIff, result_unwrap_or}
use Rattle.std.specs.Int.{FitsUnsignedBits}
use Rattle.annotation.specs.Signed.{natural}

-- the number where it fits the unsigned numbers of four bytes, else 0
pub unwrapped_natural : {E : Type 0} (x : ℤ) (r : Result ℕ E) → SFits w32 x → OkIff r (FitsUnsignedBits 32 x) (nat_abs x) → result_unwrap_or r 0 ≡ natural x
unfolding natural
unwrapped_natural (pos n) (Ok v) fits e = e.1
unwrapped_natural (pos n) (Err d) fits e = absurd (e (omega (arith, fits)))
unwrapped_natural (negsuc n) (Ok v) fits e = absurd e.0
unwrapped_natural (negsuc n) (Err d) fits e = refl
