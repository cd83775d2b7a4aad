-- Signed tests of rule 8, as the machine makes them.
use Prim.Native.Nat.{suc, ◌-◌, ◌^◌, ◌<◌}
use mathlib.Core.Path.{◌≡◌, refl}
use native.Mathlib.Omega.{arith}
use borrow.Author.Tests.{ne_eqb}
use lib.Dec.{eqb}
use lib.IntN.{ℤ, pos, negsuc}
use mir.Syntax.{w32}
use mir.Val.{SFits, of_z}
use Rattle.tree.specs.Rules.{is_nought}

-- the bits of an integer are 0 exactly where it is
pub is_nought_bits : (z : ℤ) → SFits w32 z → eqb (of_z w32 z) 0 ≡ is_nought z
unfolding is_nought
is_nought_bits (pos n) h = refl
is_nought_bits (negsuc n) h = let l : n < 2 ^ 31 = h.sfits in ne_eqb (2 ^ 32 - suc n) 0 (λ (e : 2 ^ 32 - suc n ≡ 0). omega arith)
