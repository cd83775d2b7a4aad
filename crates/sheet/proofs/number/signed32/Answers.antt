-- `sheet::number::signed32` meets its contract: the cast keeps the bits.
use mathlib.Core.Path.{◌≡◌, sym, ap, ◌∙◌}
use Prim.Native.Nat.{ℕ, ◌^◌, ◌<◌}
use native.Mathlib.Decide.{dec_lt}
use native.Mathlib.Omega.{arith}
use borrow.Author.Rules.{sfits_of}
use borrow.Author.Tests.{le-ltb}
use mir.Syntax.{w32}
use mir.Val.{to_z}
use mir.Facts.{to_z_pos, to_z-of_z}
use Rattle.sheet.specs.Number.{signed32}
use Rattle.sheet.proofs.NumberLaws.{signed32_low, signed32_high}
use Rattle.sheet.proofs.number.signed32.Goals as goal

-- what bits stand for as a signed number
cast_is : (n : ℕ) → n < 2 ^ 32 → to_z w32 n ≡ signed32 n
cast_is n fits = cases (dec_lt n (2 ^ 31))
  where
    cases : Dec (n < 2 ^ 31) → to_z w32 n ≡ signed32 n
    cases (yes h) = to_z_pos w32 {n = n} h ∙ sym (signed32_low n h)
    cases (no h) = rw (le-ltb n (2 ^ 31) (omega arith)) (sym (signed32_high n (omega arith) fits))

pub returns : goal.returns
returns c =
    to_z-of_z {w = w32} (sfits_of c.cast_signed.type_inv)
    ∙ c.cast_signed.ensures
    ∙ cast_is c.number32.result c.number32.type_inv
    ∙ ap signed32 c.number32.ensures
