-- `decimal_bytes::power::scale` meets its contract. The loop's invariant: the bytes from `at` on are scaled, but for the carry. Assumes
-- nothing.
use mathlib.Core.Path.{subst}
use lib.ListN.{get_or}
use Prim.Native.Nat.{ℕ, ◌<◌, ◌*◌, ◌≤◌, ◌-◌}
use native.Mathlib.Nat.{mul-le-mul_right}
use native.Mathlib.Omega.{arith}
use borrow.Author.Rules.{rules}
use Rattle.decimal_bytes.proofs.PowerLaws.{Scaled, scaled_none, scaled_step, scaled_all}
use Rattle.decimal_bytes.proofs.power.scale.Goals as goal

pub loop-at-init : goal.loop-at-init
loop-at-init c = scaled_none _ _ c.requires.0

-- a byte times the factor
product : (b factor : ℕ) → b ≤ 255 → b * factor ≤ 255 * factor
product b factor h = mul-le-mul_right factor h

pub overflow_mul-product : goal.overflow_mul-product
overflow_mul-product c =
    let byte : get_or c.loop-at.bytes (c.loop-at.at - 1) 0 < 256 = search rules in
    record { fits = omega (arith, product c.from.result c.args.factor (omega arith)) }

pub overflow_add-product : goal.overflow_add-product
overflow_add-product c =
    let byte : get_or c.loop-at.bytes (c.loop-at.at - 1) 0 < 256 = search rules in
    record { fits = omega (arith, product c.from.result c.args.factor (omega arith)) }

pub loop-at-preserved : goal.loop-at-preserved
loop-at-preserved c = rw c.from.ensures (scaled_step {at = c.loop-at.at - 1} (subst (Scaled _ _ _ _) (omega arith) c.loop-at.invariant) (search rules))

pub returns : goal.returns
returns c = scaled_all (subst (Scaled _ _ _ _) (omega arith) c.loop-at.invariant)
