-- `decimal_bytes::power::write_power` meets its contract: 1 or -1, times the power of ten, is what the bytes hold. Assumes nothing.
use mathlib.Core.Path.{◌≡◌, sym, ap, subst, ◌∙◌}
use mathlib.Core.Bool.{cond}
use Prim.Native.Nat.{ℕ, ◌*◌, ◌-◌, ◌%◌, ◌^◌, ◌≤◌}
use native.Mathlib.Nat.{one-le-pow}
use native.Mathlib.Omega.{arith}
use lib.ListN.{length}
use Rattle.decimal_bytes.specs.Precision.{greatest_number}
use Rattle.decimal_bytes.specs.Number.{unsigned}
use Rattle.decimal_bytes.proofs.UnsignedLaws.{each_get_d}
use Rattle.decimal_bytes.proofs.BoundLaws.{number_scaled}
use Rattle.decimal_bytes.proofs.power.write_power.Goals as goal

pub returns : goal.returns
returns c =
    let a = c.args in
    let scaled : length c.scale_by_power.new.bytes ≡ length c.write_unit.new.bytes = c.scale_by_power.auto.bytes in
    let whole : length c.scale_by_power.new.bytes ≡ length a.bytes.now = scaled ∙ c.write_unit.auto.bytes in
    number_scaled a.negative c.scale_by_power.new.bytes (10 ^ a.exponent) (unsigned c.write_unit.new.bytes)
    (each_get_d c.scale_by_power.new.bytes (λ k. (c.type_inv.bytes k).fits))
    (subst (λ (n : ℕ). 1 ≤ n) (sym whole) c.requires.0)
    (one-le-pow a.exponent 10 (omega arith))
    (subst (λ (n : ℕ). 10 ^ a.exponent ≤ greatest_number n) (sym whole) c.requires.1)
    (c.write_unit.ensures ∙ ap (λ (n : ℕ). cond a.negative (256 ^ n - 1) 1) (sym whole))
    (c.scale_by_power.ensures ∙ ap (λ (n : ℕ). unsigned c.write_unit.new.bytes * 10 ^ a.exponent % 256 ^ n) (sym scaled))
