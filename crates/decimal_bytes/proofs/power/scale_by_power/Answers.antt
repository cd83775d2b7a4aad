-- `decimal_bytes::power::scale_by_power` meets its contract. The loop's invariant: the bytes are scaled by ten to sixteen times the steps
-- that are made. Assumes nothing.
use mathlib.Core.Path.{refl, ap, ◌∙◌}
use Prim.Native.Nat.{ℕ, ◌*◌, ◌^◌, ◌%◌}
use native.Mathlib.Omega.{arith}
use Rattle.decimal_bytes.specs.Number.{unsigned}
use Rattle.decimal_bytes.proofs.UnsignedLaws.{each_get_d, unsigned-<}
use Rattle.decimal_bytes.proofs.PowerLaws.{power_held, power_bounds, power_more, power_none}
use Rattle.decimal_bytes.proofs.power.scale_by_power.Goals as goal

pub loop-step-init : goal.loop-step-init
loop-step-init c = (refl, power_none _ _ (unsigned-< c.args.bytes.now (each_get_d c.args.bytes.now (λ k. (c.type_inv.bytes k).fits))))

pub scale-requires : goal.scale-requires
scale-requires c = omega (arith, c.power_of_ten.ensures)

pub loop-step-preserved : goal.loop-step-preserved
loop-step-preserved c = (
  c.scale.auto.bytes ∙ c.loop-step.invariant.0,
  c.scale.ensures
      ∙ ap (λ (n : ℕ). unsigned c.loop-step.bytes * c.power_of_ten.result % 256 ^ n) c.loop-step.invariant.0
      ∙ power_more _ _ _ _ (16 * c.loop-step._step) 16 _ c.loop-step.invariant.1 c.power_of_ten.ensures (omega arith),
)

pub scale-requires-2 : goal.scale-requires-2
scale-requires-2 c = omega (arith, power_held _ _ c.power_of_ten-2.ensures (omega arith), power_bounds (c.args.exponent % 16) (omega arith))

pub returns : goal.returns
returns c =
    c.scale-2.ensures
    ∙ ap (λ (n : ℕ). unsigned c.loop-step.bytes * c.power_of_ten-2.result % 256 ^ n) c.loop-step.invariant.0
    ∙ power_more _ _ _ _ (16 * c.loop-step._step) (c.args.exponent % 16) _ c.loop-step.invariant.1 (power_held _ _ c.power_of_ten-2.ensures (omega arith)) (omega arith)
