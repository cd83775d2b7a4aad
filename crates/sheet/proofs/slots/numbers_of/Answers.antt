-- `sheet::slots::numbers_of` meets its contract: each field is read where the definition has it.
use borrow.Author.Rules.{sfits_of}
use mathlib.Core.Path.{◌≡◌, ◌∙◌}
use Prim.Native.Nat.{ℕ, ◌^◌, ◌<◌}
use lib.IntN.{ℤ}
use lib.ListN.{get_or}
use mir.Syntax.{w32}
use lib.Signed.{mag}
use mir.Val.{to_z, of_z}
use mir.Facts.{to_z-of_z}
use Rattle.sheet.specs.Number.{signed32}
use Rattle.sheet.specs.Slot.{physical_at, repetition_at, converted_at, logical_at, parameter_a_at, parameter_b_at, name_length_at, numbers_of, physical, repetition, converted, logical, parameter_a, parameter_b, child_count, type_length_of, scale, precision, name_length_of}
use Rattle.sheet.proofs.slots.numbers_of.Goals as goal

-- a signed field, read back from its bits
field : {z : ℤ} (n : ℕ) → mag z < 2 ^ 31 → z ≡ signed32 n → to_z w32 (of_z w32 z) ≡ signed32 n
field n fits e = to_z-of_z {w = w32} (sfits_of fits) ∙ e

pub returns : goal.returns
unfolding numbers_of physical repetition converted logical parameter_a parameter_b child_count type_length_of scale precision name_length_of
returns c =
    let slot = c.args.slot.now in
    λ i.
    record {
      physical = get_or slot physical_at 0;
      repetition = get_or slot repetition_at 0;
      converted = get_or slot converted_at 0;
      logical = get_or slot logical_at 0;
      a = get_or slot parameter_a_at 0;
      b = get_or slot parameter_b_at 0;
      children = c.number16.ensures i;
      type_length = field _ c.signed32.type_inv c.signed32.ensures i;
      scale = field _ c.signed32-2.type_inv c.signed32-2.ensures i;
      precision = field _ c.signed32-3.type_inv c.signed32-3.ensures i;
      name_length = get_or slot name_length_at 0;
    }
