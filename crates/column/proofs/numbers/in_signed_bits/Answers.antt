-- `column::numbers::in_signed_bits` meets its contract.
-- Assumes nothing.
use Prim.Native.Nat.{ℕ, ◌*◌, ◌^◌}
use mathlib.Core.Path.{ap, ◌∙◌}
use lib.Dec.{ltb}
use lib.Signed.{mag}
use mir.Syntax.{w64}
use mir.ValLaws.{to_z-of_z}
use Rattle.column.proofs.NumberLaws.{in_signed_bits_mag}
use Rattle.column.proofs.numbers.in_signed_bits.Goals as goal

pub returns : goal.returns
returns c = c.in_bits.ensures ∙ ap (λ (m : ℕ). ltb (m * 2) (2 ^ c.args.bits)) (c.folded.ensures ∙ ap mag (to_z-of_z w64 c.args.z c.ranges.z)) ∙ in_signed_bits_mag c.args.bits c.args.z
