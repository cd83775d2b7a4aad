-- `text::numbers::put_signed` meets its contract.
use Prim.Native.Nat.{ℕ}
use mathlib.Core.List.{◌∷◌}
use mathlib.Core.Path.{sym, ap, ◌∙◌}
use lib.IntN.{ℤ, pos, nat_abs}
use lib.Signed.{lt_z}
use mir.Syntax.{w64}
use mir.ValLaws.{to_z-of_z}
use Rattle.text.specs.Characters.{MINUS}
use Rattle.text.specs.Numbers.{decimal_text}
use Rattle.text.proofs.NumberLaws.{signed_below, signed_from_zero}
use Rattle.text.proofs.PlacingLaws.{put_as}
use Rattle.text.proofs.numbers.put_signed.Goals as goal

pub returns-then-z-lt0 : goal.returns-then-z-lt0
returns-then-z-lt0 c =
    let back = to_z-of_z w64 c.args.z c.ranges.z in
    let below = sym (ap (λ (z : ℤ). lt_z z (pos 0)) back) ∙ c.if-z-lt0.true in
    let text = ap (λ (n : ℕ). MINUS ∷ decimal_text n) (c.unsigned_abs.ensures.value ∙ ap nat_abs back) ∙ signed_below c.args.z below in
    let put = put_as _ _ text (c.put_behind.ensures.value, c.put_behind.ensures.out_after) in record { value = put.0; out_after = put.1 }

pub returns : goal.returns
returns c =
    let back = to_z-of_z w64 c.args.z c.ranges.z in
    let above = sym (ap (λ (z : ℤ). lt_z z (pos 0)) back) ∙ c.if-z-lt0.false in
    let text = ap decimal_text (c.unsigned_abs-2.ensures.value ∙ ap nat_abs back) ∙ signed_from_zero c.args.z above in
    let put = put_as _ _ text (c.put_decimal.ensures.value, c.put_decimal.ensures.out_after) in record { value = put.0; out_after = put.1 }
