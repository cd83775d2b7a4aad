-- `column_text::values::make_value` meets its contract, case by case.
use Prim.Native.Nat.{◌≤◌}
use mathlib.Core.Path.{sym, ap, ◌∙◌}
use native.Mathlib.Omega.{arith}
use lib.ListN.{length}
use mir.Syntax.{w64}
use mir.ValLaws.{to_z-of_z}
use Rattle.text.specs.Numbers.{decimal_text, signed_text}
use Rattle.text.proofs.NumberLaws.{decimal_most, signed_most}
use Rattle.text.proofs.PlacingLaws.{holds_none, holds_more, put_as}
use Rattle.column_text.specs.Values.{value_text}
use Rattle.column_text.proofs.ValueLaws.{made}
use borrow.Author.Rules.{rules}
use Rattle.column_text.proofs.values.make_value.Goals as goal

pub returns-in-Truth : goal.returns-in-Truth
unfolding value_text
returns-in-Truth c =
    record { prefix_len = c.make_truth.ensures.prefix_len; room_after = c.make_truth.ensures.room_after ∙ ap value_text (sym c.in-Truth.is); upper_bound = c.make_truth.ensures.upper_bound }

pub returns-in-Signed : goal.returns-in-Signed
unfolding value_text
returns-in-Signed c =
    let z = c.in-Signed.z in
    let most : length (signed_text z) ≤ 20 = signed_most z (search rules) in
    let put = put_as _ _ (ap signed_text (to_z-of_z w64 z (search rules))) (c.put_signed.ensures.value, c.put_signed.ensures.out_after) in
    let m = made (holds_more (holds_none c.args.room.now 0 (omega arith)) (signed_text z) (omega arith) put) (ap value_text (sym c.in-Signed.is)) (omega arith) in
    record { prefix_len = m.counted; room_after = m.front; upper_bound = m.short }

pub returns-in-Unsigned : goal.returns-in-Unsigned
unfolding value_text
returns-in-Unsigned c =
    let n = c.in-Unsigned.n in
    let most : length (decimal_text n) ≤ 20 = decimal_most n (search rules) in
    let m = made (holds_more (holds_none c.args.room.now 0 (omega arith)) (decimal_text n) (omega arith) (c.put_decimal.ensures.value, c.put_decimal.ensures.out_after)) (ap value_text (sym c.in-Unsigned.is)) (omega arith) in
    record { prefix_len = m.counted; room_after = m.front; upper_bound = m.short }

pub returns-in-Float : goal.returns-in-Float
unfolding value_text
returns-in-Float c =
    record { prefix_len = c.make_float.ensures.prefix_len; room_after = c.make_float.ensures.room_after ∙ ap value_text (sym c.in-Float.is); upper_bound = c.make_float.ensures.upper_bound }

pub returns-in-Double : goal.returns-in-Double
unfolding value_text
returns-in-Double c =
    record { prefix_len = c.make_double.ensures.prefix_len; room_after = c.make_double.ensures.room_after ∙ ap value_text (sym c.in-Double.is); upper_bound = c.make_double.ensures.upper_bound }

pub returns-in-Bytes : goal.returns-in-Bytes
unfolding value_text
returns-in-Bytes c =
    record { prefix_len = c.make_stretch.ensures.prefix_len; room_after = c.make_stretch.ensures.room_after ∙ ap value_text (sym c.in-Bytes.is); upper_bound = c.make_stretch.ensures.upper_bound }
