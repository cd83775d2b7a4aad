-- `column_text::values::make_float` meets its contract by whether the float is the NaN.
use Prim.Native.Nat.{ℕ}
use mathlib.Core.List.{List, ◌++◌}
use mathlib.Core.Path.{◌≡◌, sym, ap, ◌∙◌}
use native.Mathlib.Omega.{arith}
use lib.Ieee.{binary32, to_bits}
use lib.ListN.{length}
use Rattle.text.specs.Characters.{ascii}
use Rattle.text.specs.Numbers.{hex_text}
use Rattle.text.proofs.NumberLaws.{length_hex}
use Rattle.text.proofs.PlacingLaws.{holds_none, holds_more, put_as}
use Rattle.column_text.proofs.ValueLaws.{made, nan_text, number_text}
use Rattle.column_text.proofs.values.make_float.Goals as goal

pub returns-then-is_nan : goal.returns-then-is_nan
returns-then-is_nan c =
    let word = holds_more (holds_none c.args.room.now 0 (omega arith)) (ascii "float ") (omega arith) (c.put-word.ensures.value, c.put-word.ensures.out_after) in
    let nan = nan_text binary32 c.args.x (sym c.is_nan.ensures.value ∙ c.if-is_nan.true) in
    let m = made (holds_more word (ascii "NaN") (omega arith) (c.put.ensures.value, c.put.ensures.out_after)) (ap (λ (t : List ℕ). ascii "float " ++ t) nan) (omega arith) in
    record { prefix_len = m.counted; room_after = m.front; upper_bound = m.short }

pub returns : goal.returns
returns c =
    let x = c.args.x in
    let bits = hex_text 8 (to_bits binary32 x) in
    let digits : length bits ≡ 8 = length_hex 8 (to_bits binary32 x) in
    let word = holds_more (holds_none c.args.room.now 0 (omega arith)) (ascii "float ") (omega arith) (c.put-word.ensures.value, c.put-word.ensures.out_after) in
    let number = number_text binary32 x (sym c.is_nan.ensures.value ∙ c.if-is_nan.false) in
    let m = made (holds_more word bits (omega arith) (c.put_hex32.ensures.value, c.put_hex32.ensures.out_after)) (ap (λ (t : List ℕ). ascii "float " ++ t) number) (omega arith) in
    record { prefix_len = m.counted; room_after = m.front; upper_bound = m.short }
