-- `slot_text::slots::make_integers` meets its contract: integer by integer, with a space before each but the first.
use Prim.Native.Nat.{ℕ, suc, ◌+◌, ◌*◌, ◌≤◌, ◌<◌}
use mathlib.Core.Path.{◌≡◌, sym, ap, subst, ◌∙◌}
use native.Mathlib.Numerals.{add-one}
use native.Mathlib.Omega.{arith}
use lib.IntN.{pos}
use lib.ListN.{length, take, get_or, length-append}
use lib.Seq.{take-length}
use mir.Syntax.{w64}
use mir.Val.{SFits}
use mir.ValLaws.{to_z-of_z}
use Rattle.text.specs.Characters.{ascii}
use Rattle.text.specs.Numbers.{signed_text}
use Rattle.text.proofs.NumberLaws.{signed_most}
use Rattle.text.proofs.PlacingLaws.{Holds, holds_none, holds_more, holds_again, holds_made, put_as}
use Rattle.slot_text.specs.Slots.{integers_text}
use Rattle.slot_text.proofs.SlotLaws.{integers_first, integers_later}
use Rattle.slot_text.proofs.slots.make_integers.Goals as goal

pub loop-i-init : goal.loop-i-init
loop-i-init c =
    let zs = c.args.numbers.now in
    let z = get_or zs 0 (pos 0) in
    let fits : SFits w64 z = record { sfits = omega arith } in
    let alone = integers_first zs (omega arith) in
    let most : length (integers_text (take 1 zs)) ≤ 20 = omega (arith, signed_most z fits, ap length alone) in
    let put = put_as c.args.room.now 0 (ap signed_text (to_z-of_z w64 z fits) ∙ alone) (c.put_signed-next.ensures.value, c.put_signed-next.ensures.out_after) in
    let first = holds_again (holds_more (holds_none c.args.room.now 0 (omega arith)) (integers_text (take 1 zs)) (omega arith) put) in
    (first, omega arith, omega arith)

pub loop-i-preserved : goal.loop-i-preserved
loop-i-preserved c =
    let zs = c.args.numbers.now in
    let i = c.loop-i.i in
    let inv = c.loop-i.invariant in
    let z = get_or zs i (pos 0) in
    let fits : SFits w64 z = record { sfits = omega arith } in
    let most : length (signed_text z) ≤ 20 = signed_most z fits in
    let later = integers_later zs i (omega arith) (omega arith) in
    let longer : length (integers_text (take i zs)) + 1 + length (signed_text z) ≡ length (integers_text (take (suc i) zs)) = sym (simp length-append) ∙ ap length later in
    let space = holds_more inv.0 (ascii " ") (omega (arith, inv)) (c.put-next.ensures.value, c.put-next.ensures.out_after) in
    let number = holds_more space (signed_text z) (simp length-append (omega (arith, inv))) (put_as _ _ (ap signed_text (to_z-of_z w64 z fits)) (c.put_signed-next-in-loop-i.ensures.value, c.put_signed-next-in-loop-i.ensures.out_after)) in
    let next = sym (add-one i) in (
      subst (Holds _ _ 0 _) (later ∙ ap (λ (k : ℕ). integers_text (take k zs)) next) number,
      inv.1,
      subst (λ (k : ℕ). length (integers_text (take k zs)) < 21 * k) next (omega (arith, inv)),
    )

pub returns : goal.returns
returns c =
    let zs = c.args.numbers.now in
    let inv = c.loop-i.invariant in
    let made = holds_made inv.0 in
    let all : c.loop-i.i ≡ length zs = omega arith in
    let whole = ap integers_text (ap (λ (k : ℕ). take k zs) all ∙ take-length zs) in record { prefix_len = made.0; room_after = made.1 ∙ whole; numbers_len_bound = omega (arith, inv.2, ap length whole) }
