-- `slot_text::slots::put_slot` meets its contract.
use mathlib.Core.Path.{ap, ◌∙◌}
use native.Mathlib.Omega.{arith}
use lib.ListN.{length}
use Rattle.text.proofs.PlacingLaws.{put_as}
use Rattle.slot_text.proofs.SlotLaws.{Numbers, slot_read}
use Rattle.slot_text.proofs.slots.put_slot.Goals as goal

pub returns : goal.returns
returns c =
    let known : Numbers c.args.slot = record {
      physical = omega arith;
      repetition = omega arith;
      converted = omega arith;
      logical = omega arith;
      a = omega arith;
      b = omega arith;
      children = omega arith;
      type_length = omega arith;
      scale = omega arith;
      precision = omega arith;
      name_length = omega arith;
    } in
    let read = slot_read _ known in
    let put = put_as _ _ (c.make_integers-count.ensures.room_after ∙ read) (c.put.ensures.value, c.put.ensures.out_after) in
    record { value = put.0; out_after = put.1; slot_len_bound = omega (arith, c.make_integers-count.ensures.numbers_len_bound, ap length read) }
