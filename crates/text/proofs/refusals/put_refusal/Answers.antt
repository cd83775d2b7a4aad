-- `text::refusals::put_refusal` meets its contract: the words and the numbers are put together, and stored at once.
use Prim.Native.Nat.{◌≤◌}
use mathlib.Core.Path.{sym, ap, ◌∙◌}
use native.Mathlib.Omega.{arith}
use lib.ListN.{length, replicate, length-append}
use lib.Seq.{length-take-le}
use Rattle.text.specs.Characters.{ascii}
use Rattle.text.specs.Numbers.{decimal_text}
use Rattle.text.specs.Refusals.{refusal_text, most_refusal}
use Rattle.text.specs.Placing.{position_after, placed_text}
use Rattle.text.proofs.RefusalLaws.{refusal_most}
use Rattle.text.proofs.PlacingLaws.{Holds, holds_none, holds_more, holds_front, holds_within}
use Rattle.text.proofs.refusals.put_refusal.Goals as goal
use Rattle.text.proofs.refusals.put_refusal.Goals.{After-put_decimal-end}

-- its numbers are of 32 and 64 bits
short : (c : After-put_decimal-end) → length (refusal_text c.args.refusal) ≤ most_refusal
short c = refusal_most _ (omega arith) (record { fits = omega arith })

-- what the room holds
held : (c : After-put_decimal-end) → Holds (replicate 36 0) c.put_decimal-end.new.out 0 c.put_decimal-end.result (refusal_text c.args.refusal)
unfolding refusal_text
held c =
    let r = c.args.refusal in
    let whole : length (refusal_text r) ≤ most_refusal = short c in
    let most = simp length-append at whole in
    let word = holds_more (holds_none (replicate 36 0) 0 (omega arith)) (ascii "refused ") (omega arith) (c.put-word.ensures.value, c.put-word.ensures.out_after) in
    let numbered = holds_more word (decimal_text r.number) (omega arith) (c.put_decimal-numbered.ensures.value, c.put_decimal-numbered.ensures.out_after) in
    let preposition = holds_more numbered (ascii " at ") (simp length-append (omega arith)) (c.put-preposition.ensures.value, c.put-preposition.ensures.out_after) in
    holds_more preposition (decimal_text r.place) (simp length-append (omega arith)) (c.put_decimal-end.ensures.value, c.put_decimal-end.ensures.out_after)

pub slice_bounds-text-end : goal.slice_bounds-text-end
slice_bounds-text-end c = holds_within (held (goal.at.slice_bounds-text-end c).After-put_decimal-end)

pub slice_bounds-put-end-5 : goal.slice_bounds-put-end-5
slice_bounds-put-end-5 c = sym (length-take-le _ _ (holds_within (held (goal.at.slice_bounds-put-end-5 c).After-put_decimal-end)))

pub returns : goal.returns
returns c =
    let text = holds_front (held (goal.at.returns c).After-put_decimal-end) in record {
      value = c.put.ensures.value ∙ ap (position_after _ _) text;
      out_after = c.put.ensures.out_after ∙ ap (placed_text _ _) text;
      refusal_len_bound = short (goal.at.returns c).After-put_decimal-end;
    }
