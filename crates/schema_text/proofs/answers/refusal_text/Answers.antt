-- `schema_text::answers::refusal_text` meets its contract.
use Prim.Native.Nat.{◌≤◌}
use mathlib.Core.List.{[], ◌∷◌}
use mathlib.Core.Path.{sym, ap, ◌∙◌, refl}
use native.Mathlib.Omega.{arith}
use lib.ListN.{length, replicate, length-append}
use lib.Seq.{length-take-le}
use Rattle.std.specs.Prelude.{Err}
use Rattle.text.specs.Placing.{position_after, placed_text}
use Rattle.text.specs.Refusals.{refusal_text, most_refusal}
use Rattle.text.specs.Characters.{LF}
use Rattle.text.proofs.PlacingLaws.{Holds, holds_none, holds_more, holds_front, holds_within}
use Rattle.schema_text.specs.Making.{made_in, most_refusal_bytes}
use Rattle.schema_text.specs.Rows.{refusal_line}
use Rattle.schema_text.proofs.MakingLaws.{made_within, made_beyond}
use Rattle.schema_text.proofs.answers.refusal_text.Goals as goal
use Rattle.schema_text.proofs.answers.refusal_text.Goals.{After-put-count}

-- a refusal is short
short : (c : After-put-count) → length (refusal_text c.args.refusal) ≤ most_refusal
short c = c.put_refusal-end.ensures.refusal_len_bound

most : (c : After-put-count) → length (refusal_line c.args.refusal) ≤ most_refusal_bytes
unfolding refusal_line
most c = omega (arith, short c, length-append (refusal_text c.args.refusal) (LF ∷ []))

-- what the room holds
held : (c : After-put-count) → Holds (replicate 36 0) c.put-count.new.out 0 c.put-count.result (refusal_line c.args.refusal)
unfolding refusal_line
held c =
    let text = holds_more (holds_none (replicate 36 0) 0 (omega arith)) (refusal_text c.args.refusal) (omega (arith, short c)) (c.put_refusal-end.ensures.value, c.put_refusal-end.ensures.out_after) in
    holds_more text (LF ∷ []) (omega (arith, short c)) (c.put-count.ensures.value, c.put-count.ensures.out_after)

pub slice_bounds-line-end : goal.slice_bounds-line-end
slice_bounds-line-end c = holds_within (held (goal.at.slice_bounds-line-end c).After-put-count)

pub slice_bounds-put-end-3 : goal.slice_bounds-put-end-3
slice_bounds-put-end-3 c = sym (length-take-le _ _ (holds_within (held (goal.at.slice_bounds-put-end-3 c).After-put-count)))

pub returns-then-next-out : goal.returns-then-next-out
unfolding made_in
returns-then-next-out c =
    let text = holds_front (held (goal.at.returns-then-next-out c).After-put-count) in
    let made = made_beyond _ _ _ _ _ refl (c.put-next.ensures.value ∙ ap (position_after _ _) text) (c.put-next.ensures.out_after ∙ ap (placed_text _ _) text) (omega (arith, c.if-next-out.true, c.put-next.auto.out)) in record { value = ap Err c.short_output.ensures ∙ made.0; out_after = made.1; refusal_len_bound = most (goal.at.returns-then-next-out c).After-put-count }

pub returns : goal.returns
unfolding made_in
returns c =
    let text = holds_front (held (goal.at.returns c).After-put-count) in
    let made = made_within _ _ _ _ _ refl (c.put-next.ensures.value ∙ ap (position_after _ _) text) (c.put-next.ensures.out_after ∙ ap (placed_text _ _) text) (omega (arith, c.if-next-out.false, c.put-next.auto.out)) in record { value = made.0; out_after = made.1; refusal_len_bound = most (goal.at.returns c).After-put-count }
