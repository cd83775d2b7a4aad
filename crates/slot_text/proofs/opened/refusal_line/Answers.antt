-- `slot_text::opened::refusal_line` meets its contract.
use Prim.Native.Nat.{ℕ}
use mathlib.Core.List.{[], ◌∷◌}
use mathlib.Core.Path.{◌≡◌, refl, subst}
use native.Mathlib.Omega.{arith}
use lib.ListN.{drop}
use Rattle.text.specs.Characters.{LF}
use Rattle.text.proofs.PlacingLaws.{Holds, holds_none, holds_more, holds_made, holds_back}
use Rattle.slot_text.specs.Opened.{opened_text, refusal_line}
use Rattle.slot_text.proofs.OpenedLaws.{line_none, line_some}
use Rattle.slot_text.proofs.opened.refusal_line.Goals as goal
use Rattle.slot_text.proofs.opened.refusal_line.Goals.{After-put_opened-end}

-- what the room holds before the line's end
held : (c : After-put_opened-end) → Holds c.args.out.now c.put_opened-end.new.out 0 c.put_opened-end.result (opened_text c.args.opened)
held c =
    holds_more (holds_none c.args.out.now 0 (omega arith)) (opened_text c.args.opened) (omega (arith, c.put_opened-end.ensures.opened_len_bound)) (c.put_opened-end.ensures.value, c.put_opened-end.ensures.out_after)

pub returns-then-end-eq0 : goal.returns-then-end-eq0
unfolding refusal_line
returns-then-end-eq0 c =
    let text = held (goal.at.returns-then-end-eq0 c).After-put_opened-end in
    let back = subst (λ (k : ℕ). drop k c.put_opened-end.new.out ≡ drop k c.args.out.now) c.if-end-eq0.true (holds_back text) in record { prefix_len = (omega arith, refl); out_after = line_none (opened_text c.args.opened) (omega (arith, text.end, c.if-end-eq0.true)); out_unchanged = back }

pub returns : goal.returns
unfolding refusal_line
returns c =
    let text = held (goal.at.returns c).After-put_opened-end in
    let short = c.put_opened-end.ensures.opened_len_bound in
    let line = subst (Holds _ _ 0 _) (line_some (opened_text c.args.opened) (omega (arith, text.end, c.if-end-eq0.false))) (holds_more text (LF ∷ []) (omega (arith, short)) (c.put.ensures.value, c.put.ensures.out_after)) in
    let made = holds_made line in record { prefix_len = made.0; out_after = made.1; out_unchanged = holds_back line }
