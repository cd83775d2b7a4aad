-- `column_text::answers::read_line` meets its contract.
use mathlib.Core.List.{[], ◌∷◌}
use native.Mathlib.Omega.{arith}
use Rattle.text.specs.Characters.{LF}
use Rattle.text.proofs.PlacingLaws.{holds_none, holds_more, holds_made, holds_back}
use Rattle.column_text.specs.Answers.{read_text}
use Rattle.column_text.proofs.answers.read_line.Goals as goal

pub returns : goal.returns
returns c =
    let text = holds_more (holds_none c.args.out.now 0 (omega arith)) (read_text c.args.r) (omega (arith, c.put_read-end.ensures.r_len_bound)) (c.put_read-end.ensures.value, c.put_read-end.ensures.out_after) in
    let line = holds_more text (LF ∷ []) (omega (arith, c.put_read-end.ensures.r_len_bound)) (c.put.ensures.value, c.put.ensures.out_after) in
    let made = holds_made line in record { prefix_len = made.0; out_after = made.1; out_unchanged = holds_back line }
