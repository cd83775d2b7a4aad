-- `schema_text::rows::after_rows` meets its contract.
use Prim.Native.Nat.{ℕ}
use mathlib.Core.List.{List}
use mathlib.Core.Path.{sym, ap, ◌∙◌}
use lib.ListN.{length}
use Rattle.text.specs.Lines.{numbers_line}
use Rattle.text.specs.Placing.{position_after}
use Rattle.text.proofs.PlacingLaws.{after_more}
use Rattle.schema_text.specs.Rows.{cut, lines_of}
use Rattle.schema_text.proofs.RowsLaws.{row_at, part_row, lines_suc}
use Rattle.schema_text.proofs.rows.after_rows.Goals as goal

pub loop-i-init : goal.loop-i-init
unfolding cut lines_of
loop-i-init c = c.after-next.ensures

pub loop-i-preserved : goal.loop-i-preserved
loop-i-preserved c =
    let ns = c.args.rows.now in
    let i = c.loop-i.i in
    let room = length c.args.out.now in
    after_more room c.args.at (lines_of (cut i ns)) (numbers_line (row_at i ns)) c.loop-i.invariant
    (c.after_line-next.ensures ∙ ap (λ (row : List ℕ). position_after room c.loop-i.next (numbers_line row)) (part_row i ns))
    ∙ ap (position_after room c.args.at) (sym (lines_suc i ns))
