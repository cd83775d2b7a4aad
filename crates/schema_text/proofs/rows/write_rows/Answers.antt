-- `schema_text::rows::write_rows` meets its contract.
use Prim.Native.Nat.{ℕ, ◌<◌}
use mathlib.Core.Path.{◌≡◌, sym, ap, subst, ◌∙◌}
use native.Mathlib.Omega.{arith}
use Rattle.text.specs.Lines.{numbers_line}
use Rattle.text.specs.Placing.{position_after, placed_text}
use Rattle.text.proofs.PlacingLaws.{Holds, holds_none, holds_more, holds_placed}
use Rattle.schema_text.specs.Rows.{cut, lines_of}
use Rattle.schema_text.proofs.RowsLaws.{row_at, part_row, lines_suc, lines_longer}
use Rattle.schema_text.proofs.rows.write_rows.Goals as goal

pub loop-i-init : goal.loop-i-init
unfolding cut lines_of
loop-i-init c = holds_none _ _ (omega (arith, c.requires.rows_in_bounds))

pub loop-i-preserved : goal.loop-i-preserved
loop-i-preserved c =
    let ns = c.args.rows.now in
    let i = c.loop-i.i in
    let taken : i < c.args.total = omega arith in
    let line = ap numbers_line (part_row i ns) in
    subst (Holds _ _ _ _) (sym (lines_suc i ns))
    (holds_more c.loop-i.invariant (numbers_line (row_at i ns)) (omega (arith, c.requires.rows_in_bounds, lines_longer i c.args.total ns taken))
    (c.put_line-next.ensures.value ∙ ap (position_after _ _) line, c.put_line-next.ensures.out_after ∙ ap (placed_text _ _) line))

pub returns : goal.returns
returns c =
    let all : c.loop-i.i ≡ c.args.total = omega arith in
    holds_placed c.loop-i.invariant ∙ ap (λ (k : ℕ). placed_text c.args.out.now c.args.at (lines_of (cut k c.args.rows.now))) all
