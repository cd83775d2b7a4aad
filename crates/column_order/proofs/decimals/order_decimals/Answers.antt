-- `column_order::decimals::order_decimals` meets its contract: a wrong width first, and else what comparing within the precision answers.
-- Assumes nothing.
use mathlib.Core.Path.{sym, ap, ◌∙◌}
use Rattle.column_order.proofs.DecimalLaws.{as_order, unfit, refusal, wrong_first, wrong_second, own_widths}
use Rattle.column_order.proofs.decimals.order_decimals.Goals as goal
use Rattle.column_order.proofs.decimals.order_decimals.Goals.{else-is_width-via-else-is_width, else-is_width-via-then-is_width+else-is_width-2, else-is_width-via-then-is_width+then-is_width-2+in-Err-1}

pub returns : goal.returns
returns c =
    let s = c.args in
    ap (as_order (refusal s.edition s.c s.a.now s.b.now)) (sym c.in-Ok.is ∙ c.compare_within.ensures.value)
    ∙ own_widths s.edition s.c c.requires.0 c.requires.1 s.a.now s.b.now (sym c.is_width.ensures ∙ c.if-is_width.true) (sym c.is_width-2.ensures ∙ c.if-is_width-2.true)

pub returns-2 : goal.returns-2
returns-2 c =
    let s = c.args in
    c.refused.ensures
    ∙ elim c.else-is_width.branch [
      | else-is_width-via-else-is_width w ↦ wrong_first s.edition s.c c.requires.0 c.requires.1 s.a.now s.b.now (sym c.is_width.ensures ∙ w.if-is_width.false)
      | else-is_width-via-then-is_width+else-is_width-2 w ↦ wrong_second s.edition s.c c.requires.0 c.requires.1 s.a.now s.b.now (sym w.is_width-2.ensures ∙ w.if-is_width-2.false)
      | else-is_width-via-then-is_width+then-is_width-2+in-Err-1 w ↦
          sym (unfit (refusal s.edition s.c s.a.now s.b.now) w.compare_within.result (λ o e. cc (rw e at w.in-Err-1.keys2)))
          ∙ ap (as_order (refusal s.edition s.c s.a.now s.b.now)) w.compare_within.ensures.value
          ∙ own_widths s.edition s.c c.requires.0 c.requires.1 s.a.now s.b.now (sym c.is_width.ensures ∙ w.if-is_width.true) (sym w.is_width-2.ensures ∙ w.if-is_width-2.true)
    ]
