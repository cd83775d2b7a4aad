-- `text::lines::put_item` meets its contract.
use mathlib.Core.Path.{sym, ap, ◌∙◌}
use Rattle.text.specs.Placing.{position_after, placed_text}
use Rattle.text.proofs.LineLaws.{item_first, item_later}
use Rattle.text.proofs.lines.put_item.Goals as goal

pub returns-then-i-eq0 : goal.returns-then-i-eq0
returns-then-i-eq0 c = let text = sym (item_first _ _ c.if-i-eq0.true) in record { value = c.put_decimal.ensures.value ∙ ap (position_after _ _) text; out_after = c.put_decimal.ensures.out_after ∙ ap (placed_text _ _) text }

pub returns : goal.returns
returns c = let text = sym (item_later _ _ c.if-i-eq0.false) in record { value = c.put_behind.ensures.value ∙ ap (position_after _ _) text; out_after = c.put_behind.ensures.out_after ∙ ap (placed_text _ _) text }
