-- `text::lines::item_length` meets its contract.
use Prim.Native.Nat.{ℕ, ◌+◌}
use mathlib.Core.Path.{sym, ap, ◌∙◌}
use native.Mathlib.Numerals.{add-one}
use lib.ListN.{length}
use Rattle.text.proofs.LineLaws.{item_first, item_later}
use Rattle.text.proofs.lines.item_length.Goals as goal

pub returns-then-i-eq0 : goal.returns-then-i-eq0
returns-then-i-eq0 c = c.decimal_length.ensures.value ∙ ap length (sym (item_first _ _ c.if-i-eq0.true))

pub returns : goal.returns
returns c = ap (λ (k : ℕ). k + 1) c.decimal_length-2.ensures.value ∙ add-one _ ∙ ap length (sym (item_later _ _ c.if-i-eq0.false))
