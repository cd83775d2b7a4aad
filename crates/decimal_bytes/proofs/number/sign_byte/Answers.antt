-- `decimal_bytes::number::sign_byte` meets its contract. Assumes nothing.
use mathlib.Core.Path.{sym, ap, ◌∙◌}
use mathlib.Core.Bool.{Bool, cond}
use Rattle.decimal_bytes.proofs.number.sign_byte.Goals as goal

pub returns-then-is_negative : goal.returns-then-is_negative
returns-then-is_negative c = ap (λ (t : Bool). cond t 255 0) (sym c.if-is_negative.true ∙ c.is_negative.ensures)

pub returns : goal.returns
returns c = ap (λ (t : Bool). cond t 255 0) (sym c.if-is_negative.false ∙ c.is_negative.ensures)
