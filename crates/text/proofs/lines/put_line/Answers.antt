-- `text::lines::put_line` meets its contract.
use mathlib.Core.Path.{sym}
use native.Mathlib.Omega.{arith}
use Rattle.text.proofs.PlacingLaws.{past_within, past_beyond, placed_short}
use Rattle.text.proofs.lines.put_line.Goals as goal

pub write_line-requires : goal.write_line-requires
write_line-requires c = omega (arith, past_within _ _ _ _ c.after_line-end.ensures c.if-end-out.true, c.if-end-out.true)

pub returns-else-end-out : goal.returns-else-end-out
returns-else-end-out c = let after = c.after_line-end.ensures in record { value = after; out_after = sym (placed_short _ _ _ (past_beyond _ _ _ _ after c.if-end-out.false)) }
