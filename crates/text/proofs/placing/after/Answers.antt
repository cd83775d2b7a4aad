-- `text::placing::after` meets its contract.
use mathlib.Core.Path.{sym, ◌∙◌}
use native.Mathlib.Numerals.{add-one}
use native.Mathlib.Omega.{arith}
use Rattle.text.proofs.PlacingLaws.{past_fits, past_short}
use Rattle.text.proofs.placing.after.Goals as goal

pub returns-then-at-room : goal.returns-then-at-room
returns-then-at-room c = add-one _ ∙ sym (past_short _ _ _ (omega arith))

pub returns-then-count-room : goal.returns-then-count-room
returns-then-count-room c = add-one _ ∙ sym (past_short _ _ _ (omega arith))

pub returns : goal.returns
returns c = sym (past_fits _ _ _ (omega arith))
