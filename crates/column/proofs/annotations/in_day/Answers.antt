-- `column::annotations::in_day` meets its contract: by the sign, then by the unit.
-- Assumes nothing.
use Prim.Native.Nat.{ℕ}
use mathlib.Core.Path.{◌≡◌, sym, ap, ◌∙◌}
use lib.IntN.{nat_abs}
use lib.Signed.{non_neg}
use mir.Syntax.{w64}
use mir.Val.{to_z, of_z}
use mir.ValLaws.{to_z-of_z}
use mathlib.Core.Bool.{false}
use Rattle.std.specs.Result.{result_unwrap_or}
use Rattle.laws.proofs.SignedLaws.{below_zero, sign_told}
use Rattle.timestamp.specs.Outcomes.{day_has}
use Rattle.timestamp.specs.Units.{unit_of}
use Rattle.column.proofs.DayLaws.{day_negative, day_told}
use Rattle.column.specs.Annotations.{in_day}
use Rattle.column.proofs.annotations.in_day.Goals as goal
use Rattle.column.proofs.annotations.in_day.Goals.{After-in_day}

told : (c : After-in_day) → in_day (unit_of c.args.unit) c.args.z ≡ result_unwrap_or c.in_day.result false
told c =
    day_told (unit_of c.args.unit) c.args.z c.in_day.result (c.in_day.ensures ∙ ap (day_has (unit_of c.args.unit)) (c.unsigned_abs.ensures.value ∙ ap nat_abs (to_z-of_z w64 c.args.z c.ranges.z)))
    (sign_told c.ranges.z (below_zero (to_z w64 (of_z w64 c.args.z))) c.if-z-lt0.false)

pub returns-then-z-lt0 : goal.returns-then-z-lt0
returns-then-z-lt0 c = sym (day_negative _ c.args.z (sign_told c.ranges.z (below_zero (to_z w64 (of_z w64 c.args.z))) c.if-z-lt0.true))

pub returns : goal.returns
returns c = c.unwrap_or.ensures ∙ sym (told (goal.at.returns c).After-in_day)
