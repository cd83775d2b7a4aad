-- `timestamp::units::Unit::join` meets its contract: the day is joined as it is passed on, at as many ticks as a day of the unit has.
use Prim.Native.Nat.{ℕ}
use mir.Syntax.{w64}
use mir.Val.{to_z, of_z}
use mathlib.Core.Path.{ap, ◌∙◌}
use Rattle.timestamp.specs.Outcomes.{joining}
use Rattle.timestamp.proofs.MomentLaws.{day_answered}
use Rattle.timestamp.proofs.units.Unit.join.Goals as goal

pub returns : goal.returns
returns g c = day_answered _ c.args.day c.args.tick _ c.ranges.day (c.join_at.ensures ∙ ap (λ (t : ℕ). joining t (to_z w64 (of_z w64 c.args.day)) c.args.tick) (c.TICKS_PER_DAY.ensures ∙ g.Self.Unit.day_ticks))
