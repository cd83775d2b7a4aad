-- `griffeljol::exports::griffeljol_to_int96` meets its contract: the count is passed on as it is.
use mathlib.Core.Path.{ap, ◌∙◌}
use lib.IntN.{ℤ}
use mir.Syntax.{w64}
use mir.ValLaws.{to_z-of_z}
use Rattle.int96.specs.Outcomes as int96
use Rattle.griffeljol.proofs.exports.griffeljol_to_int96.Goals as goal

pub returns : goal.returns
returns c = record { value = c.to_int96.ensures.value; value_after = c.to_int96.ensures.value_after ∙ ap (λ (z : ℤ). int96.encoded z c.args.value.now) (to_z-of_z w64 c.args.count c.ranges.count) }
