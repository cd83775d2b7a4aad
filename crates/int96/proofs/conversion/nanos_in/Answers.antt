-- `int96::conversion::nanos_in` meets its contract.
use native.Mathlib.Omega.{arith}
use mathlib.Core.Path.{ap, ◌∙◌}
use lib.Seq.{take-take}
use Rattle.laws.specs.Bytes.{little}
use Rattle.int96.specs.Value.{nanos_in}
use Rattle.int96.proofs.conversion.nanos_in.Goals as goal

pub returns : goal.returns
unfolding nanos_in
returns c = c.number.ensures ∙ ap little (take-take 8 8 c.args.value.now (omega arith))
