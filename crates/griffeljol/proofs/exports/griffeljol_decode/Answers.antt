-- `griffeljol::exports::griffeljol_decode` meets its contract, of the count as it was passed in.
use mathlib.Core.Path.{subst}
use lib.IntN.{ℤ}
use mir.Syntax.{w64}
use mir.ValLaws.{to_z-of_z}
use Rattle.c_timestamps.specs.Timestamps.{Decoding}
use Rattle.griffeljol.proofs.exports.griffeljol_decode.Goals as goal

pub returns : goal.returns
returns c =
    let args = c.args in
    subst (λ (z : ℤ). Decoding args.unit z args.fields.now c.decode.result c.decode.new.fields) (to_z-of_z w64 args.count c.ranges.count) c.decode.ensures
