-- `column::annotations::decimal_keeps` meets its contract.
-- Assumes nothing.
use mathlib.Core.Path.{ap, ◌∙◌}
use mathlib.Core.Bool.{Bool, false}
use Rattle.std.specs.Prelude.{Result}
use Rattle.std.specs.Result.{result_unwrap_or}
use Rattle.decimal_bytes.specs.declared.precision.WrongLength.{WrongLength}
use Rattle.column.proofs.DecimalLaws.{fits_within}
use Rattle.column.proofs.annotations.decimal_keeps.Goals as goal

pub returns : goal.returns
returns c =
    c.unwrap_or.ensures ∙ ap (λ (r : Result Bool WrongLength). result_unwrap_or r false) c.fits_precision.ensures.value
    ∙ fits_within c.args.value.now c.args.precision c.requires
