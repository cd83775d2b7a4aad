-- `annotation::rewriting::written_of` meets its contract: the number of what the annotations say has what is written.
use mathlib.Core.Path.{◌∙◌}
use Rattle.annotation.proofs.SlotLaws.{written_read}
use Rattle.annotation.proofs.rewriting.written_of.Goals as goal

pub returns : goal.returns
returns c = c.written_as.ensures ∙ written_read _ _ _ c.annotation.ensures
