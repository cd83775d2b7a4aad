-- `decimal::short::word` meets its contract. Assumes nothing.
use mathlib.Core.Path.{◌∙◌}
use Rattle.decimal.proofs.WordLaws.{from_eight}
use Rattle.decimal.proofs.short.word.Goals as goal

pub returns : goal.returns
returns c = c.from_be_bytes.ensures ∙ from_eight c.args.bytes.now c.args.at
