-- `decimal::short::sign_weight` meets its contract: the first bit of a word, moved down to that of its last bytes. Assumes nothing.
use Rattle.decimal.proofs.WordLaws.{sign_shifted}
use Rattle.decimal.proofs.short.sign_weight.Goals as goal

pub returns : goal.returns
returns c = sign_shifted c.args.count c.requires.0 c.requires.1
