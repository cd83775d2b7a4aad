-- `decimal::short::raised` meets its contract: what a word holds is moved to where 0 stands. Assumes nothing.
use native.Mathlib.Omega.{arith}
use Rattle.decimal.proofs.WordLaws.{one_word}
use Rattle.decimal.proofs.short.raised.Goals as goal

pub returns : goal.returns
returns c = one_word c.args.bytes.now _ c.front.result (omega arith) c.front.ensures
