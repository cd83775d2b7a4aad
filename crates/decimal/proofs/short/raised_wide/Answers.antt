-- `decimal::short::raised_wide` meets its contract: the first word has the sign. Assumes nothing.
use mathlib.Core.Path.{◌∙◌}
use Prim.Native.Nat.{◌-◌}
use native.Mathlib.Omega.{arith}
use lib.ListN.{length}
use Rattle.decimal.proofs.WordLaws.{word_unsigned, two_words}
use Rattle.decimal.proofs.short.raised_wide.Goals as goal

pub returns : goal.returns
returns c =
    let bs = c.args.bytes.now in
    rw (c.from.ensures, c.from-2.ensures)
    (two_words bs (length bs - 8) c.front.result c.word.result (omega (arith, c.requires.0)) c.front.ensures
    (c.word.ensures ∙ word_unsigned bs (length bs - 8) (omega (arith, c.requires.0))))
