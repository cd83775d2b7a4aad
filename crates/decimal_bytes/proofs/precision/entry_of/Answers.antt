-- `decimal_bytes::precision::entry_of` meets its contract: one test, which antt computes over the whole table, shows the power-of-ten rule at each
-- of its entries, and the rule has one answer for each length. Assumes nothing.
use borrow.Author.Rules.{rules}
use Rattle.decimal_bytes.proofs.PrecisionLaws.{entry}
use Rattle.decimal_bytes.proofs.precision.entry_of.Goals as goal

pub returns : goal.returns
returns c = search (rules, entry)
