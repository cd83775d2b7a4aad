-- `decimal::short::power` meets its contract: one test, which antt computes over the table, shows that each entry is the power of its
-- place. Assumes nothing.
use borrow.Author.Rules.{rules}
use Rattle.decimal_bytes.proofs.PowerLaws.{power_entry}
use Rattle.decimal.proofs.short.power.Goals as goal

pub returns : goal.returns
returns c = search (rules, power_entry)
