-- `decimal_bytes::power::power_of_ten` meets its contract: one test, which antt computes over the table, shows that each entry is the power of its
-- place. Assumes nothing.
use Prim.Native.Nat.{◌<◌}
use native.Mathlib.Omega.{arith}
use borrow.Author.Rules.{rules}
use Rattle.decimal_bytes.proofs.PowerLaws.{power_entry}
use Rattle.decimal_bytes.proofs.power.power_of_ten.Goals as goal

pub returns : goal.returns
returns c =
    let held : c.min.result < 20 = omega (arith, c.min.ensures) in
    rw (← c.min.ensures) (search (rules, power_entry))
