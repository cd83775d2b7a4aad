-- `decimal_bytes::power::write_unit` meets its contract: -1 has every bit set, and 1 the last alone. Assumes nothing.
use Rattle.decimal_bytes.proofs.BoundLaws.{unsigned_all_set, unsigned_last_set}
use Rattle.decimal_bytes.proofs.power.write_unit.Goals as goal

pub returns-then-negative : goal.returns-then-negative
returns-then-negative c = rw c.if-negative.true (unsigned_all_set _ _ (c.fill.ensures.after (λ y e. e)))

pub returns : goal.returns
returns c = rw c.if-negative.false (unsigned_last_set _ _ c.requires (c.fill-2.ensures.after (λ y e. e)))
