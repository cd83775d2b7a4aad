-- `little_endian::numbers::store` meets its contract: the bytes are stored from the first on.
use native.Mathlib.Omega.{arith}
use Rattle.little_endian.proofs.NumberLaws.{stored_start, stored_next, stored_end}
use Rattle.little_endian.proofs.numbers.store.Goals as goal

pub loop-byte-init : goal.loop-byte-init
loop-byte-init c = stored_start _ _

pub loop-byte-preserved : goal.loop-byte-preserved
loop-byte-preserved c = stored_next _ _ c.loop-byte.out _ _ (omega (arith, c.loop-byte-test.true, c.loop-byte.invariant.long)) c.loop-byte.invariant

pub returns : goal.returns
returns c = stored_end _ _ c.loop-byte.out _ _ (omega (arith, c.loop-byte-test.false, c.loop-byte.invariant.long)) c.loop-byte.invariant
