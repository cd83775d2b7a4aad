-- `utf8::ascii::ascii_after` meets its contract. The loop's invariant is what is promised of the octets passed; the measure is what is left
-- of the length.
use Prim.Native.Nat.{◌+◌}
use mathlib.Core.Path.{sym, ◌∙◌}
use native.Mathlib.Omega.{arith}
use Rattle.utf8.specs.Steps.{Passes, NoAscii}
use Rattle.utf8.proofs.ValidLaws.{passes_on}
use Rattle.utf8.proofs.AsciiLaws.{passes_ended, passes_clear}
use Rattle.utf8.proofs.ascii.ascii_after.Goals as goal
use Rattle.utf8.proofs.ascii.ascii_after.Goals.{After-octets_below}

-- the word at `at` ends the run
passed : (c : After-octets_below)
    → let text = c.args.text.now in
    let r = c.loop-at.at + c.octets_below.result in
    Passes text c.args.from r × NoAscii text r
passed c =
    let word = c.high_bits-high.ensures in
    let below = c.octets_below.ensures _ c.loop-at.at 8 (omega arith) word in
    passes_ended 8 _ _ _ c.loop-at.at (omega arith) (omega (arith, word)) below c.loop-at.invariant

pub overflow_add-result : goal.overflow_add-result
overflow_add-result c = record { fits = omega (arith, (passed c).0.within) }

pub returns-then-high-ne0 : goal.returns-then-high-ne0
returns-then-high-ne0 c = record { passes = (passed c).0; no_ascii = (passed c).1 }

pub loop-at-preserved : goal.loop-at-preserved
loop-at-preserved c =
    let word = sym c.high_bits-high.ensures ∙ c.if-high-ne0.false in
    passes_on (passes_clear 8 _ _ c.loop-at.at (omega arith) word c.loop-at.invariant) c.blocks_after-at.ensures
