-- `utf8::letters_after` meets its contract. The loop's invariant is what is promised of the octets passed; the measure is what is left of
-- the length.
use Prim.Native.Nat.{◌+◌}
use mathlib.Core.Path.{sym, ◌∙◌}
use native.Mathlib.Omega.{arith}
use Rattle.utf8.specs.Steps.{Passes}
use Rattle.utf8.proofs.ValidLaws.{passes_sequence, begun_is}
use Rattle.utf8.proofs.letters_after.Goals as goal
use Rattle.utf8.proofs.letters_after.Goals.{In-Some}

-- the sequence at `at` is passed
passed : (c : In-Some)
    → Passes c.args.text.now c.args.from (c.loop-at.at + c.in-Some.octets)
passed c =
    passes_sequence _ _ c.loop-at.at _ (begun_is _ _ (sym c.sequence_at.ensures ∙ c.in-Some.is)).0 (omega arith) c.loop-at.invariant

pub overflow_add-at : goal.overflow_add-at
overflow_add-at c = record { fits = omega (arith, (passed (goal.at.overflow_add-at c).In-Some).within) }

pub loop-at-preserved : goal.loop-at-preserved
loop-at-preserved c = passed (goal.at.loop-at-preserved c).In-Some
