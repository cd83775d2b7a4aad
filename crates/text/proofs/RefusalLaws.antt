-- How many bytes a refusal takes.
-- Assumes nothing.
use Prim.Native.Nat.{◌≤◌, ◌<◌, ◌^◌}
use native.Mathlib.Omega.{arith}
use lib.ListN.{length, length-append}
use mir.Syntax.{w64}
use mir.Val.{Fits}
use Rattle.refusal.specs.declared.answers.Refusal.{Refusal}
use Rattle.text.specs.Numbers.{decimal_text}
use Rattle.text.specs.Refusals.{refusal_text, most_refusal}
use Rattle.text.proofs.NumberLaws.{digits_below, decimal_most}

-- a number of 8 bits and one of 64, and the words before them
pub refusal_most : (r : Refusal) → r.number < 2 ^ 8 → Fits w64 r.place → length (refusal_text r) ≤ most_refusal
unfolding refusal_text
refusal_most r h k =
    let most : length (decimal_text r.number) ≤ 3 = digits_below r.number 3 (omega arith) (omega arith) in
    let most' : length (decimal_text r.place) ≤ 20 = decimal_most r.place k in
    simp length-append (omega arith)
