-- `utf8::pair_at` meets its contract: the first octet is of UTF8-2 or between UTF8-1 and it, and the tests decide whether one of UTF8-tail
-- follows.
use Prim.Native.Nat.{ℕ, suc, ◌<◌, ◌≤◌}
use mathlib.Core.Bool.{Bool, cond, and-true}
use mathlib.Core.List.{List, [], ◌∷◌}
use mathlib.Core.Path.{◌≡◌, refl, sym, ap, ◌∙◌}
use native.Mathlib.Numerals.{add-one}
use native.Mathlib.Omega.{arith}
use lib.ListN.{length, get_or, take, drop, length-drop}
use lib.Seq.{drop-cons}
use Rattle.utf8.specs.Sequence.{tail, spells, utf8_char, utf8_1, utf8_2, utf8_3, utf8_4}
use Rattle.utf8.specs.Steps.{begun}
use Rattle.utf8.specs.Valid.{leading}
use Rattle.utf8.proofs.SequenceLaws.{spells_at, spells_cut}
use Rattle.utf8.proofs.ValidLaws.{leading_first, leading_between}
use Rattle.utf8.proofs.pair_at.Goals as goal
use Rattle.utf8.proofs.pair_at.Goals.{After-within}

pub returns-then-text-at-lt-UTF8_2_FIRST : goal.returns-then-text-at-lt-UTF8_2_FIRST
unfolding utf8_char utf8_1 utf8_2 utf8_3 utf8_4
returns-then-text-at-lt-UTF8_2_FIRST c =
    let a = c.args in
    let h : a.at < length a.text.now = omega arith in
    ap begun (sym (ap leading (drop-cons a.text.now a.at 0 h) ∙ leading_between 1 _ (drop (suc a.at) a.text.now) (omega arith)))

-- a first octet of UTF8-2 begins a sequence where one of UTF8-tail follows
first_read : (s : List ℕ) (at : ℕ) → at < length s → 0xC2 ≤ get_or s at 0 → get_or s at 0 ≤ 0xDF
    → leading (drop at s) ≡ cond (spells (tail ∷ []) (take 1 (drop (suc at) s))) 2 0
unfolding utf8_char utf8_1 utf8_2 utf8_3 utf8_4
first_read s at h low high = ap leading (drop-cons s at 0 h) ∙ leading_first 1 refl _ (drop (suc at) s) (omega arith)

pub returns-then-text-at-lt2 : goal.returns-then-text-at-lt2
returns-then-text-at-lt2 c =
    let a = c.args in
    ap begun
    (sym
    (first_read a.text.now a.at (omega arith) (omega arith) (omega arith)
    ∙ ap (λ (t : Bool). cond t 2 0)
    (spells_cut tail 0 (drop (suc a.at) a.text.now) (simp length-drop (omega arith)))))

-- so the test of the second octet decides
second_read : (c : After-within)
    → let a = c.args in
    leading (drop a.at a.text.now) ≡ cond c.within.result 2 0
unfolding spells
second_read c =
    let a = c.args in
    first_read a.text.now a.at (omega arith) (omega arith) (omega arith)
    ∙ ap (λ (t : Bool). cond t 2 0)
    (spells_at tail [] 0 (suc a.at) (suc (suc a.at)) a.text.now c.within.result (omega arith) refl (rw (← add-one a.at) c.within.ensures) ∙ and-true c.within.result)

pub returns-then-not-within : goal.returns-then-not-within
returns-then-not-within c = sym (ap begun (second_read (goal.at.returns-then-not-within c).After-within) ∙ rw c.if-not-within.true)

pub returns : goal.returns
returns c = sym (ap begun (second_read (goal.at.returns c).After-within) ∙ rw c.if-not-within.false)
