-- `utf8::triple_at` meets its contract: each test decides one of the two octets. Assumes nothing.
use Prim.Native.Nat.{◌+◌}
use mathlib.Core.Bool.{Bool, cond, ◌&&◌, and-true}
use mathlib.Core.List.{◌∷◌}
use mathlib.Core.Path.{◌≡◌, refl, sym, ap, ap₂, ◌∙◌}
use native.Mathlib.Omega.{arith}
use lib.ListN.{take, drop, replicate, length-drop}
use Rattle.utf8.specs.Sequence.{◌to◌, tail, spells}
use Rattle.utf8.specs.Steps.{begun}
use Rattle.utf8.proofs.SequenceLaws.{spells_at, spells_tails, spells_cut}
use Rattle.utf8.proofs.triple_at.Goals as goal
use Rattle.utf8.proofs.triple_at.Goals.{After-within-2}

pub returns-then-text-at-lt3 : goal.returns-then-text-at-lt3
returns-then-text-at-lt3 c =
    let a = c.args in
    ap (λ (t : Bool). begun (cond t 3 0)) (sym (spells_cut (a.low to a.high) 1 (drop (a.at + 1) a.text.now) (simp length-drop (omega arith))))

pub returns-then-not-within : goal.returns-then-not-within
returns-then-not-within c =
    let a = c.args in
    sym
    (ap (λ (t : Bool). begun (cond t 3 0))
    (spells_at (a.low to a.high) (replicate 1 tail) 1 (a.at + 1) (a.at + 2) a.text.now c.within.result (omega arith) (omega arith) c.within.ensures)
    ∙ rw c.if-not-within.true)

-- and that one by itself
second_read : (c : After-within-2)
    → let a = c.args in
    spells (replicate 1 tail) (take 1 (drop (a.at + 2) a.text.now)) ≡ c.within-2.result
unfolding spells
second_read c =
    let a = c.args in
    spells_tails 1 0 (a.at + 2) (a.at + 3) a.text.now c.within-2.result refl (omega arith) (omega arith) c.within-2.ensures
    ∙ and-true c.within-2.result

both_read : (c : After-within-2)
    → let a = c.args in
    spells (a.low to a.high ∷ replicate 1 tail) (take 2 (drop (a.at + 1) a.text.now)) ≡ c.within-2.result
both_read c =
    let a = c.args in
    spells_at (a.low to a.high) (replicate 1 tail) 1 (a.at + 1) (a.at + 2) a.text.now c.within.result (omega arith) (omega arith) c.within.ensures
    ∙ ap₂ ◌&&◌ c.if-not-within.false (second_read c)

pub returns-then-not-within-2 : goal.returns-then-not-within-2
returns-then-not-within-2 c = sym (ap (λ (t : Bool). begun (cond t 3 0)) (both_read (goal.at.returns-then-not-within-2 c).After-within-2) ∙ rw c.if-not-within-2.true)

pub returns : goal.returns
returns c = sym (ap (λ (t : Bool). begun (cond t 3 0)) (both_read (goal.at.returns c).After-within-2) ∙ rw c.if-not-within-2.false)
