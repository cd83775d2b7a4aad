-- `utf8::sequence_at` meets its contract: its first octet says what may follow, and each test decides one part of that.
-- Assumes nothing.
use Prim.Native.Nat.{ℕ, suc, ◌+◌, ◌-◌, ◌<◌}
use mathlib.Core.Bool.{Bool, cond, ◌&&◌, and-false}
use mathlib.Core.List.{List, ◌∷◌}
use mathlib.Core.Path.{◌≡◌, sym, ap, ◌∙◌}
use native.Mathlib.Numerals.{add-one}
use native.Mathlib.Omega.{arith}
use lib.ListN.{length, get_or, take, drop, replicate, length-take, length-drop}
use lib.Seq.{drop-cons}
use Rattle.std.specs.List.{list_all}
use Rattle.utf8.specs.Sequence.{◌to◌, tail, inside, spells}
use Rattle.utf8.specs.Steps.{begun}
use Rattle.utf8.specs.Valid.{leading}
use Rattle.utf8.proofs.SequenceLaws.{spells_at, spells_cut, all_tails}
use Rattle.utf8.proofs.ValidLaws.{begun_some}
use Rattle.utf8.proofs.sequence_at.Goals as goal
use Rattle.utf8.proofs.sequence_at.Goals.{After-within, After-are_tails}

-- a sequence starts where the octets after the first are those that may follow it
first_read : (s : List ℕ) (at low high tails : ℕ) → at < length s
    → ((rest : List ℕ) → leading (get_or s at 0 ∷ rest) ≡ cond (spells (low to high ∷ replicate tails tail) (take (suc tails) rest)) (tails + 2) 0)
    → leading (drop at s) ≡ cond (spells (low to high ∷ replicate tails tail) (take (suc tails) (drop (at + 1) s))) (tails + 2) 0
first_read s at low high tails h by_index = rw add-one (ap leading (drop-cons s at 0 h) ∙ by_index (drop (suc at) s))

-- the test of the second octet decides together with the octets after that
second_read : (c : After-within)
    → let a = c.args in
    let rest = c.in_ok-rest.rest in
    leading (drop a.at a.text.now)
    ≡ cond (c.within.result && spells (replicate rest.tails tail) (take rest.tails (drop (a.at + 2) a.text.now))) (rest.tails + 2) 0
second_read c =
    let a = c.args in
    let rest = c.in_ok-rest.rest in
    let h : a.at < length a.text.now = omega arith in
    first_read a.text.now a.at rest.low rest.high rest.tails h c.in_ok-rest.ensures.by_index
    ∙ ap (λ (t : Bool). cond t (rest.tails + 2) 0)
    (spells_at (rest.low to rest.high) (replicate rest.tails tail) rest.tails (a.at + 1) (a.at + 2) a.text.now c.within.result
    (omega arith)
    (omega arith)
    c.within.ensures)

pub returns-then-text-at : goal.returns-then-text-at
returns-then-text-at c =
    let a = c.args in
    let h : a.at < length a.text.now = omega arith in
    let rest = c.in_ok-rest.rest in
    ap begun
    (sym
    (first_read a.text.now a.at rest.low rest.high rest.tails h c.in_ok-rest.ensures.by_index
    ∙ ap (λ (t : Bool). cond t (rest.tails + 2) 0)
    (spells_cut (rest.low to rest.high) rest.tails (drop (a.at + 1) a.text.now) (simp length-drop (omega arith)))))

pub returns-then-not-within : goal.returns-then-not-within
returns-then-not-within c = sym (ap begun (second_read (goal.at.returns-then-not-within c).After-within) ∙ rw c.if-not-within.true)

-- and the octets after it are of UTF8-tail where each is
tails_read : (c : After-are_tails)
    → let a = c.args in
    let tails = c.in_ok-rest.rest.tails in
    spells (replicate tails tail) (take tails (drop (a.at + 2) a.text.now)) ≡ c.are_tails.result
tails_read c =
    let a = c.args in
    let tails = c.in_ok-rest.rest.tails in
    let count : a.at + 2 + tails - (a.at + 2) ≡ tails = omega arith in
    sym (c.are_tails.ensures ∙ ap (λ (n : ℕ). list_all (inside tail) (take n (drop (a.at + 2) a.text.now))) count
    ∙ all_tails tails _ (simp (length-take, length-drop) (omega arith)))

pub returns-then-not-are_tails : goal.returns-then-not-are_tails
returns-then-not-are_tails c =
    sym (ap begun (second_read (goal.at.returns-then-not-are_tails c).After-within)
    ∙ rw (tails_read (goal.at.returns-then-not-are_tails c).After-are_tails, c.if-not-are_tails.true, and-false))

pub returns : goal.returns
returns c =
    sym (ap begun (second_read (goal.at.returns c).After-within)
    ∙ rw (tails_read (goal.at.returns c).After-are_tails, c.if-not-within.false, c.if-not-are_tails.false)
    (begun_some (c.in_ok-rest.rest.tails + 2) (omega arith)))
