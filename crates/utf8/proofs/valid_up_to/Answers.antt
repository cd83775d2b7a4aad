-- `utf8::valid_up_to` meets its contract. The loop's invariant: reading passes what stands before `at`. The measure is what is left of the
-- length.
use Prim.Native.Nat.{ℕ, ◌<◌}
use mathlib.Core.List.{List}
use mathlib.Core.Logic.{⊎_elim}
use mathlib.Core.Path.{◌≡◌}
use native.Mathlib.Nat.{eq-or-lt_of_le}
use native.Mathlib.Omega.{arith}
use lib.ListN.{length, drop, length-drop}
use Rattle.utf8.specs.Valid.{leading, valid_up_to, Stops}
use Rattle.utf8.specs.Steps.{Passes}
use Rattle.utf8.proofs.ValidLaws.{valid_up_to_none, valid_up_to_stops, passes_on}
use Rattle.utf8.proofs.valid_up_to.Goals as goal
use Rattle.utf8.proofs.valid_up_to.Goals.{After-letters_after-to}

-- no sequence begins where reading has come to
answer : (s : List ℕ) (r : ℕ) → Passes s 0 r → (r < length s → leading (drop r s) ≡ 0) → (r ≡ valid_up_to s) × Stops s r
answer s r p none =
    let stuck : valid_up_to (drop r s) ≡ 0 =
    ⊎_elim (λ h. omega (arith, (valid_up_to_stops (drop r s)).within, length-drop r s)) (λ h. valid_up_to_none (drop r s) (none h)) (eq-or-lt_of_le p.within)
    in
    let e : r ≡ valid_up_to s = omega (arith, p.reads, stuck) in
    (e, rw e (valid_up_to_stops s))

-- `at` is passed, and so are ASCII and the letters after it
passed : (c : After-letters_after-to) → Passes c.args.text.now 0 c.letters_after-to.result
passed c = passes_on c.loop-at.invariant (passes_on c.ascii_after-from.ensures.passes c.letters_after-to.ensures.passes)

pub returns-then-to-from : goal.returns-then-to-from
returns-then-to-from c =
    let ascii = c.ascii_after-from.ensures in
    let letters = c.letters_after-to.ensures in
    let done =
    answer _ _ (passed (goal.at.returns-then-to-from c).After-letters_after-to)
    (λ inside. letters.no_letter inside (rw c.if-to-from.true (ascii.no_ascii (omega arith))))
    in
    record { value = done.0; stops = done.1 }

pub returns : goal.returns
returns c =
    let done = answer _ _ c.loop-at.invariant (λ inside. absurd (omega arith)) in
    record { value = done.0; stops = done.1 }
