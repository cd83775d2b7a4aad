-- How great a refusal's number and place are.
use Rattle.std.specs.Prelude.{ℕ, ◌<◌, ◌≤◌}
use Rattle.refusal.specs.declared.answers.Refusal.{Refusal}
use Rattle.refusal.specs.Outcome.{Counted}
use Rattle.std.specs.Prelude.{Ok, Err}
use Rattle.refusal.specs.declared.answers.Fault.{Fault}
use Rattle.refusal.specs.Faults.{SECOND}

-- the number is from 1 to this one, and the place at most this one
pub record Bounded (number place : ℕ) (r : Refusal) : Type 0 where
  pub some_number : 0 < r.number
  pub most_number : r.number ≤ number
  pub most_place : r.place ≤ place

-- and of one of two, which lies on a side
pub record FaultBounded (number place : ℕ) (f : Fault) : Type 0 where
  pub side : f.side ≤ SECOND
  pub refusal : Bounded number place f.refusal

-- how many there are is at most this, and a refusal is within the others
abbrev pub CountedBounded : ℕ → ℕ → ℕ → Counted → Type 0
CountedBounded most number place (Ok n) = n ≤ most
CountedBounded most number place (Err r) = Bounded number place r
