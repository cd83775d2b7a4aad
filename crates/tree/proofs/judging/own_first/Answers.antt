-- `tree::judging::own_first` meets its contract.
use mathlib.Core.Path.{◌≡◌, refl, sym}
use Prim.Native.Nat.{ℕ, zero, suc, ◌+◌, ◌*◌}
use mathlib.Core.List.{[], ◌∷◌}
use native.Mathlib.Omega.{arith}
use borrow.Author.Tests.{eqb-false}
use Rattle.tree.specs.Steps.{rule_weight, fault_from, first_of}
use Rattle.tree.proofs.JudgingLaws.{first_of_some}
use Rattle.tree.proofs.NodeLaws.{number_some}
use Rattle.tree.proofs.judging.own_first.Goals as goal

some : (own at fault : ℕ) → (own ≡ 0 → ⊥) → rule_weight * own + at ≡ first_of (fault_from at (own ∷ [])) fault
unfolding fault_from
some zero at fault n = absurd (n refl)
some (suc m) at fault n = sym (first_of_some (rule_weight * suc m + at) fault (λ e. omega arith))

pub returns-in-Ok : goal.returns-in-Ok
unfolding fault_from first_of
returns-in-Ok c = rw c.in-Ok.is

pub returns-in-Err : goal.returns-in-Err
returns-in-Err c = rw (c.number.ensures, c.in-Err.is) (some _ _ _ (eqb-false _ _ (number_some c.in-Err.rule)))
