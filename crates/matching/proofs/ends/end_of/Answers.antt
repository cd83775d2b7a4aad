-- `matching::ends::end_of` meets its contract: a node's tree ends where the last of its fields does.
use mathlib.Core.Path.{◌≡◌}
use Prim.Native.Nat.{◌-◌}
use native.Mathlib.Omega.{arith}
use Rattle.tree.proofs.VisitLaws.{children_claimed, tree_end}
use Rattle.matching.proofs.EndLaws.{ended_start, ended_most, ended_read, ended_next_most, ended_next, ended_last}
use Rattle.matching.proofs.ends.end_of.Goals as goal

pub overflow_add-at : goal.overflow_add-at
overflow_add-at c = omega (arith, c.requires.node_bound, c.requires.claimed.most)

pub loop-passed-init : goal.loop-passed-init
loop-passed-init c =
    let all : c.slot_at-s.result.children - 0 ≡ c.slot_at-s.result.children = omega arith in
    rw all (ended_start _ _ _ _ (omega arith) (children_claimed _ _ _ c.slot_at-s.ensures c.requires.claimed c.requires.node_bound))

pub offset_bounds-ends-at : goal.offset_bounds-ends-at
offset_bounds-ends-at c = record { fits = omega (arith, ended_most _ _ _ _ _ _ c.loop-passed.invariant c.requires.claimed (λ e. omega (arith, c.loop-passed-test.true))) }

pub bounds-ends-at : goal.bounds-ends-at
bounds-ends-at c = ended_read _ _ _ _ _ _ c.loop-passed.invariant c.requires.claimed (λ e. omega (arith, c.loop-passed-test.true)) _ c.requires.ends_from

pub overflow_cast-at : goal.overflow_cast-at
overflow_cast-at c = record { fits = omega (arith, ended_next_most _ _ _ _ _ _ c.loop-passed.invariant c.requires.claimed (λ e. omega (arith, c.loop-passed-test.true)) _ c.requires.ends_from) }

pub loop-passed-preserved : goal.loop-passed-preserved
loop-passed-preserved c = ended_next _ _ _ _ _ _ c.loop-passed.invariant c.requires.claimed (λ e. omega (arith, c.loop-passed-test.true)) _ c.requires.ends_from _ (omega arith)

pub returns : goal.returns
returns c =
    tree_end _ _ _ (record { claimed = c.requires.claimed; below = c.requires.node_bound; numbers = c.slot_at-s.ensures }) _
    (ended_last _ _ _ _ _ _ c.loop-passed.invariant c.requires.claimed (omega (arith, c.loop-passed-test.false)))
