-- The places that a match says are below the number of a tree's nodes.
use Prim.Native.Nat.{ℕ, zero, suc, ◌+◌, ◌≤◌, ◌<◌}
use mathlib.Core.Path.{◌≡◌, sym, ap, ◌∙◌}
use mathlib.Core.Option.{none, some, none-ne-some, some_inj}
use native.Mathlib.Omega.{arith}
use lib.ListN.{get_or, get_elem?}
use Rattle.tree.specs.Tree.{Tree, Fields, empty, field, size, run_of}
use Rattle.tree.proofs.StandingLaws.{size_positive}
use Rattle.matching.specs.Matching.{Sibling, siblings, matching}
use Rattle.matching.specs.declared.fields.Match.{Match}
use Rattle.matching.specs.Nodes.{Within, here, inside, IsNode}
use Rattle.matching.proofs.NodeLaws.{node_at}
use Rattle.matching.proofs.MatchingLaws.{matching_below, matching_within}
use Rattle.matching.proofs.MatchedLaws.{matched_node}

-- the numbers of a run's fields rise with their places
siblings_number : (k p : ℕ) (fs : Fields) (i : ℕ) {c : Sibling} → get_elem? (siblings k p fs) i ≡ some c → k + i ≤ c.number
unfolding siblings
siblings_number k p empty i {c} e = absurd (none-ne-some c e)
siblings_number k p (field t fs) zero e = omega (arith, ap (λ (c : Sibling). c.number) (some_inj.0 e))
siblings_number k p (field t fs) (suc i) e = omega (arith, siblings_number (k + size t) (suc p) fs i e, size_positive t)

-- no node of a tree has a place beyond its number
place_number : {b c : Sibling} → Within b c → b.place ≤ b.number → c.place ≤ c.number
place_number here h = h
place_number (inside {b} {c} f w) h = place_number w (omega (arith, siblings_number (suc b.number) 0 (run_of b.tree) c.place f))

-- the place of the node that a node of the first matches is below the number of the second's nodes
place_node : (t u : Tree) (c : Sibling) {m : Match} → IsNode t c → get_or (matching t u) c.number none ≡ some m → m.other < size u
place_node t u c w e =
    let (d, v, matched, same) = matched_node t u c w e in
    omega (arith, place_number v (omega arith), matching_within t u c.number e, ap (λ (n : Match). n.other) (some_inj.0 (sym matched ∙ e)))

pub place_below : (t u : Tree) (k : ℕ) {m : Match} → get_or (matching t u) k none ≡ some m → m.other < size u
place_below t u k {m} e = let (c, w, numbered) = node_at t k (matching_below t u k e) in place_node t u c {m = m} w (rw numbered e)
