-- The nodes of the first sheet, as what each matches is spread to its fields.
use mathlib.Core.Path.{◌≡◌, refl, sym, ap, ◌∙◌}
use mathlib.Core.List.{List}
use Prim.Native.Nat.{ℕ, zero, suc, ◌+◌, ◌-◌, ◌≤◌, ◌<◌}
use native.Mathlib.Numerals.{add-one}
use native.Mathlib.Omega.{arith}
use lib.ListN.{get_or, set, replicate, length-replicate}
use Rattle.sheet.specs.Block.{total_of, most_nodes}
use Rattle.matching.specs.Outcome.{matches_of}
use Rattle.matching.specs.Steps.{OneTree, fields_matched, step_at, steps_from, Named, NodeNamed, TakersMost, head_count, no_head, HeadsMost}
use Rattle.matching.specs.declared.fields.Match.{Match}
use Rattle.matching.specs.declared.heads.Head.{Head}
use Rattle.std.specs.Prelude.{Option as Found, Some, None}
use Rattle.matching.proofs.StepsLaws.{steps_done, steps_next}
use Rattle.matching.proofs.SpreadLaws.{root, steps_matching}

-- a node that matches none spreads nothing
module _ (first second : List ℕ) (k : ℕ) (ms : List (Found Match)) where
  pub step_none : get_or ms k None ≡ None → ms ≡ step_at first second k ms
  step_none e = rw e refl

  pub step_some : (m : Match) → get_or ms k None ≡ Some m → step_at first second k ms ≡ fields_matched first second k m.number ms
  step_some m e = rw e refl

pub takers_more : (k : ℕ) (takers : List ℕ) → TakersMost k takers → TakersMost (suc k) takers
takers_more k takers m = record { long = m.long; taker_at = λ i. omega (arith, m.taker_at i) }

pub heads_more : (k : ℕ) (heads : List Head) → HeadsMost k heads → HeadsMost (suc k) heads
heads_more k heads m = record { long = m.long; taker_at = λ r. omega (arith, m.taker_at r) }

-- nodes up to one have spread what they match
pub record Stepped (first second : List ℕ) (n : ℕ) (ms₀ : List (Found Match)) (takers : List ℕ) (ms : List (Found Match)) (node : ℕ) : Type 0 where
  pub most : node ≤ n
  pub same : steps_from first second node (n - node) ms ≡ steps_from first second 0 n ms₀
  pub takers_most : TakersMost node takers
  pub names : Named (total_of second) ms

module _ (first second : List ℕ) (n : ℕ) (ms₀ : List (Found Match)) where
  pub stepped_start : (takers : List ℕ) → TakersMost 0 takers → Named (total_of second) ms₀ → Stepped first second n ms₀ takers ms₀ 0
  stepped_start takers m w = record { most = omega arith; same = ap (λ (i : ℕ). steps_from first second 0 i ms₀) (omega arith); takers_most = m; names = w }

  module _ (takers : List ℕ) (ms : List (Found Match)) (node : ℕ) (p : Stepped first second n ms₀ takers ms node) where
    pub stepped_next : node < n → (takers' : List ℕ) (ms' : List (Found Match)) → ms' ≡ step_at first second node ms → TakersMost (suc node) takers' → Named (total_of second) ms'
        → Stepped first second n ms₀ takers' ms' (node + 1)
    stepped_next l takers' ms' e m w = record {
      most = omega (arith, l);
      same = ap (steps_from first second (node + 1) (n - (node + 1))) e ∙ sym (steps_next first second node n ms l) ∙ p.same;
      takers_most = rw add-one m;
      names = w;
    }

    pub stepped_end : n ≤ node → ms ≡ steps_from first second 0 n ms₀
    stepped_end h = sym (steps_done first second node ms) ∙ ap (λ (i : ℕ). steps_from first second node i ms) (omega (arith, h)) ∙ p.same

-- where the loop over the nodes starts: no node is a taker, and the root's match is the root
same_at : {A : Type 0} (x : A) (n i : ℕ) → get_or (replicate n x) i x ≡ x
same_at x zero i = refl
same_at x (suc n) zero = refl
same_at x (suc n) (suc i) = same_at x n i

pub takers_none : TakersMost 0 (replicate most_nodes 0)
takers_none = record { long = refl; taker_at = λ i. rw (same_at {A = ℕ} 0 most_nodes i) (omega arith) }

pub heads_none : HeadsMost 0 (replicate head_count no_head)
heads_none = record { long = length-replicate {A = Head} head_count no_head; taker_at = λ r. rw (same_at no_head head_count r) (omega arith) }

pub names_root : (nodes : ℕ) → 0 < nodes → Named nodes (set (replicate most_nodes None) 0 (Some root))
names_root nodes h = record { long = refl; named_at = each }
  where
    each : (i : ℕ) → NodeNamed nodes (get_or (set (replicate most_nodes None) 0 (Some root)) i None)
    each zero = h
    each (suc i) = rw (same_at {A = Found Match} None 895 i) tt

-- and where it ends
pub matched_nodes : (first second : List ℕ) (t : ℕ) → OneTree first → OneTree second → t ≡ total_of first
    → steps_from first second 0 t (set (replicate most_nodes None) 0 (Some root)) ≡ matches_of first second
unfolding matches_of
matched_nodes first second t h k e = rw e (steps_matching first second h k)
