-- The ends of trees, found from the last node to the first.
use mathlib.Core.Path.{◌≡◌, refl, sym, subst, ◌∙◌}
use mathlib.Core.List.{List}
use Prim.Native.Nat.{ℕ, suc, ◌+◌, ◌-◌, ◌≤◌, ◌<◌}
use native.Mathlib.Decide.{ℕ_discrete}
use native.Mathlib.Omega.{arith}
use lib.ListN.{length, get_or, set, drop, length-set}
use lib.Seq.{get_or-set_same, get_or-set_other}
use Rattle.sheet.specs.Block.{total_of, most_nodes}
use Rattle.sheet.specs.Slot.{slots}
use Rattle.tree.specs.Tree.{size, count}
use Rattle.tree.specs.Reading.{trees}
use Rattle.tree.specs.Steps.{Claimed, tree_at, run_at, sizes}
use Rattle.tree.proofs.VisitLaws.{run_below, next_after, next_claimed, run_end, run_end_empty, tree_within}
use Rattle.matching.specs.Steps.{EndsFrom}

-- fields of a node that are passed over, up to one from which on so many are left
pub record Ended (b : List ℕ) (node first n at left : ℕ) : Type 0 where
  pub behind : node < at
  pub fields : left ≤ count (trees (drop at (slots b)))
  pub same : first + sizes (run_at (slots b) first n) ≡ at + sizes (run_at (slots b) at left)

module _ (b : List ℕ) (node first n : ℕ) where
  pub ended_start : node < first → n ≤ count (trees (drop first (slots b))) → Ended b node first n first n
  ended_start h k = record { behind = h; fields = k; same = refl }

  module _ (at left : ℕ) (e : Ended b node first n at left) (h : Claimed b) where
    module _ (some : left ≡ 0 → ⊥) where
      pub ended_below : at < total_of b
      ended_below = run_below b at left h some e.fields

      pub ended_most : at < most_nodes
      ended_most = omega (arith, ended_below, h.most)

      module _ (ends : List ℕ) (known : EndsFrom b (suc node) ends) where
        pub ended_read : at < length ends
        ended_read = omega (arith, ended_most, known.long)

        next_is : get_or ends at 0 ≡ at + size (tree_at (slots b) at)
        next_is = known.end_at at (omega (arith, e.behind)) ended_below

        pub ended_next_most : get_or ends at 0 ≤ most_nodes
        ended_next_most = omega (arith, next_is, tree_within b at h ended_below, h.most)

        pub ended_next : (left' : ℕ) → left' ≡ left - 1 → Ended b node first n (get_or ends at 0) left'
        ended_next left' less = rw less (record {
          behind = omega (arith, e.behind, next_after b at left h some e.fields (get_or ends at 0) next_is);
          fields = next_claimed b at left h some e.fields (get_or ends at 0) next_is;
          same = e.same ∙ run_end b at left h some e.fields (get_or ends at 0) next_is;
        })

    -- none is left
    pub ended_last : left ≡ 0 → at ≡ first + sizes (run_at (slots b) first n)
    ended_last z = run_end_empty b at left z ∙ sym e.same

-- the ends of all trees behind the last node are known, and one more
pub ends_none : (b ends : List ℕ) (k : ℕ) → length ends ≡ most_nodes → k ≡ total_of b → EndsFrom b k ends
ends_none b ends k long e = record { long = long; end_at = λ i h l. absurd (omega arith) }

pub ends_back : (b ends : List ℕ) (k : ℕ) → 0 < k → EndsFrom b k ends → EndsFrom b (suc (k - 1)) ends
ends_back b ends k h known = subst (λ (n : ℕ). EndsFrom b n ends) {x = k} {y = suc (k - 1)} (omega arith) known

pub ends_more : (b ends : List ℕ) (k e : ℕ) → k < most_nodes → EndsFrom b (suc k) ends → e ≡ k + size (tree_at (slots b) k) → EndsFrom b k (set ends k e)
ends_more b ends k e l known is = record { long = length-set ends k e ∙ known.long; end_at = λ i h t. cases i h t (ℕ_discrete i k) }
  where
    cases : (i : ℕ) → k ≤ i → i < total_of b → Dec (i ≡ k) → get_or (set ends k e) i 0 ≡ i + size (tree_at (slots b) i)
    cases i h t (yes q) = rw q (get_or-set_same ends k e 0 (omega (arith, known.long)) ∙ is)
    cases i h t (no q) = get_or-set_other ends k i e 0 q ∙ known.end_at i (omega (arith, q)) t

pub ends_all : (b ends : List ℕ) (k : ℕ) → EndsFrom b k ends → k ≡ 0 → EndsFrom b 0 ends
ends_all b ends k known e = subst (λ (n : ℕ). EndsFrom b n ends) e known
