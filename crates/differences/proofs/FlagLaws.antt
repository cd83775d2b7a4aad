-- A node of the second is matched by one of the first just where it matches one.
use Prim.Native.Nat.{ℕ, zero, suc, ◌+◌}
use mathlib.Core.Path.{◌≡◌, refl, sym, ap, ◌∙◌, subst}
use mathlib.Core.Bool.{true}
use mathlib.Core.List.{List, [], ◌∷◌}
use mathlib.Core.Option.{Option, none, some, none-ne-some, some_inj}
use native.Mathlib.Nat.{zero-add, add-zero}
use native.Mathlib.Omega.{arith}
use lib.Dec.{eqb}
use lib.ListN.{get_or}
use borrow.Author.Tests.{eq-eqb, eqb-true}
use Rattle.laws.proofs.BoolLaws.{by_test, is_false, or_rest}
use Rattle.tree.specs.Tree.{Tree}
use Rattle.matching.specs.Matching.{matching}
use Rattle.matching.specs.declared.fields.Match.{Match}
use Rattle.matching.proofs.MatchingLaws.{matching_sym}
use Rattle.differences.specs.Differences.{is_matched}
use Rattle.differences.proofs.OnlySecondLaws.{Flag, Flagged}

-- where a node of the first says so, it is matched
pub matched_by : (ms : List (Option Match)) (k : ℕ) (m : Match) → get_or ms k none ≡ some m → is_matched m.number ms ≡ true
unfolding is_matched
matched_by [] k m e = absurd (none-ne-some m e)
matched_by (none ∷ ms) zero m e = absurd (none-ne-some m e)
matched_by (none ∷ ms) (suc k) m e = matched_by ms k m e
matched_by (some n ∷ ms) zero m e = rw (eq-eqb n.number m.number (ap (λ (x : Match). x.number) (some_inj.0 e)))
matched_by (some n ∷ ms) (suc k) m e = let rest = matched_by ms k m e in by_test (eqb n.number m.number) (λ q. rw q) (λ q. rw q rest)

-- and where it is matched, one says so
by_matched : (ms : List (Option Match)) (j : ℕ) → is_matched j ms ≡ true → (k : ℕ) × (m : Match) × (get_or ms k none ≡ some m) × (m.number ≡ j)
unfolding is_matched
by_matched [] j e = absurd (let z : ◌≡◌ {A = ℕ} 0 1 = cc in omega arith)
by_matched (none ∷ ms) j e = let r = by_matched ms j e in (suc r.0, r.1, r.2, r.3)
by_matched (some n ∷ ms) j e =
    by_test (eqb n.number j) (λ q. (0, n, refl, eqb-true n.number j q))
    (λ q. let r = by_matched ms j (or_rest (eqb n.number j) (is_matched j ms) q e) in (suc r.0, r.1, r.2, r.3))

-- from the nodes one by one
flagged_each : (ms ns : List (Option Match)) (j : ℕ) → ((i : ℕ) → Flag ms (j + i) (get_or ns i none)) → Flagged ms j ns
unfolding Flagged
flagged_each ms [] j h = tt
flagged_each ms (n ∷ ns) j h = (
  subst (λ (k : ℕ). Flag ms k n) (add-zero j) (h 0),
  flagged_each ms ns (suc j) (λ i. subst (λ (k : ℕ). Flag ms k (get_or ns i none)) {y = suc j + i} (omega arith) (h (suc i))),
)

-- a node of the second, by what it matches
pub flag_matching : (t u : Tree) (j : ℕ) (n : Option Match) → get_or (matching u t) j none ≡ n → Flag (matching t u) j n
flag_matching t u j none e = is_false (is_matched j (matching t u)) (λ q.
    let r = by_matched (matching t u) j q in
    none-ne-some _ (sym e ∙ ap (λ (k : ℕ). get_or (matching u t) k none) (sym r.3) ∙ matching_sym t u r.0 r.2))
flag_matching t u j (some n) e = matched_by (matching t u) n.number _ (matching_sym u t j e)

-- the second's nodes, by what they match
pub flagged_matching : (t u : Tree) → Flagged (matching t u) 0 (matching u t)
flagged_matching t u =
    flagged_each (matching t u) (matching u t) 0 (λ j. rw (zero-add j) (flag_matching t u j (get_or (matching u t) j none) refl))
