-- The marks of matched nodes.
use mathlib.Core.Path.{◌≡◌, refl, sym, ap, ◌∙◌, subst}
use mathlib.Core.Bool.{Bool, true, false, ◌||◌}
use mathlib.Core.List.{List, [], ◌∷◌, ◌++◌, map}
use Prim.Native.Nat.{ℕ, ◌+◌, ◌≤◌, ◌<◌}
use native.Mathlib.Decide.{ℕ_discrete}
use native.Mathlib.Numerals.{add-one}
use native.Mathlib.Omega.{arith}
use lib.Dec.{eqb}
use lib.ListN.{length, get_or, set, take, replicate, length-set, get_or-replicate}
use lib.Seq.{take_all, take-suc, get_or-set_same, get_or-set_other}
use borrow.Author.Tests.{eq-eqb, ne_eqb}
use Rattle.sheet.specs.Block.{most_nodes}
use Rattle.matching.specs.declared.fields.Match.{Match}
use Rattle.std.specs.Prelude.{Option as Found, Some, None}
use Rattle.differences.specs.Differences.{is_matched}
use Rattle.differences.specs.Steps.{match_in, Marks, marked}

-- one node more
matched_last : (j : ℕ) (xs : List (Found Match)) (x : Found Match)
    → is_matched j (map match_in (xs ++ (x ∷ []))) ≡ (is_matched j (map match_in xs) || is_matched j (map match_in (x ∷ [])))
unfolding is_matched
matched_last j [] x = refl
matched_last j (None ∷ xs) x = matched_last j xs x
matched_last j (Some m ∷ xs) x = rw (matched_last j xs x) (sym (or_assoc (eqb m.number j) (is_matched j (map match_in xs)) (is_matched j (map match_in (x ∷ [])))))
  where
    or_assoc : (a b c : Bool) → ((a || b) || c) ≡ (a || (b || c))
    or_assoc true b c = refl
    or_assoc false b c = refl

-- no node matches one, and nothing is marked
pub marks_none : (found : List (Found Match)) (marks : List Bool) → marks ≡ replicate most_nodes false → Marks (take 0 found) marks
unfolding is_matched
marks_none found marks e = record { long = ap length e; mark_at = λ j h. rw e (get_or-replicate most_nodes j false false h) }

marked_long : (marks : List Bool) (x : Found Match) → length (marked marks x) ≡ length marks
marked_long marks None = refl
marked_long marks (Some m) = length-set marks m.number true

or_true : (a b : Bool) → b ≡ true → (a || b) ≡ true
or_true true b e = refl
or_true false b e = e

or_left : (a : Bool) → (a || false) ≡ a
or_left true = refl
or_left false = refl

-- what a node matches is marked, and no other mark changes
marked_at : (marks : List Bool) (j : ℕ) (b : Bool) (x : Found Match) → j < length marks → get_or marks j false ≡ b
    → get_or (marked marks x) j false ≡ (b || is_matched j (map match_in (x ∷ [])))
unfolding is_matched
marked_at marks j b None h e = e ∙ sym (or_left b)
marked_at marks j b (Some m) h e = cases (ℕ_discrete m.number j)
  where
    cases : Dec (m.number ≡ j) → get_or (set marks m.number true) j false ≡ (b || (eqb m.number j || false))
    cases (yes q) =
        ap (λ (i : ℕ). get_or (set marks i true) j false) q
        ∙ get_or-set_same marks j true false h
        ∙ sym (or_true b _ (ap (◌|| false) (eq-eqb m.number j q)))
    cases (no f) =
        get_or-set_other marks m.number j true false (λ q. f (sym q))
        ∙ e
        ∙ sym (ap (λ (c : Bool). b || (c || false)) (ne_eqb m.number j f) ∙ or_left b)

pub marks_next : (found : List (Found Match)) (marks : List Bool) (k : ℕ) → k < length found → Marks (take k found) marks
    → (marks' : List Bool) → marks' ≡ marked marks (get_or found k None) → Marks (take (k + 1) found) marks'
marks_next found marks k l m marks' e = record {
  long = ap length e ∙ marked_long marks (get_or found k None) ∙ m.long;
  mark_at = λ j h. ap (λ (l : List Bool). get_or l j false) e ∙ marked_at marks j _ (get_or found k None) (omega (arith, h, m.long)) (m.mark_at j h) ∙ sym (more j);
}
  where
    more : (j : ℕ) → is_matched j (map match_in (take (k + 1) found)) ≡ (is_matched j (map match_in (take k found)) || is_matched j (map match_in (get_or found k None ∷ [])))
    more j =
        ap (λ (xs : List (Found Match)). is_matched j (map match_in xs)) (ap (λ (n : ℕ). take n found) (add-one k) ∙ take-suc found k None l)
        ∙ matched_last j (take k found) (get_or found k None)

pub marks_all : (found : List (Found Match)) (marks : List Bool) (k : ℕ) → Marks (take k found) marks → length found ≤ k → Marks found marks
marks_all found marks k m h = subst (λ (xs : List (Found Match)). Marks xs marks) (take_all k found h) m
