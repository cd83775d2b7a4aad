-- What matching two sheets answers, case by case.
use mathlib.Core.Path.{◌≡◌, sym, ap, ◌∙◌}
use mathlib.Core.Bool.{true, false}
use mathlib.Core.List.{List}
use Prim.Native.Nat.{ℕ}
use native.Mathlib.Omega.{arith}
use Rattle.laws.proofs.BoolLaws.{by_test}
use Rattle.refusal.specs.Outcome.{unknown_edition}
use Rattle.refusal.specs.Faults.{NEITHER, FIRST, SECOND, fault}
use Rattle.refusal.specs.Outcome.{Counted}
use Rattle.std.specs.Prelude.{Ok, Err}
use Rattle.refusal.specs.declared.answers.Refusal.{Refusal}
use Rattle.edition.specs.Editions.{is_known}
use Rattle.tree.specs.Judgement.{judgement_of}
use Rattle.tree.proofs.JudgementLaws.{judged_claimed, judged_listing, judged_some}
use Rattle.matching.specs.Outcome.{totals, laid_on, both_judged, matched_of}
use Rattle.matching.specs.Steps.{OneTree}
use Rattle.matching.specs.declared.sheets.Totals.{Totals}

module _ (edition : ℕ) (first second : List ℕ) where
  matched_known : is_known edition ≡ true → matched_of edition first second ≡ both_judged (laid_on FIRST (judgement_of edition first)) (laid_on SECOND (judgement_of edition second))
  unfolding matched_of
  matched_known k = rw k

  pub matched_unknown : is_known edition ≡ false → matched_of edition first second ≡ Err (fault NEITHER unknown_edition)
  unfolding matched_of
  matched_unknown e = rw e

  module _ (known : is_known edition ≡ true) where
    pub matched_first : (r : Refusal) → judgement_of edition first ≡ Err r → matched_of edition first second ≡ Err (fault FIRST r)
    unfolding matched_of
    matched_first r e = rw (known, e)

    pub matched_second : (t : ℕ) (r : Refusal) → judgement_of edition first ≡ Ok t → judgement_of edition second ≡ Err r → matched_of edition first second ≡ Err (fault SECOND r)
    unfolding matched_of
    matched_second t r e d = rw (known, e, d)

    pub matched_both : (t u : ℕ) → judgement_of edition first ≡ Ok t → judgement_of edition second ≡ Ok u → matched_of edition first second ≡ Ok (totals t u)
    unfolding matched_of
    matched_both t u e d = rw (known, e, d)

-- both are judged where nodes are told
counts_both : (p q : Counted) (t u : ℕ) → both_judged (laid_on FIRST p) (laid_on SECOND q) ≡ Ok (totals t u) → (p ≡ Ok t) × (q ≡ Ok u)
counts_both (Ok n) (Ok m) t u e =
    let is : totals n m ≡ totals t u = cc in
    (ap (λ (w : Totals). Ok w.first) is, ap (λ (w : Totals). Ok w.second) is)
counts_both (Ok n) (Err r) t u e = absurd (let z : ◌≡◌ {A = ℕ} 0 1 = cc in omega arith)
counts_both (Err r) q t u e = absurd (let z : ◌≡◌ {A = ℕ} 0 1 = cc in omega arith)

pub both_counted : (edition : ℕ) (first second : List ℕ) (t u : ℕ) → matched_of edition first second ≡ Ok (totals t u)
    → (judgement_of edition first ≡ Ok t) × (judgement_of edition second ≡ Ok u)
both_counted edition first second t u e =
    by_test (is_known edition)
    (λ k. counts_both _ _ t u (sym (matched_known edition first second k) ∙ e))
    (λ k. absurd (let d = sym (matched_unknown edition first second k) ∙ e in let z : ◌≡◌ {A = ℕ} 0 1 = cc in omega arith))

-- an accepted sheet is that of one tree
pub one_tree : (edition : ℕ) (b : List ℕ) (n : ℕ) → judgement_of edition b ≡ Ok n → OneTree b
one_tree edition b n e = record {
  claimed = judged_claimed edition b n e;
  lists = judged_listing edition b n e;
  some = judged_some edition b n e;
}
