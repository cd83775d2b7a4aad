-- A sheet judged, from its parts.
use Prim.Native.Nat.{ℕ, zero, suc, ◌+◌, ◌*◌, ◌/◌, ◌%◌, ◌≤◌, ◌<◌}
use mathlib.Core.Path.{◌≡◌, refl, sym, ap, ◌∙◌, subst}
use mathlib.Core.Bool.{Bool, true, false}
use mathlib.Core.List.{List, [], ◌∷◌, map}
use native.Mathlib.Omega.{arith}
use lib.Dec.{leb}
use lib.ListN.{length}
use borrow.Author.Tests.{ne_eqb}
use Rattle.refusal.specs.Outcome.{refusal}
use Rattle.sheet.specs.Block.{total_of, most_nodes}
use Rattle.sheet.specs.Opening as sheet
use Rattle.sheet.specs.Slot.{slots}
use Rattle.refusal.specs.Outcome.{Counted, Verdict}
use Rattle.std.specs.Prelude.{Ok, Err}
use Rattle.sheet.proofs.OpeningLaws.{open_of_total, open_of_least, open_of_most}
use Rattle.tree.specs.Tree.{SlotBytes, Tree, empty, listing, size, depths, AtMostDeep, most_depth}
use Rattle.tree.specs.Rules.{Keeps}
use Rattle.tree.specs.Faults.{faults}
use Rattle.tree.specs.Reading.{tree_of}
use Rattle.tree.specs.Judgement.{or_else, left_over, missing, first_fault, deepness, too_deep, unlawful, tree_refusal, judged_as, judgement, judged_nodes, judgement_of}
use Rattle.tree.specs.Steps.{Claimed, tree_at, run_at, last_of, rule_weight, fault_from, first_of, verdict_of, tree_found, run_found, deep_at, or_deep, judged_tree, judged_on, judged_run, depth_at}
use Rattle.std.proofs.Common.{Result}
use Rattle.tree.specs.declared.standing.Standing.{Standing}
use Rattle.refusal.specs.declared.answers.Refusal.{Refusal}
use Rattle.tree.specs.declared.judging.TooDeep.{TooDeep}
use Rattle.tree.specs.declared.judging.TreeFound.{TreeFound}
use Rattle.tree.specs.declared.judging.RunFound.{RunFound}
use Rattle.tree.proofs.FaultLaws.{none_or_else, or_else_assoc, none_at_most_deep, none_keeps}
use Rattle.tree.proofs.OpenPlacesLaws.{fills_trees}
use Rattle.tree.proofs.TreeOfLaws.{accepted_fills, fills_listing}
use Rattle.tree.proofs.StandingLaws.{tree_at_zero}
use Rattle.tree.proofs.VisitLaws.{tree_within, root_alone}
use Rattle.tree.proofs.JudgingLaws.{run_by, length_faults, judged_on_empty, judged_on_field}
use Rattle.sheet.proofs.SlotLaws.{slots_length}

-- the first depth that is too great is refused by 7
deep_refusal : (ds : List ℕ) (k : ℕ) (r : Refusal) → first_fault k (map deepness ds) ≡ Err r → ◌≡◌ {A = Verdict} (Err (refusal 7 r.place)) (Err r)
unfolding first_fault
deep_refusal [] k r e = absurd (let z : ◌≡◌ {A = ℕ} 0 1 = cc in omega arith)
deep_refusal (d ∷ ds) k r e = on (leb d most_depth) refl (deep_refusal ds (suc k) r)
  where
    shallow : leb d most_depth ≡ true → deepness d ≡ 0
    shallow q = unfold deepness in rw q

    deep : leb d most_depth ≡ false → deepness d ≡ 7
    deep q = unfold deepness in rw q

    on : (t : Bool) → leb d most_depth ≡ t → (first_fault (suc k) (map deepness ds) ≡ Err r → ◌≡◌ {A = Verdict} (Err (refusal 7 r.place)) (Err r)) → ◌≡◌ {A = Verdict} (Err (refusal 7 r.place)) (Err r)
    on true q ih = ih (subst (λ (n : ℕ). first_fault k (n ∷ map deepness ds) ≡ Err r) (shallow q) e)
    on false q ih =
        let f : ◌≡◌ {A = Verdict} (Err (refusal 7 k)) (Err r) = subst (λ (n : ℕ). first_fault k (n ∷ map deepness ds) ≡ Err r) (deep q) e in
        cc

-- a fault says the first rule that is broken, and its node, where the nodes' numbers stand below a rule's
fault_verdict : (k : ℕ) (ns : List ℕ) → k + length ns ≤ rule_weight → verdict_of (fault_from k ns) ≡ first_fault k ns
unfolding verdict_of fault_from first_fault
fault_verdict k [] h = refl
fault_verdict k (zero ∷ ns) h = fault_verdict (suc k) ns (omega arith)
fault_verdict k (suc n ∷ ns) h =
    let some = ne_eqb (rule_weight * suc n + k) 0 (λ e. omega arith) in
    let rule : (rule_weight * suc n + k) / rule_weight ≡ suc n = omega arith in
    let place : (rule_weight * suc n + k) % rule_weight ≡ k = omega arith in
    rw (some, rule, place)

-- the whole tree judged
module _ (edition : ℕ) (t : Tree) where
  root_deep : (k : ℕ) → judged_tree edition 0 (suc most_depth) Standing.Root t ≡ deep_at k → Err (refusal 7 k) ≡ or_else (too_deep t) (unlawful edition t)
  unfolding judged_tree depth_at too_deep
  root_deep k e = on (first_fault 0 (map deepness (depths 0 t))) refl e
    where
      on : (v : Verdict) → first_fault 0 (map deepness (depths 0 t)) ≡ v → or_deep v (tree_found (0 + size t) (last_of 0 t) (fault_from 0 (faults edition Standing.Root t))) ≡ deep_at k → Err (refusal 7 k) ≡ or_else (first_fault 0 (map deepness (depths 0 t))) (unlawful edition t)
      on (Ok _) q w = absurd (unfold or_deep in let z : ◌≡◌ {A = ℕ} 0 1 = cc in omega arith)
      on (Err r) q w = unfold or_deep or_else in rw q (let d : ◌≡◌ {A = TooDeep} (record { node = r.place }) (record { node = k }) = cc in let p : r.place ≡ k = ap (λ (t : TooDeep). t.node) d in rw (← p) (deep_refusal (depths 0 t) 0 r q))

  root_judged : size t ≤ rule_weight → (tree : TreeFound) → judged_tree edition 0 (suc most_depth) Standing.Root t ≡ Ok tree → verdict_of tree.fault ≡ or_else (too_deep t) (unlawful edition t)
  unfolding judged_tree depth_at too_deep
  root_judged h tree e = on (first_fault 0 (map deepness (depths 0 t))) refl e
    where
      verdict : verdict_of (fault_from 0 (faults edition Standing.Root t)) ≡ first_fault 0 (faults edition Standing.Root t)
      verdict = fault_verdict 0 (faults edition Standing.Root t) (omega (arith, length_faults edition t Standing.Root))

      on : (u : Verdict) → first_fault 0 (map deepness (depths 0 t)) ≡ u → or_deep u (tree_found (0 + size t) (last_of 0 t) (fault_from 0 (faults edition Standing.Root t))) ≡ Ok tree → verdict_of tree.fault ≡ or_else (first_fault 0 (map deepness (depths 0 t))) (unlawful edition t)
      on (Ok _) q w = unfold or_deep or_else unlawful in rw q (let p : fault_from 0 (faults edition Standing.Root t) ≡ tree.fault = cc in rw (← p) verdict)
      on (Err r) q w = absurd (unfold or_deep in let z : ◌≡◌ {A = ℕ} 0 1 = cc in omega arith)

root_at : (edition : ℕ) (ss : List SlotBytes) {v : Verdict} → v ≡ or_else (too_deep (tree_at ss 0)) (unlawful edition (tree_at ss 0)) → v ≡ or_else (too_deep (tree_of ss)) (unlawful edition (tree_of ss))
root_at edition ss e = rw tree_at_zero at e

-- the run of the one tree of a sheet whose slots claim rightly
module _ (edition : ℕ) (b : List ℕ) (h : Claimed b) (l : 0 < total_of b) where
  root : Tree
  root = tree_at (slots b) 0

  root_run : judged_run edition 0 (suc most_depth) Standing.Root (run_at (slots b) 0 1) ≡ run_by (judged_tree edition 0 (suc most_depth) Standing.Root root) (λ next within later. run_found next 0 within later)
  unfolding judged_run root first_of
  root_run =
      ap (judged_on edition 0 (suc most_depth) Standing.Root 0 0 0) (root_alone b h l)
      ∙ judged_on_field edition 0 (suc most_depth) Standing.Root 0 0 0 root empty
      ∙ simp judged_on_empty

  pub run_deep : (k : ℕ) → judged_run edition 0 (suc most_depth) Standing.Root (run_at (slots b) 0 1) ≡ deep_at k → Err (refusal 7 k) ≡ or_else (too_deep (tree_of (slots b))) (unlawful edition (tree_of (slots b)))
  unfolding run_by root
  run_deep k e = root_at edition (slots b) (root_deep edition root k (on (judged_tree edition 0 (suc most_depth) Standing.Root root) (sym root_run ∙ e)))
    where
      on : (x : Result TreeFound TooDeep) → run_by x (λ next within later. run_found next 0 within later) ≡ deep_at k → x ≡ deep_at k
      on (Err deep) q = cc
      on (Ok tree) q = absurd (let z : ◌≡◌ {A = ℕ} 0 1 = cc in omega arith)

  pub run_judged : (run : RunFound) → judged_run edition 0 (suc most_depth) Standing.Root (run_at (slots b) 0 1) ≡ Ok run → verdict_of run.fault ≡ or_else (too_deep (tree_of (slots b))) (unlawful edition (tree_of (slots b)))
  unfolding run_by root
  run_judged run e =
      root_at edition (slots b) (root_judged edition root small (record { next = run.next; last = run.inner; fault = run.fault }) (on (judged_tree edition 0 (suc most_depth) Standing.Root root) (sym root_run ∙ e)))
    where
      small : size root ≤ rule_weight
      small = omega (arith, tree_within b 0 h l, h.most)

      on : (x : Result TreeFound TooDeep) → run_by x (λ next within later. run_found next 0 within later) ≡ Ok run → x ≡ tree_found run.next run.inner run.fault
      on (Err deep) q = absurd (let z : ◌≡◌ {A = ℕ} 0 1 = cc in omega arith)
      on (Ok tree) q =
          let d : ◌≡◌ {A = RunFound} (record { next = tree.next; last = 0; inner = tree.last; fault = tree.fault }) run = cc in
          ap (λ (r : RunFound). tree_found r.next r.inner r.fault) d

-- refusals 5 and 6, then 7 to 13
pub tree_refusal_places : (edition : ℕ) (ss : List SlotBytes) → tree_refusal edition ss ≡ or_else (or_else (left_over ss) (missing ss)) (or_else (too_deep (tree_of ss)) (unlawful edition (tree_of ss)))
unfolding tree_refusal
tree_refusal_places edition ss = sym (or_else_assoc (left_over ss) (missing ss) (or_else (too_deep (tree_of ss)) (unlawful edition (tree_of ss))))

-- a sheet that neither 5 nor 6 refuses claims rightly
module _ (edition : ℕ) (b : List ℕ) (t : ℕ) (o : sheet.open_of edition b ≡ Ok t) where
  pub nodes_total : t ≡ total_of b
  nodes_total = open_of_total edition b t o

  pub nodes_most : t ≤ most_nodes
  nodes_most = open_of_most edition b t o

  pub nodes_some : 0 < total_of b
  nodes_some = omega (arith, nodes_total, open_of_least edition b t o)

  pub places_claimed : or_else (left_over (slots b)) (missing (slots b)) ≡ Ok tt → Claimed b
  places_claimed e =
      let q = none_or_else _ _ e in
      record {
        total = slots_length b;
        most = omega (arith, nodes_total, nodes_most);
        claims = (fills_trees (accepted_fills (slots b) q.0 q.1)).1;
      }

  pub judgement_nodes : judgement edition b ≡ tree_refusal edition (slots b)
  unfolding judgement judged_as sheet.outcome sheet.outcome_of
  judgement_nodes = rw o

-- a sheet that does not open is refused so
module _ (edition : ℕ) (b : List ℕ) where
  pub judgement_refused : (r : Refusal) → sheet.open_of edition b ≡ Err r → judgement edition b ≡ Err r
  unfolding judgement judged_as sheet.outcome sheet.outcome_of
  judgement_refused r o = rw o

  -- an opened sheet that is lawful
  pub lawful_opened : judgement edition b ≡ Ok tt → (t : ℕ) × (sheet.open_of edition b ≡ Ok t)
  lawful_opened e = on (sheet.open_of edition b) refl
    where
      no : (r : Refusal) → judgement edition b ≡ Err r → ⊥
      no r q = let z : ◌≡◌ {A = ℕ} 0 1 = cc in omega arith

      on : (o : Counted) → sheet.open_of edition b ≡ o → (t : ℕ) × (sheet.open_of edition b ≡ Ok t)
      on (Ok t) q = (t, q)
      on (Err r) q = absurd (no r (judgement_refused r q))

  judged_nodes_lawful : (v : Verdict) (t n : ℕ) → judged_nodes v t ≡ Ok n → (v ≡ Ok tt) × (n ≡ t)
  unfolding judged_nodes
  judged_nodes_lawful (Ok _) t n e = (refl, cc)
  judged_nodes_lawful (Err r) t n e = absurd (let z : ◌≡◌ {A = ℕ} 0 1 = cc in omega arith)

  judged_nodes_refused : (v : Verdict) (t : ℕ) (r : Refusal) → judged_nodes v t ≡ Err r → v ≡ Err r
  unfolding judged_nodes
  judged_nodes_refused (Ok _) t r e = absurd (let z : ◌≡◌ {A = ℕ} 0 1 = cc in omega arith)
  judged_nodes_refused (Err s) t r e = cc

  -- a refused sheet
  pub judged_refused : (r : Refusal) → judgement_of edition b ≡ Err r → judgement edition b ≡ Err r
  unfolding judgement_of
  judged_refused r e = judged_nodes_refused (judgement edition b) (total_of b) r e

  module _ (n : ℕ) (e : judgement_of edition b ≡ Ok n) where
    pub judged_lawful : (judgement edition b ≡ Ok tt) × (n ≡ total_of b)
    unfolding judgement_of
    judged_lawful = judged_nodes_lawful (judgement edition b) (total_of b) n e

    opened : (t : ℕ) × (sheet.open_of edition b ≡ Ok t)
    opened = lawful_opened judged_lawful.0

    pub judged_total : n ≡ total_of b
    judged_total = judged_lawful.1

    pub judged_some : 0 < total_of b
    judged_some = nodes_some edition b opened.0 opened.1

    no_places : or_else (left_over (slots b)) (missing (slots b)) ≡ Ok tt
    no_places =
        (none_or_else _ _ (sym (tree_refusal_places edition (slots b)) ∙ sym (judgement_nodes edition b opened.0 opened.1) ∙ judged_lawful.0)).0

    pub judged_claimed : Claimed b
    judged_claimed = places_claimed edition b opened.0 opened.1 no_places

    no_faults : or_else (too_deep (tree_of (slots b))) (unlawful edition (tree_of (slots b))) ≡ Ok tt
    no_faults =
        (none_or_else _ _ (sym (tree_refusal_places edition (slots b)) ∙ sym (judgement_nodes edition b opened.0 opened.1) ∙ judged_lawful.0)).1

    -- its tree is not too deep, keeps every rule and lists its slots
    pub judged_deep : AtMostDeep most_depth (tree_of (slots b))
    judged_deep = none_at_most_deep (tree_of (slots b)) (none_or_else _ _ no_faults).0

    pub judged_keeps : Keeps edition Standing.Root (tree_of (slots b))
    judged_keeps = none_keeps edition (tree_of (slots b)) (none_or_else _ _ no_faults).1

    pub judged_listing : listing (tree_of (slots b)) ≡ slots b
    judged_listing =
        let q = none_or_else _ _ no_places in
        fills_listing (slots b) (accepted_fills (slots b) q.0 q.1)

    pub tree_size : size (tree_of (slots b)) ≡ n
    unfolding size
    tree_size = ap length judged_listing ∙ slots_length b ∙ sym judged_total
