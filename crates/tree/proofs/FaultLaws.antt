-- The first fault in listing order: there is none exactly where every rule is kept, and none is too deep exactly where no node is.
use Prim.Native.Nat.{ℕ, zero, suc, ◌+◌, ◌≤◌}
use mathlib.Core.Path.{◌≡◌, refl, sym, ◌∙◌}
use mathlib.Core.Bool.{Bool, true, false, cond}
use Rattle.refusal.specs.Outcome.{refusal}
use Rattle.refusal.specs.Outcome.{Verdict}
use Rattle.std.specs.Prelude.{Ok, Err}
use mathlib.Core.List.{List, [], ◌∷◌, ◌++◌, map}
use native.Mathlib.Omega.{arith}
use native.Mathlib.Nat.{add-zero, add-suc, suc-add}
use borrow.Author.Tests.{le-leb, leb-true}
use lib.Dec.{leb}
use lib.ListN.{length, get_or}
use Rattle.tree.specs.Annotated.{rule9, rule10, rule11}
use Rattle.tree.specs.Tree.{SlotBytes, Tree, Fields, node, empty, field, depths, AtMostDeep, most_depth}
use Rattle.tree.specs.Rules.{rule8, rule12, rule13, under_map_of, standing_below, KeepsAt, Keeps, KeepsAll}
use Rattle.tree.specs.Faults.{broken, faults, run_faults}
use Rattle.tree.specs.Judgement.{or_else, first_fault, deepness, too_deep, unlawful}
use Rattle.tree.specs.declared.standing.Standing.{Standing}
use Rattle.tree.specs.declared.standing.Standing.TheVariants.{Root}
use Rattle.refusal.specs.declared.answers.Refusal.{Refusal}

pub first_fault_append : (k : ℕ) (ms ns : List ℕ) → first_fault k (ms ++ ns) ≡ or_else (first_fault k ms) (first_fault (k + length ms) ns)
unfolding first_fault or_else
first_fault_append k [] ns = rw add-zero
first_fault_append k (zero ∷ ms) ns = rw (first_fault_append (suc k) ms ns, add-suc, suc-add)
first_fault_append k (suc m ∷ ms) ns = refl

pub or_else_assoc : (a b c : Verdict) → or_else (or_else a b) c ≡ or_else a (or_else b c)
unfolding or_else
or_else_assoc (Ok _) b c = refl
or_else_assoc (Err r) b c = refl

pub refused_not_lawful : (r : Refusal) → ◌≡◌ {A = Verdict} (Err r) (Ok tt) → ⊥
refused_not_lawful r e = let z : ◌≡◌ {A = ℕ} 0 1 = cc in omega arith

-- of two refusals in order there is none exactly where neither is
pub or_else_none : (a b : Verdict) → a ≡ Ok tt → b ≡ Ok tt → or_else a b ≡ Ok tt
unfolding or_else
or_else_none (Ok _) b p q = q
or_else_none (Err r) b p q = p

pub none_or_else : (a b : Verdict) → or_else a b ≡ Ok tt → (a ≡ Ok tt) × (b ≡ Ok tt)
unfolding or_else
none_or_else (Ok _) b p = (refl, p)
none_or_else (Err r) b p = absurd (refused_not_lawful r p)

zero_or_not : (n : ℕ) (k : ℕ) (ns : List ℕ) → first_fault k (n ∷ ns) ≡ Ok tt → (n ≡ 0) × (first_fault (suc k) ns ≡ Ok tt)
unfolding first_fault
zero_or_not zero k ns e = (refl, e)
zero_or_not (suc n) k ns e = absurd (refused_not_lawful (refusal (suc n) k) e)

-- the rule numbers of a node are all kept exactly where it breaks number 0
pub keeps_at_broken : (edition : ℕ) (p : Standing) (s : SlotBytes) (fs : Fields) → KeepsAt edition p s fs → broken edition p s fs ≡ 0
unfolding broken
keeps_at_broken edition p s fs k = rw (k.shape, k.agreement, k.placement, k.decimals, k.lists, k.maps)

cond_zero : (b : Bool) (x m : ℕ) → cond b x (suc m) ≡ 0 → (b ≡ true) × (x ≡ 0)
cond_zero true x m e = (refl, e)
cond_zero false x m e = absurd (omega arith)

pub broken_keeps_at : (edition : ℕ) (p : Standing) (s : SlotBytes) (fs : Fields) → broken edition p s fs ≡ 0 → KeepsAt edition p s fs
unfolding broken
broken_keeps_at edition p s fs e =
    let r8 = cond_zero (rule8 p s fs) _ 7 e in
    let r9 = cond_zero (rule9 s) _ 8 r8.1 in
    let r10 = cond_zero (rule10 edition (under_map_of p) s) _ 9 r9.1 in
    let r11 = cond_zero (rule11 edition (under_map_of p) s) _ 10 r10.1 in
    let r12 = cond_zero (rule12 p s fs) _ 11 r11.1 in
    let r13 = cond_zero (rule13 p s fs) _ 12 r12.1 in
    record { shape = r8.0; agreement = r9.0; placement = r10.0; decimals = r11.0; lists = r12.0; maps = r13.0 }

mutual
  unfolding Keeps faults first_fault

  -- a tree that keeps every rule has no fault
  pub keeps_no_fault : (edition : ℕ) (t : Tree) (p : Standing) (k : ℕ) → Keeps edition p t → first_fault k (faults edition p t) ≡ Ok tt
  keeps_no_fault edition (node s fs) p k h = rw (keeps_at_broken edition p s fs h.0) (keeps_all_no_fault edition fs (standing_below p s) (suc k) h.1)

  keeps_all_no_fault : (edition : ℕ) (fs : Fields) (p : Standing) (k : ℕ) → KeepsAll edition p fs → first_fault k (run_faults edition p fs) ≡ Ok tt
  keeps_all_no_fault edition empty p k h = refl
  keeps_all_no_fault edition (field t fs) p k h =
      first_fault_append k (faults edition p t) (run_faults edition p fs)
      ∙ or_else_none _ _ (keeps_no_fault edition t p k h.0) (keeps_all_no_fault edition fs p (k + length (faults edition p t)) h.1)

mutual
  unfolding Keeps faults

  -- a tree with no fault keeps every rule
  pub no_fault_keeps : (edition : ℕ) (t : Tree) (p : Standing) (k : ℕ) → first_fault k (faults edition p t) ≡ Ok tt → Keeps edition p t
  no_fault_keeps edition (node s fs) p k e =
      let z = zero_or_not (broken edition p s fs) k (run_faults edition (standing_below p s) fs) e in
      (broken_keeps_at edition p s fs z.0, no_fault_keeps_all edition fs (standing_below p s) (suc k) z.1)

  no_fault_keeps_all : (edition : ℕ) (fs : Fields) (p : Standing) (k : ℕ) → first_fault k (run_faults edition p fs) ≡ Ok tt → KeepsAll edition p fs
  no_fault_keeps_all edition empty p k e = tt
  no_fault_keeps_all edition (field t fs) p k e =
      let z = none_or_else _ _ (sym (first_fault_append k (faults edition p t) (run_faults edition p fs)) ∙ e) in
      (no_fault_keeps edition t p k z.0, no_fault_keeps_all edition fs p (k + length (faults edition p t)) z.1)

-- depths of which none is beyond the most
shallow_none : (ds : List ℕ) (k : ℕ) → ((i : ℕ) → get_or ds i 0 ≤ most_depth) → first_fault k (map deepness ds) ≡ Ok tt
unfolding first_fault deepness
shallow_none [] k h = refl
shallow_none (d ∷ ds) k h = rw (le-leb d most_depth (h 0)) (shallow_none ds (suc k) (λ i. h (suc i)))

not_deep : (d : ℕ) → deepness d ≡ 0 → d ≤ most_depth
unfolding deepness
not_deep d e = leb-true d most_depth (cond_zero (leb d most_depth) 0 6 e).0

none_shallow : (ds : List ℕ) (k : ℕ) → first_fault k (map deepness ds) ≡ Ok tt → (i : ℕ) → get_or ds i 0 ≤ most_depth
none_shallow [] k e i = omega arith
none_shallow (d ∷ ds) k e zero = not_deep d (zero_or_not (deepness d) k (map deepness ds) e).0
none_shallow (d ∷ ds) k e (suc i) = none_shallow ds (suc k) (zero_or_not (deepness d) k (map deepness ds) e).1 i

pub at_most_deep_none : (t : Tree) → AtMostDeep most_depth t → too_deep t ≡ Ok tt
unfolding AtMostDeep too_deep
at_most_deep_none t h = shallow_none (depths 0 t) 0 h

pub none_at_most_deep : (t : Tree) → too_deep t ≡ Ok tt → AtMostDeep most_depth t
unfolding AtMostDeep too_deep
none_at_most_deep t e = none_shallow (depths 0 t) 0 e

pub keeps_none : (edition : ℕ) (t : Tree) → Keeps edition Root t → unlawful edition t ≡ Ok tt
unfolding unlawful
keeps_none edition t h = keeps_no_fault edition t Root 0 h

pub none_keeps : (edition : ℕ) (t : Tree) → unlawful edition t ≡ Ok tt → Keeps edition Root t
unfolding unlawful
none_keeps edition t e = no_fault_keeps edition t Root 0 e
