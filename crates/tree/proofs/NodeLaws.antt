-- The least rule that a visited node breaks, by its numbers.
use Prim.Native.Nat.{ℕ}
use mathlib.Core.Path.{◌≡◌, refl, sym, ap, ap₂, ◌∙◌}
use mathlib.Core.Bool.{Bool, true, false, cond, not, ◌||◌}
use mathlib.Core.List.{List}
use borrow.Author.Tests.{ne_eqb}
use lib.Dec.{eqb}
use native.Mathlib.Omega.{arith}
use Rattle.std.specs.Prelude.{Option, Some, None, Result, Ok, Err}
use Rattle.std.specs.Result.{result_err}
use Rattle.sheet.specs.Slot.{slot_at, numbers_of}
use Rattle.sheet.specs.declared.slots.Slot.{Slot as Numbers}
use Rattle.parquet.specs.Logical as logical
use Rattle.annotation.specs.Kinds.{kind_of}
use Rattle.annotation.specs.Rule9 as nine
use Rattle.annotation.specs.Rule10 as ten
use Rattle.annotation.specs.Rule11 as eleven
use Rattle.annotation.specs.Outcome.{number_of, resolution_of, refusal_number}
use Rattle.annotation.specs.Rewriting.{written_of}
use Rattle.annotation.proofs.OutcomeLaws.{resolved_of_refusal}
use Rattle.annotation.proofs.RewritingLaws.{written_kind}
use Rattle.annotation.specs.declared.slot.Annotated.{Annotated}
use Rattle.annotation.specs.declared.resolution.Kind.{Kind}
use Rattle.annotation.specs.declared.rules.Broken.{Broken}
use Rattle.tree.specs.Annotated.{annotated_by, annotated, kind, rule9, rule10, rule11}
use Rattle.tree.specs.Tree.{SlotBytes, Fields}
use Rattle.tree.specs.Rules.{under_map_of, shape, rule8, is_list, is_map, list_kept, map_kept, rule12, rule13, standing_under, standing_below}
use Rattle.tree.specs.Faults.{broken}
use Rattle.tree.specs.Steps.{Visited, fields_at, annotation_rule, rule_number, broken_number, list_broken, unless_annotated, broken_as, broken_with13}
use Rattle.tree.specs.declared.standing.Standing.{Standing}
use Rattle.tree.specs.declared.faults.Rule.{Rule}
use Rattle.tree.proofs.VisitLaws.{count_fields_at}

-- the number of a resolution's refusal, or what its kind breaks
unfoldable pub broken_by : Result Kind Broken → (Kind → ℕ) → ℕ
broken_by (Ok k) f = f k
broken_by (Err broken) f = number_of broken

broken_cases : (a b c : Bool) (k : Kind) (f : Kind → ℕ) → cond a (cond b (cond c (f k) 11) 10) 9 ≡ broken_by (cond a (cond b (cond c (Ok k) (Err Broken.BadDecimal)) (Err Broken.Misplaced)) (Err Broken.Disagreement)) f
unfolding broken_by
broken_cases true true true k f = refl
broken_cases true true false k f = refl
broken_cases true false c k f = refl
broken_cases false b c k f = refl

broken_by_refused : (r : Result Kind Broken) (f : Kind → ℕ) (broken : Broken) → Some broken ≡ result_err r → number_of broken ≡ broken_by r f
unfolding broken_by
broken_by_refused (Ok k) f broken e = absurd (let z : ◌≡◌ {A = ℕ} 0 1 = cc in omega arith)
broken_by_refused (Err other) f broken e = let q : broken ≡ other = cc in ap number_of q

broken_by_resolved : (edition : ℕ) (n : Annotated) (u : Bool) (f : Kind → ℕ) → None ≡ result_err (resolution_of edition n u) → f (kind_of n u) ≡ broken_by (resolution_of edition n u) f
unfolding broken_by
broken_by_resolved edition n u f z = rw (resolved_of_refusal edition n u (ap refusal_number z))

-- the numbers of what each step finds
pub number_some : (rule : Rule) → eqb (rule_number rule) 0 ≡ false
number_some Rule.Shape = refl
number_some Rule.Disagreement = refl
number_some Rule.Misplaced = refl
number_some Rule.BadDecimal = refl
number_some Rule.BadList = refl
number_some Rule.BadMap = refl

number_annotation : (broken : Broken) → rule_number (annotation_rule broken) ≡ number_of broken
number_annotation Broken.Disagreement = refl
number_annotation Broken.Misplaced = refl
number_annotation Broken.BadDecimal = refl

number_cond : (b : Bool) (found : Result (Unit {0}) Rule) (rule : Rule) → broken_number (cond b found (Err rule)) ≡ cond b (broken_number found) (rule_number rule)
number_cond true found rule = refl
number_cond false found rule = refl

number_with13 : (least : Result (Unit {0}) Rule) (below : Standing) (s : SlotBytes) (fs : Fields) → broken_number (broken_with13 least below s fs) ≡ cond (eqb (broken_number least) 0) (cond (not (under_map_of below) || map_kept s fs) 0 13) (broken_number least)
number_with13 (Ok kept) below s fs = number_cond (not (under_map_of below) || map_kept s fs) (Ok tt) Rule.BadMap
number_with13 (Err rule) below s fs = rw (number_some rule)

-- rule 12 at what is written of a node is rule 12 at its kind
list_broken_kind : (n : Annotated) (u : Bool) (s : SlotBytes) (fs : Fields) → list_broken (written_of n u).logical s fs ≡ list_broken (kind_of n u).kind s fs
unfolding list_broken
list_broken_kind n u s fs = rw (written_kind logical.LIST refl refl refl n u)

-- the least of rules 8 to 12 that a node breaks, and 0 where it keeps them all
unfoldable pub broken_to12 : ℕ → Standing → SlotBytes → Fields → ℕ
broken_to12 edition p s fs =
    cond (rule8 p s fs)
    (cond (rule9 s)
    (cond (rule10 edition (under_map_of p) s)
    (cond (rule11 edition (under_map_of p) s)
    (cond (rule12 p s fs) 0 12) 11) 10) 9) 8

-- rules 9 to 12 by the resolution of a slot's annotations
to12_by : (edition : ℕ) (p : Standing) (s : SlotBytes) (fs : Fields) → broken_to12 edition p s fs ≡ cond (rule8 p s fs) (broken_by (resolution_of edition (annotated s) (under_map_of p)) (λ k. broken_number (list_broken k.kind s fs))) 8
unfolding broken_to12 rule9 rule10 rule11 rule12 is_list kind list_broken resolution_of
to12_by edition p s fs =
    rw (← number_cond (rule12 p s fs) (Ok tt) Rule.BadList)
    (ap (λ (n : ℕ). cond (rule8 p s fs) n 8)
    (broken_cases (nine.rule9 (annotated s)) (ten.rule10 edition (annotated s) (under_map_of p)) (eleven.rule11 edition (annotated s) (under_map_of p)) (kind_of (annotated s) (under_map_of p)) (λ k. broken_number (list_broken k.kind s fs))))

-- rule 13 behind the others
with13_cases : (a b c d e m : Bool) → let n : ℕ = cond a (cond b (cond c (cond d (cond e 0 12) 11) 10) 9) 8 in cond (eqb n 0) (cond m 0 13) n ≡ cond a (cond b (cond c (cond d (cond e (cond m 0 13) 12) 11) 10) 9) 8
with13_cases true true true true true m = refl
with13_cases true true true true false m = refl
with13_cases true true true false e m = refl
with13_cases true true false d e m = refl
with13_cases true false c d e m = refl
with13_cases false b c d e m = refl

under_place : (b : Bool) → under_map_of (cond b Standing.MapField Standing.Field) ≡ b
under_place true = refl
under_place false = refl

-- a node's fields are under a MAP where it is one
pub under_below : (p : Standing) (s : SlotBytes) → under_map_of (standing_below p s) ≡ is_map p s
unfolding standing_below is_map
under_below p s = under_place (eqb (kind (under_map_of p) s).kind logical.MAP)

broken_with13_lem : (edition : ℕ) (p : Standing) (s : SlotBytes) (fs : Fields) (least : Result (Unit {0}) Rule) → broken_number least ≡ broken_to12 edition p s fs → broken_number (broken_with13 least (standing_below p s) s fs) ≡ broken edition p s fs
unfolding broken_to12 broken rule13
broken_with13_lem edition p s fs least e =
    number_with13 least (standing_below p s) s fs
    ∙ rw (e, under_below)
    (with13_cases (rule8 p s fs) (rule9 s) (rule10 edition (under_map_of p) s) (rule11 edition (under_map_of p) s) (rule12 p s fs) (not (is_map p s) || map_kept s fs))

module _ (b : List ℕ) (at : ℕ) (s : Numbers) (p : Standing) (v : Visited b at s) where
  -- rule 8 by the numbers of the node
  pub shape_is : rule8 p (slot_at b at) (fields_at b at) ≡ shape p s s.children
  unfolding rule8 numbers_of
  shape_is =
      ap (shape p (numbers_of (slot_at b at))) (count_fields_at b at v.claimed v.below)
      ∙ ap (λ (n : Numbers). shape p n n.children) (sym v.numbers)

  -- by the refusal and the logical type that judging its annotations found
  behind8 : (edition : ℕ) (refusal : Option Broken) (code : ℕ) → refusal ≡ result_err (resolution_of edition (annotated_by s) (under_map_of p)) → code ≡ (written_of (annotated_by s) (under_map_of p)).logical
      → broken_number (unless_annotated refusal (list_broken code (slot_at b at) (fields_at b at)))
      ≡ broken_by (resolution_of edition (annotated_by s) (under_map_of p)) (λ k. broken_number (list_broken k.kind (slot_at b at) (fields_at b at)))
  behind8 edition None code d w =
      ap (λ (c : ℕ). broken_number (list_broken c (slot_at b at) (fields_at b at))) w
      ∙ ap broken_number (list_broken_kind (annotated_by s) (under_map_of p) (slot_at b at) (fields_at b at))
      ∙ broken_by_resolved edition (annotated_by s) (under_map_of p) (λ k. broken_number (list_broken k.kind (slot_at b at) (fields_at b at))) d
  behind8 edition (Some broken) code d w = number_annotation broken ∙ broken_by_refused _ _ broken d

  pub to12_judged : (edition : ℕ) (refusal : Option Broken) (code : ℕ) → refusal ≡ result_err (resolution_of edition (annotated_by s) (under_map_of p)) → code ≡ (written_of (annotated_by s) (under_map_of p)).logical
      → broken_number (broken_as refusal code p (slot_at b at) (fields_at b at)) ≡ broken_to12 edition p (slot_at b at) (fields_at b at)
  unfolding broken_as annotated
  to12_judged edition refusal code d w =
      number_cond (rule8 p (slot_at b at) (fields_at b at)) _ Rule.Shape
      ∙ ap (λ (n : ℕ). cond (rule8 p (slot_at b at) (fields_at b at)) n 8) (behind8 edition refusal code d w)
      ∙ sym (to12_by edition p (slot_at b at) (fields_at b at) ∙ rw (← v.numbers))

  -- the place of a node's fields
  pub standing_below_is : (logical : ℕ) → logical ≡ (written_of (annotated_by s) (under_map_of p)).logical → standing_under logical ≡ standing_below p (slot_at b at)
  unfolding standing_below kind annotated
  standing_below_is code w =
      ap standing_under w
      ∙ ap (λ (t : Bool). cond t Standing.MapField Standing.Field) (written_kind logical.MAP refl refl refl (annotated_by s) (under_map_of p))
      ∙ rw v.numbers

  -- what judging its annotations tells, by the code's own calls: where its fields stand, and the least rule that it breaks
  module _ (n : Annotated) (u : Bool) (logical : ℕ) (q : Standing) (taken : n ≡ annotated_by s) (under : u ≡ under_map_of p) (told : logical ≡ (written_of n u).logical) (stands : q ≡ standing_under logical) where
    logical_is : logical ≡ (written_of (annotated_by s) (under_map_of p)).logical
    logical_is = told ∙ ap₂ (λ (m : Annotated) (t : Bool). (written_of m t).logical) taken under

    pub below_judged : q ≡ standing_below p (slot_at b at)
    below_judged = stands ∙ standing_below_is logical logical_is

    pub own_judged : (edition : ℕ) (refusal : Option Broken) (least own : Result (Unit {0}) Rule) → refusal ≡ result_err (resolution_of edition n u)
        → least ≡ broken_as refusal logical p (slot_at b at) (fields_at b at) → own ≡ broken_with13 least q (slot_at b at) (fields_at b at)
        → broken_number own ≡ broken edition p (slot_at b at) (fields_at b at)
    own_judged edition refusal least own d e o =
        let refused = d ∙ ap₂ (λ (m : Annotated) (t : Bool). result_err (resolution_of edition m t)) taken under in
        rw (o, below_judged) (broken_with13_lem edition p (slot_at b at) (fields_at b at) least (ap broken_number e ∙ to12_judged edition refusal logical refused logical_is))

-- rule 12 at a kind
module _ (code : ℕ) (s : SlotBytes) (fs : Fields) where
  pub list_broken_lem : code ≡ logical.LIST → (r : Bool) → r ≡ list_kept s fs → list_broken code s fs ≡ cond r (Ok tt) (Err Rule.BadList)
  unfolding list_broken
  list_broken_lem e r q = rw (e, ← q)

  pub list_other : (code ≡ logical.LIST → ⊥) → list_broken code s fs ≡ Ok tt
  unfolding list_broken
  list_other n = rw (ne_eqb _ _ n)
