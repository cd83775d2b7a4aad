-- What edition 3 changes, as document 02's R-10 asks: INT96 leaves and column types are refused, and nothing else moves where no GEOMETRY or GEOGRAPHY stands.
use Prim.Native.Nat.{ℕ}
use mathlib.Core.Path.{◌≡◌, sym, ap, subst, ◌∙◌}
use mathlib.Core.Bool.{Bool, true, false, true≢false, not, cond, ◌&&◌}
use mathlib.Core.Logic.{◌↔◌, ◌⊎◌, inl, inr, ⊎_elim}
use mathlib.Core.List.{List}
use borrow.Author.Tests.{eq-eqb, ne_eqb, eqb-true, eqb-false}
use lib.Dec.{eqb}
use lib.ListN.{length}
use Rattle.std.specs.Prelude.{Result}
use Rattle.laws.proofs.BoolLaws.{and_right, is_false}
use Rattle.refusal.specs.Outcome.{refused, refusal}
use Rattle.refusal.specs.Faults as sided
use Rattle.refusal.specs.Faults.{fault}
use Rattle.refusal.specs.Outcome.{Counted, Verdict}
use Rattle.std.specs.Prelude.{Ok, Err}
use Rattle.refusal.specs.declared.answers.Refusal.{Refusal}
use Rattle.edition.specs.Editions.{is_known}
use Rattle.edition.proofs.EditionLaws.{second, third, known_of}
use Rattle.parquet.specs.Physical.{INT96}
use Rattle.parquet.specs.Logical.{is_geospatial}
use Rattle.annotation.specs.Rule10.{is_placed, rule10}
use Rattle.annotation.specs.declared.slot.Annotated.{Annotated}
use Rattle.annotation.proofs.EditionLaws.{ten_second, ten_before, ten_third, not_said}
use Rattle.sheet.specs.Block.{total_of}
use Rattle.sheet.specs.Slot.{physical, logical, slot_at}
use Rattle.sheet.specs.Opening.{open_of}
use Rattle.sheet.proofs.EditionLaws as opening
use Rattle.sheet.proofs.EditionLaws.{open_of_third}
use Rattle.tree.specs.Annotated.{rule9}
use Rattle.tree.specs.Tree.{SlotBytes, Fields}
use Rattle.tree.specs.Rules.{rule8}
use Rattle.tree.specs.Faults.{broken}
use Rattle.tree.specs.Judgement.{judgement, judged_nodes, judgement_of}
use Rattle.tree.specs.declared.standing.Standing.{Standing}
use Rattle.tree.proofs.EditionLaws.{broken_int96}
use Rattle.schema.specs.Outcome.{answer, outcome, written}
use Rattle.schema.specs.Rewriting.{fits, rewrite_answer, rewrite_outcome, rewrite_written}
use Rattle.schema.proofs.EditionLaws as sheets
use Rattle.schema.proofs.EditionLaws.{third_answers, third_refused, third_none, second_none, third_same}
use Rattle.matching.specs.Outcome.{matched_of}
use Rattle.matching.specs.declared.sheets.Totals.{Totals}
use Rattle.differences.specs.Outcome as differences
use Rattle.differences.specs.Outcome.{list_for, compare_outcome, compare_written}
use Rattle.refusal.specs.declared.answers.Fault.{Fault}
use Rattle.column_type.specs.Lawful.{is_lawful, type_refusal, judgement_of as typeJudgement}
use Rattle.column_type.specs.declared.types.ColumnType.{ColumnType}
use Rattle.column_type.proofs.EditionLaws.{lawful_third, int96_unlawful}
use Rattle.column_type.proofs.RefusalLaws.{refusal_known}
use Rattle.column.specs.Outcome as read
use Rattle.column.specs.Reading.{read_of}
use Rattle.column_order.specs.Outcome as order
use Rattle.column_order.specs.Order.{order_of}
use Rattle.demands.specs.Requests.{output, FirstInt96, NoInt96, FirstGeospatial, NoGeospatial}

-- a node --------------------------------------------------------------------------------------------------------------------

pub second_alike : (n : Annotated) (under : Bool) → is_geospatial n.logical ≡ false → rule10 2 n under ≡ is_placed n under
second_alike n under e = ten_before n under ∙ ap (λ (said : Bool). not said && is_placed n under) (not_said n under e)

pub first_alike : (n : Annotated) (under : Bool) → is_geospatial n.logical ≡ false → rule10 1 n under ≡ is_placed n under
first_alike n under e = sym (ten_second n under) ∙ second_alike n under e

pub int96_breaks : (n : Annotated) (under : Bool) → n.physical ≡ INT96 → rule10 3 n under ≡ false
int96_breaks n under e = ten_third n under ∙ rw (eq-eqb n.physical INT96 e)

pub others_alike : (n : Annotated) (under : Bool) → (n.physical ≡ INT96 → ⊥) → is_geospatial n.logical ≡ false → rule10 3 n under ≡ rule10 2 n under
others_alike n under h e = ten_third n under ∙ rw (ne_eqb n.physical INT96 h) (sym (second_alike n under e))

pub in_turn : (p : Standing) (s : SlotBytes) (fs : Fields) → physical s ≡ INT96 → broken 3 p s fs ≡ cond (rule8 p s fs) (cond (rule9 s) 10 9) 8
in_turn p s fs e = broken_int96 p s fs (eq-eqb (physical s) INT96 e)

-- a sheet -------------------------------------------------------------------------------------------------------------------

-- what is said of it here, as the test that is computed
to_test : (sheet : List ℕ) → NoInt96 sheet → sheets.NoInt96 sheet
to_test sheet none k h = ne_eqb (physical (slot_at sheet k)) INT96 (λ e. none k (record { below = h; is_int96_lem = e }))

from_test : (sheet : List ℕ) → sheets.NoInt96 sheet → NoInt96 sheet
from_test sheet none k at = eqb-false (physical (slot_at sheet k)) INT96 (none k at.below) at.is_int96_lem

-- and the same of GEOMETRY and GEOGRAPHY

to_other : (sheet : List ℕ) → NoGeospatial sheet → sheets.NoGeospatial sheet
to_other sheet none k h = is_false (is_geospatial (logical (slot_at sheet k))) (λ e. none k (record { below = h; is_geospatial_lem = e }))

from_other : (sheet : List ℕ) → sheets.NoGeospatial sheet → NoGeospatial sheet
from_other sheet none k at = true≢false (sym at.is_geospatial_lem ∙ none k at.below)

first_other : (sheet : List ℕ) (k : ℕ) → opening.FirstGeospatial sheet k → FirstGeospatial sheet k
first_other sheet k m =
    record { here = record { below = m.below; is_geospatial_lem = m.here }; earlier = λ j h q. true≢false (sym q.is_geospatial_lem ∙ m.earlier j h) }

pub same_opening : (sheet : List ℕ) → NoGeospatial sheet → open_of 3 sheet ≡ open_of 2 sheet
same_opening sheet none = ⊎_elim (λ e. e) (λ r. absurd (none r.0 (first_other sheet r.0 r.2).here)) (open_of_third sheet)

-- the first, as the test that is computed has it
first_of_lem : (sheet : List ℕ) (k : ℕ) → sheets.FirstInt96 sheet k → FirstInt96 sheet k
first_of_lem sheet k m = record { here = record { below = m.below; is_int96_lem = eqb-true _ _ m.here }; earlier = λ j h q. eqb-false _ _ (m.earlier j h) q.is_int96_lem }

-- of any sheet, as R-11 says it
pub any_answered : (sheet : List ℕ) → (judgement 3 sheet ≡ judgement 2 sheet) ⊎ (((k : ℕ) × (judgement 3 sheet ≡ Err (refusal 10 k)) × FirstInt96 sheet k) ⊎ ((k : ℕ) × (judgement 2 sheet ≡ Err (refusal 4 k)) × FirstGeospatial sheet k))
any_answered sheet = ⊎_elim inl (⊎_elim (λ r. inr (inl (r.0, r.1, first_of_lem sheet r.0 r.2))) (λ r. inr (inr (r.0, r.1, first_other sheet r.0 r.2)))) (third_answers sheet)

pub answered : (sheet : List ℕ) → NoGeospatial sheet → (judgement 3 sheet ≡ judgement 2 sheet) ⊎ ((k : ℕ) × (judgement 3 sheet ≡ Err (refusal 10 k)) × FirstInt96 sheet k)
answered sheet none = ⊎_elim inl (⊎_elim inr (λ r. absurd (none r.0 r.2.here))) (any_answered sheet)

pub accepted : (sheet : List ℕ) → ((judgement 3 sheet ≡ Ok tt) × NoGeospatial sheet) ↔ ((judgement 2 sheet ≡ Ok tt) × NoInt96 sheet)
accepted sheet = (
  (λ h. let none = third_none sheet h.0 in (sym (third_same sheet none (to_other sheet h.1)) ∙ h.0, from_test sheet none)),
  λ h. let none = second_none sheet h.0 in (third_same sheet (to_test sheet h.1) none ∙ h.0, from_other sheet none),
)

pub refused_alone : (sheet : List ℕ) (r : Refusal) → judgement 2 sheet ≡ Ok tt → judgement 3 sheet ≡ Err r → (r.number ≡ 10) × FirstInt96 sheet r.place
refused_alone sheet r lawful e =
    let found = third_refused sheet lawful r e in
    let at : r.place ≡ found.0 = ap (λ (q : Refusal). q.place) found.1 in
    (ap (λ (q : Refusal). q.number) found.1, subst (FirstInt96 sheet) (sym at) (first_of_lem sheet found.0 found.2))

module _ (sheet : List ℕ) (none : NoInt96 sheet) (other : NoGeospatial sheet) where
  alike : judgement 3 sheet ≡ judgement 2 sheet
  alike = third_same sheet (to_test sheet none) (to_other sheet other)

  pub same_judgement : judgement_of 3 sheet ≡ judgement_of 2 sheet
  unfolding judgement_of
  same_judgement = ap (λ (v : Verdict). judged_nodes v (total_of sheet)) alike

  pub same_rows : (lent : List ℕ) → (outcome 3 sheet (length lent) ≡ outcome 2 sheet (length lent)) × (written (outcome 3 sheet (length lent)) sheet lent ≡ written (outcome 2 sheet (length lent)) sheet lent)
  unfolding outcome
  same_rows lent =
      let same = ap (λ (v : Verdict). answer v (total_of sheet) (length lent)) alike in
      (same, ap (λ (o : Counted). written o sheet lent) same)

  pub same_rewritten : (lent : List ℕ) (start : ℕ) → (rewrite_outcome 3 sheet (length lent) start ≡ rewrite_outcome 2 sheet (length lent) start) × (rewrite_written (rewrite_outcome 3 sheet (length lent) start) sheet lent start ≡ rewrite_written (rewrite_outcome 2 sheet (length lent) start) sheet lent start)
  unfolding rewrite_outcome
  same_rewritten lent start =
      let same = ap (λ (v : Verdict). rewrite_answer v (fits sheet (length lent) start) (length sheet)) alike in
      (same, ap (λ (o : Counted). rewrite_written o sheet lent start) same)

-- both are judged alike, and both editions are known
matched_alike : (a b : List ℕ) → NoInt96 a → NoGeospatial a → NoInt96 b → NoGeospatial b → matched_of 3 a b ≡ matched_of 2 a b
unfolding matched_of is_known
matched_alike a b n g m h = rw (same_judgement a n g, same_judgement b m h)

pub same_comparison : (a b lent : List ℕ) → NoInt96 a → NoGeospatial a → NoInt96 b → NoGeospatial b → (compare_outcome 3 a b (length lent) ≡ compare_outcome 2 a b (length lent)) × (output 3 a b lent ≡ output 2 a b lent)
unfolding compare_outcome
same_comparison a b lent n g m h =
    let same = ap (λ (x : Result Totals Fault). differences.answer x (length (list_for a b)) (length lent)) (matched_alike a b n g m h) in
    (same, ap (λ (o : Result ℕ Fault). compare_written o a b lent) same)

-- a column type -------------------------------------------------------------------------------------------------------------

pub lawful : (c : ColumnType) → is_geospatial c.kind ≡ false → (is_lawful 3 c ≡ true) ↔ ((is_lawful 2 c ≡ true) × (c.physical ≡ INT96 → ⊥))
lawful c g = (
  (λ e. let both = sym (lawful_third c g) ∙ e in (and_right (not (eqb c.physical INT96)) (is_lawful 2 c) both, λ q. true≢false (sym both ∙ rw (eq-eqb c.physical INT96 q)))),
  λ h. lawful_third c g ∙ rw (ne_eqb c.physical INT96 h.1) h.0,
)

module _ (c : ColumnType) (other : c.physical ≡ INT96 → ⊥) (g : is_geospatial c.kind ≡ false) where
  lawful_alike : is_lawful 3 c ≡ is_lawful 2 c
  lawful_alike = lawful_third c g ∙ rw (ne_eqb c.physical INT96 other)

  refusal_alike : type_refusal 3 ≡ type_refusal 2
  refusal_alike = refusal_known 3 (known_of third) ∙ sym (refusal_known 2 (known_of second))

  read_alike : (bs : List ℕ) → read_of 3 c bs ≡ read_of 2 c bs
  unfolding read_of
  read_alike bs = rw (lawful_alike, refusal_alike)

  pub same_reading : (bs : List ℕ) → read.outcome 3 c bs ≡ read.outcome 2 c bs
  unfolding read.outcome
  same_reading bs = ap read.outcome_of (read_alike bs)

  pub same_order : (a b : List ℕ) → order.outcome 3 c a b ≡ order.outcome 2 c a b
  unfolding order.outcome order_of
  same_order a b = rw (lawful_alike, refusal_alike, read_alike a, read_alike b)

module _ (c : ColumnType) (int96 : c.physical ≡ INT96) where
  unlawful : is_lawful 3 c ≡ false
  unlawful = int96_unlawful c (eq-eqb c.physical INT96 int96)

  twenty : type_refusal 3 ≡ refusal 20 0
  twenty = refusal_known 3 (known_of third)

  pub int96_type : typeJudgement 3 c ≡ Err (refusal 20 0)
  unfolding typeJudgement
  int96_type = rw (unlawful, twenty)

  pub int96_read : (bs : List ℕ) → read.outcome 3 c bs ≡ refused (refusal 20 0)
  unfolding read.outcome read_of
  int96_read bs = rw (unlawful, twenty)

  pub int96_ordered : (a b : List ℕ) → order.outcome 3 c a b ≡ sided.refused (fault 0 (refusal 20 0))
  unfolding order.outcome order_of
  int96_ordered a b = rw (unlawful, twenty)
