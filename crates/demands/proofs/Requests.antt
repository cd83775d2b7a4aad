-- What the requests of document 02 ask holds.
use Prim.Native.Nat.{ℕ, zero, suc, ◌*◌, ◌≤◌, ◌<◌}
use mathlib.Core.Path.{◌≡◌, refl, sym, ap, subst, ◌∙◌}
use mathlib.Core.Bool.{Bool, true, false, true≢false, not, cond}
use mathlib.Core.Logic.{◌⊎◌, inl, inr, ◌↔◌}
use mathlib.Core.List.{List, ◌++◌}
use native.Mathlib.Omega.{arith}
use borrow.Author.Tests.{lt-ltb, eq-eqb, eqb-true, not-false}
use lib.Dec.{eqb, ltb}
use lib.ListN.{length, drop}
use lib.Seq.{drop_at}
use Rattle.refusal.specs.Outcome.{refused, refusal, short_output, no_refusal}
use Rattle.std.specs.Prelude.{Result, Err}
use Rattle.refusal.specs.Faults as sided
use Rattle.refusal.specs.Faults.{fault}
use Rattle.refusal.specs.declared.answers.Refusal.{Refusal}
use Rattle.laws.proofs.BoolLaws.{and_both, both_and, by_test}
use Rattle.edition.specs.Editions.{is_known}
use Rattle.edition.proofs.EditionLaws.{OneOf, first, second, third, known_of, one_of_known}
use Rattle.parquet.specs.Logical.{DECIMAL}
use Rattle.annotation.proofs.EditionLaws.{is_equal, first_ordered, second_ordered, ordered_precision, ordered_scale, eleven_third}
use Rattle.sheet.specs.Block.{total_of, most_nodes}
use Rattle.sheet.specs.Opening.{open_of}
use Rattle.sheet.proofs.OpeningLaws.{open_of_unknown}
use Rattle.sheet.proofs.EditionLaws.{open_of_first}
use Rattle.column_type.specs.Lawful.{is_lawful, type_refusal, judgement_of as typeJudgement}
use Rattle.column_type.specs.declared.types.ColumnType.{ColumnType}
use Rattle.column_type.proofs.RefusalLaws.{unknown_unlawful, refusal_known, refusal_unknown}
use Rattle.column_type.proofs.EditionLaws.{lawful_second, lawful_first}
use Rattle.column.specs.Outcome as read
use Rattle.column.specs.Reading.{read_of}
use Rattle.column.proofs.PromiseLaws.{refused_unknown}
use Rattle.column_order.specs.Outcome as order
use Rattle.column_order.specs.Order.{order_of}
use Rattle.c_sheets.proofs.BoundLaws.{VerdictBounded, known_bounded}
use Rattle.c_sheets.proofs.PromiseLaws.{resolve_unknown, rewrite_unknown}
use Rattle.tree.specs.Tree.{Tree, size}
use Rattle.tree.specs.Judgement.{judgement, judged_nodes, judgement_of}
use Rattle.tree.proofs.JudgementLaws.{judgement_refused, judged_refused}
use Rattle.schema.specs.Rows.{row_width, rows, number_in}
use Rattle.schema.specs.Outcome.{answer, outcome, written}
use Rattle.schema.specs.Rewriting.{fits, rewrite_answer, rewrite_outcome, rewrite_written}
use Rattle.schema.proofs.EditionLaws.{second_lawful, first_refused, first_lawful}
use Rattle.schema.specs.Demand.{IsTreeOf, Sound, Accepted, kind_in}
use Rattle.refusal.specs.Outcome.{Counted, Verdict}
use Rattle.std.specs.Prelude.{Ok}
use Rattle.schema.proofs.AcceptedLaws.{accepted_rows}
use Rattle.schema.proofs.DemandLaws.{no_refusal_rows, size_is, rows_length, refused_unchanged}
use Rattle.schema.proofs.NodeLevelsLaws.{InRow, root_levels, field_levels}
use Rattle.schema.proofs.RepeatedFieldLaws as repeated
use Rattle.matching.proofs.NodeLaws.{node_at, node_once, node_slot}
use Rattle.matching.proofs.MatchingLaws.{matching_sym}
use Rattle.matching.proofs.MatchedLaws.{roots_match, fields_match, parents_match, unmatched_field, matched_or_not, matched_alone}
use Rattle.differences.specs.Outcome.{compare_outcome, compare_written}
use Rattle.refusal.specs.declared.answers.Fault.{Fault}
use Rattle.differences.proofs.ListedLaws.{listed_exactly}
use Rattle.differences.proofs.OrderLaws.{rising_list, only_first_once, matched_first, only_second_once, matched_second, places_once, same_places}
use Rattle.differences.proofs.EntryLaws.{sides_filled, field_codes, field_widths, field_contents}
use Rattle.differences.proofs.PathLaws.{root_path, field_path}
use Rattle.differences.proofs.OutcomeLaws as compared
use Rattle.utf8.proofs.ValidLaws.{valid_up_to_stops, stops_unique}
use Rattle.column.proofs.PlaceLaws.{text_stops, other_place, text_refused}
use Rattle.column_order.proofs.FaultLaws.{OfNeither, first_exactly, second_exactly, neither_exactly, fault_most}
use Rattle.demands.specs.Requests.{output, Request1, one, Request2, EqualIn, FirstEqual, Request4, Request6, left, definition_in, repetition_level_in, Request8, Request10, Request11}
use Rattle.demands.proofs.ComparisonLaws as comparison
use Rattle.demands.proofs.ColumnPoints.{cut_off, second_bad, both_bad}
use Rattle.demands.proofs.RetiredLaws as retired
use Rattle.demands.proofs.ConversionLaws.{conversion}
use Rattle.demands.proofs.TerminalLaws as terminals
use Rattle.demands.proofs.BoxLaws.{boxes}
use Rattle.demands.proofs.SheetPoints as sheet
use Rattle.demands.proofs.SheetPoints.{repeated_rows_lem, example_rows_lem}

-- R-1 ----------------------------------------------------------------------------------------------------------------------

pub request1 : (edition : ℕ) → Request1 edition
request1 edition =
    record {
      listed_exactly = listed_exactly;
      in_order_lem = rising_list;
      numbered = node_at;
      one_number = λ t c d. node_once;
      node_slot = λ t c. node_slot t;
      roots_match = roots_match;
      fields_match = λ t u c d a b. fields_match t u;
      parents_match = λ t u c d a b. parents_match t u;
      fields_unmatched = λ t u c a. unmatched_field t u;
      matched_or_not = λ t u c. matched_or_not t u;
      matched_once = λ t u a c d. matched_alone t u d;
      matched_back = λ t u c d. matching_sym t u c.number;
      only_first = only_first_once;
      first_matched = matched_first;
      only_second = only_second_once;
      second_matched = matched_second;
      places_listed = places_once;
      same_places = same_places;
      entry_written = comparison.entry_written edition;
      sides_filled = sides_filled;
      sides_whole = comparison.sides_whole edition;
      field_codes = field_codes;
      field_widths = field_widths;
      field_contents = field_contents;
      other_codes = (refl, refl, refl);
      number_returned = comparison.number_returned edition;
      rest_stays = comparison.rest_stays edition;
      empty_exactly = comparison.empty_exactly edition;
      root_path = root_path;
      field_path = field_path;
      empty_same = comparison.empty_same edition;
      rebuilds = comparison.rebuilds edition;
      first_refused = compared.first_exactly edition;
      second_refused = compared.second_exactly edition;
      neither_refused = comparison.neither_refused edition;
      no_other = compared.side_most edition;
    }

-- R-2 ----------------------------------------------------------------------------------------------------------------------

pub request2 : (edition : ℕ) → Request2 edition
request2 edition =
    record {
      kept = λ p list layer s fs h r. repeated.repeated_kept list layer s fs h.group h.repeated r p;
      layer_role = λ q above list layer s fs h r k. repeated.layer_role list layer s fs h.group h.repeated r q above k (one layer (one s fs));
      field_role = λ q above list layer s fs h r k keeps. repeated.field_role list layer s fs h.group h.repeated r q above k edition keeps (one layer (one s fs));
      refused = λ p list layer s fs h. repeated.no_element list layer s fs h.group h.repeated p;
      repeated_list = repeated.repeated_list;
      example = repeated_rows_lem edition;
    }

-- R-4 ----------------------------------------------------------------------------------------------------------------------

editions : (edition : ℕ) → (is_known edition ≡ true) ↔ ((edition ≡ 1) ⊎ ((edition ≡ 2) ⊎ (edition ≡ 3)))
editions edition = ((λ k. each (one_of_known edition k)), λ h. on h)
  where
    each : {e : ℕ} → OneOf e → (e ≡ 1) ⊎ ((e ≡ 2) ⊎ (e ≡ 3))
    each first = inl refl
    each second = inr (inl refl)
    each third = inr (inr refl)

    on : (edition ≡ 1) ⊎ ((edition ≡ 2) ⊎ (edition ≡ 3)) → is_known edition ≡ true
    on (inl e) = rw e (known_of first)
    on (inr (inl e)) = rw e (known_of second)
    on (inr (inr e)) = rw e (known_of third)

-- both are lawful, so both give the same
same_rows : (sheet lent : List ℕ) → judgement 1 sheet ≡ Ok tt → (outcome 2 sheet (length lent) ≡ outcome 1 sheet (length lent)) × (written (outcome 2 sheet (length lent)) sheet lent ≡ written (outcome 1 sheet (length lent)) sheet lent)
unfolding outcome
same_rows sheet lent e = let f = second_lawful sheet e in (rw (e, f), rw (e, f))

same_rewritten : (sheet lent : List ℕ) (start : ℕ) → judgement 1 sheet ≡ Ok tt → (rewrite_outcome 2 sheet (length lent) start ≡ rewrite_outcome 1 sheet (length lent) start) × (rewrite_written (rewrite_outcome 2 sheet (length lent) start) sheet lent start ≡ rewrite_written (rewrite_outcome 1 sheet (length lent) start) sheet lent start)
unfolding rewrite_outcome
same_rewritten sheet lent start e = let f = second_lawful sheet e in (rw (e, f), rw (e, f))

same_comparison : (a b lent : List ℕ) → judgement 1 a ≡ Ok tt → judgement 1 b ≡ Ok tt → (compare_outcome 2 a b (length lent) ≡ compare_outcome 1 a b (length lent)) × (output 2 a b lent ≡ output 1 a b lent)
same_comparison a b lent e d =
    let same = compared.same_outcome 2 1 a b (length lent) (second_lawful a e) (second_lawful b d) e d in
    (same, ap (λ (o : Result ℕ Fault). compare_written o a b lent) same)

-- the test of a kind, and what it says of a row
equal_in : (numbers : List ℕ) (k : ℕ) → is_equal (kind_in numbers k) ≡ true → EqualIn numbers k
unfolding is_equal
equal_in numbers k e =
    let both = and_both (eqb (number_in numbers k 3) DECIMAL) (eqb (number_in numbers k 4) (number_in numbers k 5)) e in
    record { is_decimal_lem = eqb-true _ _ both.0; digits = eqb-true _ _ both.1 }

in_equal : (numbers : List ℕ) (k : ℕ) → EqualIn numbers k → is_equal (kind_in numbers k) ≡ true
unfolding is_equal
in_equal numbers k h = both_and (eqb (number_in numbers k 3) DECIMAL) (eqb (number_in numbers k 4) (number_in numbers k 5)) (eq-eqb _ _ h.is_decimal_lem) (eq-eqb _ _ h.digits)

refused_alone : (sheet : List ℕ) (t : Tree) (r : Refusal) → Sound 2 sheet → IsTreeOf 2 sheet t → judgement 1 sheet ≡ Err r → (r.number ≡ 11) × FirstEqual t r.place
refused_alone sheet t r sound tree e =
    let found = first_refused sheet t sound tree r e in
    let at : r.place ≡ found.0 = ap (λ (q : Refusal). q.place) found.1 in
    let equal : FirstEqual t found.0 = record { below = found.2.below; here = equal_in (rows t) found.0 found.2.here; earlier = λ j h q. true≢false (sym (in_equal (rows t) j q) ∙ found.2.earlier j h) } in
    (ap (λ (q : Refusal). q.number) found.1, subst (FirstEqual t) (sym at) equal)

not_accepted : (sheet : List ℕ) (t : Tree) (k : ℕ) → Sound 2 sheet → IsTreeOf 2 sheet t → k < size t → EqualIn (rows t) k → judgement 1 sheet ≡ Ok tt → ⊥
not_accepted sheet t k sound tree h q e = true≢false (sym (in_equal (rows t) k q) ∙ first_lawful sheet t sound tree e k h)

same_reading : (c : ColumnType) (bs : List ℕ) → is_lawful 1 c ≡ true → read.outcome 2 c bs ≡ read.outcome 1 c bs
unfolding read.outcome read_of
same_reading c bs e = rw (e, lawful_second c e)

same_order : (c : ColumnType) (a b : List ℕ) → is_lawful 1 c ≡ true → order.outcome 2 c a b ≡ order.outcome 1 c a b
unfolding order.outcome order_of read_of
same_order c a b e = rw (e, lawful_second c e)

lawful_alone : (c : ColumnType) → is_lawful 2 c ≡ true → (is_lawful 1 c ≡ false) ↔ ((c.kind ≡ DECIMAL) × (c.p1 ≡ c.p2))
lawful_alone c e = (
  (λ f.
      let both = and_both (eqb c.kind DECIMAL) (eqb c.p1 c.p2) (not-false _ (sym (lawful_first c e) ∙ f)) in
      (eqb-true _ _ both.0, eqb-true _ _ both.1)),
  λ h. lawful_first c e ∙ ap not (both_and (eqb c.kind DECIMAL) (eqb c.p1 c.p2) (eq-eqb _ _ h.0) (eq-eqb _ _ h.1)),
)

-- 21: where the edition is known, no other refusal has its number
other_number : (number place : ℕ) (v : Verdict) → number < 21 → VerdictBounded number place v → v ≡ Err (refusal 21 0) → ⊥
other_number number place (Ok _) h b e = let z : ◌≡◌ {A = ℕ} 0 1 = cc in omega arith
other_number number place (Err r) h b e =
    let q : r ≡ refusal 21 0 = cc in
    let n : r.number ≡ 21 = ap (λ (s : Refusal). s.number) q in
    omega (arith, b.most_number, n)

unknown_judgement : (edition : ℕ) (sheet : List ℕ) → (judgement edition sheet ≡ Err (refusal 21 0)) ↔ (is_known edition ≡ false)
unknown_judgement edition sheet = (
  (λ e. by_test (is_known edition) (λ k. absurd (other_number 13 most_nodes (judgement edition sheet) (omega arith) (known_bounded edition sheet k) e)) (λ u. u)),
  λ u. judgement_refused edition sheet _ (open_of_unknown edition sheet u),
)

unknown_opening : (edition : ℕ) (sheet : List ℕ) → (open_of edition sheet ≡ Err (refusal 21 0)) ↔ (is_known edition ≡ false)
unknown_opening edition sheet = (λ e. (unknown_judgement edition sheet).0 (judgement_refused edition sheet _ e), λ u. open_of_unknown edition sheet u)

unknown_judging : (edition : ℕ) (sheet : List ℕ) → (judgement_of edition sheet ≡ Err (refusal 21 0)) ↔ (is_known edition ≡ false)
unfolding judgement_of judged_nodes
unknown_judging edition sheet = (
  (λ e. (unknown_judgement edition sheet).0 (judged_refused edition sheet _ e)),
  λ u. rw ((unknown_judgement edition sheet).1 u),
)

-- an answer of 21 is the verdict's: 14 has another number
answered_refused : (v : Verdict) (total lent : ℕ) → answer v total lent ≡ Err (refusal 21 0) → v ≡ Err (refusal 21 0)
unfolding answer
answered_refused (Err r) total lent e = cc
answered_refused (Ok _) total lent e = absurd (on (ltb lent (11 * total)) e)
  where
    on : (b : Bool) → cond b (Err short_output) (Ok total) ≡ Err (refusal 21 0) → ⊥
    on true q = let z : short_output ≡ refusal 21 0 = cc in let n : ◌≡◌ {A = ℕ} 14 21 = ap (λ (r : Refusal). r.number) z in omega arith
    on false q = let z : ◌≡◌ {A = ℕ} 0 1 = cc in omega arith

unknown_resolving : (edition : ℕ) (sheet : List ℕ) (lent : ℕ) → (outcome edition sheet lent ≡ Err (refusal 21 0)) ↔ (is_known edition ≡ false)
unfolding outcome
unknown_resolving edition sheet lent = (
  (λ e. (unknown_judgement edition sheet).0 (answered_refused (judgement edition sheet) (total_of sheet) lent e)),
  resolve_unknown edition sheet lent,
)

rewritten_refused : (v : Verdict) (enough : Bool) (n : ℕ) → rewrite_answer v enough n ≡ Err (refusal 21 0) → v ≡ Err (refusal 21 0)
unfolding rewrite_answer
rewritten_refused (Err r) enough n e = cc
rewritten_refused (Ok _) true n e = absurd (let z : ◌≡◌ {A = ℕ} 0 1 = cc in omega arith)
rewritten_refused (Ok _) false n e = absurd (let z : short_output ≡ refusal 21 0 = cc in let n : ◌≡◌ {A = ℕ} 14 21 = ap (λ (r : Refusal). r.number) z in omega arith)

unknown_rewriting : (edition : ℕ) (sheet : List ℕ) (lent start : ℕ) → (rewrite_outcome edition sheet lent start ≡ Err (refusal 21 0)) ↔ (is_known edition ≡ false)
unfolding rewrite_outcome
unknown_rewriting edition sheet lent start = (
  (λ e. (unknown_judgement edition sheet).0 (rewritten_refused (judgement edition sheet) (fits sheet lent start) (length sheet) e)),
  rewrite_unknown edition sheet lent start,
)

unknown_comparing : (edition : ℕ) (a b : List ℕ) (lent : ℕ) → (compare_outcome edition a b lent ≡ Err (fault 0 (refusal 21 0))) ↔ (is_known edition ≡ false)
unknown_comparing edition a b lent = ((λ e. on ((compared.neither_exactly edition a b lent 21 0).0 e)), λ u. (compared.neither_exactly edition a b lent 21 0).1 (inl (u, refl, refl)))
  where
    on : compared.OfNeither edition a b lent 21 0 → is_known edition ≡ false
    on (inl h) = h.0
    on (inr h) = absurd (omega (arith, h.3))

unknown_typing : (edition : ℕ) (c : ColumnType) → (typeJudgement edition c ≡ Err (refusal 21 0)) ↔ (is_known edition ≡ false)
unfolding typeJudgement
unknown_typing edition c = (
  (λ e. by_test (is_known edition) (λ k. absurd (known k e)) (λ u. u)),
  λ u. rw (unknown_unlawful edition c u, refusal_unknown edition u),
)
  where
    known : is_known edition ≡ true → cond (is_lawful edition c) no_refusal (Err (type_refusal edition)) ≡ Err (refusal 21 0) → ⊥
    known k e =
        by_test (is_lawful edition c) (λ l. other_number 20 0 (Ok tt) (omega arith) tt (rw l at e))
        (λ l. other_number 20 0 (Err (refusal 20 0)) (omega arith) (record { some_number = omega arith; most_number = omega arith; most_place = omega arith }) (rw (l, refusal_known edition k) at e))

unknown_ordering : (edition : ℕ) (c : ColumnType) (a b : List ℕ) → (order.outcome edition c a b ≡ sided.refused (fault 0 (refusal 21 0))) ↔ (is_known edition ≡ false)
unknown_ordering edition c a b = ((λ e. on ((neither_exactly edition c a b 21 0).0 e)), λ u. (neither_exactly edition c a b 21 0).1 (inl (u, refl, refl)))
  where
    on : OfNeither edition c a b 21 0 → is_known edition ≡ false
    on (inl h) = h.0
    on (inr (inl h)) = absurd (omega (arith, h.2))
    on (inr (inr h)) = absurd (omega (arith, h.2))

pub request4 : Request4
request4 =
    record {
      editions = editions;
      old_rule = first_ordered;
      new_rule = second_ordered;
      no_precision = ordered_precision;
      no_scale = ordered_scale;
      same_opening = open_of_first;
      accepted = second_lawful;
      same_rows = same_rows;
      same_rewritten = same_rewritten;
      same_comparison = same_comparison;
      refused_alone = refused_alone;
      not_accepted = not_accepted;
      lawful = lawful_second;
      same_reading = same_reading;
      same_order = same_order;
      lawful_alone = lawful_alone;
      unknown_opening = unknown_opening;
      unknown_judging = unknown_judging;
      unknown_resolving = unknown_resolving;
      unknown_rewriting = unknown_rewriting;
      unknown_comparing = unknown_comparing;
      unknown_typing = unknown_typing;
      unknown_reading = refused_unknown;
      unknown_ordering = unknown_ordering;
    }

-- R-6 ----------------------------------------------------------------------------------------------------------------------

pub request6 : (edition : ℕ) → Request6 edition
request6 edition =
    record {
      offset = valid_up_to_stops;
      one_offset = λ s q r. stops_unique;
      text_place_lem = text_stops edition;
      text_refused = text_refused edition;
      other_place = other_place edition;
      first = first_exactly edition;
      second = second_exactly edition;
      neither = neither_exactly edition;
      no_other = fault_most edition;
      cut_off = cut_off edition;
      second_bad = second_bad edition;
      both_bad = both_bad edition;
    }

-- R-8 ----------------------------------------------------------------------------------------------------------------------

module _ (edition : ℕ) (sheet lent : List ℕ) (a : Accepted (outcome edition sheet (length lent))) where
  tree : (t : Tree) × IsTreeOf edition sheet t × (left edition sheet lent ≡ rows t ++ drop (11 * total_of sheet) lent)
  tree = accepted_rows edition sheet lent a

  root : (definition_in (left edition sheet lent) 0 ≡ 0) × (repetition_level_in (left edition sheet lent) 0 ≡ 0)
  root = root_levels edition (left edition sheet lent) _ tree.0 tree.2 tree.1.keeps

  field : (k : ℕ) → 0 < k → k < total_of sheet → InRow (left edition sheet lent) k 32
  field k p h = field_levels edition (left edition sheet lent) _ tree.0 tree.2 tree.1.keeps 32 tree.1.deep k p (omega (arith, size_is edition sheet tree.0 tree.1))

  levels_ordered : (k : ℕ) → k < total_of sheet → repetition_level_in (left edition sheet lent) k ≤ definition_in (left edition sheet lent) k
  levels_ordered zero h = omega (arith, root.0, root.1)
  levels_ordered (suc k) h = (field (suc k) (omega arith) h).ordered

  levels_most : (k : ℕ) → k < total_of sheet → definition_in (left edition sheet lent) k ≤ 32
  levels_most zero h = omega (arith, root.0)
  levels_most (suc k) h = (field (suc k) (omega arith) h).most

  -- past the rows
  rows_past : drop (11 * total_of sheet) (left edition sheet lent) ≡ drop (11 * total_of sheet) lent
  rows_past =
      ap (drop (11 * total_of sheet)) tree.2
      ∙ drop_at (rows tree.0) (drop (11 * total_of sheet) lent) (11 * total_of sheet) (rows_length edition sheet tree.0 tree.1)

short_output_lem : (edition : ℕ) (sheet : List ℕ) (lent : ℕ) → judgement edition sheet ≡ Ok tt → lent < 11 * total_of sheet → outcome edition sheet lent ≡ Err (refusal 14 0)
unfolding outcome answer
short_output_lem edition sheet lent e h = rw (e, lt-ltb lent (row_width * total_of sheet) h)

enough_output : (edition : ℕ) (sheet : List ℕ) (lent : ℕ) → judgement edition sheet ≡ Ok tt → 11 * total_of sheet ≤ lent → outcome edition sheet lent ≡ Ok (total_of sheet)
unfolding outcome
enough_output edition sheet lent e h = no_refusal_rows (judgement edition sheet) (total_of sheet) lent e h

accepted_answer : (o : Counted) (n : ℕ) → o ≡ Ok n → Accepted o
unfolding Accepted
accepted_answer o n e = rw e tt

past_left : (edition : ℕ) (sheet lent : List ℕ) → drop (11 * total_of sheet) (left edition sheet lent) ≡ drop (11 * total_of sheet) lent
past_left edition sheet lent = cases (outcome edition sheet (length lent)) refl
  where
    cases : (o : Counted) → outcome edition sheet (length lent) ≡ o → drop (11 * total_of sheet) (left edition sheet lent) ≡ drop (11 * total_of sheet) lent
    cases (Ok n) e = rows_past edition sheet lent (accepted_answer (outcome edition sheet (length lent)) n e)
    cases (Err r) e = ap (drop (11 * total_of sheet)) (refused_unchanged edition sheet lent r e)

pub request8 : (edition : ℕ) → Request8 edition
request8 edition =
    record {
      root_definition = λ sheet lent a. (root edition sheet lent a).0;
      root_repetition = λ sheet lent a. (root edition sheet lent a).1;
      parent_before = λ sheet lent k a p h. (field edition sheet lent a k p h).earlier;
      definition_below = λ sheet lent k a p h. (field edition sheet lent a k p h).definition_is;
      repetition_below = λ sheet lent k a p h. (field edition sheet lent a k p h).repetition_is;
      ordered = λ sheet lent k a. levels_ordered edition sheet lent a k;
      at_most_32 = λ sheet lent k a. levels_most edition sheet lent a k;
      short = short_output_lem edition;
      enough = enough_output edition;
      beyond = past_left edition;
      example = example_rows_lem edition;
    }

-- R-10 ---------------------------------------------------------------------------------------------------------------------

pub request10 : Request10
request10 =
    record {
      int96_breaks = retired.int96_breaks;
      in_turn = retired.in_turn;
      others_alike = retired.others_alike;
      decimals_alike = eleven_third;
      first_alike = retired.first_alike;
      second_alike = retired.second_alike;
      same_opening = retired.same_opening;
      accepted = retired.accepted;
      answered = retired.answered;
      refused_alone = retired.refused_alone;
      same_judgement = retired.same_judgement;
      same_rows = λ sheet lent none other. retired.same_rows sheet none other lent;
      same_rewritten = λ sheet lent start none other. retired.same_rewritten sheet none other lent start;
      same_comparison = retired.same_comparison;
      lawful = retired.lawful;
      same_reading = λ c bs other g. retired.same_reading c other g bs;
      same_order = λ c a b other g. retired.same_order c other g a b;
      int96_type = retired.int96_type;
      int96_read = λ c bs int96. retired.int96_read c int96 bs;
      int96_ordered = λ c a b int96. retired.int96_ordered c int96 a b;
      plain_refused = sheet.plain_refused;
      plain_accepted = sheet.plain_accepted;
      unknown_refused = sheet.unknown_refused;
      unknown_accepted = sheet.unknown_accepted;
      nine_first = sheet.nine_first;
      eight_first = sheet.eight_first;
      conversion = conversion;
    }

-- R-11 ---------------------------------------------------------------------------------------------------------------------

pub request11 : Request11
request11 =
    record {
      listed = terminals.listed;
      same_list = terminals.same_list;
      not_listed = terminals.not_listed;
      never_listed = terminals.never_listed;
      geometry = terminals.geometry;
      geography = terminals.geography;
      no_converted = terminals.no_converted;
      kinds = terminals.kinds;
      rewritten = terminals.rewritten;
      early = terminals.early;
      answered = retired.any_answered;
      geometry_type = terminals.geometry_type;
      geography_type = terminals.geography_type;
      never_type = terminals.never_type;
      early_type = terminals.early_type;
      any_value = λ c bs g. terminals.any_value c g bs;
      no_order = λ c a b g. terminals.no_order c g a b;
      karney = sheet.karney;
      edge_5 = sheet.edge_5;
      geometry_edge = sheet.geometry_edge;
      utf8_beside = sheet.utf8_beside;
      code_15 = sheet.code_15;
      before = sheet.karney_before;
      boxes = boxes;
    }
