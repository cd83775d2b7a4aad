-- What a call for a sheet or a slot ends with is the first of the paper's refusals that holds, or its result.
use Prim.Native.Nat.{ℕ, zero, suc, ◌+◌, ◌*◌}
use mathlib.Core.Path.{◌≡◌, refl, sym, ap, ap₂, ◌∙◌}
use mathlib.Core.Bool.{Bool, true, false, cond, not, ◌&&◌}
use mathlib.Core.List.{List, [], ◌∷◌, ◌++◌, append-nil, append_assoc, map}
use native.Mathlib.Nat.{add-zero, zero-add, add-suc, suc-add}
use native.Mathlib.Omega.{arith}
use borrow.Author.Tests.{lt-ltb, le-ltb, leb-true, leb-false}
use lib.Dec.{leb, ltb}
use lib.ListN.{length}
use Rattle.std.specs.Prelude.{Result}
use Rattle.refusal.specs.Outcome.{Outcome, given, refused, refusal, short_output, counted}
use Rattle.edition.specs.Editions.{is_known}
use Rattle.sheet.specs.Block.{slots_in_block, block_count, total_of}
use Rattle.sheet.specs.First.{first_wrong_from, first_wrong}
use Rattle.sheet.specs.Header.{length_right, header_right}
use Rattle.sheet.specs.Check.{check_right}
use Rattle.sheet.specs.Sound.{slot_right}
use Rattle.sheet.specs.Slot.{slots}
use Rattle.sheet.specs.Opening as opened
use Rattle.sheet.specs.Opening.{at_first, open_of}
use Rattle.sheet.proofs.OpeningLaws.{refused_other, open_of_unknown}
use Rattle.tree.specs.Annotated.{rule9, rule10, rule11}
use Rattle.tree.specs.Tree.{SlotBytes, Tree, Fields, node, empty, field, size, depths, most_depth}
use Rattle.tree.specs.Rules.{under_map_of, standing_below, rule8, rule12, rule13}
use Rattle.tree.specs.Faults.{broken, faults, run_faults}
use Rattle.tree.specs.OpenPlaces.{open_places, is_no_place}
use Rattle.tree.specs.Reading.{tree_of}
use Rattle.tree.specs.Judgement.{or_else, left_over, missing, first_fault, deepness, too_deep, unlawful, tree_refusal, judged_as, judgement, judged_nodes, judgement_of}
use Rattle.tree.specs.declared.standing.Standing.{Standing}
use Rattle.tree.specs.declared.standing.Standing.TheVariants.{Root}
use Rattle.tree.proofs.FaultLaws.{first_fault_append}
use Rattle.tree.proofs.JudgingLaws.{length_faults}
use Rattle.tree.proofs.JudgementLaws.{judgement_refused}
use Rattle.differences.specs.Outcome.{list_for, compare_outcome, outcome_of}
use Rattle.refusal.specs.declared.answers.Fault.{Fault}
use Rattle.differences.proofs.OutcomeLaws.{compared_by, compared_is}
use Rattle.laws.proofs.BoolLaws.{by_test}
use Rattle.annotation.specs.Outcome as annotation
use Rattle.annotation.specs.Kinds.{kind_of}
use Rattle.annotation.specs.Rewriting as slot_rewriting
use Rattle.annotation.specs.Rewriting.{written_of}
use Rattle.annotation.specs.Rule9 as nine
use Rattle.annotation.specs.Rule10 as ten
use Rattle.annotation.specs.Rule11 as eleven
use Rattle.annotation.specs.declared.slot.Annotated.{Annotated}
use Rattle.schema.specs.Outcome as schema
use Rattle.schema.specs.Rewriting.{rewrite_answer, rewrite_outcome}
use mathlib.Core.Option.{Option, none, some}
use Rattle.text.specs.Placing.{placed_text}
use Rattle.refusal.specs.Outcome.{Counted, Verdict}
use Rattle.std.specs.Prelude.{Ok, Err}
use Rattle.schema_text.specs.Rows.{rows_text, rows_text_of, refusal_line, answer_text}
use Rattle.schema_text.specs.Making.{made, made_in}
use Rattle.refusal.specs.declared.answers.Refusal.{Refusal}
use Rattle.demands.specs.Refusals.{unsided, Ground, ground, first, none as noneHolds, each_from, each, opening_grounds, left_over_grounds, missing_ground, deep_grounds, node_grounds, rule_grounds, run_grounds, tree_grounds, judging_grounds, resolving_grounds, rewriting_grounds, comparing_grounds, slot_grounds, rows_text_grounds, short_for}

-- lists of refusals ----------------------------------------------------------------------------------------------------------------

-- the refusal of a call, or what another ends with
abbrev pub and_then : {A B : Type 0} → Outcome A → Outcome B → Outcome B
and_then (given a) e = e
and_then (refused r) e = refused r

pub first_append : {A : Type 0} (gs hs : List Ground) (a : A) → first (gs ++ hs) a ≡ and_then (first gs a) (first hs a)
unfolding first
first_append [] hs a = refl
first_append (g ∷ gs) hs a = by_test g.holds (λ e. rw e) (λ e. rw e (first_append gs hs a))

-- what holds at no place, and what holds first at one
module _ (number : ℕ) (right holds : ℕ → Bool) (opposite : (k : ℕ) → holds k ≡ not (right k)) where
  first_each : {A : Type 0} (n k : ℕ) (a : A) → first (each_from number holds k n) a ≡ cond (ltb (first_wrong_from right k n) (k + n)) (refused (refusal number (first_wrong_from right k n))) (given a)
  unfolding first each_from first_wrong_from
  first_each zero k a = rw (add-zero, le-ltb k k (omega arith))
  first_each (suc n) k a =
      by_test (right k)
      (λ e. rw (opposite k, e, add-suc, ← suc-add) (first_each n (suc k) a))
      (λ e. rw (opposite k, e, lt-ltb k (k + suc n) (omega arith)))

  none_each : (n k : ℕ) → noneHolds (each_from number holds k n) ≡ not (ltb (first_wrong_from right k n) (k + n))
  unfolding noneHolds each_from first_wrong_from
  none_each zero k = rw (add-zero, le-ltb k k (omega arith))
  none_each (suc n) k =
      by_test (right k)
      (λ e. rw (opposite k, e, add-suc, ← suc-add) (none_each n (suc k)))
      (λ e. rw (opposite k, e, lt-ltb k (k + suc n) (omega arith)))

not_not : (b : Bool) → b ≡ not (not b)
not_not true = refl
not_not false = refl

none_all : (number n : ℕ) (right holds : ℕ → Bool) → ((k : ℕ) → holds k ≡ not (right k)) → noneHolds (each number holds n) ≡ not (ltb (first_wrong right n) n)
unfolding first_wrong
none_all number n right holds opposite = none_each number right holds opposite n 0 ∙ ap (λ (m : ℕ). not (ltb (first_wrong_from right 0 n) m)) (zero-add n)

-- opening --------------------------------------------------------------------------------------------------------------------------

-- one refusal at each place, and others behind it
each_then : {A : Type 0} (number n : ℕ) (right holds : ℕ → Bool) → ((k : ℕ) → holds k ≡ not (right k)) → (gs : List Ground) (a : A) → first (each number holds n ++ gs) a ≡ cond (ltb (first_wrong right n) n) (refused (refusal number (first_wrong right n))) (first gs a)
unfolding first_wrong
each_then {A} number n right holds opposite gs a =
    first_append (each number holds n) gs a
    ∙ ap (λ (e : Outcome A). and_then e (first gs a)) (first_each number right holds opposite n 0 a ∙ ap (λ (m : ℕ). cond (ltb (first_wrong_from right 0 n) m) (refused (refusal number (first_wrong_from right 0 n))) (given a)) (zero-add n))
    ∙ either (ltb (first_wrong_from right 0 n) n)
  where
    either : (b : Bool) → and_then (cond b (refused (refusal number (first_wrong_from right 0 n))) (given a)) (first gs a) ≡ cond b (refused (refusal number (first_wrong_from right 0 n))) (first gs a)
    either true = refl
    either false = refl

opened_first : (number n : ℕ) (right : ℕ → Bool) (next : Counted) (gs : List Ground) (a : ℕ) → counted next ≡ first gs a → counted (at_first right n number next) ≡ first (each number (λ k. not (right k)) n ++ gs) a
unfolding at_first
opened_first number n right next gs a rest = either (ltb (first_wrong right n) n) ∙ sym (each_then number n right (λ k. not (right k)) (λ k. refl) gs a)
  where
    either : (b : Bool) → counted (cond b (Err (refusal number (first_wrong right n))) next) ≡ cond b (refused (refusal number (first_wrong right n))) (first gs a)
    either true = refl
    either false = rest

-- 21 and 1 to 4
pub opening_first : (edition : ℕ) (sheet : List ℕ) → counted (open_of edition sheet) ≡ first (opening_grounds edition sheet) (total_of sheet)
unfolding open_of first
opening_first edition sheet = by_edition (is_known edition)
  where
    checks : List Ground
    checks = each 2 (λ b. not (check_right sheet b)) (block_count sheet)

    headers : List Ground
    headers = each 3 (λ b. not (header_right sheet b)) (block_count sheet)

    unsound : List Ground
    unsound = each 4 (λ k. not (slot_right edition sheet k)) (slots_in_block * block_count sheet)

    slots_opened : Counted
    slots_opened = at_first (slot_right edition sheet) (slots_in_block * block_count sheet) 4 (Ok (total_of sheet))

    headers_opened : Counted
    headers_opened = at_first (header_right sheet) (block_count sheet) 3 slots_opened

    behind : counted (at_first (check_right sheet) (block_count sheet) 2 headers_opened) ≡ first ((checks ++ headers) ++ unsound) (total_of sheet)
    behind =
        opened_first 2 (block_count sheet) (check_right sheet) headers_opened (headers ++ unsound) (total_of sheet)
        (opened_first 3 (block_count sheet) (header_right sheet) slots_opened unsound (total_of sheet)
        (opened_first 4 (slots_in_block * block_count sheet) (slot_right edition sheet) (Ok (total_of sheet)) [] (total_of sheet) refl
        ∙ ap (λ (gs : List Ground). first gs (total_of sheet)) (append-nil unsound)))
        ∙ ap (λ (gs : List Ground). first gs (total_of sheet)) (sym (append_assoc checks headers unsound))

    by_length : (b : Bool) → counted (cond b (at_first (check_right sheet) (block_count sheet) 2 headers_opened) (Err (refusal 1 0))) ≡ cond (not b) (refused (refusal 1 0)) (first ((checks ++ headers) ++ unsound) (total_of sheet))
    by_length true = behind
    by_length false = refl

    by_edition : (b : Bool)
        → counted (cond b (cond (length_right (length sheet)) (at_first (check_right sheet) (block_count sheet) 2 headers_opened) (Err (refusal 1 0))) (Err (refusal 21 0)))
        ≡ cond (not b) (refused (refusal 21 0)) (cond (not (length_right (length sheet))) (refused (refusal 1 0)) (first ((checks ++ headers) ++ unsound) (total_of sheet)))
    by_edition true = by_length (length_right (length sheet))
    by_edition false = refl

-- the tree -------------------------------------------------------------------------------------------------------------------------

-- what judging ends with, for a result
abbrev judging_end : Verdict → ℕ → Outcome ℕ
judging_end (Ok _) a = given a
judging_end (Err r) a = refused r

end_or_else : (v w : Verdict) (a : ℕ) → judging_end (or_else v w) a ≡ and_then (judging_end v a) (judging_end w a)
unfolding or_else
end_or_else (Ok _) w a = refl
end_or_else (Err r) w a = refl

-- two parts one behind the other
end_both : (v w : Verdict) (gs hs : List Ground) (a : ℕ) → judging_end v a ≡ first gs a → judging_end w a ≡ first hs a → judging_end (or_else v w) a ≡ first (gs ++ hs) a
end_both v w gs hs a e f = end_or_else v w a ∙ rw (e, f) (sym (first_append gs hs a))

-- 7
deep_first : (ds : List ℕ) (k a : ℕ) → judging_end (first_fault k (map deepness ds)) a ≡ first (deep_grounds k ds) a
unfolding first_fault deepness first deep_grounds
deep_first [] k a = refl
deep_first (d ∷ ds) k a =
    by_test (leb d most_depth) (λ e. rw (e, le-ltb 32 d (leb-true d most_depth e)) (deep_first ds (suc k) a))
    (λ e. rw (e, lt-ltb 32 d (leb-false d most_depth e)))

-- 8 to 13
node_first : (edition : ℕ) (k : ℕ) (p : Standing) (s : SlotBytes) (fs : Fields) (ns : List ℕ) (gs : List Ground) (a : ℕ) → judging_end (first_fault (suc k) ns) a ≡ first gs a → judging_end (first_fault k (broken edition p s fs ∷ ns)) a ≡ first (node_grounds edition k p s fs ++ gs) a
unfolding first_fault broken first
node_first edition k p s fs ns gs a rest =
    by_test (rule8 p s fs)
    (λ e. by_test (rule9 s)
    (λ f. by_test (rule10 edition (under_map_of p) s)
    (λ g. by_test (rule11 edition (under_map_of p) s)
    (λ h. by_test (rule12 p s fs)
    (λ i. by_test (rule13 p s fs) (λ j. rw (e, f, g, h, i, j) rest) (λ j. rw (e, f, g, h, i, j)))
    (λ i. rw (e, f, g, h, i)))
    (λ h. rw (e, f, g, h)))
    (λ g. rw (e, f, g)))
    (λ f. rw (e, f)))
    (λ e. rw e)

mutual
  unfolding faults rule_grounds first_fault first

  rules_first : (edition : ℕ) (t : Tree) (p : Standing) (k a : ℕ) → judging_end (first_fault k (faults edition p t)) a ≡ first (rule_grounds edition k p t) a
  rules_first edition (node s fs) p k a =
      node_first edition k p s fs (run_faults edition (standing_below p s) fs) (run_grounds edition (suc k) (standing_below p s) fs) a (run_first edition fs (standing_below p s) (suc k) a)

  run_first : (edition : ℕ) (fs : Fields) (p : Standing) (k a : ℕ) → judging_end (first_fault k (run_faults edition p fs)) a ≡ first (run_grounds edition k p fs) a
  run_first edition empty p k a = refl
  run_first edition (field t fs) p k a =
      ap (λ (v : Verdict). judging_end v a) (first_fault_append k (faults edition p t) (run_faults edition p fs) ∙ ap (λ (n : ℕ). or_else (first_fault k (faults edition p t)) (first_fault (k + n) (run_faults edition p fs))) (length_faults edition t p))
      ∙ end_both (first_fault k (faults edition p t)) (first_fault (k + size t) (run_faults edition p fs)) (rule_grounds edition k p t) (run_grounds edition (k + size t) p fs) a (rules_first edition t p k a) (run_first edition fs p (k + size t) a)

-- 5 and 6, and what follows
places_first : (ss : List SlotBytes) (rest : Verdict) (gs : List Ground) (a : ℕ) → judging_end rest a ≡ first gs a → judging_end (or_else (left_over ss) (or_else (missing ss) rest)) a ≡ first (missing_ground ss ∷ (left_over_grounds ss ++ gs)) a
unfolding left_over missing first or_else
places_first ss rest gs a e =
    either (ltb (first_wrong right n) n) (is_no_place (open_places ss n))
    ∙ sym (rw (none_left, each_then 6 n right (λ k. is_no_place (open_places ss k)) opposite gs a))
  where
    n : ℕ
    n = length ss

    right : ℕ → Bool
    right k = not (is_no_place (open_places ss k))

    opposite : (k : ℕ) → is_no_place (open_places ss k) ≡ not (right k)
    opposite k = not_not (is_no_place (open_places ss k))

    none_left : noneHolds (left_over_grounds ss) ≡ not (ltb (first_wrong right n) n)
    none_left = none_all 6 n right (λ k. is_no_place (open_places ss k)) opposite

    either : (some full : Bool) → judging_end (or_else (cond some (Err (refusal 6 (first_wrong right n))) (Ok tt)) (or_else (cond full (Ok tt) (Err (refusal 5 n))) rest)) a ≡ cond (not some && not full) (refused (refusal 5 n)) (cond some (refused (refusal 6 (first_wrong right n))) (first gs a))
    either true full = refl
    either false true = e
    either false false = refl

-- 5 to 13
pub tree_first : (edition : ℕ) (ss : List SlotBytes) (a : ℕ) → judging_end (tree_refusal edition ss) a ≡ first (tree_grounds edition ss) a
unfolding tree_refusal too_deep unlawful
tree_first edition ss a =
    places_first ss (or_else (too_deep (tree_of ss)) (unlawful edition (tree_of ss))) (deep_grounds 0 (depths 0 (tree_of ss)) ++ rule_grounds edition 0 Root (tree_of ss)) a
    (end_both (too_deep (tree_of ss)) (unlawful edition (tree_of ss)) (deep_grounds 0 (depths 0 (tree_of ss))) (rule_grounds edition 0 Root (tree_of ss)) a (deep_first (depths 0 (tree_of ss)) 0 a) (rules_first edition (tree_of ss) Root 0 a))
    ∙ ap (λ (gs : List Ground). first (missing_ground ss ∷ gs) a) (sym (append_assoc (left_over_grounds ss) (deep_grounds 0 (depths 0 (tree_of ss))) (rule_grounds edition 0 Root (tree_of ss))))

-- 21 and 1 to 13
judgement_first : (edition : ℕ) (sheet : List ℕ) → judging_end (judgement edition sheet) (total_of sheet) ≡ first (judging_grounds edition sheet) (total_of sheet)
unfolding judgement judged_as opened.outcome opened.outcome_of
judgement_first edition sheet =
    behind (open_of edition sheet)
    ∙ ap (λ (e : Outcome ℕ). and_then e (first (tree_grounds edition (slots sheet)) (total_of sheet))) (opening_first edition sheet)
    ∙ sym (first_append (opening_grounds edition sheet) (tree_grounds edition (slots sheet)) (total_of sheet))
  where
    behind : (o : Counted) → judging_end (judged_as edition (opened.outcome_of sheet o)) (total_of sheet) ≡ and_then (counted o) (first (tree_grounds edition (slots sheet)) (total_of sheet))
    behind (Ok t) = tree_first edition (slots sheet) (total_of sheet)
    behind (Err r) = refl

-- and so for any result: what is refused does not go by it
other_result : (gs : List Ground) (m n : ℕ) (v : Verdict) → judging_end v m ≡ first gs m → judging_end v n ≡ first gs n
unfolding first
other_result [] m n (Ok _) e = refl
other_result [] m n (Err r) e = absurd (let z : ◌≡◌ {A = ℕ} 0 1 = cc in omega arith)
other_result (g ∷ gs) m n v e = by_test g.holds (λ h. held v h (rw h at e)) (λ h. rw h (other_result gs m n v (rw h at e)))
  where
    held : (v : Verdict) → g.holds ≡ true → judging_end v m ≡ refused (refusal g.number g.place) → judging_end v n ≡ cond g.holds (refused (refusal g.number g.place)) (first gs n)
    held (Ok _) h f = absurd (let z : ◌≡◌ {A = ℕ} 0 1 = cc in omega arith)
    held (Err r) h f = rw h f

judgement_end : (edition : ℕ) (sheet : List ℕ) (n : ℕ) → judging_end (judgement edition sheet) n ≡ first (judging_grounds edition sheet) n
judgement_end edition sheet n = other_result (judging_grounds edition sheet) (total_of sheet) n (judgement edition sheet) (judgement_first edition sheet)

pub judging_first : (edition : ℕ) (sheet : List ℕ) → counted (judgement_of edition sheet) ≡ first (judging_grounds edition sheet) (total_of sheet)
unfolding judgement_of judged_nodes
judging_first edition sheet = by_verdict (judgement edition sheet) ∙ judgement_first edition sheet
  where
    by_verdict : (v : Verdict) → counted (judged_nodes v (total_of sheet)) ≡ judging_end v (total_of sheet)
    by_verdict (Ok _) = refl
    by_verdict (Err r) = refl

-- 14 behind them ---------------------------------------------------------------------------------------------------------------------

pub resolving_first : (edition : ℕ) (sheet : List ℕ) (lent : ℕ) → counted (schema.outcome edition sheet lent) ≡ first (resolving_grounds edition sheet lent) (total_of sheet)
unfolding schema.outcome schema.answer first
resolving_first edition sheet lent =
    behind (judgement edition sheet)
    ∙ ap (λ (e : Outcome ℕ). and_then e (first (ground 14 0 (ltb lent (11 * total_of sheet)) ∷ []) (total_of sheet))) (judgement_first edition sheet)
    ∙ sym (first_append (judging_grounds edition sheet) (ground 14 0 (ltb lent (11 * total_of sheet)) ∷ []) (total_of sheet))
  where
    behind : (v : Verdict) → counted (schema.answer v (total_of sheet) lent) ≡ and_then (judging_end v (total_of sheet)) (first (ground 14 0 (ltb lent (11 * total_of sheet)) ∷ []) (total_of sheet))
    behind (Err r) = refl
    behind (Ok _) = by_test (ltb lent (11 * total_of sheet)) (λ e. rw e) (λ e. rw e)

pub rewriting_first : (edition : ℕ) (sheet : List ℕ) (lent start : ℕ) → counted (rewrite_outcome edition sheet lent start) ≡ first (rewriting_grounds edition sheet lent start) (length sheet)
unfolding rewrite_outcome rewrite_answer first
rewriting_first edition sheet lent start =
    behind (judgement edition sheet)
    ∙ ap (λ (e : Outcome ℕ). and_then e short) (judgement_end edition sheet (length sheet))
    ∙ sym (first_append (judging_grounds edition sheet) grounds (length sheet))
  where
    grounds : List Ground
    grounds = ground 14 0 (ltb lent (start + length sheet)) ∷ ground 14 0 (ltb lent start) ∷ []

    short : Outcome ℕ
    short = first grounds (length sheet)

    -- a sheet that fits starts within the output
    fits_or_not : counted (cond (leb (start + length sheet) lent) (Ok (length sheet)) (Err short_output)) ≡ short
    fits_or_not =
        by_test (leb (start + length sheet) lent)
        (λ e. let l = leb-true (start + length sheet) lent e in rw (e, le-ltb lent (start + length sheet) l, le-ltb lent start (omega (arith, l))))
        (λ e. rw (e, lt-ltb lent (start + length sheet) (leb-false (start + length sheet) lent e)))

    behind : (v : Verdict) → counted (rewrite_answer v (leb (start + length sheet) lent) (length sheet)) ≡ and_then (judging_end v (length sheet)) short
    behind (Err r) = refl
    behind (Ok _) = fits_or_not

-- two sheets ---------------------------------------------------------------------------------------------------------------------------

-- the first sheet's, then the second's, then 14
pub comparing_first : (edition : ℕ) (one two : List ℕ) (lent : ℕ) → unsided (outcome_of (compare_outcome edition one two lent)) ≡ first (comparing_grounds edition one two lent) (length (list_for one two))
comparing_first edition one two lent =
    ap (λ (o : Result ℕ Fault). unsided (outcome_of o)) (compared_is edition one two lent)
    ∙ by_test (is_known edition) (λ k. rw k (known (judgement edition one) (judgement edition two) (ltb lent (148 * n)))) (λ u. rw (u, judgement_refused edition one _ (open_of_unknown edition one u)))
    ∙ ap₂ (λ (v w : Outcome ℕ). and_then (and_then v w) short) (judgement_end edition one n) (judgement_end edition two n)
    ∙ ap (λ (o : Outcome ℕ). and_then o short) (sym (first_append (judging_grounds edition one) (judging_grounds edition two) n))
    ∙ sym (first_append (judging_grounds edition one ++ judging_grounds edition two) (ground 14 0 (ltb lent (148 * n)) ∷ []) n)
  where
    n : ℕ
    n = length (list_for one two)

    short : Outcome ℕ
    short = first (ground 14 0 (ltb lent (148 * n)) ∷ []) n

    known : (v w : Verdict) (s : Bool) → unsided (outcome_of (compared_by true v w s n)) ≡ and_then (and_then (judging_end v n) (judging_end w n)) (first (ground 14 0 s ∷ []) n)
    known (Err r) w s = refl
    known (Ok _) (Err r) s = refl
    known (Ok _) (Ok _) true = unfold first in refl
    known (Ok _) (Ok _) false = unfold first in refl

-- slots --------------------------------------------------------------------------------------------------------------------------------

pub slot_first : (edition : ℕ) (k : ℕ) (n : Annotated) (under : Bool) → annotation.outcome edition k n under ≡ first (slot_grounds edition k n under) (kind_of n under)
unfolding annotation.outcome annotation.resolution_of first
slot_first edition k n under =
    by_test (nine.rule9 n)
    (λ e. by_test (ten.rule10 edition n under) (λ f. by_test (eleven.rule11 edition n under) (λ g. rw (e, f, g)) (λ g. rw (e, f, g))) (λ f. rw (e, f)))
    (λ e. rw e)

pub slot_rewriting_first : (edition : ℕ) (k : ℕ) (n : Annotated) (under : Bool) → slot_rewriting.outcome edition k n under ≡ first (slot_grounds edition k n under) (written_of n under)
unfolding slot_rewriting.outcome slot_rewriting.rewriting_of annotation.resolution_of first
slot_rewriting_first edition k n under =
    by_test (nine.rule9 n)
    (λ e. by_test (ten.rule10 edition n under) (λ f. by_test (eleven.rule11 edition n under) (λ g. rw (e, f, g)) (λ g. rw (e, f, g))) (λ f. rw (e, f)))
    (λ e. rw e)

-- texts ------------------------------------------------------------------------------------------------------------------------------

-- a text that is there fits or not
fits_first : (bytes : List ℕ) (room : ℕ) → counted (made (some bytes) room) ≡ first (short_for (length bytes) room ∷ []) (length bytes)
unfolding made first
fits_first bytes room =
    by_test (leb (0 + length bytes) room)
    (λ e. rw (e, le-ltb room (length bytes) (omega (arith, leb-true (0 + length bytes) room e))))
    (λ e. rw (e, lt-ltb room (length bytes) (omega (arith, leb-false (0 + length bytes) room e))))

pub rows_text_first : (total : ℕ) (numbers : List ℕ) (room : ℕ) → counted (made (rows_text_of total numbers) room) ≡ first (rows_text_grounds total numbers room) (length (rows_text total numbers))
unfolding rows_text_of first made
rows_text_first total numbers room =
    by_test (ltb (length numbers) (11 * total)) (λ e. rw e) (λ e. rw e (fits_first (rows_text total numbers) room))

pub answer_rows_first : (total : ℕ) (numbers : List ℕ) (room : ℕ) → counted (made (answer_text (Ok total) numbers) room) ≡ first (rows_text_grounds total numbers room) (length (rows_text total numbers))
unfolding answer_text
answer_rows_first total numbers room = rows_text_first total numbers room

pub answer_refusal_first : (r : Refusal) (numbers : List ℕ) (room : ℕ) → counted (made (answer_text (Err r) numbers) room) ≡ first (short_for (length (refusal_line r)) room ∷ []) (length (refusal_line r))
unfolding answer_text
answer_refusal_first r numbers room = fits_first (refusal_line r) room

-- a buffer for which a text is too long stays
pub text_left : (may : Option (List ℕ)) (lent : List ℕ) (r : Refusal) → made may (length lent) ≡ Err r → made_in may lent ≡ lent
unfolding made made_in placed_text
text_left none lent r e = refl
text_left (some bytes) lent r e =
    by_test (leb (0 + length bytes) (length lent)) (λ f. absurd (refused_other r (length bytes) (sym (rw f at e)))) (λ f. rw f)
