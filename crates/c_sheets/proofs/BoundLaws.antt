-- Every refusal of a sheet has a number of 1 to 13 or 21, or 14 for an output, and a place of at most 896; T is at most 896,
-- a sheet has at most 65,536 bytes, and two have at most 12,544 differences.
use Prim.Native.Nat.{ℕ, zero, suc, ◌+◌, ◌*◌, ◌≤◌, ◌<◌}
use mathlib.Core.Path.{◌≡◌, refl, sym, ap, ◌∙◌}
use mathlib.Core.Bool.{Bool, true, false, true≢false, cond, not}
use mathlib.Core.List.{List, [], ◌∷◌, map}
use native.Mathlib.Omega.{arith}
use borrow.Author.Tests.{ltb-true}
use lib.Dec.{ltb, leb}
use lib.ListN.{length, length-append, length-map}
use Rattle.refusal.specs.Numbers.{SHEET_LENGTH, BLOCK_CHECK, BLOCK_HEADER, SLOT, SHORT_OUTPUT, UNKNOWN_EDITION, GREATEST}
use Rattle.refusal.specs.Outcome.{refusal, unplaced, short_output}
use Rattle.sheet.specs.Block.{most_bytes, most_nodes, slots_in_block, block_count, total_of}
use Rattle.sheet.specs.Check.{check_right}
use Rattle.sheet.specs.Header.{length_right, header_right}
use Rattle.sheet.specs.First.{first_wrong}
use Rattle.sheet.specs.Opening.{at_first, open_of}
use Rattle.sheet.specs.Slot.{slots}
use Rattle.sheet.specs.Sound.{slot_right}
use Rattle.refusal.specs.Outcome.{Counted, Verdict}
use Rattle.std.specs.Prelude.{Ok, Err}
use Rattle.sheet.proofs.BlockLaws.{blocks_within}
use Rattle.sheet.proofs.HeaderLaws.{length_right_most}
use Rattle.sheet.proofs.OpeningLaws.{open_of_unknown, open_of_blocks, open_of_total, open_of_most, open_of_slots_length}
use Rattle.tree.specs.Annotated.{rule9, rule10, rule11}
use Rattle.tree.specs.Tree.{SlotBytes, Tree, Fields, node, empty, field, listing, listings, size, depths, most_depth}
use Rattle.edition.specs.Editions.{is_known}
use Rattle.tree.specs.Rules.{under_map_of, standing_below, rule8, rule12, rule13}
use Rattle.tree.specs.Faults.{broken, faults, run_faults}
use Rattle.tree.specs.Reading.{trees, first_tree, tree_of}
use Rattle.tree.specs.OpenPlaces.{open_places, is_no_place}
use Rattle.tree.specs.Judgement.{or_else, first_fault, deepness, left_over, missing, too_deep, unlawful, tree_refusal, judgement}
use Rattle.tree.specs.declared.standing.Standing.{Standing}
use Rattle.tree.specs.declared.standing.Standing.TheVariants.{Root}
use Rattle.tree.proofs.TreeLaws.{listings_trees}
use Rattle.tree.proofs.JudgingLaws.{length_depths, length_faults}
use Rattle.tree.proofs.JudgementLaws.{judgement_nodes, judgement_refused, lawful_opened}
use Rattle.schema.specs.Rows.{row_width}
use Rattle.schema.specs.Outcome.{answer, outcome}
use Rattle.schema.specs.Rewriting.{fits, rewrite_answer, rewrite_outcome}
use Rattle.refusal.specs.Bounds.{Bounded, CountedBounded}
use Rattle.differences.specs.Entry.{entry_size}
use Rattle.differences.specs.Outcome.{list_for, compare_outcome}
use Rattle.differences.proofs.OutcomeLaws.{compared_by, compared_is}
use Rattle.differences.proofs.OutputLaws.{entries_most}
use Rattle.c_sheets.specs.Comparison.{ComparedBounded}
use Rattle.laws.proofs.BoolLaws.{by_test}
use Rattle.laws.proofs.MostLaws.{AtMost, at_most_append, at_most_map, cond_most}

-- a verdict whose refusal, if it is one, is within these
abbrev pub VerdictBounded : ℕ → ℕ → Verdict → Type 0
VerdictBounded number place (Ok _) = Unit {0}
VerdictBounded number place (Err r) = Bounded number place r

-- ---- refusals 5 to 13

module _ (number place : ℕ) where
  or_else_bounded : (v w : Verdict) → VerdictBounded number place v → VerdictBounded number place w → VerdictBounded number place (or_else v w)
  unfolding or_else
  or_else_bounded (Ok _) w a b = b
  or_else_bounded (Err r) w a b = a

  -- a fault's place lies in the list
  first_fault_bounded : (ns : List ℕ) (k : ℕ) → AtMost number ns → k + length ns ≤ suc place → VerdictBounded number place (first_fault k ns)
  unfolding first_fault
  first_fault_bounded [] k a h = tt
  first_fault_bounded (zero ∷ ns) k a h = first_fault_bounded ns (suc k) a.1 (omega arith)
  first_fault_bounded (suc n ∷ ns) k a h = record { some_number = omega arith; most_number = a.0; most_place = omega arith }

-- the rules are 8 to 13
broken_most : (edition : ℕ) (p : Standing) (s : SlotBytes) (fs : Fields) → broken edition p s fs ≤ 13
unfolding broken
broken_most edition p s fs =
    cond_most 13 (rule8 p s fs) _ 8
    (cond_most 13 (rule9 s) _ 9
    (cond_most 13 (rule10 edition (under_map_of p) s) _ 10
    (cond_most 13 (rule11 edition (under_map_of p) s) _ 11
    (cond_most 13 (rule12 p s fs) _ 12
    (cond_most 13 (rule13 p s fs) 0 13 (omega arith) (omega arith))
    (omega arith)) (omega arith)) (omega arith)) (omega arith)) (omega arith)

mutual
  unfolding faults

  faults_most : (edition : ℕ) (t : Tree) (p : Standing) → AtMost 13 (faults edition p t)
  faults_most edition (node s fs) p = (broken_most edition p s fs, run_faults_most edition fs (standing_below p s))

  run_faults_most : (edition : ℕ) (fs : Fields) (p : Standing) → AtMost 13 (run_faults edition p fs)
  run_faults_most edition empty p = tt
  run_faults_most edition (field t fs) p = at_most_append 13 (faults edition p t) (run_faults edition p fs) (faults_most edition t p) (run_faults_most edition fs p)

deepness_most : (d : ℕ) → deepness d ≤ 13
unfolding deepness
deepness_most d = cond_most 13 (leb d most_depth) 0 7 (omega arith) (omega arith)

-- the first tree of a run has at most one node more than the run, where the run is empty
first_size : (fs : Fields) → size (first_tree fs) ≤ suc (length (listings fs))
unfolding size first_tree listing
first_size empty = omega arith
first_size (field t fs) = omega (arith, length-append (listing t) (listings fs))

module _ (edition : ℕ) (ss : List SlotBytes) (place : ℕ) (most : length ss ≤ place) where
  size_most : size (tree_of ss) ≤ suc place
  unfolding tree_of
  size_most = omega (arith, first_size (trees ss), ap length (listings_trees ss))

  left_over_bounded : VerdictBounded 13 place (left_over ss)
  unfolding left_over
  left_over_bounded = on (ltb k (length ss)) refl
    where
      k : ℕ
      k = first_wrong (λ (j : ℕ). not (is_no_place (open_places ss j))) (length ss)

      on : (b : Bool) → ltb k (length ss) ≡ b → VerdictBounded 13 place (cond b (Err (refusal 6 k)) (Ok tt))
      on true e = record { some_number = omega arith; most_number = omega arith; most_place = omega (arith, ltb-true k (length ss) e) }
      on false e = tt

  missing_bounded : VerdictBounded 13 place (missing ss)
  unfolding missing
  missing_bounded = on (is_no_place (open_places ss (length ss)))
    where
      on : (b : Bool) → VerdictBounded 13 place (cond b (Ok tt) (Err (refusal 5 (length ss))))
      on true = tt
      on false = record { some_number = omega arith; most_number = omega arith; most_place = most }

  too_deep_bounded : VerdictBounded 13 place (too_deep (tree_of ss))
  unfolding too_deep
  too_deep_bounded =
      first_fault_bounded 13 place (map deepness (depths 0 (tree_of ss))) 0
      (at_most_map 13 deepness (depths 0 (tree_of ss)) deepness_most)
      (omega (arith, size_most, length-map (depths 0 (tree_of ss)) deepness, length_depths (tree_of ss) 0))

  unlawful_bounded : VerdictBounded 13 place (unlawful edition (tree_of ss))
  unfolding unlawful
  unlawful_bounded =
      first_fault_bounded 13 place (faults edition Root (tree_of ss)) 0 (faults_most edition (tree_of ss) Root) (omega (arith, size_most, length_faults edition (tree_of ss) Root))

  tree_refusal_bounded : VerdictBounded 13 place (tree_refusal edition ss)
  unfolding tree_refusal
  tree_refusal_bounded =
      or_else_bounded 13 place (left_over ss) _ left_over_bounded
      (or_else_bounded 13 place (missing ss) _ missing_bounded
      (or_else_bounded 13 place (too_deep (tree_of ss)) _ too_deep_bounded unlawful_bounded))

-- ---- refusals 1 to 4, in a known edition

-- a refusal to open is within these
abbrev OpenedBounded : Counted → Type 0
OpenedBounded (Ok t) = Unit {0}
OpenedBounded (Err r) = Bounded 13 most_nodes r

at_first_bounded : (right : ℕ → Bool) (n number : ℕ) (next : Counted) → n ≤ most_nodes → 0 < number → number ≤ 13 → OpenedBounded next → OpenedBounded (at_first right n number next)
unfolding at_first
at_first_bounded right n number next few some most rest = on (ltb (first_wrong right n) n) refl
  where
    on : (b : Bool) → ltb (first_wrong right n) n ≡ b → OpenedBounded (cond b (Err (refusal number (first_wrong right n))) next)
    on true e = record { some_number = some; most_number = most; most_place = omega (arith, ltb-true (first_wrong right n) n e) }
    on false e = rest

open_of_bounded : (edition : ℕ) (sheet : List ℕ) → is_known edition ≡ true → OpenedBounded (open_of edition sheet)
unfolding open_of
open_of_bounded edition sheet known = rw known (on (length_right (length sheet)) refl)
  where
    on : (b : Bool)
        → length_right (length sheet) ≡ b
        → OpenedBounded
        (cond b
        (at_first (check_right sheet) (block_count sheet) BLOCK_CHECK
        (at_first (header_right sheet) (block_count sheet) BLOCK_HEADER
        (at_first (slot_right edition sheet) (slots_in_block * block_count sheet) SLOT
        (Ok (total_of sheet)))))
        (Err (unplaced SHEET_LENGTH)))
    on false e = record { some_number = omega arith; most_number = omega arith; most_place = omega arith }
    on true e =
        let most : slots_in_block * block_count sheet ≤ most_nodes = omega (arith, length_right_most (length sheet) e, blocks_within sheet) in
        at_first_bounded (check_right sheet) (block_count sheet) BLOCK_CHECK _ (omega arith) (omega arith) (omega arith)
        (at_first_bounded (header_right sheet) (block_count sheet) BLOCK_HEADER _ (omega arith) (omega arith) (omega arith)
        (at_first_bounded (slot_right edition sheet) (slots_in_block * block_count sheet) SLOT _ most (omega arith) (omega arith) tt))

-- ---- what judging, resolving and rewriting answer

-- of refusals 1 to 13, in a known edition
pub known_bounded : (edition : ℕ) (sheet : List ℕ) → is_known edition ≡ true → VerdictBounded 13 most_nodes (judgement edition sheet)
known_bounded edition sheet known = on (open_of edition sheet) refl (open_of_bounded edition sheet known)
  where
    on : (o : Counted) → open_of edition sheet ≡ o → OpenedBounded o → VerdictBounded 13 most_nodes (judgement edition sheet)
    on (Ok t) e p =
        rw (judgement_nodes edition sheet t e) (tree_refusal_bounded edition (slots sheet) most_nodes (omega (arith, open_of_slots_length edition sheet t e, open_of_most edition sheet t e)))
    on (Err r) e p = rw (judgement_refused edition sheet r e) p

widened : (number : ℕ) (v : Verdict) → 13 ≤ number → VerdictBounded 13 most_nodes v → VerdictBounded number most_nodes v
widened number (Ok _) h w = tt
widened number (Err r) h w = record { some_number = w.some_number; most_number = omega (arith, w.most_number); most_place = w.most_place }

-- and with 21, in any
judgement_bounded : (edition : ℕ) (sheet : List ℕ) → VerdictBounded GREATEST most_nodes (judgement edition sheet)
judgement_bounded edition sheet =
    by_test (is_known edition) (λ k. widened GREATEST (judgement edition sheet) (omega arith) (known_bounded edition sheet k))
    (λ u. rw (judgement_refused edition sheet _ (open_of_unknown edition sheet u)) (record { some_number = omega arith; most_number = omega arith; most_place = omega arith }))

module _ (edition : ℕ) (sheet : List ℕ) (lawful : judgement edition sheet ≡ Ok tt) where
  opens : (t : ℕ) × (open_of edition sheet ≡ Ok t)
  opens = lawful_opened edition sheet lawful

  lawful_total : total_of sheet ≤ most_nodes
  lawful_total = omega (arith, open_of_total edition sheet opens.0 opens.1, open_of_most edition sheet opens.0 opens.1)

  lawful_length : length sheet ≤ most_bytes
  lawful_length = length_right_most (length sheet) (open_of_blocks edition sheet opens.0 opens.1).length_right_lem

-- 14 behind a verdict whose refusal has at most such a number
module _ (number : ℕ) (last : SHORT_OUTPUT ≤ number) where
  short : Bounded number most_nodes short_output
  short = record { some_number = omega arith; most_number = last; most_place = omega arith }

  answer_bounded : (v : Verdict) (t lent : ℕ) → VerdictBounded number most_nodes v → (v ≡ Ok tt → t ≤ most_nodes) → CountedBounded most_nodes number most_nodes (answer v t lent)
  unfolding answer
  answer_bounded (Err r) t lent b most = b
  answer_bounded (Ok _) t lent b most = on (ltb lent (row_width * t))
    where
      on : (b : Bool) → CountedBounded most_nodes number most_nodes (cond b (Err short_output) (Ok t))
      on true = short
      on false = most refl

  rewrite_answer_bounded : (v : Verdict) (enough : Bool) (n : ℕ) → VerdictBounded number most_nodes v → (v ≡ Ok tt → n ≤ most_bytes) → CountedBounded most_bytes number most_nodes (rewrite_answer v enough n)
  unfolding rewrite_answer
  rewrite_answer_bounded (Err r) enough n b most = b
  rewrite_answer_bounded (Ok _) true n b most = most refl
  rewrite_answer_bounded (Ok _) false n b most = short

  resolved_as : (edition : ℕ) (sheet : List ℕ) (lent : ℕ) → VerdictBounded number most_nodes (judgement edition sheet) → CountedBounded most_nodes number most_nodes (outcome edition sheet lent)
  unfolding outcome
  resolved_as edition sheet lent b = answer_bounded (judgement edition sheet) (total_of sheet) lent b (lawful_total edition sheet)

  rewritten_as_lem : (edition : ℕ) (sheet : List ℕ) (lent start : ℕ) → VerdictBounded number most_nodes (judgement edition sheet) → CountedBounded most_bytes number most_nodes (rewrite_outcome edition sheet lent start)
  unfolding rewrite_outcome
  rewritten_as_lem edition sheet lent start b = rewrite_answer_bounded (judgement edition sheet) (fits sheet lent start) (length sheet) b (lawful_length edition sheet)

-- in a known edition numbers end at 14
pub resolved_known : (edition : ℕ) (sheet : List ℕ) (lent : ℕ) → is_known edition ≡ true → CountedBounded most_nodes SHORT_OUTPUT most_nodes (outcome edition sheet lent)
resolved_known edition sheet lent known =
    resolved_as SHORT_OUTPUT (omega arith) edition sheet lent (widened SHORT_OUTPUT (judgement edition sheet) (omega arith) (known_bounded edition sheet known))

pub rewritten_known : (edition : ℕ) (sheet : List ℕ) (lent start : ℕ) → is_known edition ≡ true → CountedBounded most_bytes SHORT_OUTPUT most_nodes (rewrite_outcome edition sheet lent start)
rewritten_known edition sheet lent start known =
    rewritten_as_lem SHORT_OUTPUT (omega arith) edition sheet lent start (widened SHORT_OUTPUT (judgement edition sheet) (omega arith) (known_bounded edition sheet known))

-- in any at 21
pub resolved_bounded : (edition : ℕ) (sheet : List ℕ) (lent : ℕ) → CountedBounded most_nodes GREATEST most_nodes (outcome edition sheet lent)
resolved_bounded edition sheet lent = resolved_as GREATEST (omega arith) edition sheet lent (judgement_bounded edition sheet)

pub rewritten_bounded : (edition : ℕ) (sheet : List ℕ) (lent start : ℕ) → CountedBounded most_bytes GREATEST most_nodes (rewrite_outcome edition sheet lent start)
rewritten_bounded edition sheet lent start = rewritten_as_lem GREATEST (omega arith) edition sheet lent start (judgement_bounded edition sheet)

-- there are no more nodes than bytes
nodes_bounded : (c : Counted) → CountedBounded most_nodes GREATEST most_nodes c → CountedBounded most_bytes GREATEST most_nodes c
nodes_bounded (Ok n) b = omega arith
nodes_bounded (Err r) b = b

pub resolved_answered : (edition : ℕ) (sheet : List ℕ) (lent : ℕ) → CountedBounded most_bytes GREATEST most_nodes (outcome edition sheet lent)
resolved_answered edition sheet lent = nodes_bounded (outcome edition sheet lent) (resolved_bounded edition sheet lent)

-- ---- what comparing answers

module _ (edition : ℕ) (first second : List ℕ) (lent number : ℕ) (last : SHORT_OUTPUT ≤ number) where
  -- of the entries of two accepted sheets
  entries_few : judgement edition first ≡ Ok tt → judgement edition second ≡ Ok tt → length (list_for first second) ≤ 14 * most_nodes
  entries_few one two =
      omega (arith, entries_most edition first second one two, lawful_total edition first one, lawful_total edition second two)

  compared_as : (is_known edition ≡ false → UNKNOWN_EDITION ≤ number) → VerdictBounded number most_nodes (judgement edition first) → VerdictBounded number most_nodes (judgement edition second)
      → ComparedBounded (14 * most_nodes) number most_nodes (compare_outcome edition first second lent)
  compared_as unknown a b =
      rw (compared_is edition first second lent)
      (on (is_known edition) refl (judgement edition first) refl a (judgement edition second) refl b (ltb lent (entry_size * length (list_for first second))))
    where
      on : (k : Bool) → is_known edition ≡ k
          → (v : Verdict) → judgement edition first ≡ v → VerdictBounded number most_nodes v
          → (w : Verdict) → judgement edition second ≡ w → VerdictBounded number most_nodes w
          → (short : Bool) → ComparedBounded (14 * most_nodes) number most_nodes (compared_by k v w short (length (list_for first second)))
      on false e v p a w q b s = record { side = omega arith; refusal = record { some_number = omega arith; most_number = omega (arith, unknown e); most_place = omega arith } }
      on true e (Err r) p a w q b s = record { side = omega arith; refusal = a }
      on true e (Ok _) p a (Err r) q b s = record { side = omega arith; refusal = b }
      on true e (Ok _) p a (Ok _) q b true = record { side = omega arith; refusal = short number last }
      on true e (Ok _) p a (Ok _) q b false = entries_few p q

-- in a known edition numbers end at 14
pub compared_known : (edition : ℕ) (first second : List ℕ) (lent : ℕ) → is_known edition ≡ true → ComparedBounded (14 * most_nodes) SHORT_OUTPUT most_nodes (compare_outcome edition first second lent)
compared_known edition first second lent known =
    compared_as edition first second lent SHORT_OUTPUT (omega arith) (λ u. absurd (true≢false (sym known ∙ u)))
    (widened SHORT_OUTPUT (judgement edition first) (omega arith) (known_bounded edition first known))
    (widened SHORT_OUTPUT (judgement edition second) (omega arith) (known_bounded edition second known))

-- in any at 21
pub compared_bounded : (edition : ℕ) (first second : List ℕ) (lent : ℕ) → ComparedBounded (14 * most_nodes) GREATEST most_nodes (compare_outcome edition first second lent)
compared_bounded edition first second lent =
    compared_as edition first second lent GREATEST (omega arith) (λ u. omega arith) (judgement_bounded edition first) (judgement_bounded edition second)
