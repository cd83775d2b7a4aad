-- What each node matches, as the code has it and read from that again.
use mathlib.Core.Path.{◌≡◌, refl, sym, ap, ◌∙◌}
use mathlib.Core.Bool.{true}
use mathlib.Core.List.{List, ◌++◌, map}
use mathlib.Core.Option.{Option, none, some}
use Prim.Native.Nat.{ℕ, zero, suc, ◌+◌, ◌*◌, ◌-◌, ◌≤◌, ◌<◌}
use native.Mathlib.Decide.{dec_lt}
use native.Mathlib.Omega.{arith}
use lib.ListN.{length, get_or, take, replicate, length-append, length-map, length-replicate, get_or-append, get_or-map, get_or-eq_default}
use lib.Seq.{ext_get_or, take_at, get_or-append-add}
use Rattle.sheet.specs.Block.{most_nodes, slots_in_block, block_count, total_of}
use Rattle.sheet.specs.Slot.{slots, reaches}
use Rattle.sheet.specs.Opening.{open_of}
use Rattle.sheet.proofs.SlotLaws.{slot_start_within, reaches_true, block_count_most}
use Rattle.sheet.proofs.HeaderLaws.{length_right_most}
use Rattle.sheet.proofs.OpeningLaws.{open_of_blocks, open_of_within, open_of_total, open_of_most}
use Rattle.std.specs.Prelude.{Ok, Option as Found, Some, None}
use Rattle.tree.specs.Tree.{Tree}
use Rattle.tree.specs.Reading.{tree_of}
use Rattle.tree.specs.Judgement.{judgement_of}
use Rattle.tree.proofs.JudgementLaws.{lawful_opened, judged_lawful, judged_total, judged_listing, tree_size}
use Rattle.matching.specs.Matching.{matching}
use Rattle.matching.specs.declared.fields.Match.{Match}
use Rattle.matching.specs.Outcome.{held_of, padded, matches_of}
use Rattle.matching.specs.Steps.{NodeNamed, Named}
use Rattle.matching.proofs.MatchingLaws.{length_matching, matching_within}
use Rattle.differences.specs.Steps.{match_in, Reached, Names, Numbered, Lists}
use Rattle.differences.proofs.NodeStepLaws.{match_in_at}

-- ---- an accepted sheet

module _ (edition : ℕ) (b : List ℕ) (n : ℕ) (judged : judgement_of edition b ≡ Ok n) where
  opened : (t : ℕ) × (open_of edition b ≡ Ok t)
  opened = lawful_opened edition b (judged_lawful edition b n judged).0

  total_is : n ≡ total_of b
  total_is = judged_total edition b n judged

  opened_total : opened.0 ≡ total_of b
  opened_total = open_of_total edition b opened.0 opened.1

  -- its bytes reach every node's slot
  pub reached_all : Reached b n
  reached_all = record {
    total = total_is;
    most = omega (arith, total_is, opened_total, open_of_most edition b opened.0 opened.1);
    reached = λ k h. there k (omega (arith, h, total_is, opened_total, open_of_within edition b opened.0 opened.1));
  }
    where
      there : (k : ℕ) → k < slots_in_block * block_count b → reaches b k ≡ true
      there k h =
          reaches_true b k (omega (arith, block_count_most b (length_right_most (length b) (open_of_blocks edition b opened.0 opened.1).length_right_lem))) (slot_start_within b k h)

-- ---- what nodes match, as the code has it

match_in_held : (o : Option Match) → match_in (held_of o) ≡ o
match_in_held none = refl
match_in_held (some m) = refl

module _ (ms : List (Option Match)) where
  -- what node k matches
  nones : (n k : ℕ) → ◌≡◌ {A = Found Match} (get_or (replicate n None) k None) None
  nones zero k = refl
  nones (suc n) zero = refl
  nones (suc n) (suc k) = nones n k

  abbrev behind : List (Found Match)
  behind = replicate (most_nodes - length (map held_of ms)) None

  found_at : (k : ℕ) → get_or (padded (map held_of ms)) k None ≡ held_of (get_or ms k none)
  unfolding padded
  found_at k = cases (dec_lt k (length ms))
    where
      cases : Dec (k < length ms) → get_or (map held_of ms ++ behind) k None ≡ held_of (get_or ms k none)
      cases (yes h) = get_or-append (map held_of ms) _ None k (omega (arith, h, length-map ms held_of)) ∙ get_or-map held_of ms k none
      cases (no h) =
          let past : k ≡ length (map held_of ms) + (k - length (map held_of ms)) = omega (arith, h, length-map ms held_of) in
          ap (λ (i : ℕ). get_or (map held_of ms ++ behind) i None) past
          ∙ get_or-append-add (map held_of ms) behind (k - length (map held_of ms)) None
          ∙ nones (most_nodes - length (map held_of ms)) (k - length (map held_of ms))
          ∙ sym (ap held_of (get_or-eq_default ms none {n = k} (omega (arith, h))))

  -- it is read again
  pub found_read : map match_in (take (length ms) (padded (map held_of ms))) ≡ ms
  unfolding padded
  found_read =
      let front = take_at (map held_of ms) behind (length ms) (length-map ms held_of) in
      ap (map match_in) front
      ∙ ext_get_or none (map match_in (map held_of ms)) ms (length-map (map held_of ms) match_in ∙ length-map ms held_of)
      (λ k h. match_in_at (map held_of ms) k ∙ ap match_in (get_or-map held_of ms k none) ∙ match_in_held (get_or ms k none))

  long_found : length ms ≤ most_nodes → length (padded (map held_of ms)) ≡ most_nodes
  unfolding padded
  long_found few =
      length-append (map held_of ms) _
      ∙ omega (arith, length-map ms held_of, few, length-replicate {A = Found Match} (most_nodes - length (map held_of ms)) None)

  -- and names nodes of a sheet that has those matched
  module _ (b : List ℕ) (n : ℕ) (reached : Reached b n) (within : (k : ℕ) (m : Match) → get_or ms k none ≡ some m → m.number < n) where
    names_at : (k : ℕ) → Names b (get_or (padded (map held_of ms)) k None)
    names_at k = rw (found_at k) (cases (get_or ms k none) refl)
      where
        cases : (o : Option Match) → get_or ms k none ≡ o → Names b (held_of o)
        cases none e = tt
        cases (some m) e = (reached.reached m.number (within k m e), omega (arith, within k m e, reached.total))

-- ---- two accepted sheets

module _ (edition : ℕ) (first second : List ℕ) (t u : ℕ) (one : judgement_of edition first ≡ Ok t) (two : judgement_of edition second ≡ Ok u) where
  abbrev ours : Tree
  ours = tree_of (slots first)

  abbrev theirs : Tree
  theirs = tree_of (slots second)

  nodes_are : length (matching ours theirs) ≡ t
  nodes_are = length_matching ours theirs ∙ tree_size edition first t one

  few_nodes : length (matching ours theirs) ≤ most_nodes
  few_nodes = omega (arith, nodes_are, (reached_all edition first t one).most)

  pub numbered_both : Numbered first second t u (matches_of first second)
  unfolding matches_of
  numbered_both = record {
    one = reached_all edition first t one;
    other = reached_all edition second u two;
    long = long_found (matching ours theirs) few_nodes;
    names = names_at (matching ours theirs) second u (reached_all edition second u two)
        (λ k m e. omega (arith, matching_within ours theirs k e, tree_size edition second u two));
  }

  pub lists_both : Lists first second t (matches_of first second)
  unfolding matches_of
  lists_both = record {
    is = ap (λ (n : ℕ). map match_in (take n (padded (map held_of (matching ours theirs))))) (sym nodes_are) ∙ found_read (matching ours theirs);
    one = judged_listing edition first t one;
    other = judged_listing edition second u two;
  }

-- the nodes that are matched are few
pub found_named : (first second : List ℕ) (t u : ℕ) (found : List (Found Match)) → Numbered first second t u found → Named most_nodes found
found_named first second t u found n = record { long = n.long; named_at = λ k. few (get_or found k None) (n.names k) }
  where
    few : (x : Found Match) → Names second x → NodeNamed most_nodes x
    few None w = tt
    few (Some m) w = omega (arith, w.1, n.other.total, n.other.most)
