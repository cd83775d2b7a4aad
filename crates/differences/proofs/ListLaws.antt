-- The list of two sheets, from what nodes match and what is marked.
use mathlib.Core.Path.{◌≡◌, refl, sym, ap, ap₂, ◌∙◌}
use mathlib.Core.Bool.{Bool, false, cond}
use mathlib.Core.List.{List, [], ◌∷◌, ◌++◌, map}
use mathlib.Core.Option.{Option, none}
use Prim.Native.Nat.{ℕ, suc, ◌+◌, ◌<◌}
use native.Mathlib.Omega.{arith}
use lib.ListN.{length, get_or, take}
use lib.Seq.{get_or-take}
use Rattle.sheet.specs.Slot.{slots}
use Rattle.sheet.proofs.SlotLaws.{slots_length}
use Rattle.tree.specs.Tree.{SlotBytes}
use Rattle.tree.specs.Reading.{tree_of}
use Rattle.matching.specs.Matching.{matching}
use Rattle.matching.specs.declared.fields.Match.{Match}
use Rattle.std.specs.Prelude.{Option as Found, None}
use Rattle.differences.specs.Entry.{entry, ONLY_SECOND}
use Rattle.differences.specs.Differences.{node_entries, first_entries, is_matched, second_entries, list_of, differences}
use Rattle.differences.specs.Outcome.{list_for}
use Rattle.differences.specs.Steps.{match_in, Numbered, Lists, Marks, unmarked_entries}
use Rattle.differences.proofs.NodeStepLaws.{match_in_at}

-- matchings that are the same at each node make the same entries
first_entries_same : (others : List SlotBytes) (ms ns : List (Option Match)) (k : ℕ) (ss : List SlotBytes)
    → ((i : ℕ) → i < k + length ss → get_or ms i none ≡ get_or ns i none) → first_entries others ms k ss ≡ first_entries others ns k ss
unfolding first_entries
first_entries_same others ms ns k [] e = refl
first_entries_same others ms ns k (s ∷ ss) e =
    ap₂ ◌++◌ (ap (node_entries others k s) (e k (omega arith))) (first_entries_same others ms ns (suc k) ss (λ i h. e i (omega arith)))

-- the second's entries by what is marked
unmarked_is : (marks : List Bool) (ms : List (Option Match)) (j : ℕ) (ss : List SlotBytes)
    → ((i : ℕ) → i < j + length ss → get_or marks i false ≡ is_matched i ms) → unmarked_entries marks j ss ≡ second_entries ms j ss
unfolding unmarked_entries second_entries
unmarked_is marks ms j [] e = refl
unmarked_is marks ms j (s ∷ ss) e =
    ap₂ ◌++◌ (ap (λ b. cond b [] (entry ONLY_SECOND j [] s ∷ [])) (e j (omega arith)))
    (unmarked_is marks ms (suc j) ss (λ i h. e i (omega (arith, h))))

-- ---- the list

module _ (first second : List ℕ) (nodes others : ℕ) (found : List (Found Match)) (marks : List Bool) (n : Numbered first second nodes others found) (l : Lists first second nodes found) where
  abbrev ms : List (Option Match)
  ms = matching (tree_of (slots first)) (tree_of (slots second))

  -- what is said of the nodes that there are
  firsts : (i : ℕ) → i < 0 + length (slots first) → get_or ms i none ≡ get_or (map match_in found) i none
  firsts i h =
      ap (λ (os : List (Option Match)). get_or os i none) (sym l.is)
      ∙ match_in_at (take nodes found) i
      ∙ ap match_in (get_or-take nodes found i None (omega (arith, h, slots_length first, n.one.total)))
      ∙ sym (match_in_at found i)

  module _ (m : Marks (take nodes found) marks) where
    seconds : (i : ℕ) → i < 0 + length (slots second) → get_or marks i false ≡ is_matched i ms
    seconds i h =
        m.mark_at i (omega (arith, h, slots_length second, n.other.total, n.other.most))
        ∙ ap (is_matched i) l.is

    pub list_is : list_for first second ≡ first_entries (slots second) (map match_in found) 0 (slots first) ++ unmarked_entries marks 0 (slots second)
    unfolding list_for differences list_of
    list_is =
        ap₂ (λ (ones theirs : List SlotBytes). first_entries theirs ms 0 ones ++ second_entries ms 0 theirs) l.one l.other
        ∙ ap₂ ◌++◌ (first_entries_same (slots second) ms (map match_in found) 0 (slots first) firsts) (sym (unmarked_is marks ms 0 (slots second) seconds))
