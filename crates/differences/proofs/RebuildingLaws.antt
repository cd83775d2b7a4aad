-- "From the list and the first sheet, the second can be rebuilt."
use Prim.Native.Nat.{ℕ, ◌/◌, ◌^◌, ◌≤◌, ◌<◌}
use mathlib.Core.Path.{◌≡◌, refl, ap, ◌∙◌}
use mathlib.Core.List.{List}
use native.Mathlib.Omega.{arith}
use lib.ListN.{length}
use Rattle.laws.specs.Bytes.{Bytes, little}
use Rattle.std.specs.Prelude.{Ok}
use Rattle.sheet.specs.Block.{total_of}
use Rattle.sheet.specs.Number.{number_at}
use Rattle.sheet.specs.Slot.{child_count, empty_slot, slot_at, slots}
use Rattle.sheet.specs.Sheet.{sheet_of}
use Rattle.sheet.specs.Opening.{open_of}
use Rattle.sheet.proofs.SlotLaws.{slot_at_length, slots_length, slots_at_lem}
use Rattle.sheet.proofs.SoundLaws.{sound_reserved}
use Rattle.sheet.proofs.OpeningLaws.{open_of_total, open_of_sound}
use Rattle.sheet.proofs.SheetLaws.{sheet_of_slots}
use Rattle.tree.specs.Tree.{SlotBytes, Tree, Fields, empty, field, listing, count, size, Claims, ClaimsAll}
use Rattle.tree.specs.Reading.{trees, first_tree, tree_of}
use Rattle.tree.specs.Judgement.{judgement, judged_nodes, judgement_of}
use Rattle.tree.specs.Steps.{Claimed}
use Rattle.tree.proofs.JudgementLaws.{lawful_opened, judged_claimed, judged_listing}
use Rattle.matching.specs.Matching.{matching}
use Rattle.matching.proofs.MatchingLaws.{length_matching}
use Rattle.differences.specs.Entry.{Entry, entry_size, list_bytes, entries_in}
use Rattle.differences.specs.Differences.{second_entries, list_of, differences}
use Rattle.differences.specs.Rebuilding.{matched_slots, with_only, slots_from, rebuilt}
use Rattle.differences.proofs.PlaceLaws.{place_below}
use Rattle.differences.proofs.WholeLaws.{AllWhole}
use Rattle.differences.proofs.EntryLaws.{AllFit, entries_in_list_bytes}
use Rattle.differences.proofs.FitLaws.{fit_list}
use Rattle.differences.proofs.StandLaws.{stand_own}
use Rattle.differences.proofs.NodeEntriesLaws.{with_only_first}
use Rattle.differences.proofs.MatchedSlotsLaws.{ToldAll, kept, matched_slots_kept}
use Rattle.differences.proofs.ToldLaws.{told_list}
use Rattle.differences.proofs.OnlySecondLaws.{with_only_second}
use Rattle.differences.proofs.FlagLaws.{flagged_matching}

-- ---- two trees

-- what trees must be for the list to tell all: their slots are whole, and numbers and places take two bytes
pub record Listed (t : Tree) : Type 0 where
  pub whole : AllWhole (listing t)
  pub small : length (listing t) ≤ 256 ^ 2
  pub claims : Claims t

module _ (t u : Tree) (first : Listed t) (second : Listed u) where
  -- the list tells of each node of the first
  told : ToldAll (differences t u) (listing u) 0 (listing t) (matching t u)
  unfolding differences
  told =
      told_list (listing t) (listing u) (matching t u) first.whole second.whole
      (λ j m e. unfold size in omega (arith, place_below t u j e, second.small))

  -- the matched slots are the second's that match
  matched : matched_slots (differences t u) 0 t ≡ kept (matching u t) (listing u)
  unfolding matching
  matched = matched_slots_kept (differences t u) (listing u) u 0 0 (stand_own (listing u)) second.claims t 0 0 told

  -- with those that are only in the second, all
  pub slots_from_differences : slots_from (differences t u) t ≡ listing u
  unfolding slots_from differences list_of
  slots_from_differences =
      ap (λ (ss : List SlotBytes). with_only ss (differences t u)) matched
      ∙ with_only_first (listing u) (matching t u) (kept (matching u t) (listing u)) 0 (listing t) (second_entries (matching t u) 0 (listing u))
      ∙ with_only_second (matching t u) (matching u t) (listing u) (unfold size in length_matching u t) second.whole (flagged_matching t u)

  -- the entries of the list fit their bytes
  pub fit_differences : AllFit (differences t u)
  unfolding differences
  fit_differences = fit_list (listing t) (listing u) (matching t u) first.small second.small first.whole second.whole

  -- the list's bytes say as much
  slots_from_bytes : slots_from (entries_in (length (list_bytes (differences t u)) / entry_size) (list_bytes (differences t u))) t ≡ listing u
  slots_from_bytes = ap (λ (es : List Entry). slots_from es t) (entries_in_list_bytes (differences t u) fit_differences) ∙ slots_from_differences

-- ---- a sheet that is lawful in some edition

-- the first tree of a run that claims rightly does
claims_first : (fs : Fields) → ClaimsAll fs → Claims (first_tree fs)
unfolding first_tree Claims child_count number_at little count
claims_first empty claims = (refl, tt)
claims_first (field t fs) claims = claims.0

module _ (edition : ℕ) (sheet : List ℕ) (lawful : judgement edition sheet ≡ Ok tt) where
  -- it opens
  opened : (n : ℕ) × (open_of edition sheet ≡ Ok n)
  opened = lawful_opened edition sheet lawful

  -- it is judged lawful, and its slots claim rightly
  judged : judgement_of edition sheet ≡ Ok (total_of sheet)
  unfolding judgement_of judged_nodes
  judged = rw lawful

  claimed : Claimed sheet
  claimed = judged_claimed edition sheet (total_of sheet) judged

  -- its tree lists its slots
  pub tree_lists : listing (tree_of (slots sheet)) ≡ slots sheet
  tree_lists = judged_listing edition sheet (total_of sheet) judged

  -- its slots are whole
  slots_whole : AllWhole (slots sheet)
  slots_whole k h =
      let below : k < total_of sheet = omega (arith, slots_length sheet) in
      let sound = open_of_sound edition sheet opened.0 opened.1 k (omega (arith, open_of_total edition sheet opened.0 opened.1)) in
      rw (slots_at_lem sheet k empty_slot below) (record { long = slot_at_length sheet k; reserved = sound_reserved edition (slot_at sheet k) sound })

  -- and is one of which the list tells all
  pub tree_listed : Listed (tree_of (slots sheet))
  unfolding tree_of
  tree_listed = record {
    whole = rw tree_lists slots_whole;
    small = rw tree_lists (omega (arith, claimed.total, claimed.most));
    claims = claims_first (trees (slots sheet)) claimed.claims;
  }

-- ---- two sheets

module _ (edition : ℕ) (first second : List ℕ) (bytes : Bytes second)
    (one : judgement edition first ≡ Ok tt) (two : judgement edition second ≡ Ok tt) where
  -- from the list and the first sheet, the second can be rebuilt
  pub rebuilt_second : rebuilt (list_bytes (differences (tree_of (slots first)) (tree_of (slots second)))) first ≡ second
  unfolding rebuilt
  rebuilt_second =
      let opens = opened edition second two in
      ap sheet_of
      (slots_from_bytes (tree_of (slots first)) (tree_of (slots second)) (tree_listed edition first one) (tree_listed edition second two)
      ∙ tree_lists edition second two)
      ∙ sheet_of_slots edition second opens.0 bytes opens.1
