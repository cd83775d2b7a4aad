-- The list tells of each node of the first tree what rebuilding asks: whether it stays, its place in the second, and its slot there.
use Prim.Native.Nat.{ℕ, suc, ◌+◌, ◌-◌, ◌^◌, ◌<◌}
use mathlib.Core.Path.{◌≡◌, refl, ap, ◌∙◌, subst}
use mathlib.Core.List.{List, [], ◌∷◌, ◌++◌}
use mathlib.Core.Option.{Option, none, some}
use native.Mathlib.Nat.{zero-add, add-zero}
use native.Mathlib.Omega.{arith}
use lib.Dec.{eqb}
use lib.ListN.{length, get_or, take, replicate}
use lib.Seq.{take_at}
use borrow.Author.Tests.{eqb-true}
use Rattle.laws.specs.Bytes.{little, bytes_of}
use Rattle.laws.proofs.BoolLaws.{by_test}
use Rattle.laws.proofs.ByteLaws.{length_bytes_of, little_bytes_of}
use Rattle.sheet.specs.Block.{slot_size}
use Rattle.sheet.specs.Slot.{empty_slot}
use Rattle.tree.specs.Tree.{SlotBytes}
use Rattle.matching.specs.declared.fields.Match.{Match}
use Rattle.differences.specs.Entry.{slot_fields, Entry, filled, PLACES, ONLY_FIRST}
use Rattle.differences.specs.Differences.{field_entries, place_entries, node_entries, list_of}
use Rattle.differences.specs.Rebuilding.{entries_of, is_gone, place_by}
use Rattle.differences.proofs.WholeLaws.{Whole, AllWhole, whole_any, reserved_same}
use Rattle.differences.proofs.FieldLaws.{slot_by_listed}
use Rattle.differences.proofs.NodeEntriesLaws.{of_fields, of_both, is_gone_below, place_by_below, entries_of_list}
use Rattle.differences.proofs.MatchedSlotsLaws.{Told, ToldAll}

-- ---- one node

-- the places that are listed tell the second
places_read : (n : ℕ) → n < 256 ^ 2 → little (take 2 (filled (bytes_of 2 n))) ≡ n
unfolding filled
places_read n h = ap little (take_at (bytes_of 2 n) (replicate (slot_size - length (bytes_of 2 n)) 0) 2 (length_bytes_of 2 n)) ∙ little_bytes_of 2 n h

place_by_places : (k : ℕ) (m : Match) → m.other < 256 ^ 2 → place_by m.place (place_entries k m) ≡ m.other
unfolding place_by place_entries
place_by_places k m h =
    by_test (eqb m.place m.other) (λ e. rw e (eqb-true m.place m.other e)) (λ e. rw e (places_read m.other h))

-- what is listed of a node tells whether it stays, its place and its slot
module _ (es : List Entry) (others : List SlotBytes) (k : ℕ) (s : SlotBytes) (whole : Whole s) (all : AllWhole others) where
  told_node : (m : Option Match) → ((n : Match) → m ≡ some n → n.other < 256 ^ 2) → entries_of k es ≡ node_entries others k s m → Told es others k s m
  unfolding node_entries is_gone
  told_node none low e = rw e
  told_node (some m) low e =
      let v = get_or others m.number empty_slot in
      let fits = whole_any others all m.number in
      let fields = field_entries k s v slot_fields in
      record {
        stays = rw e (is_gone_below k (fields ++ place_entries k m) (of_both ONLY_FIRST (omega arith) k s v m));
        placed = rw e (place_by_below m.place k fields (place_entries k m) (of_fields PLACES (omega arith) k s v) ∙ place_by_places k m (low m refl));
        slot = rw e (slot_by_listed s v whole.long fits.long (reserved_same s v whole fits) k m);
      }

-- ---- all nodes

-- from the nodes one by one
told_all_each : (es : List Entry) (others : List SlotBytes) (ss : List SlotBytes) (ms : List (Option Match)) (k : ℕ)
    → ((i : ℕ) → i < length ss → Told es others (k + i) (get_or ss i empty_slot) (get_or ms i none)) → ToldAll es others k ss ms
unfolding ToldAll
told_all_each es others [] ms k h = tt
told_all_each es others (s ∷ ss) [] k h = tt
told_all_each es others (s ∷ ss) (m ∷ ms) k h = (rw (add-zero k) at (h 0 (omega arith)), told_all_each es others ss ms (suc k) (λ i l. next i (omega arith)))
  where
    next : (i : ℕ) → i < length ss → Told es others (suc k + i) (get_or ss i empty_slot) (get_or ms i none)
    next i l = subst (λ (n : ℕ). Told es others n (get_or ss i empty_slot) (get_or ms i none)) {x = k + suc i} (omega arith) (h (suc i) (omega arith))

-- the whole list tells of all nodes of the first
pub told_list : (ones others : List SlotBytes) (ms : List (Option Match)) → AllWhole ones → AllWhole others
    → ((j : ℕ) (m : Match) → get_or ms j none ≡ some m → m.other < 256 ^ 2)
    → ToldAll (list_of ones others ms) others 0 ones ms
told_list ones others ms first second low = told_all_each list others ones ms 0 (λ i h. rw (zero-add i) (each i h))
  where
    list : List Entry
    list = list_of ones others ms

    each : (i : ℕ) → i < length ones → Told list others i (get_or ones i empty_slot) (get_or ms i none)
    each i h = told_node list others i (get_or ones i empty_slot) (first i h) second (get_or ms i none) (low i) (entries_of_list others ms ones i h)
