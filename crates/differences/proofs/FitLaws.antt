-- The entries of the list fit their bytes.
use Prim.Native.Nat.{ℕ, suc, ◌+◌, ◌-◌, ◌^◌, ◌≤◌, ◌<◌}
use mathlib.Core.Path.{◌≡◌, ◌∙◌}
use mathlib.Core.List.{List, [], ◌∷◌, ◌++◌}
use mathlib.Core.Option.{Option, none, some}
use native.Mathlib.Omega.{arith}
use lib.Dec.{eqb}
use lib.ListN.{length, get_or, replicate, length-append, length-take, length-drop, length-replicate}
use Rattle.laws.specs.Bytes.{bytes_of}
use Rattle.laws.proofs.BoolLaws.{by_test}
use Rattle.laws.proofs.ByteLaws.{length_bytes_of}
use Rattle.sheet.specs.Block.{slot_size}
use Rattle.sheet.specs.Slot.{empty_slot}
use Rattle.sheet.specs.Name.{same_bytes}
use Rattle.tree.specs.Tree.{SlotBytes}
use Rattle.matching.specs.declared.fields.Match.{Match}
use Rattle.differences.specs.Entry.{SlotField, slot_fields, Entry, entry, filled, PLACES, ONLY_FIRST, ONLY_SECOND}
use Rattle.differences.specs.Differences.{content, field_entries, place_entries, node_entries, first_entries, is_matched, second_entries, list_of}
use Rattle.differences.proofs.EntryLaws.{Fits, AllFit}
use Rattle.differences.proofs.WholeLaws.{AllWhole, whole_rest, whole_any}
use Rattle.differences.proofs.NodeEntriesLaws.{Low, low_slot_fields}

-- entries that fit, and others
fit_join : (es fs : List Entry) → AllFit es → AllFit fs → AllFit (es ++ fs)
unfolding AllFit
fit_join [] fs g h = h
fit_join (e ∷ es) fs g h = (g.0, fit_join es fs g.1 h)

-- a content that is not too long is filled to 72
pub length_filled : (l : List ℕ) → length l ≤ slot_size → length (filled l) ≡ slot_size
unfolding filled
length_filled l h = length-append l (replicate (slot_size - length l) 0) ∙ omega (arith, length-replicate {A = ℕ} (slot_size - length l) 0)

-- an entry of such contents fits
pub fits_entry : (code k : ℕ) (a b : List ℕ) → code < 256 → k < 256 ^ 2 → length a ≤ slot_size → length b ≤ slot_size → Fits (entry code k a b)
fits_entry code k a b low small g h = record { code = low; number = small; first = length_filled a g; second = length_filled b h }

-- a field's content is not too long
content_most : (f : SlotField) (s : SlotBytes) → length s ≡ slot_size → length (content f s) ≤ slot_size
unfolding content
content_most f s e = simp (length-take, length-drop) (omega arith)

module _ (k : ℕ) (small : k < 256 ^ 2) where
  -- those of a node do, its number being small: of its fields, of its places, and all
  fit_fields : (s v : SlotBytes) → length s ≡ slot_size → length v ≡ slot_size → (fs : List SlotField) → Low fs → AllFit (field_entries k s v fs)
  unfolding AllFit field_entries
  fit_fields s v g h [] low = tt
  fit_fields s v g h (f ∷ fs) low =
      let rest = fit_fields s v g h fs low.1 in
      by_test (same_bytes (content f s) (content f v)) (λ e. rw e rest)
      (λ e. rw e (fits_entry f.code k (content f s) (content f v) (omega arith) small (content_most f s g) (content_most f v h), rest))

  fit_places : (m : Match) → AllFit (place_entries k m)
  unfolding AllFit place_entries
  fit_places m =
      let one = bytes_of 2 m.place in
      let other = bytes_of 2 m.other in
      by_test (eqb m.place m.other) (λ e. rw e tt)
      (λ e. rw e
      (fits_entry PLACES k one other (omega arith) small (omega (arith, length_bytes_of 2 m.place)) (omega (arith, length_bytes_of 2 m.other)), tt))

  fit_node : (others : List SlotBytes) → AllWhole others → (s : SlotBytes) → length s ≡ slot_size → (m : Option Match) → AllFit (node_entries others k s m)
  unfolding AllFit node_entries
  fit_node others all s h none = (fits_entry ONLY_FIRST k s [] (omega arith) small (omega arith) (omega arith), tt)
  fit_node others all s h (some m) =
      let v = get_or others m.number empty_slot in
      fit_join (field_entries k s v slot_fields) (place_entries k m)
      (fit_fields s v h (whole_any others all m.number).long slot_fields low_slot_fields) (fit_places m)

-- those of the first's nodes do, and those of the second's
fit_first : (others : List SlotBytes) (ms : List (Option Match)) → AllWhole others
    → (k : ℕ) (ss : List SlotBytes) → k + length ss ≤ 256 ^ 2 → AllWhole ss → AllFit (first_entries others ms k ss)
unfolding AllFit first_entries
fit_first others ms whole k [] small all = tt
fit_first others ms whole k (s ∷ ss) small all =
    fit_join (node_entries others k s (get_or ms k none)) (first_entries others ms (suc k) ss)
    (fit_node k (omega arith) others whole s (all 0 (omega arith)).long (get_or ms k none))
    (fit_first others ms whole (suc k) ss (omega arith) (whole_rest s ss all))

fit_second : (ms : List (Option Match)) (j : ℕ) (ss : List SlotBytes) → j + length ss ≤ 256 ^ 2 → AllWhole ss → AllFit (second_entries ms j ss)
unfolding AllFit second_entries
fit_second ms j [] small all = tt
fit_second ms j (s ∷ ss) small all =
    let rest = fit_second ms (suc j) ss (omega arith) (whole_rest s ss all) in
    by_test (is_matched j ms) (λ e. rw e rest)
    (λ e. rw e (fits_entry ONLY_SECOND j [] s (omega arith) (omega arith) (omega arith) (omega (arith, (all 0 (omega arith)).long)), rest))

-- the entries of two sheets' list do
pub fit_list : (ones others : List SlotBytes) (ms : List (Option Match)) → length ones ≤ 256 ^ 2 → length others ≤ 256 ^ 2 → AllWhole ones → AllWhole others
    → AllFit (list_of ones others ms)
unfolding list_of
fit_list ones others ms small little first second =
    fit_join (first_entries others ms 0 ones) (second_entries ms 0 others)
    (fit_first others ms second 0 ones (omega arith) first) (fit_second ms 0 others (omega arith) second)
