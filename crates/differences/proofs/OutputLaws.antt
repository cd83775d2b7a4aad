-- What the output holds once two sheets are compared.
use Prim.Native.Nat.{ℕ, ◌+◌, ◌*◌, ◌/◌, ◌%◌, ◌≤◌}
use mathlib.Core.Path.{◌≡◌, ap, ◌∙◌}
use mathlib.Core.List.{List, ◌∷◌, ◌++◌}
use mathlib.Core.Option.{some}
use native.Mathlib.Omega.{arith}
use lib.ListN.{length, take, drop, get_elem?}
use lib.Seq.{take_at, drop_at}
use Rattle.std.specs.Prelude.{Err}
use Rattle.laws.specs.Bytes.{Bytes}
use Rattle.refusal.specs.declared.answers.Fault.{Fault}
use Rattle.std.specs.Prelude.{Ok}
use Rattle.sheet.specs.Block.{slot_size, total_of}
use Rattle.sheet.specs.Slot.{slots}
use Rattle.sheet.proofs.SlotLaws.{slots_length}
use Rattle.tree.specs.Reading.{tree_of}
use Rattle.tree.specs.Judgement.{judgement}
use Rattle.differences.specs.Entry.{Entry, entry_size, list_bytes}
use Rattle.differences.specs.Outcome.{list_for, compare_outcome, compare_written}
use Rattle.differences.specs.Rebuilding.{rebuilt}
use Rattle.differences.proofs.CountLaws.{differences_most}
use Rattle.differences.proofs.EntryLaws.{AllFit, fits_at, entry_spelled_at, length_list}
use Rattle.differences.proofs.RebuildingLaws.{fit_differences, tree_lists, tree_listed, rebuilt_second}
use Rattle.differences.proofs.OutcomeLaws.{enough_compared}

-- a refusal leaves it
pub refused_unchanged : (edition : ℕ) (first second lent : List ℕ) (f : Fault) → compare_outcome edition first second (length lent) ≡ Err f
    → compare_written (compare_outcome edition first second (length lent)) first second lent ≡ lent
unfolding compare_written
refused_unchanged edition first second lent f e = rw e

module _ (edition : ℕ) (first second : List ℕ) (one : judgement edition first ≡ Ok tt) (two : judgement edition second ≡ Ok tt) where
  abbrev list : List Entry
  list = list_for first second

  pub list_fits : AllFit list
  unfolding list_for
  list_fits = fit_differences (tree_of (slots first)) (tree_of (slots second)) (tree_listed edition first one) (tree_listed edition second two)

  -- and there are few of them
  pub entries_most : length list ≤ 13 * total_of first + total_of second
  unfolding list_for
  entries_most =
      omega (
        arith,
        differences_most (tree_of (slots first)) (tree_of (slots second)),
        ap length (tree_lists edition first one),
        ap length (tree_lists edition second two),
        slots_length first,
        slots_length second,
      )

  -- each side of an entry has 72 bytes
  pub sides_whole : (i : ℕ) (e : Entry) → get_elem? list i ≡ some e → (length e.first ≡ slot_size) × (length e.second ≡ slot_size)
  sides_whole i e at = let fits = fits_at list list_fits i at in (fits.first, fits.second)

  module _ (lent : List ℕ) (enough : entry_size * length list ≤ length lent) where
    abbrev output : List ℕ
    output = compare_written (compare_outcome edition first second (length lent)) first second lent

    -- the list's bytes, and what stood behind them
    output_is : output ≡ list_bytes list ++ drop (entry_size * length list) lent
    unfolding compare_written
    output_is = rw (enough_compared edition first second (length lent) one two enough)

    -- each entry stands at its place, byte by byte
    pub entry_written : (i : ℕ) (e : Entry) → get_elem? list i ≡ some e
        → take entry_size (drop (entry_size * i) output) ≡ e.code ∷ 0 ∷ e.number % 256 ∷ e.number / 256 ∷ (e.first ++ e.second)
    entry_written i e at =
        ap (λ (bytes : List ℕ). take entry_size (drop (entry_size * i) bytes)) output_is
        ∙ entry_spelled_at list list_fits i at (drop (entry_size * length list) lent)

    -- "the rest of the output stays"
    pub rest_stays : drop (entry_size * length list) output ≡ drop (entry_size * length list) lent
    rest_stays = ap (drop (entry_size * length list)) output_is ∙ drop_at (list_bytes list) _ (entry_size * length list) (length_list list list_fits)

    -- from what is written of the list, and the first sheet, the second is rebuilt
    pub written_rebuilt : Bytes second → rebuilt (take (entry_size * length list) output) first ≡ second
    unfolding list_for
    written_rebuilt bytes =
        ap (λ (l : List ℕ). rebuilt l first)
        (ap (take (entry_size * length list)) output_is ∙ take_at (list_bytes list) _ (entry_size * length list) (length_list list list_fits))
        ∙ rebuilt_second edition first second bytes one two
