-- What comparing two accepted sheets comes to, by their trees.
use Prim.Native.Nat.{ℕ, ◌*◌, ◌/◌, ◌%◌, ◌≤◌, ◌<◌}
use mathlib.Core.Path.{◌≡◌, sym, ap, ap₂, ◌∙◌, subst}
use mathlib.Core.Bool.{false}
use mathlib.Core.List.{List, [], ◌∷◌, ◌++◌}
use mathlib.Core.Logic.{◌⊎◌, inl, inr, ◌↔◌}
use mathlib.Core.Option.{some}
use lib.ListN.{length, take, drop, get_elem?}
use Rattle.std.specs.Prelude.{Ok, Err}
use Rattle.laws.specs.Bytes.{Bytes}
use Rattle.refusal.specs.Faults.{fault}
use Rattle.refusal.specs.Outcome.{refusal}
use Rattle.edition.specs.Editions.{is_known}
use Rattle.sheet.specs.Slot.{slots}
use Rattle.sheet.proofs.OpeningLaws.{open_of_total}
use Rattle.tree.specs.Tree.{Tree}
use Rattle.tree.specs.Reading.{tree_of}
use Rattle.tree.specs.Judgement.{judgement}
use Rattle.tree.proofs.TreeOfLaws.{tree_of_listing}
use Rattle.tree.proofs.JudgementLaws.{lawful_opened}
use Rattle.schema.proofs.DemandLaws.{tree_accepted, accepted_tree, sound_judgement, sound_exactly}
use Rattle.differences.specs.Entry.{Entry}
use Rattle.differences.specs.Differences.{differences}
use Rattle.differences.specs.Paths.{paths}
use Rattle.differences.specs.Outcome.{list_for, compare_outcome}
use Rattle.differences.specs.Rebuilding.{rebuilt}
use Rattle.differences.proofs.OutcomeLaws as outcome
use Rattle.differences.proofs.OutputLaws as written
use Rattle.differences.proofs.EmptyLaws as empty
use Rattle.demands.specs.Requests.{IsSheetOf, output}

-- an accepted sheet is lawful, and its tree is the one that its slots stand for
sheet_lawful : {edition : ℕ} {sheet : List ℕ} {t : Tree} → IsSheetOf edition sheet t → judgement edition sheet ≡ Ok tt
sheet_lawful {edition} {sheet} {t} h = sound_judgement edition sheet h.sound ∙ tree_accepted edition sheet t h.tree

sheet_tree : {edition : ℕ} {sheet : List ℕ} {t : Tree} → IsSheetOf edition sheet t → tree_of (slots sheet) ≡ t
sheet_tree {sheet} {t} h = tree_of_listing t (slots sheet) h.tree.claims h.tree.lists

-- a lawful sheet is accepted, with that tree
lawful_sheet : (edition : ℕ) (sheet : List ℕ) → judgement edition sheet ≡ Ok tt → IsSheetOf edition sheet (tree_of (slots sheet))
lawful_sheet edition sheet e =
    let (n, opens) = lawful_opened edition sheet e in
    let sound = (sound_exactly edition sheet).1 (opens ∙ ap Ok (open_of_total edition sheet n opens)) in
    record { sound = sound; tree = accepted_tree edition sheet (sym (sound_judgement edition sheet sound) ∙ e) }

-- the list of two sheets is that of their trees
list_is : {edition : ℕ} {first second : List ℕ} {t u : Tree} → IsSheetOf edition first t → IsSheetOf edition second u → list_for first second ≡ differences t u
unfolding list_for
list_is f s = ap₂ differences (sheet_tree f) (sheet_tree s)

module _ (edition : ℕ) (first second : List ℕ) where
  pub number_returned : (lent : ℕ) (t u : Tree) → IsSheetOf edition first t → IsSheetOf edition second u → 148 * length (differences t u) ≤ lent → compare_outcome edition first second lent ≡ Ok (length (differences t u))
  number_returned lent t u f s =
      subst (λ (es : List Entry). 148 * length es ≤ lent → compare_outcome edition first second lent ≡ Ok (length es)) (list_is f s)
      (outcome.enough_compared edition first second lent (sheet_lawful f) (sheet_lawful s))

  pub sides_whole : (t u : Tree) → IsSheetOf edition first t → IsSheetOf edition second u → (i : ℕ) (e : Entry) → get_elem? (differences t u) i ≡ some e → (length e.first ≡ 72) × (length e.second ≡ 72)
  sides_whole t u f s i e at = written.sides_whole edition first second (sheet_lawful f) (sheet_lawful s) i e (rw (list_is f s) at)

  pub entry_written : (lent : List ℕ) (t u : Tree) → IsSheetOf edition first t → IsSheetOf edition second u → 148 * length (differences t u) ≤ length lent
      → (i : ℕ) (e : Entry) → get_elem? (differences t u) i ≡ some e
      → take 148 (drop (148 * i) (output edition first second lent)) ≡ e.code ∷ 0 ∷ e.number % 256 ∷ e.number / 256 ∷ (e.first ++ e.second)
  entry_written lent t u f s h i e at =
      written.entry_written edition first second (sheet_lawful f) (sheet_lawful s) lent (rw (list_is f s) h) i e (rw (list_is f s) at)

  pub rest_stays : (lent : List ℕ) (t u : Tree) → IsSheetOf edition first t → IsSheetOf edition second u → 148 * length (differences t u) ≤ length lent
      → drop (148 * length (differences t u)) (output edition first second lent) ≡ drop (148 * length (differences t u)) lent
  rest_stays lent t u f s h = rw (← (list_is f s)) (written.rest_stays edition first second (sheet_lawful f) (sheet_lawful s) lent (rw (list_is f s) h))

  pub rebuilds : (lent : List ℕ) (t u : Tree) → IsSheetOf edition first t → IsSheetOf edition second u → Bytes second → 148 * length (differences t u) ≤ length lent
      → rebuilt (take (148 * length (differences t u)) (output edition first second lent)) first ≡ second
  rebuilds lent t u f s bytes h = rw (← (list_is f s)) (written.written_rebuilt edition first second (sheet_lawful f) (sheet_lawful s) lent (rw (list_is f s) h) bytes)

  pub empty_exactly : (t u : Tree) → IsSheetOf edition first t → IsSheetOf edition second u → (differences t u ≡ []) ↔ ((paths t ≡ paths u) × (slots first ≡ slots second))
  empty_exactly t u f s = rw (← (sheet_tree f), ← (sheet_tree s)) (empty.empty_exactly edition first second (sheet_lawful f) (sheet_lawful s))

  pub empty_same : (t u : Tree) → IsSheetOf edition first t → IsSheetOf edition second u → Bytes first → Bytes second → (differences t u ≡ []) ↔ (first ≡ second)
  empty_same t u f s = rw (← (sheet_tree f), ← (sheet_tree s)) (empty.empty_same edition first second (sheet_lawful f) (sheet_lawful s))

  pub neither_refused : (lent number place : ℕ) → (compare_outcome edition first second lent ≡ Err (fault 0 (refusal number place)))
      ↔ (((is_known edition ≡ false) × (number ≡ 21) × (place ≡ 0)) ⊎ ((t : Tree) × (u : Tree) × IsSheetOf edition first t × IsSheetOf edition second u × (lent < 148 * length (differences t u)) × (number ≡ 14) × (place ≡ 0)))
  neither_refused lent number place = ((λ e. to ((outcome.neither_exactly edition first second lent number place).0 e)), λ h. (outcome.neither_exactly edition first second lent number place).1 (from h))
    where
      Short : Type 0
      Short = (t : Tree) × (u : Tree) × IsSheetOf edition first t × IsSheetOf edition second u × (lent < 148 * length (differences t u)) × (number ≡ 14) × (place ≡ 0)

      to : outcome.OfNeither edition first second lent number place → ((is_known edition ≡ false) × (number ≡ 21) × (place ≡ 0)) ⊎ Short
      to (inl h) = inl h
      to (inr (one, two, short, n, p)) =
          let f = lawful_sheet edition first one in
          let s = lawful_sheet edition second two in
          inr (tree_of (slots first), tree_of (slots second), f, s, rw (list_is f s) at short, n, p)

      from : ((is_known edition ≡ false) × (number ≡ 21) × (place ≡ 0)) ⊎ Short → outcome.OfNeither edition first second lent number place
      from (inl h) = inl h
      from (inr (t, u, f, s, short, n, p)) = inr (sheet_lawful f, sheet_lawful s, rw (list_is f s) short, n, p)
