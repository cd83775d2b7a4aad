-- The promise of the reader: on an accepted sheet it hands out each used slot once, in order, and then ends; on a refused one it ends at once.
use mathlib.Core.Path.{◌≡◌, refl, sym, ap, ◌∙◌, subst}
use mathlib.Core.List.{List, ◌++◌, map}
use Prim.Native.Nat.{ℕ, zero, suc, ◌+◌, ◌≤◌, ◌<◌}
use native.Mathlib.Nat.{zero-add, add-zero, le_of_eq}
use native.Mathlib.Decide.{dec_le}
use native.Mathlib.Omega.{arith}
use lib.ListN.{take, replicate, length-replicate, length-map}
use lib.Seq.{take_all, take_at}
use denote.Ref.{Bor}
use Rattle.sheet.specs.Block.{total_of}
use Rattle.sheet.specs.Slot.{slots_from, slots}
use Rattle.sheet.specs.Opening.{open_of, outcome, outcome_of}
use Rattle.refusal.specs.Outcome.{Counted}
use Rattle.std.specs.Prelude.{Ok, Err}
use Rattle.sheet.proofs.OpeningLaws.{open_of_total, open_of_slots_length}
use Rattle.sheet_reader.specs.Step.{Step, total, step_at, node_after, ended, handout_of, slot_handed}
use Rattle.sheet_reader.specs.Reading.{opened_on, step_of, moved_on, left, moved_by, step_after, steps, handouts}
use Rattle.sheet_reader.specs.declared.reading.Reader.{Reader}
use Rattle.std.specs.Prelude.{Some, None, ⊤}
use Rattle.std.specs.Iterator.{MakesProgress, at_most}
use Rattle.sheet.specs.declared.slots.Slot.{Slot}
use Rattle.sheet.specs.declared.names.Stretch.{Stretch}
use Rattle.sheet_reader.proofs.StepLaws.{step_at_end, node_after_next, node_after_end, handout_of_slot, handout_of_end}

-- ---- one step after others

-- after n steps a reader hands out what stands n nodes on
step_of_moved_by : (n : ℕ) (reader : Reader) → step_of (moved_by n reader) ≡ step_at reader.sheet.now (reader.next + n) reader.opened
unfolding moved_by
step_of_moved_by zero reader = ap (λ (node : ℕ). step_at reader.sheet.now node reader.opened) (sym (add-zero reader.next))
step_of_moved_by (suc n) reader = step_of_moved_by n (moved_on reader) ∙ cases (dec_le (total reader.opened) reader.next)
  where
    cases : Dec (total reader.opened ≤ reader.next)
        → step_at reader.sheet.now (node_after reader.next reader.opened + n) reader.opened ≡ step_at reader.sheet.now (reader.next + suc n) reader.opened
    cases (yes h) =
        step_at_end reader.sheet.now _ reader.opened (omega (arith, node_after_end reader.next reader.opened h))
        ∙ sym (step_at_end reader.sheet.now _ reader.opened (omega arith))
    cases (no h) =
        ap (λ (node : ℕ). step_at reader.sheet.now node reader.opened) (omega (arith, node_after_next reader.next reader.opened (omega arith)))

-- so a reader that is opened and set on a node hands out what it would after that many steps
pub step_after_at : (edition : ℕ) (sheet : Bor (List ℕ)) (n : ℕ) → step_after edition sheet n ≡ step_at sheet.now n (open_of edition sheet.now)
unfolding step_after
step_after_at edition sheet n =
    step_of_moved_by n (opened_on edition sheet) ∙ ap (λ (node : ℕ). step_at sheet.now node (open_of edition sheet.now)) (zero-add n)

-- ---- how many are left

-- a step that hands out a slot leaves one fewer
pub moved_on_left : (reader : Reader) → (step_of reader ≡ None → ⊥) → left (moved_on reader) < left reader
moved_on_left reader other = cases (dec_le (total reader.opened) reader.next)
  where
    cases : Dec (total reader.opened ≤ reader.next) → left (moved_on reader) < left reader
    cases (yes h) = absurd (other (step_at_end reader.sheet.now reader.next reader.opened h))
    cases (no h) = omega (arith, node_after_next reader.next reader.opened (omega arith))

-- so a reader as an iterator comes to its end
pub makes_progress : (s t : Reader) (r : Step) → r ≡ step_of s → t ≡ moved_on s → MakesProgress {S = Reader} {A = Slot × Stretch} (λ _. ⊤) (λ reader. at_most (left reader)) s r t
makes_progress s t None e m = record { on = λ _. tt; keeps = tt; rests = λ _. tt }
makes_progress s t (Some slot) e m =
    let fewer : left t < left s = subst (λ (reader : Reader). left reader < left s) (sym m) (moved_on_left s (λ none. absurd (differ (e ∙ none)))) in
    record { on = λ _. (tt, tt, fewer); keeps = tt; rests = λ _. tt }
  where
    differ : {slot : Slot × Stretch} → Some slot ≡ None → ⊥
    differ h = cc

-- ---- all of them

-- where m nodes are left, n steps hand out as many of their slots as they can, and then nothing
steps_from_lem : (n m p : ℕ) (reader : Reader) → reader.next + m ≡ total reader.opened → n ≤ m + p
    → map (handout_of reader.sheet.now) (steps n reader) ≡ take n (map slot_handed (slots_from reader.sheet.now reader.next m) ++ replicate p ended)
unfolding steps slots_from
steps_from_lem zero m p reader e h = refl
steps_from_lem (suc n) zero zero reader e h = absurd (omega arith)
steps_from_lem (suc n) zero (suc p) reader e h =
    let past : total reader.opened ≤ reader.next = omega arith in
    let stays = node_after_end reader.next reader.opened past in
    let none = handout_of_end reader.sheet.now reader.next reader.opened past in
    let again = steps_from_lem n zero p (moved_on reader) (omega (arith, stays)) (omega arith) in
    rw (none, again)
steps_from_lem (suc n) (suc m) p reader e h =
    let below : reader.next < total reader.opened = omega arith in
    let leads = node_after_next reader.next reader.opened below in
    let slot = handout_of_slot reader.sheet.now reader.next reader.opened below in
    let again = steps_from_lem n m p (moved_on reader) (omega (arith, leads)) (omega arith) in
    rw (slot, again, leads)

-- ---- the promise

-- "It opens under refusals 1 to 4", and under 21 before them: what a reader opened with is the sheet's outcome in the edition
pub opened_on_outcome : (edition : ℕ) (sheet : Bor (List ℕ)) → outcome_of sheet.now (opened_on edition sheet).opened ≡ outcome edition sheet.now
unfolding outcome
opened_on_outcome edition sheet = refl

-- what n steps over a sheet hand out, by what opening answered
module _ (edition : ℕ) (sheet : Bor (List ℕ)) (n : ℕ) where
  none_handed : total (open_of edition sheet.now) ≡ 0 → map (handout_of sheet.now) (steps n (opened_on edition sheet)) ≡ replicate n ended
  unfolding slots_from
  none_handed e =
      steps_from_lem n 0 n (opened_on edition sheet) (zero-add 0 ∙ sym e) (omega arith)
      ∙ take_all n (replicate n ended) (le_of_eq (length-replicate n ended))

  kept : (opened : Counted) → open_of edition sheet.now ≡ opened → map (handout_of sheet.now) (steps n (opened_on edition sheet)) ≡ handouts (outcome_of sheet.now opened) n
  unfolding outcome_of handouts total slots
  kept (Ok t) e = steps_from_lem n (total_of sheet.now) n (opened_on edition sheet) (zero-add _ ∙ sym (ap total e ∙ open_of_total edition sheet.now t e)) (omega arith)
  kept (Err r) e = none_handed (ap total e)

  -- "hands out each slot once, in order, ending after T steps": n steps over an accepted sheet hand out its used slots and then nothing, and over a refused one nothing
  pub steps_handouts : map (handout_of sheet.now) (steps n (opened_on edition sheet)) ≡ handouts (outcome edition sheet.now) n
  unfolding outcome
  steps_handouts = kept (open_of edition sheet.now) refl

-- so the first T steps hand out all of them
pub steps_all : (edition : ℕ) (sheet : Bor (List ℕ)) (t : ℕ) → open_of edition sheet.now ≡ Ok t → map (handout_of sheet.now) (steps t (opened_on edition sheet)) ≡ map slot_handed (slots sheet.now)
unfolding outcome_of handouts
steps_all edition sheet t e =
    kept edition sheet t (Ok t) e
    ∙ take_at (map slot_handed (slots sheet.now)) (replicate t ended) t (length-map (slots sheet.now) slot_handed ∙ open_of_slots_length edition sheet.now t e)

-- a reader keeps the sheet that it was opened on, and what opening found
pub moved_by_sheet : (n : ℕ) (reader : Reader) → (moved_by n reader).sheet ≡ reader.sheet
unfolding moved_by
moved_by_sheet zero reader = refl
moved_by_sheet (suc n) reader = moved_by_sheet n (moved_on reader)

pub moved_by_opened : (n : ℕ) (reader : Reader) → (moved_by n reader).opened ≡ reader.opened
unfolding moved_by
moved_by_opened zero reader = refl
moved_by_opened (suc n) reader = moved_by_opened n (moved_on reader)
