-- Slots that stand among others.
use Prim.Native.Nat.{ℕ, suc, ◌+◌, ◌<◌}
use mathlib.Core.Path.{◌≡◌, sym, ap, ◌∙◌, subst}
use mathlib.Core.List.{List, [], ◌∷◌, ◌++◌}
use native.Mathlib.Nat.{zero-add, add-zero}
use native.Mathlib.Omega.{arith}
use lib.ListN.{length, get_or}
use Rattle.sheet.specs.Slot.{empty_slot}
use Rattle.tree.specs.Tree.{SlotBytes}

-- some slots stand among others from number k on
unfoldable pub Stand : List SlotBytes → ℕ → List SlotBytes → Type 0
Stand others k [] = Unit {0}
Stand others k (s ∷ ss) = (get_or others k empty_slot ≡ s) × Stand others (suc k) ss

pub stand_split : (others : List SlotBytes) (xs ys : List SlotBytes) (k : ℕ) → Stand others k (xs ++ ys) → Stand others k xs × Stand others (k + length xs) ys
unfolding Stand
stand_split others [] ys k h = (tt, rw (add-zero k) h)
stand_split others (x ∷ xs) ys k h =
    let parts = stand_split others xs ys (suc k) h.1 in
    ((h.0, parts.0), subst (λ (n : ℕ). Stand others n ys) (omega arith) parts.1)

-- from the slots one by one
stand_each : (others ss : List SlotBytes) (k : ℕ) → ((i : ℕ) → i < length ss → get_or others (k + i) empty_slot ≡ get_or ss i empty_slot) → Stand others k ss
unfolding Stand
stand_each others [] k h = tt
stand_each others (s ∷ ss) k h = (
  ap (λ (n : ℕ). get_or others n empty_slot) (sym (add-zero k)) ∙ h 0 (omega arith),
  stand_each others ss (suc k) (λ i l. ap (λ (n : ℕ). get_or others n empty_slot) {x = suc k + i} {y = k + suc i} (omega arith) ∙ h (suc i) (omega arith)),
)

-- slots stand among themselves
pub stand_own : (ss : List SlotBytes) → Stand ss 0 ss
stand_own ss = stand_each ss ss 0 (λ i h. ap (λ (n : ℕ). get_or ss n empty_slot) (zero-add i))
