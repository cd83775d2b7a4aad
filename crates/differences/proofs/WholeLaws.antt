-- Slots that have all their bytes, and zeros before their names.
use Prim.Native.Nat.{ℕ, suc, ◌-◌, ◌<◌}
use mathlib.Core.Path.{◌≡◌, refl, sym, ◌∙◌}
use mathlib.Core.Bool.{true}
use mathlib.Core.List.{List, ◌∷◌}
use native.Mathlib.Decide.{dec_lt}
use native.Mathlib.Omega.{arith}
use lib.ListN.{length, get_or, take, drop, length-take, length-drop, get_or-eq_default}
use lib.Seq.{ext_get_or}
use Rattle.sheet.specs.Block.{slot_size}
use Rattle.sheet.specs.Slot.{reserved_at, name_at, empty_slot}
use Rattle.sheet.specs.Sound.{all_zero, reserved_zero}
use Rattle.sheet.proofs.ZeroLaws.{all_zero_each}
use Rattle.tree.specs.Tree.{SlotBytes}

-- a slot that has all its bytes, and zeros before its name
pub record Whole (s : SlotBytes) : Type 0 where
  pub long : length s ≡ slot_size
  pub reserved : reserved_zero s ≡ true

whole_empty : Whole empty_slot
unfolding empty_slot reserved_zero all_zero
whole_empty = record { long = refl; reserved = refl }

-- each of some slots is one
abbrev pub AllWhole : List SlotBytes → Type 0
AllWhole ss = (j : ℕ) → j < length ss → Whole (get_or ss j empty_slot)

-- all but the first
pub whole_rest : (s : SlotBytes) (ss : List SlotBytes) → AllWhole (s ∷ ss) → AllWhole ss
whole_rest s ss all j h = all (suc j) (omega arith)

-- and any that is not among them
pub whole_any : (ss : List SlotBytes) → AllWhole ss → (j : ℕ) → Whole (get_or ss j empty_slot)
whole_any ss all j = on (dec_lt j (length ss))
  where
    on : Dec (j < length ss) → Whole (get_or ss j empty_slot)
    on (yes h) = all j h
    on (no h) = rw (get_or-eq_default ss empty_slot {n = j} (omega arith)) whole_empty

zeros_same : (xs ys : List ℕ) → length xs ≡ length ys → all_zero xs ≡ true → all_zero ys ≡ true → xs ≡ ys
zeros_same xs ys e p q = ext_get_or 0 xs ys e (λ i h. all_zero_each xs p i ∙ sym (all_zero_each ys q i))

-- the zeros of two such slots are the same
pub reserved_same : (s v : SlotBytes) → Whole s → Whole v → take (name_at - reserved_at) (drop reserved_at s) ≡ take (name_at - reserved_at) (drop reserved_at v)
unfolding reserved_zero
reserved_same s v g h = zeros_same _ _ (simp (length-take, length-drop) (omega (arith, g.long, h.long))) g.reserved h.reserved
