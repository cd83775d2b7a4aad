-- Laws of a sheet's slots.
use mathlib.Core.Path.{◌≡◌, refl, sym, ap, ◌∙◌}
use mathlib.Core.Bool.{Bool, true, false, and-eq-true_iff}
use mathlib.Core.List.{List, ◌∷◌}
use Prim.Native.Nat.{ℕ, zero, suc, ◌+◌, ◌-◌, ◌*◌, ◌/◌, ◌%◌, ◌≤◌, ◌<◌}
use native.Mathlib.Nat.{add-zero, zero-add, add-suc, suc-add, mod-eq_of_lt, mul-add-mod_self_left}
use native.Mathlib.Decide.{dec_lt}
use native.Mathlib.Omega.{arith}
use lib.Dec.{leb, ltb}
use lib.ListN.{length, get_or, take, drop, get_or-replicate, get_or-eq_default}
use lib.Seq.{get_or-take, get_or-drop, drop-cons}
use borrow.Author.Tests.{lt-ltb, le-leb, leb-true}
use Rattle.sheet.specs.Block.{block_size, first_slot_at, check_at, most_bytes, most_nodes, slots_in_block, slot_size, block_count, total_of}
use Rattle.sheet.specs.Slot.{slot_start, reaches, empty_slot, slot_at, slot_bytes_at, slots_from, slots}
use Rattle.laws.specs.Bytes.{Bytes}
use Rattle.sheet.proofs.PartLaws.{take_to, length_part}

-- every node's slot lies within the longest sheet
pub slot_start_most : (k : ℕ) → k < most_nodes → slot_start k + slot_size ≤ most_bytes
unfolding slot_start
slot_start_most k h = omega arith

-- where a slot's byte stands in its block
slot_start_offset : (k i : ℕ) → i < slot_size → (slot_start k + i) % block_size ≡ first_slot_at + slot_size * (k % slots_in_block) + i
unfolding slot_start
slot_start_offset k i h =
    ap (λ (n : ℕ). n % block_size) regrouped
    ∙ mul-add-mod_self_left block_size (k / slots_in_block) (first_slot_at + slot_size * (k % slots_in_block) + i)
    ∙ mod-eq_of_lt (omega arith)
  where
    regrouped : block_size * (k / slots_in_block) + first_slot_at + slot_size * (k % slots_in_block) + i ≡ block_size * (k / slots_in_block) + (first_slot_at + slot_size * (k % slots_in_block) + i)
    regrouped = omega arith

-- behind the header
pub slot_start_behind : (k i : ℕ) → i < slot_size → first_slot_at ≤ (slot_start k + i) % block_size
slot_start_behind k i h = omega (arith, slot_start_offset k i h)

-- and before the check
pub slot_start_before : (k i : ℕ) → i < slot_size → (slot_start k + i) % block_size < check_at
slot_start_before k i h = omega (arith, slot_start_offset k i h)

-- the slots of the whole blocks lie within the bytes
pub slot_start_within : (sheet : List ℕ) (k : ℕ) → k < slots_in_block * block_count sheet → slot_start k + slot_size ≤ length sheet
unfolding slot_start block_count
slot_start_within sheet k h = omega arith

-- and are no more than a sheet can have nodes
pub block_count_most : (sheet : List ℕ) → length sheet ≤ most_bytes → slots_in_block * block_count sheet ≤ most_nodes
unfolding block_count
block_count_most sheet h = omega arith

pub reaches_true : (sheet : List ℕ) (k : ℕ) → k < most_nodes → slot_start k + slot_size ≤ length sheet → reaches sheet k ≡ true
unfolding reaches
reaches_true sheet k l h = rw (lt-ltb k most_nodes l, le-leb (slot_start k + slot_size) (length sheet) h)

-- where the bytes reach, a slot is what stands there
pub slot_at_there : (sheet : List ℕ) (k : ℕ) → reaches sheet k ≡ true → slot_at sheet k ≡ take slot_size (drop (slot_start k) sheet)
unfolding slot_at
slot_at_there sheet k e = rw e

-- and zeros elsewhere
pub slot_at_empty : (sheet : List ℕ) (k : ℕ) → reaches sheet k ≡ false → slot_at sheet k ≡ empty_slot
unfolding slot_at
slot_at_empty sheet k e = rw e

-- a slot as a slice of the code has it
pub slot_at_slice : (sheet : List ℕ) (k start : ℕ) → start ≡ slot_start k → reaches sheet k ≡ true
    → take (start + slot_size - start) (drop start sheet) ≡ slot_at sheet k
slot_at_slice sheet k start e r =
    take_to sheet start slot_size ∙ ap (λ (at : ℕ). take slot_size (drop at sheet)) e ∙ sym (slot_at_there sheet k r)

-- a slot's bytes, where they are reached
pub slot_bytes_at_there : (sheet : List ℕ) (k : ℕ) → reaches sheet k ≡ true → slot_bytes_at sheet k ≡ slot_at sheet k
unfolding slot_bytes_at
slot_bytes_at_there sheet k e = rw e

-- a byte of a slot is a byte of the sheet
pub slot_at_byte : (sheet : List ℕ) (k i : ℕ) → reaches sheet k ≡ true → i < slot_size → get_or (slot_at sheet k) i 0 ≡ get_or sheet (slot_start k + i) 0
slot_at_byte sheet k i r h =
    ap (λ (slot : List ℕ). get_or slot i 0) (slot_at_there sheet k r)
    ∙ get_or-take slot_size (drop (slot_start k) sheet) i 0 h
    ∙ get_or-drop (slot_start k) sheet i 0

-- a slot that the bytes reach lies within them
pub reaches_within : (sheet : List ℕ) (k : ℕ) → reaches sheet k ≡ true → slot_start k + slot_size ≤ length sheet
unfolding reaches
reaches_within sheet k r =
    leb-true (slot_start k + slot_size) (length sheet) ((and-eq-true_iff (ltb k most_nodes) (leb (slot_start k + slot_size) (length sheet))).0 r).1

-- every slot has its 72 bytes
pub slot_at_length : (sheet : List ℕ) (k : ℕ) → length (slot_at sheet k) ≡ slot_size
unfolding empty_slot
slot_at_length sheet k = cases (reaches sheet k) refl
  where
    cases : (t : Bool) → reaches sheet k ≡ t → length (slot_at sheet k) ≡ slot_size
    cases true r = ap length (slot_at_there sheet k r) ∙ length_part sheet (slot_start k) slot_size (reaches_within sheet k r)
    cases false r = ap length (slot_at_empty sheet k r)

slots_from_length : (n : ℕ) (sheet : List ℕ) (k : ℕ) → length (slots_from sheet k n) ≡ n
unfolding slots_from
slots_from_length zero sheet k = refl
slots_from_length (suc n) sheet k = ap suc (slots_from_length n sheet (suc k))

slots_from_at : (n i : ℕ) (sheet : List ℕ) (k : ℕ) (other : List ℕ) → i < n → get_or (slots_from sheet k n) i other ≡ slot_at sheet (k + i)
unfolding slots_from
slots_from_at zero i sheet k other h = absurd (omega arith)
slots_from_at (suc n) zero sheet k other h = ap (slot_at sheet) (sym (add-zero k))
slots_from_at (suc n) (suc i) sheet k other h =
    slots_from_at n i sheet (suc k) other (omega arith) ∙ ap (slot_at sheet) (suc-add k i ∙ sym (add-suc k i))

-- the used slots are T
pub slots_length : (sheet : List ℕ) → length (slots sheet) ≡ total_of sheet
unfolding slots
slots_length sheet = slots_from_length (total_of sheet) sheet 0

-- the k-th of them is node k's
pub slots_at_lem : (sheet : List ℕ) (k : ℕ) (other : List ℕ) → k < total_of sheet → get_or (slots sheet) k other ≡ slot_at sheet k
unfolding slots
slots_at_lem sheet k other h = slots_from_at (total_of sheet) k sheet 0 other h ∙ ap (slot_at sheet) (zero-add k)

-- from the k-th on they are node k's and those after it
pub slots_drop : (sheet : List ℕ) (k : ℕ) → k < total_of sheet → drop k (slots sheet) ≡ slot_at sheet k ∷ drop (suc k) (slots sheet)
slots_drop sheet k h =
    drop-cons (slots sheet) k empty_slot (omega (arith, slots_length sheet))
    ∙ ap (λ (slot : List ℕ). slot ∷ drop (suc k) (slots sheet)) (slots_at_lem sheet k empty_slot h)

-- an empty slot is zero
pub empty_slot_byte : (i : ℕ) → i < slot_size → get_or empty_slot i 0 ≡ 0
unfolding empty_slot
empty_slot_byte i h = get_or-replicate slot_size i 0 0 h

-- a slot of bytes is bytes
pub slot_at_bytes : (sheet : List ℕ) (k : ℕ) → Bytes sheet → Bytes (slot_at sheet k)
slot_at_bytes sheet k bytes i = cases (dec_lt i slot_size) (reaches sheet k) refl
  where
    cases : Dec (i < slot_size) → (t : Bool) → reaches sheet k ≡ t → get_or (slot_at sheet k) i 0 < 256
    cases (yes h) true r = omega (arith, slot_at_byte sheet k i r h, bytes (slot_start k + i))
    cases (yes h) false r =
        omega (arith, ap (λ (slot : List ℕ). get_or slot i 0) (slot_at_empty sheet k r), empty_slot_byte i h)
    cases (no h) t r =
        omega (arith, get_or-eq_default (slot_at sheet k) 0 {n = i} (omega (arith, slot_at_length sheet k)))
