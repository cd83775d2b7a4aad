-- Laws of sound slots.
use mathlib.Core.Path.{◌≡◌, sym, ◌∙◌}
use mathlib.Core.Logic.{◌⊎◌, inl, inr}
use mathlib.Core.Bool.{true, So, ◌&&◌, and-eq-true_iff}
use mathlib.Core.List.{List}
use Prim.Native.Nat.{ℕ, ◌≤◌, ◌<◌}
use native.Mathlib.Decide.{dec_le}
use native.Mathlib.Omega.{arith}
use lib.Dec.{leb, eqb}
use borrow.Author.Tests.{lt-ltb, le-ltb, lt-leb, leb-true, eqb-true}
use Rattle.sheet.specs.Block.{total_of}
use Rattle.sheet.specs.Slot.{physical, repetition, converted, logical, name_length_of, slot_at}
use Rattle.parquet.specs.Physical as physical
use Rattle.parquet.specs.Repetition as repetition
use Rattle.parquet.specs.Converted as converted
use Rattle.sheet.specs.Sound.{listed, physical_listed, repetition_listed, converted_listed, logical_listed, most_name_length, name_length_right, all_zero, reserved_zero, tail_zero, codes_listed, name_right, slot_sound, slot_right}

-- the slot of a node is right where it is sound
pub slot_right_used : (edition : ℕ) (sheet : List ℕ) (k : ℕ) → k < total_of sheet → slot_right edition sheet k ≡ slot_sound edition (slot_at sheet k)
unfolding slot_right
slot_right_used edition sheet k h = rw (lt-ltb k (total_of sheet) h)

-- any other where it is zero
pub slot_right_unused : (edition : ℕ) (sheet : List ℕ) (k : ℕ) → total_of sheet ≤ k → slot_right edition sheet k ≡ all_zero (slot_at sheet k)
unfolding slot_right
slot_right_unused edition sheet k h = rw (le-ltb k (total_of sheet) h)

listed_beside : (last beside code : ℕ) → last < code → listed last beside code ≡ eqb code beside
unfolding listed
listed_beside last beside code h = rw (lt-leb code last h)

-- a listed code, taken apart
pub listed_cases : (last beside code : ℕ) → listed last beside code ≡ true → (code ≤ last) ⊎ (code ≡ beside)
listed_cases last beside code e = cases (dec_le code last)
  where
    cases : Dec (code ≤ last) → (code ≤ last) ⊎ (code ≡ beside)
    cases (yes h) = inl h
    cases (no h) = inr (eqb-true code beside (sym (listed_beside last beside code (omega arith)) ∙ e))

-- a sound slot, taken apart
module _ (edition : ℕ) (slot : List ℕ) (sound : slot_sound edition slot ≡ true) where
  halves : So (codes_listed edition slot) × So (name_right slot)
  unfolding slot_sound
  halves = (and-eq-true_iff (codes_listed edition slot) (name_right slot)).0 sound

  codes : So (physical_listed (physical slot) && repetition_listed (repetition slot) && converted_listed (converted slot)) × So (logical_listed edition (logical slot))
  unfolding codes_listed
  codes =
      (and-eq-true_iff (physical_listed (physical slot) && repetition_listed (repetition slot) && converted_listed (converted slot)) (logical_listed edition (logical slot))).0
      halves.0

  listed_two : So (physical_listed (physical slot) && repetition_listed (repetition slot)) × So (converted_listed (converted slot))
  listed_two =
      (and-eq-true_iff (physical_listed (physical slot) && repetition_listed (repetition slot)) (converted_listed (converted slot))).0 codes.0

  listed_one : So (physical_listed (physical slot)) × So (repetition_listed (repetition slot))
  listed_one = (and-eq-true_iff (physical_listed (physical slot)) (repetition_listed (repetition slot))).0 listed_two.0

  name_parts : So (name_length_right (name_length_of slot) && reserved_zero slot) × So (tail_zero slot)
  unfolding name_right
  name_parts = (and-eq-true_iff (name_length_right (name_length_of slot) && reserved_zero slot) (tail_zero slot)).0 halves.1

  name_front : So (name_length_right (name_length_of slot)) × So (reserved_zero slot)
  name_front = (and-eq-true_iff (name_length_right (name_length_of slot)) (reserved_zero slot)).0 name_parts.0

  name_bounds : So (leb 1 (name_length_of slot)) × So (leb (name_length_of slot) most_name_length)
  unfolding name_length_right
  name_bounds = (and-eq-true_iff (leb 1 (name_length_of slot)) (leb (name_length_of slot) most_name_length)).0 name_front.0

  pub sound_physical : (physical slot ≤ physical.FIXED_LEN_BYTE_ARRAY) ⊎ (physical slot ≡ physical.GROUP)
  unfolding physical_listed
  sound_physical = listed_cases physical.FIXED_LEN_BYTE_ARRAY physical.GROUP (physical slot) listed_one.0

  pub sound_repetition : (repetition slot ≤ repetition.REPEATED) ⊎ (repetition slot ≡ repetition.NONE)
  unfolding repetition_listed
  sound_repetition = listed_cases repetition.REPEATED repetition.NONE (repetition slot) listed_one.1

  pub sound_converted : (converted slot ≤ converted.INTERVAL) ⊎ (converted slot ≡ converted.NONE)
  unfolding converted_listed
  sound_converted = listed_cases converted.INTERVAL converted.NONE (converted slot) listed_two.1

  pub sound_name_length_least : 1 ≤ name_length_of slot
  sound_name_length_least = leb-true 1 (name_length_of slot) name_bounds.0

  pub sound_name_length_most : name_length_of slot ≤ most_name_length
  sound_name_length_most = leb-true (name_length_of slot) most_name_length name_bounds.1

  pub sound_reserved : reserved_zero slot ≡ true
  sound_reserved = name_front.1

  pub sound_tail : tail_zero slot ≡ true
  sound_tail = name_parts.1
