-- What a sheet and a copy of it that differs in some bytes have in common.
use mathlib.Core.Path.{◌≡◌, refl, sym, ap₂, ◌∙◌}
use mathlib.Core.Bool.{Bool, true, false}
use mathlib.Core.List.{List}
use Prim.Native.Nat.{ℕ, ◌+◌, ◌*◌, ◌%◌, ◌<◌}
use native.Mathlib.Omega.{arith}
use lib.ListN.{length, get_or}
use lib.Seq.{ext_get_or}
use Rattle.sheet.specs.Block.{block_size, first_slot_at, slot_size, block_number_at, total_at, block_at, block_number, nodes_here, version, total, total_of}
use Rattle.sheet.specs.Check.{renewed}
use Rattle.sheet.specs.Header.{numbers_right, header_right}
use Rattle.sheet.specs.Slot.{slot_start, reaches, slot_at}
use Rattle.sheet.proofs.NumberLaws.{number_at_two}
use Rattle.sheet.proofs.BlockLaws.{block_at_byte, block_count_same}
use Rattle.sheet.proofs.RenewalLaws.{length_renewed, renewed_other}
use Rattle.sheet.proofs.SlotLaws.{slot_start_before, slot_at_empty, slot_at_byte, slot_at_length}

-- as long as a sheet, with its blocks' headers
pub record SameHeaders (copy sheet : List ℕ) : Type 0 where
  pub long : length copy ≡ length sheet
  pub headers : (p : ℕ) → p % block_size < first_slot_at → get_or copy p 0 ≡ get_or sheet p 0

module _ (copy sheet : List ℕ) (same : SameHeaders copy sheet) where
  header_byte : (i j : ℕ) → j < first_slot_at → get_or (block_at copy i) j 0 ≡ get_or (block_at sheet i) j 0
  header_byte i j h =
      block_at_byte copy i j (omega arith) ∙ same.headers (block_size * i + j) (omega arith) ∙ sym (block_at_byte sheet i j (omega arith))

  total_same : (i : ℕ) → total (block_at copy i) ≡ total (block_at sheet i)
  unfolding total
  total_same i =
      number_at_two (block_at copy i) total_at
      ∙ ap₂ (λ (low high : ℕ). low + 256 * high) (header_byte i total_at (omega arith)) (header_byte i (total_at + 1) (omega arith))
      ∙ sym (number_at_two (block_at sheet i) total_at)

  number_same : (i : ℕ) → block_number (block_at copy i) ≡ block_number (block_at sheet i)
  unfolding block_number
  number_same i =
      number_at_two (block_at copy i) block_number_at
      ∙ ap₂ (λ (low high : ℕ). low + 256 * high) (header_byte i block_number_at (omega arith)) (header_byte i (block_number_at + 1) (omega arith))
      ∙ sym (number_at_two (block_at sheet i) block_number_at)

  -- T is the same
  pub total_of_same : total_of copy ≡ total_of sheet
  unfolding total_of
  total_of_same = total_same 0

  -- and a header is right where it was
  pub header_right_same : (i : ℕ) → header_right copy i ≡ header_right sheet i
  unfolding header_right numbers_right version nodes_here
  header_right_same i =
      rw (number_same i, total_same i, total_of_same, header_byte i 2 (omega arith), header_byte i 3 (omega arith), block_count_same copy sheet same.long)

  pub reaches_same : (k : ℕ) → reaches copy k ≡ reaches sheet k
  unfolding reaches
  reaches_same k = rw same.long

  -- a slot whose bytes are the same is the same
  pub slot_at_same : (k : ℕ) → ((i : ℕ) → i < slot_size → get_or copy (slot_start k + i) 0 ≡ get_or sheet (slot_start k + i) 0) → slot_at copy k ≡ slot_at sheet k
  slot_at_same k bytes = cases (reaches sheet k) refl
    where
      cases : (t : Bool) → reaches sheet k ≡ t → slot_at copy k ≡ slot_at sheet k
      cases true r =
          ext_get_or 0 (slot_at copy k) (slot_at sheet k) (slot_at_length copy k ∙ sym (slot_at_length sheet k))
          (λ i h. let l : i < slot_size = omega (arith, slot_at_length copy k) in slot_at_byte copy k i (reaches_same k ∙ r) l ∙ bytes i l ∙ sym (slot_at_byte sheet k i r l))
      cases false r = slot_at_empty copy k (reaches_same k ∙ r) ∙ sym (slot_at_empty sheet k r)

-- copies that have a sheet's headers one after the other
pub headers_trans : (copy between sheet : List ℕ) → SameHeaders copy between → SameHeaders between sheet → SameHeaders copy sheet
headers_trans copy between sheet first second =
    record { long = first.long ∙ second.long; headers = λ p h. first.headers p h ∙ second.headers p h }

-- the checks are no part of a header
pub renewed_headers : (sheet : List ℕ) → SameHeaders (renewed sheet) sheet
renewed_headers sheet = record { long = length_renewed sheet; headers = λ p h. renewed_other sheet p (omega arith) }

-- nor of a slot
pub slot_at_renewed : (sheet : List ℕ) (k : ℕ) → slot_at (renewed sheet) k ≡ slot_at sheet k
slot_at_renewed sheet k =
    slot_at_same (renewed sheet) sheet (renewed_headers sheet) k (λ i h. renewed_other sheet (slot_start k + i) (slot_start_before k i h))
