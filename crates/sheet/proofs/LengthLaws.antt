-- Laws of a slot's name length and the bytes behind it, which are read as one number: it is 1 to 48 just where they are right, and is the length then.
use borrow.Author.Tests.{eq-eqb, ne_eqb, le-leb, lt-leb}
use mathlib.Core.Path.{◌≡◌, sym, ap, ◌∙◌}
use mathlib.Core.Bool.{Bool, false, ◌&&◌, and-false}
use mathlib.Core.List.{List}
use Prim.Native.Nat.{ℕ, ◌+◌, ◌*◌, ◌≤◌, ◌<◌}
use native.Mathlib.Decide.{dec_lt}
use native.Mathlib.Omega.{arith}
use lib.Dec.{leb, eqb}
use lib.ListN.{drop}
use Rattle.sheet.specs.Number.{number_at, number32}
use Rattle.sheet.specs.Slot.{name_length_at, reserved_at, name_at, name_length_of}
use Rattle.sheet.specs.Sound.{most_name_length, all_zero, name_right, name_length_right, reserved_zero, tail_zero}
use Rattle.sheet.proofs.NumberLaws.{number_at_more}
use Rattle.sheet.proofs.ZeroLaws.{stretch_number}

module _ (slot : List ℕ) where
  -- the number of the bytes that must be zero
  abbrev reserved : ℕ
  reserved = number_at slot reserved_at 3

  number_parts : number32 slot name_length_at ≡ name_length_of slot + 256 * reserved
  unfolding name_length_of
  number_parts = number_at_more slot name_length_at 3

  reserved_number : reserved_zero slot ≡ eqb reserved 0
  unfolding reserved_zero
  reserved_number = stretch_number slot reserved_at 3

  number_low : number32 slot name_length_at < 1 → name_right slot ≡ false
  unfolding name_right name_length_right
  number_low h = rw (lt-leb 1 (name_length_of slot) (omega (arith, number_parts)))

  number_high : most_name_length < number32 slot name_length_at → name_right slot ≡ false
  unfolding name_right name_length_right
  number_high h = cases (dec_lt 0 reserved)
    where
      cases : Dec (0 < reserved) → name_right slot ≡ false
      cases (yes q) = simp (reserved_number, ne_eqb reserved 0 (λ e. omega arith), and-false)
      cases (no q) = rw (lt-leb (name_length_of slot) most_name_length (omega (arith, number_parts)), and-false)

  number_listed : 1 ≤ number32 slot name_length_at → number32 slot name_length_at ≤ most_name_length → name_right slot ≡ tail_zero slot
  unfolding name_right name_length_right
  number_listed l h = rw (
    le-leb 1 (name_length_of slot) (omega (arith, number_parts)),
    le-leb (name_length_of slot) most_name_length (omega (arith, number_parts)),
    reserved_number,
    eq-eqb reserved 0 (omega (arith, number_parts)),
  )

  pub name_right_parts : name_right slot
      ≡ (leb 1 (number32 slot name_length_at) && leb (number32 slot name_length_at) most_name_length && all_zero (drop (name_at + number32 slot name_length_at) slot))
  unfolding tail_zero
  name_right_parts = low (dec_lt (number32 slot name_length_at) 1)
    where
      rest : ℕ → Bool
      rest n = all_zero (drop (name_at + n) slot)

      high : 1 ≤ number32 slot name_length_at → Dec (most_name_length < number32 slot name_length_at)
          → name_right slot ≡ (leb 1 (number32 slot name_length_at) && leb (number32 slot name_length_at) most_name_length && rest (number32 slot name_length_at))
      high l (yes h) = number_high h ∙ sym (rw (lt-leb (number32 slot name_length_at) most_name_length h, and-false))
      high l (no h) =
          number_listed l (omega arith)
          ∙ ap rest {y = number32 slot name_length_at} (omega (arith, number_parts))
          ∙ sym (rw (le-leb 1 (number32 slot name_length_at) l, le-leb (number32 slot name_length_at) most_name_length (omega arith)))

      low : Dec (number32 slot name_length_at < 1)
          → name_right slot ≡ (leb 1 (number32 slot name_length_at) && leb (number32 slot name_length_at) most_name_length && rest (number32 slot name_length_at))
      low (yes h) = number_low h ∙ sym (rw (lt-leb 1 (number32 slot name_length_at) h))
      low (no h) = high (omega arith) (dec_lt most_name_length (number32 slot name_length_at))
