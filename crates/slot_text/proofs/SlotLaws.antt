-- Integers with spaces between them, one more at a time, and a slot's numbers as integers of 64 bits.
-- Assumes nothing.
use Prim.Native.Nat.{ℕ, zero, suc, ◌<◌, ◌^◌}
use mathlib.Core.List.{List, [], ◌∷◌, ◌++◌, append_assoc, map, map-append}
use mathlib.Core.Path.{◌≡◌, refl, sym, ap, subst, ◌∙◌}
use native.Mathlib.Omega.{arith}
use lib.IntN.{ℤ, pos}
use lib.ListN.{length, take, get_or}
use lib.Seq.{take-suc}
use lib.Signed.{mag}
use mir.Syntax.{w32, w64}
use mir.Val.{SFits, to_z, of_z}
use mir.ValLaws.{to_z-of_z}
use Rattle.text.specs.Characters.{ascii, SPACE}
use Rattle.text.specs.Numbers.{signed_text}
use Rattle.text.specs.Lines.{spaced}
use Rattle.text.proofs.LineLaws.{spaced_snoc}
use Rattle.sheet.specs.declared.slots.Slot.{Slot}
use Rattle.slot_text.specs.Slots.{integers_text, slot_text}

-- the first
pub integers_first : (zs : List ℤ) → 0 < length zs → signed_text (get_or zs 0 (pos 0)) ≡ integers_text (take 1 zs)
unfolding integers_text spaced
integers_first [] h = absurd (omega arith)
integers_first (z ∷ zs) h = refl

-- and each later one behind a space
pub integers_later : (zs : List ℤ) (i : ℕ) → 0 < i → i < length zs → integers_text (take i zs) ++ ascii " " ++ signed_text (get_or zs i (pos 0)) ≡ integers_text (take (suc i) zs)
unfolding integers_text
integers_later [] i some h = absurd (omega arith)
integers_later (z ∷ zs) zero some h = absurd (omega arith)
integers_later (z ∷ zs) (suc i) some h =
    append_assoc (spaced (map signed_text (z ∷ take i zs))) (SPACE ∷ []) (signed_text (get_or zs i (pos 0)))
    ∙ sym (spaced_snoc (signed_text z) (signed_text (get_or zs i (pos 0))) (map signed_text (take i zs)))
    ∙ ap (λ (ts : List (List ℕ)). spaced (signed_text z ∷ ts)) (sym (map-append signed_text (take i zs) (get_or zs i (pos 0) ∷ [])) ∙ ap (map signed_text) (sym (take-suc zs i (pos 0) (omega arith))))

-- an integer as the machine reads it back from its bits
abbrev pub back32 : ℤ → ℤ
back32 z = to_z w32 (of_z w32 z)

abbrev pub back64 : ℤ → ℤ
back64 z = to_z w64 (of_z w64 z)

-- one of 32 bits is one of 64
pub wider : (z : ℤ) → mag z < 2 ^ 31 → SFits w64 (back32 z)
wider z h = subst (SFits w64) (sym (to_z-of_z w32 z (record { sfits = h }))) (record { sfits = omega (arith, h) })

back_signed : (z : ℤ) → mag z < 2 ^ 31 → back64 (back32 z) ≡ z
back_signed z h = to_z-of_z w64 (back32 z) (wider z h) ∙ to_z-of_z w32 z (record { sfits = h })

back_natural : (n : ℕ) → n < 2 ^ 16 → back64 (pos n) ≡ pos n
back_natural n h = to_z-of_z w64 (pos n) (record { sfits = omega (arith, h) })

-- a slot's numbers are of so many bits
pub record Numbers (slot : Slot) : Type 0 where
  pub physical : slot.physical < 2 ^ 8
  pub repetition : slot.repetition < 2 ^ 8
  pub converted : slot.converted < 2 ^ 8
  pub logical : slot.logical < 2 ^ 8
  pub a : slot.a < 2 ^ 8
  pub b : slot.b < 2 ^ 8
  pub children : slot.children < 2 ^ 16
  pub type_length : mag slot.type_length < 2 ^ 31
  pub scale : mag slot.scale < 2 ^ 31
  pub precision : mag slot.precision < 2 ^ 31
  pub name_length : slot.name_length < 2 ^ 8

pub slot_read : (slot : Slot) → Numbers slot
    → integers_text
    (back64 (pos slot.physical)
    ∷ back64 (pos slot.repetition)
    ∷ back64 (pos slot.converted)
    ∷ back64 (pos slot.logical)
    ∷ back64 (pos slot.a)
    ∷ back64 (pos slot.b)
    ∷ back64 (pos slot.children)
    ∷ back64 (back32 slot.type_length)
    ∷ back64 (back32 slot.scale)
    ∷ back64 (back32 slot.precision)
    ∷ back64 (pos slot.name_length)
    ∷ [])
    ≡ slot_text slot
unfolding slot_text
slot_read slot h =
    rw (
      back_natural slot.physical (omega arith),
      back_natural slot.repetition (omega arith),
      back_natural slot.converted (omega arith),
      back_natural slot.logical (omega arith),
      back_natural slot.a (omega arith),
      back_natural slot.b (omega arith),
      back_natural slot.children (omega arith),
      back_signed slot.type_length h.type_length,
      back_signed slot.scale h.scale,
      back_signed slot.precision h.precision,
      back_natural slot.name_length (omega arith),
    )
