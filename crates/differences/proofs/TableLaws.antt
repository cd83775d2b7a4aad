-- The table of a slot's fields.
use mathlib.Core.Path.{◌≡◌, refl}
use mathlib.Core.Bool.{Bool, true, ◌&&◌}
use mathlib.Core.List.{List, [], ◌∷◌}
use Prim.Native.Nat.{ℕ, ◌+◌, ◌≤◌, ◌<◌}
use lib.Dec.{eqb, leb}
use lib.ListN.{get_or}
use borrow.Author.Tests.{eqb-true, leb-true}
use Rattle.laws.proofs.BoolLaws.{and_left, and_right, and_both, at_each}
use Rattle.sheet.specs.Block.{slot_size}
use Rattle.differences.specs.Entry.{SlotField, slot_fields}
use Rattle.differences.specs.Steps.{field_of}
use Rattle.differences.specs.declared.fields.Field.{Field}

-- what stands where there is no field
abbrev pub no_field : SlotField
no_field = record { code = 0; width = 0 }

-- the fields, as the code has them
abbrev pub fields : List Field
fields =
    record { code = 0; width = 1 }
    ∷ record { code = 1; width = 1 }
    ∷ record { code = 2; width = 1 }
    ∷ record { code = 3; width = 1 }
    ∷ record { code = 4; width = 1 }
    ∷ record { code = 5; width = 1 }
    ∷ record { code = 6; width = 2 }
    ∷ record { code = 8; width = 4 }
    ∷ record { code = 12; width = 4 }
    ∷ record { code = 16; width = 4 }
    ∷ record { code = 20; width = 1 }
    ∷ record { code = 24; width = 48 }
    ∷ []

abbrev field_at : ℕ → Field
field_at i = get_or fields i (record { code = 0; width = 0 })

-- a test of the whole table
abbrev code_right : ℕ → Bool
code_right i = eqb (field_at i).code (get_or slot_fields i no_field).code

abbrev width_right : ℕ → Bool
width_right i = eqb (field_at i).width (get_or slot_fields i no_field).width

abbrev within : ℕ → Bool
within i = leb ((field_at i).code + (field_at i).width) slot_size

all_right : (i : ℕ) → i < 12 → (code_right i && (width_right i && within i)) ≡ true
unfolding slot_fields
all_right i h = at_each 12 (λ k. code_right k && (width_right k && within k)) refl i h

module _ (i : ℕ) (h : i < 12) where
  both_right : (code_right i ≡ true) × ((width_right i && within i) ≡ true)
  both_right = and_both (code_right i) (width_right i && within i) (all_right i h)

  pub field_is : field_of (field_at i) ≡ get_or slot_fields i no_field
  field_is =
      let code = eqb-true _ _ both_right.0 in
      let width = eqb-true _ _ (and_left (width_right i) (within i) both_right.1) in
      λ t. record { code = code t; width = width t }

  pub field_within : (field_at i).code + (field_at i).width ≤ slot_size
  field_within = leb-true _ _ (and_right (width_right i) (within i) both_right.1)
