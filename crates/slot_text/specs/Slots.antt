-- A slot's numbers and where its name stands, as text: "0 physical; 1 repetition; 2 converted; 3 logical; 4, 5 parameters a, b; 6-7 child
-- count; 8-11 type length, 12-15 scale, 16-19 precision, each signed; 20 name length".
use Rattle.std.specs.Prelude.{ℕ, List, [], ◌∷◌, ◌++◌, map, ℤ, pos}
use Rattle.text.specs.Characters.{ascii}
use Rattle.text.specs.Numbers.{decimal_text, signed_text}
use Rattle.text.specs.Lines.{spaced, line_of}
use Rattle.sheet.specs.declared.slots.Slot.{Slot}
use Rattle.sheet.specs.declared.names.Stretch.{Stretch}

-- integers with a space between each two
unfoldable pub integers_text : List ℤ → List ℕ
integers_text zs = spaced (map signed_text zs)

-- a slot's numbers, in the order of its bytes
unfoldable pub slot_text : Slot → List ℕ
slot_text slot =
    integers_text
    (pos slot.physical
    ∷ pos slot.repetition
    ∷ pos slot.converted
    ∷ pos slot.logical
    ∷ pos slot.a
    ∷ pos slot.b
    ∷ pos slot.children
    ∷ slot.type_length
    ∷ slot.scale
    ∷ slot.precision
    ∷ pos slot.name_length
    ∷ [])

-- a stretch of a sheet's bytes by its start and its length
unfoldable pub stretch_text : Stretch → List ℕ
stretch_text stretch = decimal_text stretch.start ++ ascii " " ++ decimal_text stretch.len

-- the line of a slot and where its name stands
unfoldable pub slot_line : Slot → Stretch → List ℕ
slot_line slot name = line_of (slot_text slot ++ ascii " " ++ stretch_text name)

-- the most bytes that these take: eleven integers of 64 bits with spaces between them, and two numbers of 64 bits with one
abbrev pub most_slot_bytes : ℕ
most_slot_bytes = 230

abbrev pub most_stretch_bytes : ℕ
most_stretch_bytes = 41
