-- When a slot is sound in an edition: its codes stand in the lists of document 01 and of the edition, its name has a length, and zeros stand where zeros must.
use Rattle.std.specs.Prelude.{ℕ, ◌+◌, ◌-◌, Bool, true, cond, ◌&&◌, ◌||◌, List, [], ◌∷◌, leb, ltb, eqb, take, drop}
use Rattle.parquet.specs.Physical as physical
use Rattle.parquet.specs.Repetition as repetition
use Rattle.parquet.specs.Converted as converted
use Rattle.parquet.specs.Logical as logical
use Rattle.parquet.specs.Logical.{is_geospatial}
use Rattle.edition.specs.Editions.{has_geospatial}
use Rattle.sheet.specs.Block.{total_of}
use Rattle.sheet.specs.Slot.{physical, repetition, converted, logical, name_length_of, reserved_at, name_at, slot_at}

-- a code of a list that runs from 0 to its last code, or the one code beside it
unfoldable pub listed : ℕ → ℕ → ℕ → Bool
listed last beside code = leb code last || eqb code beside

-- "physical (BOOLEAN 0, .. FIXED_LEN_BYTE_ARRAY 7, group 255)"
unfoldable pub physical_listed : ℕ → Bool
physical_listed code = listed physical.FIXED_LEN_BYTE_ARRAY physical.GROUP code

-- "required 0, optional 1, repeated 2, none 255"
unfoldable pub repetition_listed : ℕ → Bool
repetition_listed code = listed repetition.REPEATED repetition.NONE code

-- "converted (0-21, none 255)", 21 being INTERVAL
unfoldable pub converted_listed : ℕ → Bool
converted_listed code = listed converted.INTERVAL converted.NONE code

-- "logical (1-8, 10-14, none 0)", 8 being TIMESTAMP, 10 INTEGER and 14 UUID; and GEOMETRY and GEOGRAPHY in the editions that have them: "In editions 1 and 2
-- these codes stay 4" (document 02, R-11)
unfoldable pub logical_listed : ℕ → ℕ → Bool
logical_listed edition code =
    leb code logical.TIMESTAMP || (leb logical.INTEGER code && leb code logical.UUID) || (is_geospatial code && has_geospatial edition)

-- "name length 1-48"
abbrev pub most_name_length : ℕ
most_name_length = 48

unfoldable pub name_length_right : ℕ → Bool
name_length_right n = leb 1 n && leb n most_name_length

-- every byte is zero
unfoldable pub all_zero : List ℕ → Bool
all_zero [] = true
all_zero (byte ∷ bytes) = eqb byte 0 && all_zero bytes

-- "21-23 zero"
unfoldable pub reserved_zero : List ℕ → Bool
reserved_zero slot = all_zero (take (name_at - reserved_at) (drop reserved_at slot))

-- "24-71 name, zero after its length"
unfoldable pub tail_zero : List ℕ → Bool
tail_zero slot = all_zero (drop (name_at + name_length_of slot) slot)

-- no "slot code outside the lists above"
unfoldable pub codes_listed : ℕ → List ℕ → Bool
codes_listed edition slot =
    physical_listed (physical slot)
    && repetition_listed (repetition slot)
    && converted_listed (converted slot)
    && logical_listed edition (logical slot)

-- no "name length or zero bytes wrong"
unfoldable pub name_right : List ℕ → Bool
name_right slot = name_length_right (name_length_of slot) && reserved_zero slot && tail_zero slot

-- a slot in use is sound in an edition; its other fields may hold anything
unfoldable pub slot_sound : ℕ → List ℕ → Bool
slot_sound edition slot = codes_listed edition slot && name_right slot

-- the slot of number k is sound where k is a node's, and zero where it is not
unfoldable pub slot_right : ℕ → List ℕ → ℕ → Bool
slot_right edition sheet k = cond (ltb k (total_of sheet)) (slot_sound edition (slot_at sheet k)) (all_zero (slot_at sheet k))
