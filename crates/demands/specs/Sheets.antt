-- Sheets of one block, by their slots: those that the starred points and document 01's example speak of.
use Rattle.std.specs.Prelude.{ℕ, List, [], ◌∷◌}
use Rattle.sheet.specs.Sheet.{sheet_of, slot_of}
use Rattle.logical_type.specs.Parameters.{UNUSED}
use Rattle.parquet.specs.Physical as physical
use Rattle.parquet.specs.Repetition as repetition
use Rattle.parquet.specs.Converted as converted
use Rattle.parquet.specs.Logical as logical

-- a root `r` of so many children
abbrev pub root_slot : ℕ → List ℕ
root_slot children =
    slot_of (physical.GROUP ∷ repetition.NONE ∷ converted.NONE ∷ logical.NONE ∷ UNUSED ∷ UNUSED ∷ []) children 0 0 0 (114 ∷ [])

-- a sheet of a root and one required leaf `x`, of physical, converted, logical, a and b, and of type length, scale and precision
abbrev pub leaf_sheet : ℕ → ℕ → ℕ → ℕ → ℕ → ℕ → ℕ → ℕ → List ℕ
leaf_sheet ph conv log a b len sc pr =
    sheet_of (root_slot 1 ∷ slot_of (ph ∷ repetition.REQUIRED ∷ conv ∷ log ∷ a ∷ b ∷ []) 0 len sc pr (120 ∷ []) ∷ [])

-- one of INT96 with such annotations and type length
abbrev pub int96_sheet : ℕ → ℕ → ℕ → List ℕ
int96_sheet conv log len = leaf_sheet physical.INT96 conv log UNUSED UNUSED len 0 0

-- one of BYTE_ARRAY with a converted and a logical type and parameter a
abbrev pub geospatial_sheet : ℕ → ℕ → ℕ → List ℕ
geospatial_sheet conv log a = leaf_sheet physical.BYTE_ARRAY conv log a UNUSED 0 0 0

-- "Root `r`; required LIST `parts`; repeated `list`", and the slot of the layer's one field
abbrev pub list_sheet : List ℕ → List ℕ
list_sheet one =
    sheet_of
    (root_slot 1
    ∷ slot_of (physical.GROUP ∷ repetition.REQUIRED ∷ converted.LIST ∷ logical.NONE ∷ UNUSED ∷ UNUSED ∷ []) 1 0 0 0 (112 ∷ 97 ∷ 114 ∷ 116 ∷ 115 ∷ [])
    ∷ slot_of (physical.GROUP ∷ repetition.REPEATED ∷ converted.NONE ∷ logical.NONE ∷ UNUSED ∷ UNUSED ∷ []) 1 0 0 0 (108 ∷ 105 ∷ 115 ∷ 116 ∷ [])
    ∷ one
    ∷ [])

-- "optional UTF8 `element`"
abbrev pub example_sheet : List ℕ
example_sheet =
    list_sheet
    (slot_of (physical.BYTE_ARRAY ∷ repetition.OPTIONAL ∷ converted.UTF8 ∷ logical.NONE ∷ UNUSED ∷ UNUSED ∷ []) 0 0 0 0 (101 ∷ 108 ∷ 101 ∷ 109 ∷ 101 ∷ 110 ∷ 116 ∷ []))

-- and in its place a repeated INT32 `x`
abbrev pub repeated_sheet : List ℕ
repeated_sheet =
    list_sheet
    (slot_of (physical.INT32 ∷ repetition.REPEATED ∷ converted.NONE ∷ logical.NONE ∷ UNUSED ∷ UNUSED ∷ []) 0 0 0 0 (120 ∷ []))
