-- "One numbered refusal, chosen in the order document 01 states": each refusal's own condition with its place, the paper's order as a list, and what a call
-- ends with: the first of the list that holds, or the result where none does. No condition here speaks of another, but for the one "otherwise" of the paper.
use Rattle.std.specs.Prelude.{ℕ, zero, suc, ◌+◌, ◌*◌, ◌%◌, ◌^◌, Bool, true, cond, not, ◌&&◌, List, [], ◌∷◌, ◌++◌, eqb, leb, ltb, Float, ℤ, length}
use Rattle.refusal.specs.Outcome.{Outcome, given, refused, refusal, no_refusal}
use Rattle.refusal.specs.Faults as sided
use Rattle.refusal.specs.Faults.{Sided}
use Rattle.refusal.specs.Outcome.{Verdict}
use Rattle.std.specs.Prelude.{Err}
use Rattle.edition.specs.Editions.{is_known}
use Rattle.parquet.specs.Logical.{is_geospatial}
use Rattle.sheet.specs.Block.{slots_in_block, block_count, total_of}
use Rattle.sheet.specs.Header.{length_right, header_right}
use Rattle.sheet.specs.Check.{check_right}
use Rattle.sheet.specs.Sound.{slot_right}
use Rattle.sheet.specs.Slot.{slots}
use Rattle.annotation.specs.Rule9 as nine
use Rattle.annotation.specs.Rule10 as ten
use Rattle.annotation.specs.Rule11 as eleven
use Rattle.annotation.specs.declared.slot.Annotated.{Annotated}
use Rattle.tree.specs.Annotated.{rule9, rule10, rule11}
use Rattle.tree.specs.Tree.{SlotBytes, Tree, Fields, node, empty, field, size, depths}
use Rattle.tree.specs.OpenPlaces.{open_places, is_no_place}
use Rattle.tree.specs.Reading.{tree_of}
use Rattle.tree.specs.Rules.{under_map_of, standing_below, rule8, rule12, rule13}
use Rattle.tree.specs.declared.standing.Standing.{Standing}
use Rattle.tree.specs.declared.standing.Standing.TheVariants.{Root}
use Rattle.differences.specs.Outcome.{list_for}
use Rattle.column_type.specs.Lawful.{is_lawful}
use Rattle.column_type.specs.declared.types.ColumnType.{ColumnType}
use Rattle.column.specs.Lengths as value
use Rattle.column.specs.Annotations.{annotation_place, keeps}
use Rattle.column_order.specs.Order.{has_order}
use Rattle.timestamp.specs.Count.{is_date_time, count_of}
use Rattle.timestamp.specs.Outcomes.{is_signed64}
use Rattle.timestamp.specs.declared.fields.Fields.{Fields as DateTime}
use Rattle.int96.specs.Value as int96
use Rattle.boxes.specs.Points.{Boxed, points_in, allows_points}
use Rattle.boxes.specs.Membership.{is_box, allows_point}
use Rattle.boxes.specs.declared.bounding_box.BoundingBox.{BoundingBox}
use Rattle.std.specs.Prelude.{Some, None, Ok}
use Rattle.schema_text.specs.Rows.{rows_text}
use Rattle.c_timestamps.specs.Timestamps.{are_fields, fields_of}

-- a refusal of one of two values or sheets by its number and place alone: which it is laid on is said under document 02's R-6 and R-1 (`Requests`)
abbrev pub unsided : {A : Type 0} → Sided A → Outcome A
unsided (sided.given a) = given a
unsided (sided.refused f) = refused f.refusal

-- a refusal's number and place, and whether its own condition holds
pub record Ground : Type 0 where
  pub number : ℕ
  pub place : ℕ
  pub holds : Bool

abbrev pub ground : ℕ → ℕ → Bool → Ground
ground number place holds = record { number = number; place = place; holds = holds }

-- the first of some refusals that holds, and the result where none does
unfoldable pub first : {A : Type 0} → List Ground → A → Outcome A
first [] a = given a
first (g ∷ gs) a = cond g.holds (refused (refusal g.number g.place)) (first gs a)

-- none of them holds
unfoldable pub none : List Ground → Bool
none [] = true
none (g ∷ gs) = not g.holds && none gs

-- one refusal at each of n places from k on, the first place first: "first such block", "first such node"
unfoldable pub each_from : ℕ → (ℕ → Bool) → ℕ → ℕ → List Ground
each_from number holds k zero = []
each_from number holds k (suc n) = ground number k (holds k) ∷ each_from number holds (suc k) n

abbrev pub each : ℕ → (ℕ → Bool) → ℕ → List Ground
each number holds n = each_from number holds 0 n

-- a sheet ------------------------------------------------------------------------------------------------------------------------

-- "21, edition unknown, before all others, place 0" (document 02, R-4)
abbrev pub unknown_edition : ℕ → Ground
unknown_edition edition = ground 21 0 (not (is_known edition))

-- "1 to 7 are judged over the whole sheet, in that order": 1 to 4, behind 21
abbrev pub opening_grounds : ℕ → List ℕ → List Ground
opening_grounds edition sheet =
    (unknown_edition edition ∷ ground 1 0 (not (length_right (length sheet))) ∷ [])
    ++ each 2 (λ block. not (check_right sheet block)) (block_count sheet)
    ++ each 3 (λ block. not (header_right sheet block)) (block_count sheet)
    ++ each 4 (λ k. not (slot_right edition sheet k)) (slots_in_block * block_count sheet)

-- "Refusal 6: zero open places at some k below T, place the least such k"
abbrev pub left_over_grounds : List SlotBytes → List Ground
left_over_grounds ss = each 6 (λ k. is_no_place (open_places ss k)) (length ss)

-- "Refusal 5: otherwise, open places left after T", at T
abbrev pub missing_ground : List SlotBytes → Ground
missing_ground ss = ground 5 (length ss) (none (left_over_grounds ss) && not (is_no_place (open_places ss (length ss))))

-- "a node deeper than 32", of nodes with such depths, the first of them at k
unfoldable pub deep_grounds : ℕ → List ℕ → List Ground
deep_grounds k [] = []
deep_grounds k (d ∷ ds) = ground 7 k (ltb 32 d) ∷ deep_grounds (suc k) ds

-- "8 to 13 .., at one node in number order": node k
abbrev pub node_grounds : ℕ → ℕ → Standing → SlotBytes → Fields → List Ground
node_grounds edition k p s fs =
    ground 8 k (not (rule8 p s fs))
    ∷ ground 9 k (not (rule9 s))
    ∷ ground 10 k (not (rule10 edition (under_map_of p) s))
    ∷ ground 11 k (not (rule11 edition (under_map_of p) s))
    ∷ ground 12 k (not (rule12 p s fs))
    ∷ ground 13 k (not (rule13 p s fs))
    ∷ []

-- "node by node", a tree's root being node k
unfoldable mutual
  pub rule_grounds : ℕ → ℕ → Standing → Tree → List Ground
  rule_grounds edition k p (node s fs) = node_grounds edition k p s fs ++ run_grounds edition (suc k) (standing_below p s) fs

  pub run_grounds : ℕ → ℕ → Standing → Fields → List Ground
  run_grounds edition k p empty = []
  run_grounds edition k p (field t fs) = rule_grounds edition k p t ++ run_grounds edition (k + size t) p fs

-- 5 to 13 of a sheet's slots
abbrev pub tree_grounds : ℕ → List SlotBytes → List Ground
tree_grounds edition ss =
    (missing_ground ss ∷ [])
    ++ left_over_grounds ss
    ++ deep_grounds 0 (depths 0 (tree_of ss))
    ++ rule_grounds edition 0 Root (tree_of ss)

-- 21 and 1 to 13 of any bytes
abbrev pub judging_grounds : ℕ → List ℕ → List Ground
judging_grounds edition sheet = opening_grounds edition sheet ++ tree_grounds edition (slots sheet)

-- "14 last": "output too short", for eleven numbers a node
abbrev pub resolving_grounds : ℕ → List ℕ → ℕ → List Ground
resolving_grounds edition sheet lent = judging_grounds edition sheet ++ (ground 14 0 (ltb lent (11 * total_of sheet)) ∷ [])

-- "output too short, or its start lies beyond its end", for the sheet's bytes
abbrev pub rewriting_grounds : ℕ → List ℕ → ℕ → ℕ → List Ground
rewriting_grounds edition sheet lent start =
    judging_grounds edition sheet ++ (ground 14 0 (ltb lent (start + length sheet)) ∷ ground 14 0 (ltb lent start) ∷ [])

-- "the first sheet's, then the second's, then 14": "output too short", for 148 bytes an entry (document 02, R-1)
abbrev pub comparing_grounds : ℕ → List ℕ → List ℕ → ℕ → List Ground
comparing_grounds edition one two lent =
    judging_grounds edition one ++ judging_grounds edition two ++ (ground 14 0 (ltb lent (148 * length (list_for one two))) ∷ [])

-- 9 to 11 of the numbers of a slot, which is node k's
abbrev pub slot_grounds : ℕ → ℕ → Annotated → Bool → List Ground
slot_grounds edition k n under =
    ground 9 k (not (nine.rule9 n)) ∷ ground 10 k (not (ten.rule10 edition n under)) ∷ ground 11 k (not (eleven.rule11 edition n under)) ∷ []

-- a value ------------------------------------------------------------------------------------------------------------------------

-- "no accepted sheet has a leaf of this column type"
abbrev pub unlawful : ℕ → ColumnType → Ground
unlawful edition c = ground 20 0 (not (is_lawful edition c))

-- a column type: 20, behind 21
abbrev pub type_grounds : ℕ → ColumnType → List Ground
type_grounds edition c = unknown_edition edition ∷ unlawful edition c ∷ []

-- "value of wrong length, or over 65,536 bytes", "value breaks its annotation"
abbrev pub value_grounds : ColumnType → List ℕ → List Ground
value_grounds c bs = ground 15 0 (not (value.length_right c (length bs))) ∷ ground 16 (annotation_place c bs) (not (keeps c bs)) ∷ []

-- "One value is checked for 20, then 15, then 16", behind 21
abbrev pub reading_grounds : ℕ → ColumnType → List ℕ → List Ground
reading_grounds edition c bs = type_grounds edition c ++ value_grounds c bs

-- "Checks: 20, 17, first value, second value", behind 21
abbrev pub ordering_grounds : ℕ → ColumnType → List ℕ → List ℕ → List Ground
ordering_grounds edition c a b = type_grounds edition c ++ (ground 17 0 (not (has_order c)) ∷ (value_grounds c a ++ value_grounds c b))

-- a timestamp --------------------------------------------------------------------------------------------------------------------

-- "a time unit is not 1 to 3"
abbrev pub unknown_unit : ℕ → Ground
unknown_unit unit = ground 20 0 (not (leb 1 unit && leb unit 3))

-- the ticks in a second of units 1, 2 and 3: a thousand, a million, a thousand million
abbrev pub ticks : ℕ → ℕ
ticks unit = 1000 ^ unit

-- "fields form no date or time", "fields not representable in a signed 64-bit count"
abbrev pub field_grounds : ℕ → DateTime → List Ground
field_grounds unit f = ground 18 0 (not (is_date_time (ticks unit) f)) ∷ ground 19 0 (not (is_signed64 (count_of (ticks unit) f))) ∷ []

-- "Both check the unit first (20); encoding then 18, then 19"
abbrev pub encoding_grounds : ℕ → DateTime → List Ground
encoding_grounds unit f = unknown_unit unit ∷ field_grounds unit f

-- an INT96 value ------------------------------------------------------------------------------------------------------------------

-- "15 for a length other than 12, 16 for a full day of nanoseconds or more, 19 where the count doesn't fit" (document 02, R-10)
abbrev pub int96_grounds : List ℕ → List Ground
int96_grounds value =
    ground 15 0 (not (eqb (length value) 12))
    ∷ ground 16 0 (leb 86400000000000 (int96.nanos_in value))
    ∷ ground 19 0 (not (is_signed64 (int96.count_of value)))
    ∷ []

-- a box ---------------------------------------------------------------------------------------------------------------------------

-- "20, first, for a box of a kind not 17 or 18", "15, before 16, for an odd run of coordinates", 16 for a coordinate beyond the degrees (document 02, R-11)
abbrev pub box_grounds : ℕ → List Float → List Ground
box_grounds kind coordinates =
    ground 20 0 (not (is_geospatial kind))
    ∷ ground 15 0 (not (eqb (length coordinates % 2) 0))
    ∷ ground 16 0 (not (allows_points kind coordinates (points_in coordinates)))
    ∷ []

-- what each answer of a list of points refuses, and the numbers that it gives
abbrev pub box_verdict : Boxed → Verdict
box_verdict (Ok (Some b)) = no_refusal
box_verdict (Ok None) = no_refusal
box_verdict (Err r) = Err r

abbrev pub box_numbers : Boxed → List Float
box_numbers (Ok (Some b)) = b.xmin ∷ b.xmax ∷ b.ymin ∷ b.ymax ∷ []
box_numbers (Ok None) = []
box_numbers (Err r) = []

-- "16 for a box with a NaN, with ymin above ymax, or, for GEOGRAPHY, with any bound outside ..; the same range holds for its points", behind 20
abbrev pub test_grounds : ℕ → BoundingBox → Float → Float → List Ground
test_grounds kind b x y =
    ground 20 0 (not (is_geospatial kind)) ∷ ground 16 0 (not (is_box kind b)) ∷ ground 16 0 (not (allows_point kind x y)) ∷ []

-- a text -------------------------------------------------------------------------------------------------------------------------

-- "output too short": of rows, the numbers that were lent for them, and the buffer for their text
abbrev pub rows_text_grounds : ℕ → List ℕ → ℕ → List Ground
rows_text_grounds total numbers room =
    ground 14 0 (ltb (length numbers) (11 * total)) ∷ ground 14 0 (ltb room (length (rows_text total numbers))) ∷ []

-- the C interface ------------------------------------------------------------------------------------------------------------------

-- 14 comes last, for so many numbers
abbrev pub short_for : ℕ → ℕ → Ground
short_for numbers lent = ground 14 0 (ltb lent numbers)

-- two numbers for a value, seven for fields, one for a count, twelve bytes for an INT96 value; numbers that can be no fields form no date or time
abbrev pub c_reading_grounds : ℕ → ColumnType → List ℕ → ℕ → List Ground
c_reading_grounds edition c bs lent = reading_grounds edition c bs ++ (short_for 2 lent ∷ [])

abbrev pub c_decoding_grounds : ℕ → ℕ → List Ground
c_decoding_grounds unit lent = unknown_unit unit ∷ short_for 7 lent ∷ []

abbrev pub c_encoding_grounds : ℕ → List ℤ → ℕ → List Ground
c_encoding_grounds unit numbers lent =
    unknown_unit unit ∷ ground 18 0 (not (are_fields numbers)) ∷ (field_grounds unit (fields_of numbers) ++ (short_for 1 lent ∷ []))

abbrev pub c_from_int96_grounds : List ℕ → ℕ → List Ground
c_from_int96_grounds value lent = int96_grounds value ++ (short_for 1 lent ∷ [])

-- four numbers for a box, and none where there is none
abbrev pub c_box_grounds : ℕ → List Float → Boxed → ℕ → List Ground
c_box_grounds kind coordinates a lent = box_grounds kind coordinates ++ (short_for (length (box_numbers a)) lent ∷ [])
