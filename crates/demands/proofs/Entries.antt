-- Every public entry meets its contract, for any arguments: none has a `requires`, and each `ensures` equates the answer, and what lent memory holds at the end,
-- with the definitions that `specs/Demand1` and `specs/Demand2` speak of. Public functions that are parts of these are listed, each with its reason, in
-- `tests/entries/parts.txt`; a public function that is in neither place fails a test.
use Rattle.sheet.proofs.«open».Statement as sheet-open-stated
use Rattle.sheet.proofs.«open».Met as sheet-open-met
use Rattle.sheet.proofs.slot_at.Statement as sheet-slot-at-stated
use Rattle.sheet.proofs.slot_at.Met as sheet-slot-at-met
use Rattle.sheet.proofs.slot_bytes.Statement as sheet-slot-bytes-stated
use Rattle.sheet.proofs.slot_bytes.Met as sheet-slot-bytes-met
use Rattle.sheet.proofs.name_of.Statement as sheet-name-of-stated
use Rattle.sheet.proofs.name_of.Met as sheet-name-of-met
use Rattle.sheet.proofs.name_stretch.Statement as sheet-name-stretch-stated
use Rattle.sheet.proofs.name_stretch.Met as sheet-name-stretch-met
use Rattle.sheet.proofs.name_is.Statement as sheet-name-is-stated
use Rattle.sheet.proofs.name_is.Met as sheet-name-is-met
use Rattle.sheet.proofs.name_is_with.Statement as sheet-name-is-with-stated
use Rattle.sheet.proofs.name_is_with.Met as sheet-name-is-with-met
use Rattle.sheet.proofs.write_annotation.Statement as sheet-write-annotation-stated
use Rattle.sheet.proofs.write_annotation.Met as sheet-write-annotation-met
use Rattle.sheet.proofs.renew_checks.Statement as sheet-renew-checks-stated
use Rattle.sheet.proofs.renew_checks.Met as sheet-renew-checks-met
use Rattle.sheet_reader.proofs.«open».Statement as sheet-reader-open-stated
use Rattle.sheet_reader.proofs.«open».Met as sheet-reader-open-met
use Rattle.sheet_reader.proofs.next.Statement as sheet-reader-next-stated
use Rattle.sheet_reader.proofs.next.Met as sheet-reader-next-met
use Rattle.sheet_reader.proofs.slot_after.Statement as sheet-reader-slot-after-stated
use Rattle.sheet_reader.proofs.slot_after.Met as sheet-reader-slot-after-met
use Rattle.sheet_reader.proofs.step_at.Statement as sheet-reader-step-at-stated
use Rattle.sheet_reader.proofs.step_at.Met as sheet-reader-step-at-met
use Rattle.sheet_reader.proofs.node_after.Statement as sheet-reader-node-after-stated
use Rattle.sheet_reader.proofs.node_after.Met as sheet-reader-node-after-met
use Rattle.tree.proofs.judge.Statement as tree-judge-stated
use Rattle.tree.proofs.judge.Met as tree-judge-met
use Rattle.schema.proofs.resolve.Statement as schema-resolve-stated
use Rattle.schema.proofs.resolve.Met as schema-resolve-met
use Rattle.schema.proofs.rewrite.Statement as schema-rewrite-stated
use Rattle.schema.proofs.rewrite.Met as schema-rewrite-met
use Rattle.matching.proofs.match_sheets.Statement as matching-match-sheets-stated
use Rattle.matching.proofs.match_sheets.Met as matching-match-sheets-met
use Rattle.differences.proofs.compare.Statement as differences-compare-stated
use Rattle.differences.proofs.compare.Met as differences-compare-met
use Rattle.annotation.proofs.resolve.Statement as annotation-resolve-stated
use Rattle.annotation.proofs.resolve.Met as annotation-resolve-met
use Rattle.annotation.proofs.judge.Statement as annotation-judge-stated
use Rattle.annotation.proofs.judge.Met as annotation-judge-met
use Rattle.annotation.proofs.rewrite.Statement as annotation-rewrite-stated
use Rattle.annotation.proofs.rewrite.Met as annotation-rewrite-met
use Rattle.column_type.proofs.judge.Statement as column-type-judge-stated
use Rattle.column_type.proofs.judge.Met as column-type-judge-met
use Rattle.column.proofs.read.Statement as column-read-stated
use Rattle.column.proofs.read.Met as column-read-met
use Rattle.column.proofs.read_both.Statement as column-read-both-stated
use Rattle.column.proofs.read_both.Met as column-read-both-met
use Rattle.column_order.proofs.order.Statement as column-order-order-stated
use Rattle.column_order.proofs.order.Met as column-order-order-met
use Rattle.timestamp.proofs.decode.Statement as timestamp-decode-stated
use Rattle.timestamp.proofs.decode.Met as timestamp-decode-met
use Rattle.timestamp.proofs.encode.Statement as timestamp-encode-stated
use Rattle.timestamp.proofs.encode.Met as timestamp-encode-met
use Rattle.timestamp.proofs.in_day.Statement as timestamp-in-day-stated
use Rattle.timestamp.proofs.in_day.Met as timestamp-in-day-met
use Rattle.timestamp.proofs.units.Unit.divide.Statement as timestamp-Unit-divide-stated
use Rattle.timestamp.proofs.units.Unit.divide.Met as timestamp-Unit-divide-met
use Rattle.timestamp.proofs.units.Unit.has_tick.Statement as timestamp-Unit-has-tick-stated
use Rattle.timestamp.proofs.units.Unit.has_tick.Met as timestamp-Unit-has-tick-met
use Rattle.timestamp.proofs.units.Unit.join.Statement as timestamp-Unit-join-stated
use Rattle.timestamp.proofs.units.Unit.join.Met as timestamp-Unit-join-met
use Rattle.int96.proofs.decode.Statement as int96-decode-stated
use Rattle.int96.proofs.decode.Met as int96-decode-met
use Rattle.int96.proofs.encode.Statement as int96-encode-stated
use Rattle.int96.proofs.encode.Met as int96-encode-met
use Rattle.boxes.proofs.box_of.Statement as boxes-box-of-stated
use Rattle.boxes.proofs.box_of.Met as boxes-box-of-met
use Rattle.boxes.proofs.contains.Statement as boxes-contains-stated
use Rattle.boxes.proofs.contains.Met as boxes-contains-met
use Rattle.utf8.proofs.valid_up_to.Statement as utf8-valid-up-to-stated
use Rattle.utf8.proofs.valid_up_to.Met as utf8-valid-up-to-met
use Rattle.decimal_bytes.proofs.is_length.Statement as decimal-is-length-stated
use Rattle.decimal_bytes.proofs.is_length.Met as decimal-is-length-met
use Rattle.decimal_bytes.proofs.greatest_precision.Statement as decimal-greatest-precision-stated
use Rattle.decimal_bytes.proofs.greatest_precision.Met as decimal-greatest-precision-met
use Rattle.decimal.proofs.fits_precision.Statement as decimal-fits-precision-stated
use Rattle.decimal.proofs.fits_precision.Met as decimal-fits-precision-met
use Rattle.decimal_bytes.proofs.is_below_power.Statement as decimal-is-below-power-stated
use Rattle.decimal_bytes.proofs.is_below_power.Met as decimal-is-below-power-met
use Rattle.decimal.proofs.compare.Statement as decimal-compare-stated
use Rattle.decimal.proofs.compare.Met as decimal-compare-met
use Rattle.decimal.proofs.compare_within.Statement as decimal-compare-within-stated
use Rattle.decimal.proofs.compare_within.Met as decimal-compare-within-met
use Rattle.schema_text.proofs.sheet_text.Statement as schema-text-sheet-text-stated
use Rattle.schema_text.proofs.sheet_text.Met as schema-text-sheet-text-met
use Rattle.schema_text.proofs.answer_text.Statement as schema-text-answer-text-stated
use Rattle.schema_text.proofs.answer_text.Met as schema-text-answer-text-met
use Rattle.schema_text.proofs.rows_text.Statement as schema-text-rows-text-stated
use Rattle.schema_text.proofs.rows_text.Met as schema-text-rows-text-met
use Rattle.griffeljol.proofs.griffeljol_resolve.Statement as griffeljol-resolve-stated
use Rattle.griffeljol.proofs.griffeljol_resolve.Met as griffeljol-resolve-met
use Rattle.griffeljol.proofs.griffeljol_rewrite.Statement as griffeljol-rewrite-stated
use Rattle.griffeljol.proofs.griffeljol_rewrite.Met as griffeljol-rewrite-met
use Rattle.griffeljol.proofs.griffeljol_compare.Statement as griffeljol-compare-stated
use Rattle.griffeljol.proofs.griffeljol_compare.Met as griffeljol-compare-met
use Rattle.griffeljol.proofs.griffeljol_read.Statement as griffeljol-read-stated
use Rattle.griffeljol.proofs.griffeljol_read.Met as griffeljol-read-met
use Rattle.griffeljol.proofs.griffeljol_order.Statement as griffeljol-order-stated
use Rattle.griffeljol.proofs.griffeljol_order.Met as griffeljol-order-met
use Rattle.griffeljol.proofs.griffeljol_decode.Statement as griffeljol-decode-stated
use Rattle.griffeljol.proofs.griffeljol_decode.Met as griffeljol-decode-met
use Rattle.griffeljol.proofs.griffeljol_encode.Statement as griffeljol-encode-stated
use Rattle.griffeljol.proofs.griffeljol_encode.Met as griffeljol-encode-met
use Rattle.griffeljol.proofs.griffeljol_from_int96.Statement as griffeljol-from-int96-stated
use Rattle.griffeljol.proofs.griffeljol_from_int96.Met as griffeljol-from-int96-met
use Rattle.griffeljol.proofs.griffeljol_to_int96.Statement as griffeljol-to-int96-stated
use Rattle.griffeljol.proofs.griffeljol_to_int96.Met as griffeljol-to-int96-met
use Rattle.griffeljol.proofs.griffeljol_box.Statement as griffeljol-box-stated
use Rattle.griffeljol.proofs.griffeljol_box.Met as griffeljol-box-met
use Rattle.griffeljol.proofs.griffeljol_inside.Statement as griffeljol-inside-stated
use Rattle.griffeljol.proofs.griffeljol_inside.Met as griffeljol-inside-met

-- a sheet's blocks, slots and names -----------------------------------------------------------------------------------------------

pub sheet_open : {M : Type 1} → sheet-open-stated.statement M
sheet_open = sheet-open-met.met

pub sheet_slot_at : {M : Type 1} → sheet-slot-at-stated.statement M
sheet_slot_at = sheet-slot-at-met.met

pub sheet_slot_bytes : {M : Type 1} → sheet-slot-bytes-stated.statement M
sheet_slot_bytes = sheet-slot-bytes-met.met

pub sheet_name_of : {M : Type 1} → sheet-name-of-stated.statement M
sheet_name_of = sheet-name-of-met.met

pub sheet_name_stretch : {M : Type 1} → sheet-name-stretch-stated.statement M
sheet_name_stretch = sheet-name-stretch-met.met

pub sheet_name_is : {M : Type 1} → sheet-name-is-stated.statement M
sheet_name_is = sheet-name-is-met.met

pub sheet_name_is_with : {M : Type 1} → sheet-name-is-with-stated.statement M
sheet_name_is_with = sheet-name-is-with-met.met

pub sheet_write_annotation : {M : Type 1} → sheet-write-annotation-stated.statement M
sheet_write_annotation = sheet-write-annotation-met.met

pub sheet_renew_checks : {M : Type 1} → sheet-renew-checks-stated.statement M
sheet_renew_checks = sheet-renew-checks-met.met

-- the reader ----------------------------------------------------------------------------------------------------------------------

pub sheet_reader_open : {M : Type 1} → sheet-reader-open-stated.statement M
sheet_reader_open = sheet-reader-open-met.met

pub sheet_reader_next : {M : Type 1} → sheet-reader-next-stated.statement M
sheet_reader_next = sheet-reader-next-met.met

pub sheet_reader_slot_after : {M : Type 1} → sheet-reader-slot-after-stated.statement M
sheet_reader_slot_after = sheet-reader-slot-after-met.met

pub sheet_reader_step_at : {M : Type 1} → sheet-reader-step-at-stated.statement M
sheet_reader_step_at = sheet-reader-step-at-met.met

pub sheet_reader_node_after : {M : Type 1} → sheet-reader-node-after-stated.statement M
sheet_reader_node_after = sheet-reader-node-after-met.met

-- the tree, its rows and the rewritten sheet --------------------------------------------------------------------------------------

pub tree_judge : {M : Type 1} → tree-judge-stated.statement M
tree_judge = tree-judge-met.met

pub schema_resolve : {M : Type 1} → schema-resolve-stated.statement M
schema_resolve = schema-resolve-met.met

pub schema_rewrite : {M : Type 1} → schema-rewrite-stated.statement M
schema_rewrite = schema-rewrite-met.met

-- two sheets --------------------------------------------------------------------------------------------------------------------

pub matching_match_sheets : {M : Type 1} → matching-match-sheets-stated.statement M
matching_match_sheets = matching-match-sheets-met.met

pub differences_compare : {M : Type 1} → differences-compare-stated.statement M
differences_compare = differences-compare-met.met

-- the annotations of a slot -------------------------------------------------------------------------------------------------------

pub annotation_resolve : {M : Type 1} → annotation-resolve-stated.statement M
annotation_resolve = annotation-resolve-met.met

pub annotation_judge : {M : Type 1} → annotation-judge-stated.statement M
annotation_judge = annotation-judge-met.met

pub annotation_rewrite : {M : Type 1} → annotation-rewrite-stated.statement M
annotation_rewrite = annotation-rewrite-met.met

-- single values -------------------------------------------------------------------------------------------------------------------

pub column_type_judge : {M : Type 1} → column-type-judge-stated.statement M
column_type_judge = column-type-judge-met.met

pub column_read : {M : Type 1} → column-read-stated.statement M
column_read = column-read-met.met

pub column_read_both : {M : Type 1} → column-read-both-stated.statement M
column_read_both = column-read-both-met.met

pub column_order_order : {M : Type 1} → column-order-order-stated.statement M
column_order_order = column-order-order-met.met

-- timestamps, the functions of every unit type, and INT96 values ---------------------------------------------------------------------

pub timestamp_decode : {M : Type 1} → timestamp-decode-stated.statement M
timestamp_decode = timestamp-decode-met.met

pub timestamp_encode : {M : Type 1} → timestamp-encode-stated.statement M
timestamp_encode = timestamp-encode-met.met

pub timestamp_in_day : {M : Type 1} → timestamp-in-day-stated.statement M
timestamp_in_day = timestamp-in-day-met.met

pub timestamp_Unit_divide : {M : Type 1} → timestamp-Unit-divide-stated.statement M
timestamp_Unit_divide = timestamp-Unit-divide-met.met

pub timestamp_Unit_has_tick : {M : Type 1} → timestamp-Unit-has-tick-stated.statement M
timestamp_Unit_has_tick = timestamp-Unit-has-tick-met.met

pub timestamp_Unit_join : {M : Type 1} → timestamp-Unit-join-stated.statement M
timestamp_Unit_join = timestamp-Unit-join-met.met

pub int96_decode : {M : Type 1} → int96-decode-stated.statement M
int96_decode = int96-decode-met.met

pub int96_encode : {M : Type 1} → int96-encode-stated.statement M
int96_encode = int96-encode-met.met

-- boxes ---------------------------------------------------------------------------------------------------------------------------

pub boxes_box_of : {M : Type 1} → boxes-box-of-stated.statement M
boxes_box_of = boxes-box-of-met.met

pub boxes_contains : {M : Type 1} → boxes-contains-stated.statement M
boxes_contains = boxes-contains-met.met

-- text and decimals ---------------------------------------------------------------------------------------------------------------

pub utf8_valid_up_to : {M : Type 1} → utf8-valid-up-to-stated.statement M
utf8_valid_up_to = utf8-valid-up-to-met.met

pub decimal_is_length : {M : Type 1} → decimal-is-length-stated.statement M
decimal_is_length = decimal-is-length-met.met

pub decimal_greatest_precision : {M : Type 1} → decimal-greatest-precision-stated.statement M
decimal_greatest_precision = decimal-greatest-precision-met.met

pub decimal_fits_precision : {M : Type 1} → decimal-fits-precision-stated.statement M
decimal_fits_precision = decimal-fits-precision-met.met

pub decimal_is_below_power : {M : Type 1} → decimal-is-below-power-stated.statement M
decimal_is_below_power = decimal-is-below-power-met.met

pub decimal_compare : {M : Type 1} → decimal-compare-stated.statement M
decimal_compare = decimal-compare-met.met

pub decimal_compare_within : {M : Type 1} → decimal-compare-within-stated.statement M
decimal_compare_within = decimal-compare-within-met.met

-- what the program prints ---------------------------------------------------------------------------------------------------------

pub schema_text_sheet_text : {M : Type 1} → schema-text-sheet-text-stated.statement M
schema_text_sheet_text = schema-text-sheet-text-met.met

pub schema_text_answer_text : {M : Type 1} → schema-text-answer-text-stated.statement M
schema_text_answer_text = schema-text-answer-text-met.met

pub schema_text_rows_text : {M : Type 1} → schema-text-rows-text-stated.statement M
schema_text_rows_text = schema-text-rows-text-met.met

-- the C interface -----------------------------------------------------------------------------------------------------------------

pub griffeljol_resolve : {M : Type 1} → griffeljol-resolve-stated.statement M
griffeljol_resolve = griffeljol-resolve-met.met

pub griffeljol_rewrite : {M : Type 1} → griffeljol-rewrite-stated.statement M
griffeljol_rewrite = griffeljol-rewrite-met.met

pub griffeljol_compare : {M : Type 1} → griffeljol-compare-stated.statement M
griffeljol_compare = griffeljol-compare-met.met

pub griffeljol_read : {M : Type 1} → griffeljol-read-stated.statement M
griffeljol_read = griffeljol-read-met.met

pub griffeljol_order : {M : Type 1} → griffeljol-order-stated.statement M
griffeljol_order = griffeljol-order-met.met

pub griffeljol_decode : {M : Type 1} → griffeljol-decode-stated.statement M
griffeljol_decode = griffeljol-decode-met.met

pub griffeljol_encode : {M : Type 1} → griffeljol-encode-stated.statement M
griffeljol_encode = griffeljol-encode-met.met

pub griffeljol_from_int96 : {M : Type 1} → griffeljol-from-int96-stated.statement M
griffeljol_from_int96 = griffeljol-from-int96-met.met

pub griffeljol_to_int96 : {M : Type 1} → griffeljol-to-int96-stated.statement M
griffeljol_to_int96 = griffeljol-to-int96-met.met

pub griffeljol_box : {M : Type 1} → griffeljol-box-stated.statement M
griffeljol_box = griffeljol-box-met.met

pub griffeljol_inside : {M : Type 1} → griffeljol-inside-stated.statement M
griffeljol_inside = griffeljol-inside-met.met
