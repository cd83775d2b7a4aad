-- Points on sheets of one block, and the example of four nodes, which the definitions compute.
use Prim.Native.Nat.{ℕ, ◌*◌}
use mathlib.Core.Path.{◌≡◌, refl}
use mathlib.Core.Bool.{Bool, true}
use mathlib.Core.List.{List, [], ◌∷◌}
use lib.ListN.{replicate}
use Rattle.edition.specs.Editions.{FIRST, SECOND, THIRD, is_known, scale_may_equal, int96_retired, has_geospatial}
use Rattle.edition.proofs.EditionLaws.{each_edition}
use Rattle.laws.specs.Bytes.{little, twos_complement, bytes_of}
use Rattle.block_check.specs.Check.{sum_below, weighted, check}
use Rattle.refusal.specs.Outcome.{Outcome, refusal}
use Rattle.sheet.specs.Number.{number_at}
use Rattle.sheet.specs.Block.{block_count, block_at, block_number, nodes_here, version, total, stored_check, total_of}
use Rattle.sheet.specs.Check.{check_right}
use Rattle.sheet.specs.Slot.{physical, repetition, converted, logical, parameter_a, parameter_b, child_count, type_length_of, scale, precision, name_length_of, name, numbers_of, slot_start, reaches, slot_at, slots_from, slots, empty_slot}
use Rattle.sheet.specs.Sound.{listed, physical_listed, repetition_listed, converted_listed, logical_listed, name_length_right, all_zero, reserved_zero, tail_zero, codes_listed, name_right, slot_sound, slot_right}
use Rattle.sheet.specs.Header.{length_right, blocks_for, nodes_in, total_right, numbers_right, header_right}
use Rattle.sheet.specs.First.{first_wrong_from, first_wrong}
use Rattle.sheet.specs.Name.{same_bytes}
use Rattle.sheet.specs.Sheet.{join_below, unchecked_block, block_of, sheet_of}
use Rattle.sheet.specs.Opening as sheet
use Rattle.decimal_bytes.specs.Precision.{greatest_precision, greatest}
use Rattle.parquet.specs.Physical as physical
use Rattle.parquet.specs.Converted as converted
use Rattle.parquet.specs.Logical as logical
use Rattle.annotation.specs.Signed.{natural}
use Rattle.logical_type.specs.Parameters.{UNUSED, unit_code, flag_code, unit_of, edge_of, valid_parameters}
use Rattle.logical_type.specs.Spelling.{named_of, stated_of}
use Rattle.logical_type.specs.Backward.{backward_of}
use Rattle.annotation.specs.Meaning.{annotation_of}
use Rattle.annotation.specs.Kinds.{kind_of}
use Rattle.annotation.specs.Rule9 as nine
use Rattle.annotation.specs.Rule10 as ten
use Rattle.annotation.specs.Rule11 as eleven
use Rattle.logical_type.specs.declared.types.TimeUnit.{TimeUnit}
use Rattle.tree.specs.Annotated.{annotated, kind, rule9, rule10, rule11}
use Rattle.annotation.specs.declared.resolution.Kind.{Kind}
use Rattle.tree.specs.declared.standing.Standing.{Standing}
use Rattle.tree.specs.Tree.{SlotBytes, Fields, listing, count, size, depths}
use Rattle.tree.specs.Rules.{is_list, is_map, standing_below, is_nought, length_shape, decimal_shape, shape, rule8, named_element, is_repeated, is_element_group, holds_element, list_child, list_run, list_kept, rule12, rule13}
use Rattle.tree.specs.Faults.{broken, faults}
use Rattle.schema.specs.Levels.{how_many}
use Rattle.schema.specs.Rows.{list_role, role, parent_by, row, parent_of, rows_from, rows, row_width}
use Rattle.tree.specs.Reading.{take_fields, drop_fields, trees, first_tree, tree_of}
use Rattle.tree.specs.OpenPlaces.{sum, open_places, is_no_place}
use Rattle.tree.specs.Judgement.{or_else, left_over, missing, first_fault, deepness, too_deep, unlawful, tree_refusal, judged_as, judgement}
use Rattle.schema.specs.Outcome.{answer, outcome, written}
use Rattle.refusal.specs.Outcome.{Counted, Verdict}
use Rattle.std.specs.Prelude.{Ok, Err}
use Rattle.demands.specs.Sheets.{root_slot, leaf_sheet, int96_sheet, geospatial_sheet, example_sheet, repeated_sheet}
use Rattle.demands.specs.Points.{equal_sheet}
use Rattle.demands.specs.Requests.{repeated_rows, example_rows, karney_rows}

-- Each layer's definitions, open: what names a layer on its `unfolding` line computes through it.

-- numbers, blocks, headers and checks
block_layer : List ℕ → ℕ → Bool
unfolding header_right length_right numbers_right total_right blocks_for nodes_in block_count block_at block_number nodes_here version total total_of number_at little twos_complement check_right check sum_below weighted stored_check
block_layer = header_right

-- slots, their numbers, and whether they are sound
slot_layer : ℕ → List ℕ → ℕ → Bool
unfolding has_geospatial slot_right slot_sound codes_listed listed physical_listed repetition_listed converted_listed logical_listed name_right name_length_right reserved_zero tail_zero all_zero slots slots_from slot_at slot_start reaches numbers_of physical repetition converted logical parameter_a parameter_b child_count type_length_of scale precision name_length_of name same_bytes
slot_layer = slot_right

-- what opening answers
sheet_layer : (edition : ℕ) → List ℕ → Outcome sheet.Nodes
unfolding sheet.outcome sheet.outcome_of sheet.open_of is_known sheet.at_first first_wrong first_wrong_from block_layer slot_layer
sheet_layer edition = sheet.outcome edition

-- what a slot's annotations say
annotation_layer : Bool → List ℕ → Kind
unfolding kind annotated kind_of annotation_of backward_of stated_of named_of unit_of valid_parameters natural
annotation_layer = kind

-- the rules of a node
rule_layer : (edition : ℕ) → Standing → SlotBytes → Fields → ℕ
unfolding broken rule8 shape length_shape decimal_shape is_nought rule9 rule10 rule11 rule12 rule13 is_list is_map standing_below list_kept list_run list_child is_element_group named_element is_repeated holds_element nine.rule9 ten.is_placed ten.is_retired ten.rule10 eleven.rule11 eleven.decimal_holds eleven.ordered eleven.scale_allowed scale_may_equal int96_retired eleven.physical_holds annotation_layer
rule_layer edition = broken edition

-- the tree that the slots spell, and its judgement
tree_layer : (edition : ℕ) → List ℕ → Verdict
unfolding judgement judged_as tree_refusal or_else left_over missing open_places sum is_no_place too_deep deepness first_fault unlawful faults tree_of first_tree trees take_fields drop_fields depths count sheet_layer rule_layer
tree_layer edition = judgement edition

opened : (edition : ℕ) → List ℕ → ℕ → Counted
unfolding outcome answer sheet_of block_of unchecked_block join_below bytes_of empty_slot tree_layer
opened edition = outcome edition

-- "One root alone: accepted"
pub root_alone : (edition : ℕ) → is_known edition ≡ true → outcome edition (sheet_of (root_slot 0 ∷ [])) row_width ≡ Ok 1
unfolding opened
root_alone = each_edition _ refl refl refl

-- "Scale = precision: 11", in edition 1, and accepted in edition 2
pub equal_refused : outcome FIRST equal_sheet (row_width * 2) ≡ Err (refusal 11 1)
unfolding opened
equal_refused = refl

pub equal_accepted : outcome SECOND equal_sheet (row_width * 2) ≡ Ok 2
unfolding opened
equal_accepted = refl

pub equal_third : outcome THIRD equal_sheet (row_width * 2) ≡ Ok 2
unfolding opened
equal_third = refl

-- "TIME_MILLIS with TIME(NANOS): 9"
pub time_millis_with_nanos : (edition : ℕ) → is_known edition ≡ true → outcome edition (leaf_sheet physical.INT64 converted.TIME_MILLIS logical.TIME (unit_code TimeUnit.Nanos) (flag_code true) 0 0 0) (row_width * 2) ≡ Err (refusal 9 1)
unfolding opened
time_millis_with_nanos = each_edition _ refl refl refl

pub example_accepted : (edition : ℕ) → is_known edition ≡ true → outcome edition example_sheet (row_width * 4) ≡ Ok 4
unfolding opened
example_accepted = each_edition _ refl refl refl

-- with the levels of document 02's R-8
pub example_rows_lem : (edition : ℕ) → is_known edition ≡ true → written (outcome edition example_sheet (row_width * 4)) example_sheet (replicate (row_width * 4) 0) ≡ example_rows
unfolding opened written rows rows_from row parent_of parent_by role list_role how_many size listing
example_rows_lem = each_edition _ refl refl refl

-- document 02, R-2
pub repeated_rows_lem : (edition : ℕ) → is_known edition ≡ true → written (outcome edition repeated_sheet (row_width * 4)) repeated_sheet (replicate (row_width * 4) 0) ≡ repeated_rows
unfolding opened written rows rows_from row parent_of parent_by role list_role how_many size listing
repeated_rows_lem = each_edition _ refl refl refl

-- "FIXED 1 precision 3: 11"
pub fixed_1_precision_3 : (edition : ℕ) → is_known edition ≡ true → outcome edition (leaf_sheet physical.FIXED_LEN_BYTE_ARRAY converted.NONE logical.DECIMAL UNUSED UNUSED 1 0 3) (row_width * 2) ≡ Err (refusal 11 1)
unfolding opened greatest_precision greatest
fixed_1_precision_3 = each_edition _ refl refl refl

-- document 02, R-10
pub plain_refused : outcome THIRD (int96_sheet converted.NONE logical.NONE 0) (row_width * 2) ≡ Err (refusal 10 1)
unfolding opened
plain_refused = refl

pub plain_accepted : outcome SECOND (int96_sheet converted.NONE logical.NONE 0) (row_width * 2) ≡ Ok 2
unfolding opened
plain_accepted = refl

pub unknown_refused : outcome THIRD (int96_sheet converted.NONE logical.UNKNOWN 0) (row_width * 2) ≡ Err (refusal 10 1)
unfolding opened
unknown_refused = refl

pub unknown_accepted : outcome SECOND (int96_sheet converted.NONE logical.UNKNOWN 0) (row_width * 2) ≡ Ok 2
unfolding opened
unknown_accepted = refl

pub nine_first : outcome THIRD (int96_sheet converted.UTF8 logical.UNKNOWN 0) (row_width * 2) ≡ Err (refusal 9 1)
unfolding opened
nine_first = refl

pub eight_first : outcome THIRD (int96_sheet converted.UTF8 logical.UNKNOWN 12) (row_width * 2) ≡ Err (refusal 8 1)
unfolding opened
eight_first = refl

-- document 02, R-11
pub karney : written (outcome THIRD (geospatial_sheet 255 18 4) (row_width * 2)) (geospatial_sheet 255 18 4) (replicate (row_width * 2) 0) ≡ karney_rows
unfolding opened edge_of written rows rows_from row parent_of parent_by role list_role how_many size listing
karney = refl

pub edge_5 : outcome THIRD (geospatial_sheet 255 18 5) (row_width * 2) ≡ Err (refusal 10 1)
unfolding opened
edge_5 = refl

pub geometry_edge : outcome THIRD (geospatial_sheet 255 17 1) (row_width * 2) ≡ Err (refusal 10 1)
unfolding opened
geometry_edge = refl

pub utf8_beside : outcome THIRD (geospatial_sheet 0 17 0) (row_width * 2) ≡ Err (refusal 9 1)
unfolding opened
utf8_beside = refl

pub code_15 : outcome THIRD (geospatial_sheet 255 15 0) (row_width * 2) ≡ Err (refusal 4 1)
unfolding opened
code_15 = refl

pub karney_before : outcome SECOND (geospatial_sheet 255 18 4) (row_width * 2) ≡ Err (refusal 4 1)
unfolding opened
karney_before = refl
