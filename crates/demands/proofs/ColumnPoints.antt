-- Points on single values and their order, which the definitions compute.
use mathlib.Core.Path.{◌≡◌, refl}
use mathlib.Core.Bool.{true}
use mathlib.Core.List.{List, [], ◌∷◌}
use Prim.Native.Nat.{ℕ}
use Rattle.edition.specs.Editions.{is_known, scale_may_equal, int96_retired}
use Rattle.edition.proofs.EditionLaws.{each_edition}
use Rattle.laws.specs.Bytes.{little, twos_complement}
use Rattle.logical_type.specs.Backward.{backward_of}
use Rattle.annotation.specs.Meaning.{annotation_of}
use Rattle.logical_type.specs.Parameters.{unit_of, bit_width_of, valid_parameters}
use Rattle.annotation.specs.Rule9.{rule9}
use Rattle.annotation.specs.Rule10.{is_placed, is_retired, rule10}
use Rattle.annotation.specs.Rule11.{scale_allowed, ordered, physical_holds, decimal_holds, rule11}
use Rattle.annotation.specs.Signed.{natural}
use Rattle.logical_type.specs.Spelling.{named_of, stated_of}
use Rattle.column.specs.Annotations.{in_signed_bits, whole_keeps, bytes_keep, annotation_place, keeps}
use Rattle.column.specs.Lengths.{length_right}
use Rattle.refusal.specs.Faults as sided
use Rattle.refusal.specs.Faults.{Sided, fault}
use Rattle.refusal.specs.Outcome.{Outcome, given, refused, refusal}
use Rattle.column.specs.Outcome as reading
use Rattle.column.specs.Reading.{value_of, read_of}
use Rattle.column.specs.declared.value.Value.{Value}
use Rattle.column.specs.declared.value.Value.TheVariants.{Unsigned, Bytes}
use Rattle.column_type.specs.Lawful.{slot_of, fits, is_leaf, slot_keeps, is_lawful}
use Rattle.column_type.specs.declared.types.ColumnType.{ColumnType}
use Rattle.decimal_bytes.specs.Number.{number}
use Rattle.tree.specs.Rules.{is_nought, length_shape}
use Rattle.sheet.specs.Sound.{listed, physical_listed}
use Rattle.float_order.specs.Keys.{whole_order}
use Rattle.std.specs.Prelude.{Option, Some}
use Rattle.std.specs.declared.cmp.Ordering.{Ordering}
use Rattle.std.specs.declared.cmp.Ordering.TheVariants.{Less, Equal, Greater}
use Rattle.column_order.specs.Keys.{number_of, key_of, key_order}
use Rattle.column_order.specs.Order.{order_of}
use Rattle.column_order.specs.Outcome.{outcome}
use Rattle.utf8.specs.Sequence.{inside, spells, utf8_1, utf8_2, utf8_3, utf8_4, utf8_char}
use Rattle.utf8.specs.Valid.{matched, leading, valid_up_to}
use Rattle.utf8.specs.Valid as utf8
use Rattle.demands.specs.Points.{uint8, decimals}
use Rattle.demands.specs.Requests.{strings}

-- what reading and ordering compute with, opened
read : (edition : ℕ) → ColumnType → List ℕ → Outcome Value
unfolding reading.outcome read_of value_of annotation_place keeps whole_keeps bytes_keep in_signed_bits length_right little twos_complement number is_lawful slot_keeps is_known scale_may_equal int96_retired fits is_leaf physical_listed listed length_shape is_nought slot_of rule9 is_placed is_retired rule10 rule11 decimal_holds ordered scale_allowed physical_holds annotation_of backward_of stated_of named_of valid_parameters unit_of bit_width_of natural
read edition = reading.outcome edition

order : (edition : ℕ) → ColumnType → List ℕ → List ℕ → Sided (Option Ordering)
unfolding read outcome order_of key_order key_of whole_order number_of
order edition = outcome edition

-- and what text computes with besides
text : List ℕ → ℕ
unfolding read order valid_up_to utf8.reading leading matched spells inside utf8_char utf8_1 utf8_2 utf8_3 utf8_4
text = valid_up_to

-- "*INT(8, false): 255 valid, 256: 16"
pub uint8_255 : (edition : ℕ) → is_known edition ≡ true → reading.outcome edition uint8 (255 ∷ 0 ∷ 0 ∷ 0 ∷ []) ≡ given (Unsigned 255)
unfolding read
uint8_255 = each_edition _ refl refl refl

pub uint8_256 : (edition : ℕ) → is_known edition ≡ true → reading.outcome edition uint8 (0 ∷ 1 ∷ 0 ∷ 0 ∷ []) ≡ refused (refusal 16 0)
unfolding read
uint8_256 = each_edition _ refl refl refl

-- "*Precision 2: 63 hex valid, 64 hex 16"
pub two_digits : (edition : ℕ) → is_known edition ≡ true → reading.outcome edition (decimals 2) (0x63 ∷ []) ≡ given (Bytes 0 1)
unfolding read
two_digits = each_edition _ refl refl refl

pub three_digits : (edition : ℕ) → is_known edition ≡ true → reading.outcome edition (decimals 2) (0x64 ∷ []) ≡ refused (refusal 16 0)
unfolding read
three_digits = each_edition _ refl refl refl

-- "BYTE_ARRAY decimals of precision 3: *FF and FFFF equal; *80 below 7F; *00FF above 7F"
pub ff_ffff : (edition : ℕ) → is_known edition ≡ true → outcome edition (decimals 3) (0xFF ∷ []) (0xFF ∷ 0xFF ∷ []) ≡ sided.given (Some Equal)
unfolding order
ff_ffff = each_edition _ refl refl refl

pub minus_below_plus : (edition : ℕ) → is_known edition ≡ true → outcome edition (decimals 3) (0x80 ∷ []) (0x7F ∷ []) ≡ sided.given (Some Less)
unfolding order
minus_below_plus = each_edition _ refl refl refl

pub longer_above : (edition : ℕ) → is_known edition ≡ true → outcome edition (decimals 3) (0x00 ∷ 0xFF ∷ []) (0x7F ∷ []) ≡ sided.given (Some Greater)
unfolding order
longer_above = each_edition _ refl refl refl

-- document 02, R-6
pub cut_off : (edition : ℕ) → is_known edition ≡ true → reading.outcome edition strings (0x6B ∷ 0xC3 ∷ 0xA9 ∷ 0xE2 ∷ 0x82 ∷ []) ≡ refused (refusal 16 3)
unfolding text
cut_off = each_edition _ refl refl refl

pub second_bad : (edition : ℕ) → is_known edition ≡ true → outcome edition strings (0x6B ∷ []) (0x6B ∷ 0xFF ∷ []) ≡ sided.refused (fault 2 (refusal 16 1))
unfolding text
second_bad = each_edition _ refl refl refl

pub both_bad : (edition : ℕ) → is_known edition ≡ true → outcome edition strings (0x6B ∷ 0x6B ∷ 0x80 ∷ []) (0xFF ∷ []) ≡ sided.refused (fault 1 (refusal 16 2))
unfolding text
both_bad = each_edition _ refl refl refl
