-- What a call for values or timestamps ends with is the first of the paper's refusals that holds, or its result; in C too.
use Prim.Native.Nat.{ℕ, ◌*◌}
use mathlib.Core.Path.{◌≡◌, refl, ap, ◌∙◌}
use mathlib.Core.Bool.{Bool, true, false, cond, not, ◌&&◌}
use mathlib.Core.List.{List, [], ◌∷◌}
use mathlib.Core.Option.{Option, none, some}
use native.Mathlib.Omega.{arith}
use borrow.Author.Tests.{eqb-true, eqb-false, leb-true, le-leb, lt-leb, le-ltb, lt-ltb}
use lib.Dec.{eqb, leb, ltb}
use lib.IntN.{ℤ, pos}
use lib.ListN.{length}
use Rattle.laws.proofs.BoolLaws.{by_test}
use Rattle.laws.proofs.DifferenceLaws.{below?}
use Rattle.refusal.specs.Outcome.{Outcome, refused, judged, counted}
use Rattle.refusal.specs.declared.answers.Refusal.{Refusal}
use Rattle.column_type.specs.Lawful.{is_lawful, judgement_of}
use Rattle.column_type.proofs.RefusalLaws.{lawful_known, refusal_known, refusal_unknown}
use Rattle.edition.specs.Editions.{is_known}
use Rattle.column_type.specs.declared.types.ColumnType.{ColumnType}
use Rattle.column.specs.Lengths as value
use Rattle.column.specs.Annotations.{keeps}
use Rattle.column.specs.Reading.{value_of, read_of}
use Rattle.column.specs.Outcome as column
use Rattle.column_order.specs.Keys.{key_of, key_order}
use Rattle.column_order.specs.Order.{has_order, order_of}
use Rattle.column_order.specs.Outcome as column_order
use Rattle.logical_type.specs.declared.types.TimeUnit.{TimeUnit}
use Rattle.timestamp.specs.Units.{unit_of}
use Rattle.timestamp.specs.Count.{is_date_time, count_of}
use Rattle.timestamp.specs.Outcomes as timestamp
use Rattle.timestamp.specs.Outcomes.{Decodes, is_signed64, encoding_in}
use Rattle.timestamp.specs.declared.fields.Fields.{Fields}
use Rattle.int96.specs.Value as int96
use Rattle.int96.specs.Outcomes as conversion
use Rattle.c_answer.specs.Answers.{Effect, Result, result, within, left}
use Rattle.c_values.specs.Values as c_values
use Rattle.c_values.specs.Values.{case_of, numbers_of}
use Rattle.c_values.proofs.ValueLaws.{numbers_of_length}
use Rattle.c_timestamps.specs.Timestamps as c_timestamps
use Rattle.c_timestamps.specs.Timestamps.{field_numbers, are_fields, fields_of, decode_effect, encode_effect, Decoding}
use Rattle.c_timestamps.specs.Int96.{from_int96}
use Rattle.demands.specs.Refusals.{unsided, ground, first, type_grounds, reading_grounds, ordering_grounds, unknown_unit, ticks, encoding_grounds, int96_grounds, short_for, c_reading_grounds, c_decoding_grounds, c_encoding_grounds, c_from_int96_grounds}

-- values ---------------------------------------------------------------------------------------------------------------------------

pub typing_first : (edition : ℕ) (c : ColumnType) → judged (judgement_of edition c) ≡ first (type_grounds edition c) tt
unfolding judgement_of first
typing_first edition c =
    by_test (is_lawful edition c) (λ e. rw (lawful_known edition c e, e))
    (λ e. by_test (is_known edition) (λ k. rw (k, e, refusal_known edition k)) (λ u. rw (u, e, refusal_unknown edition u)))

pub reading_first : (edition : ℕ) (c : ColumnType) (bs : List ℕ) → column.outcome edition c bs ≡ first (reading_grounds edition c bs) (value_of c bs)
unfolding column.outcome read_of first
reading_first edition c bs =
    by_test (is_lawful edition c)
    (λ e. let k = lawful_known edition c e in by_test (value.length_right c (length bs)) (λ f. by_test (keeps c bs) (λ g. rw (k, e, f, g)) (λ g. rw (k, e, f, g))) (λ f. rw (k, e, f)))
    (λ e. by_test (is_known edition) (λ k. rw (k, e, refusal_known edition k)) (λ u. rw (u, e, refusal_unknown edition u)))

pub ordering_first : (edition : ℕ) (c : ColumnType) (a b : List ℕ) → unsided (column_order.outcome edition c a b) ≡ first (ordering_grounds edition c a b) (key_order (key_of c a) (key_of c b))
unfolding column_order.outcome order_of read_of first
ordering_first edition c a b =
    by_test (is_lawful edition c)
    (λ e. let k = lawful_known edition c e in by_test (has_order c)
    (λ f. by_test (value.length_right c (length a))
    (λ g. by_test (keeps c a)
    (λ h. by_test (value.length_right c (length b))
    (λ i. by_test (keeps c b) (λ j. rw (k, e, f, g, h, i, j)) (λ j. rw (k, e, f, g, h, i, j)))
    (λ i. rw (k, e, f, g, h, i)))
    (λ h. rw (k, e, f, g, h)))
    (λ g. rw (k, e, f, g)))
    (λ f. rw (k, e, f)))
    (λ e. by_test (is_known edition) (λ k. rw (k, e, refusal_known edition k)) (λ u. rw (u, e, refusal_unknown edition u)))

-- timestamps -------------------------------------------------------------------------------------------------------------------------

-- a number names a unit exactly where it is 1 to 3
by_unit {ℓ} : (P : ℕ → Type ℓ) → P 1 → P 2 → P 3 → ((unit : ℕ) → unit_of unit ≡ none → (leb 1 unit && leb unit 3) ≡ false → P unit) → (unit : ℕ) → P unit
by_unit P one two three other unit =
    by_test (eqb unit 1) (λ e. rw (eqb-true unit 1 e) one)
    (λ e. by_test (eqb unit 2) (λ f. rw (eqb-true unit 2 f) two)
    (λ f. by_test (eqb unit 3) (λ g. rw (eqb-true unit 3 g) three)
    (λ g. other unit (rw (e, f, g)) (beyond (leb 1 unit) refl (leb unit 3) refl e f g))))
  where
    beyond : (low : Bool) → leb 1 unit ≡ low → (high : Bool) → leb unit 3 ≡ high → eqb unit 1 ≡ false → eqb unit 2 ≡ false → eqb unit 3 ≡ false → (leb 1 unit && leb unit 3) ≡ false
    beyond false p h q e f g = rw p
    beyond true p false q e f g = rw (p, q)
    beyond true p true q e f g = absurd (omega (arith, leb-true 1 unit p, leb-true unit 3 q, eqb-false unit 1 e, eqb-false unit 2 f, eqb-false unit 3 g))

-- some fields, where none are answered
zeros : Fields
zeros = record { year = pos 0; month = 0; day = 0; hour = 0; minute = 0; second = 0; fraction = 0 }

pub decoding_first : (unit : ℕ) (count : ℤ) (o : Outcome Fields) → Decodes (unit_of unit) count o → (f : Fields) × (o ≡ first (unknown_unit unit ∷ []) f)
unfolding first
decoding_first unit count o =
    by_unit (λ (u : ℕ). Decodes (unit_of u) count o → (f : Fields) × (o ≡ first (unknown_unit u ∷ []) f))
    (λ d. (d.0, rw d.1))
    (λ d. (d.0, rw d.1))
    (λ d. (d.0, rw d.1))
    (λ u e k d. (zeros, rw (k, unknown (unit_of u) e d)))
    unit
  where
    unknown : (u : Option TimeUnit) → u ≡ none → Decodes u count o → o ≡ timestamp.unknown_unit
    unknown none e d = d
    unknown (some v) e d = absurd (let z : ◌≡◌ {A = ℕ} 0 1 = cc in omega arith)

-- 18, then 19, in a unit with so many ticks in a second
fields_first : (perSecond : ℕ) (f : Fields) → encoding_in perSecond f ≡ first (ground 18 0 (not (is_date_time perSecond f)) ∷ ground 19 0 (not (is_signed64 (count_of perSecond f))) ∷ []) (count_of perSecond f)
unfolding encoding_in first
fields_first perSecond f =
    by_test (is_date_time perSecond f) (λ e. by_test (is_signed64 (count_of perSecond f)) (λ g. rw (e, g)) (λ g. rw (e, g))) (λ e. rw e)

pub encoding_first : (unit : ℕ) (f : Fields) → timestamp.encoding (unit_of unit) f ≡ first (encoding_grounds unit f) (count_of (ticks unit) f)
unfolding first
encoding_first unit f =
    by_unit (λ (u : ℕ). timestamp.encoding (unit_of u) f ≡ first (encoding_grounds u f) (count_of (ticks u) f))
    (fields_first 1000 f) (fields_first 1000000 f) (fields_first 1000000000 f) (λ u e k. rw (e, k)) unit

pub in_day_first : (unit tick : ℕ) → timestamp.day_has (unit_of unit) tick ≡ first (unknown_unit unit ∷ []) (ltb tick (86400 * ticks unit))
unfolding first
in_day_first unit tick =
    by_unit (λ (u : ℕ). timestamp.day_has (unit_of u) tick ≡ first (unknown_unit u ∷ []) (ltb tick (86400 * ticks u))) refl refl refl (λ u e k. rw (e, k)) unit

-- INT96 values -------------------------------------------------------------------------------------------------------------------------

pub from_int96_first : (value : List ℕ) → conversion.decoding value ≡ first (int96_grounds value) (int96.count_of value)
unfolding conversion.decoding first
from_int96_first value =
    by_test (eqb (length value) 12)
    (λ e. below? (int96.nanos_in value) 86400000000000
    (λ h. by_test (is_signed64 (int96.count_of value)) (λ g. rw (e, lt-ltb _ _ h, lt-leb _ _ h, g)) (λ g. rw (e, lt-ltb _ _ h, lt-leb _ _ h, g)))
    (λ h. rw (e, le-ltb _ _ h, le-leb _ _ h)))
    (λ e. rw e)

pub to_int96_first : (lent : ℕ) → counted (conversion.encoding lent) ≡ first (short_for 12 lent ∷ []) 12
unfolding conversion.encoding first
to_int96_first lent = by_test (ltb lent 12) (λ e. rw e) (λ e. rw e)

-- the C interface ----------------------------------------------------------------------------------------------------------------------

-- what is given
abbrev written : {A : Type 0} → ℕ → List A → Result A
written value numbers = record { value = value; numbers = numbers }

-- 14 behind what was asked for
pub within_first : {A : Type 0} (lent value : ℕ) (numbers : List A) → within lent (result value numbers) ≡ first (ground 14 0 (ltb lent (length numbers)) ∷ []) (written value numbers)
unfolding first
within_first lent value numbers = by_test (ltb lent (length numbers)) (λ e. rw e) (λ e. rw e)

pub c_reading_first : (edition : ℕ) (c : ColumnType) (bs : List ℕ) (lent : ℕ) → c_values.reading edition c bs lent ≡ first (c_reading_grounds edition c bs lent) (written (case_of (value_of c bs)) (numbers_of (value_of c bs)))
unfolding c_values.reading column.outcome read_of first
c_reading_first edition c bs lent =
    by_test (is_lawful edition c)
    (λ e. let k = lawful_known edition c e in by_test (value.length_right c (length bs))
    (λ f. by_test (keeps c bs)
    (λ g. rw (k, e, f, g) (within_first lent (case_of (value_of c bs)) (numbers_of (value_of c bs)) ∙ ap (λ (n : ℕ). first (ground 14 0 (ltb lent n) ∷ []) (written (case_of (value_of c bs)) (numbers_of (value_of c bs)))) (numbers_of_length (value_of c bs))))
    (λ g. rw (k, e, f, g)))
    (λ f. rw (k, e, f)))
    (λ e. by_test (is_known edition) (λ k. rw (k, e, refusal_known edition k)) (λ u. rw (u, e, refusal_unknown edition u)))

pub c_decoding_first : (unit : ℕ) (count : ℤ) (lent : ℕ) (o : Outcome Fields) → Decodes (unit_of unit) count o → (f : Fields) × (o ≡ first (unknown_unit unit ∷ []) f) × (within lent (decode_effect o) ≡ first (c_decoding_grounds unit lent) (written 7 (field_numbers f)))
unfolding first
c_decoding_first unit count lent o d =
    let d1 = decoding_first unit count o d in
    (d1.0, d1.1, ap (λ (x : Outcome Fields). within lent (decode_effect x)) d1.1 ∙ behind d1.0)
  where
    behind : (f : Fields) → within lent (decode_effect (first (unknown_unit unit ∷ []) f)) ≡ first (c_decoding_grounds unit lent) (written 7 (field_numbers f))
    behind f = by_test (leb 1 unit && leb unit 3) (λ k. rw k (within_first lent 7 (field_numbers f))) (λ k. rw k)

-- numbers that can be fields or not, in a unit with so many ticks in a second
numbers_first : (perSecond : ℕ) (are : Bool) (f : Fields) (lent : ℕ) → within lent (encode_effect (cond are (encoding_in perSecond f) timestamp.no_date_time)) ≡ first (ground 18 0 (not are) ∷ ground 18 0 (not (is_date_time perSecond f)) ∷ ground 19 0 (not (is_signed64 (count_of perSecond f))) ∷ ground 14 0 (ltb lent 1) ∷ []) (written 1 (count_of perSecond f ∷ []))
unfolding encoding_in first
numbers_first perSecond false f lent = refl
numbers_first perSecond true f lent =
    by_test (is_date_time perSecond f)
    (λ e. by_test (is_signed64 (count_of perSecond f)) (λ g. rw (e, g) (within_first lent 1 (count_of perSecond f ∷ []))) (λ g. rw (e, g)))
    (λ e. rw e)

pub c_encoding_first : (unit : ℕ) (numbers : List ℤ) (lent : ℕ) → c_timestamps.encoding unit numbers lent ≡ first (c_encoding_grounds unit numbers lent) (written 1 (count_of (ticks unit) (fields_of numbers) ∷ []))
unfolding c_timestamps.encoding first
c_encoding_first unit numbers lent =
    by_unit (λ (u : ℕ). within lent (encode_effect (c_timestamps.encoding_of (unit_of u) numbers)) ≡ first (c_encoding_grounds u numbers lent) (written 1 (count_of (ticks u) (fields_of numbers) ∷ [])))
    (numbers_first 1000 (are_fields numbers) (fields_of numbers) lent)
    (numbers_first 1000000 (are_fields numbers) (fields_of numbers) lent)
    (numbers_first 1000000000 (are_fields numbers) (fields_of numbers) lent)
    (λ u e k. rw (e, k))
    unit

pub c_from_int96_first : (value : List ℕ) (lent : ℕ) → from_int96 value lent ≡ first (c_from_int96_grounds value lent) (written 1 (int96.count_of value ∷ []))
unfolding from_int96 first
c_from_int96_first value lent = rw (from_int96_first value) (behind (not (eqb (length value) 12)) (leb 86400000000000 (int96.nanos_in value)) (not (is_signed64 (int96.count_of value))))
  where
    behind : (a b c : Bool) → within lent (encode_effect (first (ground 15 0 a ∷ ground 16 0 b ∷ ground 19 0 c ∷ []) (int96.count_of value))) ≡ first (ground 15 0 a ∷ ground 16 0 b ∷ ground 19 0 c ∷ ground 14 0 (ltb lent 1) ∷ []) (written 1 (int96.count_of value ∷ []))
    behind true b c = refl
    behind false true c = refl
    behind false false true = refl
    behind false false false = within_first lent 1 (int96.count_of value ∷ [])

-- a refusal leaves what was lent
pub refused_left : {A : Type 0} (e : Effect A) (lent : List A) (r : Refusal) → e ≡ refused r → left e lent ≡ lent
refused_left e lent r h = rw h

pub fields_left : (unit : ℕ) (count : ℤ) (lent held : List ℤ) (answered : ℕ) (o : Outcome Fields) (r : Refusal) → Decoding unit count lent answered held → Decodes (unit_of unit) count o → within (length lent) (decode_effect o) ≡ refused r → held ≡ lent
fields_left unit count lent held answered o r d p e = d.every_left o p ∙ refused_left (within (length lent) (decode_effect o)) lent r e
