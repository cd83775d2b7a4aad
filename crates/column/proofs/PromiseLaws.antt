-- Each sentence of "Single values" holds of the outcome of reading, both ways.
use Prim.Native.Nat.{ℕ, ◌*◌, ◌-◌, ◌^◌, ◌<◌, ◌≤◌}
use mathlib.Core.Path.{◌≡◌, refl, sym, ap, ◌∙◌}
use mathlib.Core.Bool.{Bool, true, false, false≢true, cond, not, ◌&&◌, ◌||◌}
use mathlib.Core.List.{List}
use mathlib.Core.Logic.{◌⊎◌, inl, inr, ◌↔◌}
use native.Mathlib.Omega.{arith}
use borrow.Author.Tests.{eq-eqb, ne_eqb, eqb-true, eqb-false, lt-ltb, ltb-true, le-leb, leb-true}
use lib.Dec.{leb, ltb, eqb}
use lib.Ieee.{binary32, binary64, of_bits}
use lib.IntN.{ℤ, pos, neg_ℤ, nat_abs}
use lib.ListN.{length}
use lib.Signed.{le_z, lt_z, ◌≤ℤ◌, ◌<ℤ◌, le_z_yes, lt_z_yes}
use Rattle.laws.specs.Bytes.{little}
use Rattle.timestamp.specs.Units.{unit_of}
use Rattle.laws.proofs.BoolLaws.{by_test, and_left, and_right, both_and, T_true}
use Rattle.refusal.specs.Numbers.{WRONG_LENGTH, BREAKS_ANNOTATION, UNKNOWN_TYPE, UNKNOWN_EDITION}
use Rattle.refusal.specs.Outcome.{given, refused, refusal, unplaced, unknown_edition}
use Rattle.refusal.specs.declared.answers.Refusal.{Refusal}
use Rattle.parquet.specs.Physical.{BOOLEAN, INT32, INT64, INT96, FLOAT, DOUBLE, BYTE_ARRAY, FIXED_LEN_BYTE_ARRAY}
use Rattle.parquet.specs.Logical.{DECIMAL, TIME, INTEGER, UNKNOWN}
use Rattle.decimal_bytes.specs.Precision.{is_length}
use Rattle.decimal_bytes.specs.Number.{number}
use Rattle.utf8.specs.Text.{Text}
use Rattle.utf8.specs.Valid.{valid_up_to}
use Rattle.utf8.proofs.ValidLaws.{valid_up_to_length}
use Rattle.column_type.specs.Lawful.{is_lawful, type_refusal}
use Rattle.column_type.proofs.RefusalLaws.{refusal_known, refusal_unknown, unknown_unlawful}
use Rattle.edition.specs.Editions.{is_known}
use Rattle.column_type.specs.declared.types.ColumnType.{ColumnType}
use Rattle.column_type.specs.Leaf.{HasLeaf}
use Rattle.column_type.proofs.LawfulLaws.{unlawful_exactly}
use Rattle.column_type.proofs.PlacementLaws.{integer_whole, time_whole, time_unit}
use Rattle.column.specs.Numbers.{signed}
use Rattle.column.specs.Lengths.{most_bytes, width_of, is_width, is_byte_form, is_byte_decimal, length_right}
use Rattle.column.specs.Annotations.{is_unsigned, in_bits, in_signed_bits, in_day, in_digits, whole_keeps, is_text, bytes_keep, annotation_place, keeps}
use Rattle.column.specs.Reading.{value_of, checked, read_of}
use Rattle.column.specs.Outcome.{outcome_of, outcome}
use Rattle.column.specs.Promises.{Whole, ByteForm, RightLength, Held, InWidth, InDay}
use Rattle.std.specs.Prelude.{Err}
use Rattle.column.specs.declared.value.Value.{Value}
use Rattle.column.specs.declared.value.Value.TheVariants.{Truth, Signed, Unsigned, Float, Double, Bytes}
use Rattle.column.proofs.LengthLaws.{length_most, width_right, decimal_right}
use Rattle.column.proofs.PlaceLaws.{text_form, text_place_lem, text_keeps}
use Rattle.column.proofs.ReadingLaws.{refused_is, unknown_place}

-- lengths --------------------------------------------------------------------------------------------------------------------

form_tested : (c : ColumnType) → ByteForm c → is_byte_form c ≡ true
form_tested c (inl e) = rw e
form_tested c (inr e) = rw e

tested_form : (c : ColumnType) → is_byte_form c ≡ true → ByteForm c
tested_form c e =
    by_test (eqb c.physical BYTE_ARRAY) (λ b. inl (eqb-true c.physical BYTE_ARRAY b)) (λ b. inr (eqb-true c.physical FIXED_LEN_BYTE_ARRAY (rw b at e)))

tested_right : (c : ColumnType) (n : ℕ) → length_right c n ≡ true → RightLength c n
tested_right c n e =
    record {
      most = length_most c n e;
      boolean = λ p. width_right c n e 1 (rw p);
      int32 = λ p. width_right c n e 4 (rw p);
      int64 = λ p. width_right c n e 8 (rw p);
      int96 = λ p. width_right c n e 12 (rw p);
      float = λ p. width_right c n e 4 (rw p);
      double = λ p. width_right c n e 8 (rw p);
      fixed = λ p. width_right c n e c.type_length (rw p);
      decimal = λ k f. let l = decimal_right c n e (form_tested c f) (eq-eqb c.kind DECIMAL k) in (leb-true 1 n (and_left (leb 1 n) (leb n 256) l), leb-true n 256 (and_right (leb 1 n) (leb n 256) l));
    }

module _ (c : ColumnType) (n : ℕ) (r : RightLength c n) where
  width_tested : is_width (width_of c) n ≡ true
  width_tested =
      by_test (eqb c.physical BOOLEAN) (λ p. rw (p, r.boolean (eqb-true c.physical BOOLEAN p)))
      (λ b. by_test (eqb c.physical INT32) (λ p. rw (b, p, r.int32 (eqb-true c.physical INT32 p)))
      (λ i. by_test (eqb c.physical INT64) (λ p. rw (b, i, p, r.int64 (eqb-true c.physical INT64 p)))
      (λ j. by_test (eqb c.physical INT96) (λ p. rw (b, i, j, p, r.int96 (eqb-true c.physical INT96 p)))
      (λ k. by_test (eqb c.physical FLOAT) (λ p. rw (b, i, j, k, p, r.float (eqb-true c.physical FLOAT p)))
      (λ f. by_test (eqb c.physical DOUBLE) (λ p. rw (b, i, j, k, f, p, r.double (eqb-true c.physical DOUBLE p)))
      (λ d. by_test (eqb c.physical FIXED_LEN_BYTE_ARRAY) (λ p. rw (b, i, j, k, f, d, p) (eq-eqb n c.type_length (r.fixed (eqb-true c.physical FIXED_LEN_BYTE_ARRAY p))))
      (λ p. rw (b, i, j, k, f, d, p))))))))

  decimal_tested : (not (is_byte_decimal c) || is_length n) ≡ true
  decimal_tested =
      by_test (is_byte_form c)
      (λ f. by_test (eqb c.kind DECIMAL)
      (λ k. let l = r.decimal (eqb-true c.kind DECIMAL k) (tested_form c f) in rw (f, k) (both_and (leb 1 n) (leb n 256) (le-leb 1 n l.0) (le-leb n 256 l.1)))
      (λ k. rw (f, k)))
      (λ f. rw f)

  right_tested : length_right c n ≡ true
  unfolding length_right
  right_tested =
      both_and (leb n most_bytes && is_width (width_of c) n) (not (is_byte_decimal c) || is_length n)
      (both_and (leb n most_bytes) (is_width (width_of c) n) (le-leb n most_bytes r.most) width_tested) decimal_tested

-- reading that is refused with a number of no value is refused for its column type
unlawful_number : (edition : ℕ) (c : ColumnType) (bs : List ℕ) (number : ℕ) → (number ≡ WRONG_LENGTH → ⊥) → (number ≡ BREAKS_ANNOTATION → ⊥)
    → outcome edition c bs ≡ refused (unplaced number) → (is_lawful edition c ≡ false) × (type_refusal edition ≡ unplaced number)
unfolding outcome read_of
unlawful_number edition c bs number h k e = by_test (is_lawful edition c) (λ l. absurd (other (length_right c (length bs)) (keeps c bs) (rw l at e))) (λ l. (l, refused_is (rw l at e)))
  where
    other : (r s : Bool) → outcome_of (cond r (checked s (annotation_place c bs) (value_of c bs)) (Err (unplaced WRONG_LENGTH))) ≡ refused (unplaced number) → ⊥
    other false s q = h (sym (ap (λ (r : Refusal). r.number) (refused_is q)))
    other true true q = let z : ◌≡◌ {A = ℕ} 0 1 = cc in omega arith
    other true false q = k (sym (ap (λ (r : Refusal). r.number) (refused_is q)))

-- a column type that is not lawful is refused so
refused_type : (edition : ℕ) (c : ColumnType) (bs : List ℕ) → is_lawful edition c ≡ false → outcome edition c bs ≡ refused (type_refusal edition)
unfolding outcome read_of
refused_type edition c bs e = rw e

-- "20": no accepted sheet of a known edition has a leaf of this column type
pub refused_unlawful : (edition : ℕ) (c : ColumnType) (bs : List ℕ) → (outcome edition c bs ≡ refused (unplaced UNKNOWN_TYPE)) ↔ ((is_known edition ≡ true) × (HasLeaf edition c → ⊥))
refused_unlawful edition c bs = (
  λ e. (
    by_test (is_known edition) (λ k. k)
        (λ u. absurd (let z : UNKNOWN_EDITION ≡ UNKNOWN_TYPE = ap (λ (r : Refusal). r.number) (sym (refusal_unknown edition u) ∙ (unlawful_number edition c bs UNKNOWN_TYPE (λ h. omega (arith, h)) (λ h. omega (arith, h)) e).1) in omega arith)),
    (unlawful_exactly edition c).0 (unlawful_number edition c bs UNKNOWN_TYPE (λ h. omega (arith, h)) (λ h. omega (arith, h)) e).0,
  ),
  λ h. refused_type edition c bs ((unlawful_exactly edition c).1 h.1) ∙ ap refused (refusal_known edition h.0),
)

-- "21": there is no such edition
pub refused_unknown : (edition : ℕ) (c : ColumnType) (bs : List ℕ) → (outcome edition c bs ≡ refused unknown_edition) ↔ (is_known edition ≡ false)
refused_unknown edition c bs = (
  λ e. by_test (is_known edition)
      (λ k. absurd (let z : UNKNOWN_TYPE ≡ UNKNOWN_EDITION = ap (λ (r : Refusal). r.number) (sym (refusal_known edition k) ∙ (unlawful_number edition c bs UNKNOWN_EDITION (λ h. omega (arith, h)) (λ h. omega (arith, h)) e).1) in omega arith))
      (λ u. u),
  λ u. refused_type edition c bs (unknown_unlawful edition c u) ∙ ap refused (refusal_unknown edition u),
)

-- "15": a value of a lawful column, exactly where its length is not right
pub wrong_length_lem : (edition : ℕ) (c : ColumnType) (bs : List ℕ) → is_lawful edition c ≡ true → (outcome edition c bs ≡ refused (unplaced WRONG_LENGTH)) ↔ (RightLength c (length bs) → ⊥)
unfolding outcome read_of
wrong_length_lem edition c bs lawful = (
  λ e r. other (keeps c bs) (rw (lawful, right_tested c (length bs) r) at e),
  λ h. by_test (length_right c (length bs)) (λ r. absurd (h (tested_right c (length bs) r))) (λ r. rw (lawful, r)),
)
  where
    other : (k : Bool) → outcome_of (checked k (annotation_place c bs) (value_of c bs)) ≡ refused (unplaced WRONG_LENGTH) → ⊥
    other true e = let z : ◌≡◌ {A = ℕ} 0 1 = cc in omega arith
    other false e = let z : BREAKS_ANNOTATION ≡ WRONG_LENGTH = ap (λ (r : Refusal). r.number) (refused_is e) in omega arith

-- what a test says ------------------------------------------------------------------------------------------------------------

below_exactly : (m n : ℕ) → (ltb m n ≡ true) ↔ (m < n)
below_exactly m n = (λ e. ltb-true m n e, λ h. lt-ltb m n h)

from_to : (low high z : ℤ) → ((le_z low z && lt_z z high) ≡ true) ↔ ((low ≤ℤ z) × (z <ℤ high))
from_to low high z = (
  λ e. (le_z_yes (rw (and_left (le_z low z) (lt_z z high) e) tt), lt_z_yes (rw (and_right (le_z low z) (lt_z z high) e) tt)),
  λ h. both_and (le_z low z) (lt_z z high) (T_true (le_z low z) h.0.le) (T_true (lt_z z high) h.1.lt),
)

width_exactly : (n : ℕ) (z : ℤ) → (in_signed_bits n z ≡ true) ↔ InWidth n z
unfolding in_signed_bits
width_exactly n z =
    let both = from_to (neg_ℤ (pos (2 ^ (n - 1)))) (pos (2 ^ (n - 1))) z in
    (λ e. record { least = (both.0 e).0; greatest = (both.0 e).1 }, λ h. both.1 (h.least, h.greatest))

day_exactly : (unit : ℕ) (z : ℤ) → (unit ≡ 1) ⊎ ((unit ≡ 2) ⊎ (unit ≡ 3)) → (in_day (unit_of unit) z ≡ true) ↔ InDay unit z
unfolding in_day
day_exactly unit z u = (λ e. made u ((ticks u).0 e), λ h. (ticks u).1 (h.least, h.greatest))
  where
    ticks : (unit ≡ 1) ⊎ ((unit ≡ 2) ⊎ (unit ≡ 3)) → (in_day (unit_of unit) z ≡ true) ↔ ((pos 0 ≤ℤ z) × (z <ℤ pos (86400 * 1000 ^ unit)))
    ticks (inl e) = rw e (from_to (pos 0) (pos 86400000) z)
    ticks (inr (inl e)) = rw e (from_to (pos 0) (pos 86400000000) z)
    ticks (inr (inr e)) = rw e (from_to (pos 0) (pos 86400000000000) z)

    made : (unit ≡ 1) ⊎ ((unit ≡ 2) ⊎ (unit ≡ 3)) → (pos 0 ≤ℤ z) × (z <ℤ pos (86400 * 1000 ^ unit)) → InDay unit z
    made v h = record { least = h.0; greatest = h.1 }

-- values of a right length in a lawful column ----------------------------------------------------------------------------------

module _ (edition : ℕ) (c : ColumnType) (bs : List ℕ) (lawful : is_lawful edition c ≡ true) (right : RightLength c (length bs)) where
  outcome_is : outcome edition c bs ≡ outcome_of (checked (keeps c bs) (annotation_place c bs) (value_of c bs))
  unfolding outcome read_of
  outcome_is = rw (lawful, right_tested c (length bs) right)

  -- a test that decides whether the annotation is kept
  held : (test : Bool) (P : Type 0) (v : Value) (place : ℕ) → keeps c bs ≡ test → value_of c bs ≡ v → annotation_place c bs ≡ place → (test ≡ true) ↔ P → Held edition c bs P v place
  held true P v place k e a exactly =
      let o : outcome edition c bs ≡ given v = outcome_is ∙ rw (k, e) in
      record {
        reads = (λ r. exactly.0 refl, λ p. o);
        breaks = (λ r. absurd (let z : ◌≡◌ {A = ℕ} 0 1 = cc in omega arith), λ no. absurd (no (exactly.0 refl)));
      }
  held false P v place k e a exactly =
      let o : outcome edition c bs ≡ refused (refusal BREAKS_ANNOTATION place) = outcome_is ∙ rw (k, a) in
      record {
        reads = (λ r. absurd (let z : ◌≡◌ {A = ℕ} 0 1 = cc in omega arith), λ p. absurd (false≢true (exactly.1 p)));
        breaks = (λ r p. false≢true (exactly.1 p), λ no. o);
      }

  -- a value that nothing is asked of
  any : (v : Value) → keeps c bs ≡ true → value_of c bs ≡ v → outcome edition c bs ≡ given v
  any v k e = outcome_is ∙ rw (k, e)

  module _ (known : (c.kind ≡ UNKNOWN) → ⊥) (whole : Whole c) where
    whole_keeps_lem : keeps c bs ≡ whole_keeps c (little bs) (signed bs)
    unfolding keeps
    whole_keeps_lem = by_physical whole
      where
        by_physical : Whole c → keeps c bs ≡ whole_keeps c (little bs) (signed bs)
        by_physical (inl e) = rw (ne_eqb c.kind UNKNOWN known, e)
        by_physical (inr e) = rw (ne_eqb c.kind UNKNOWN known, e)

    whole_value_lem : value_of c bs ≡ cond (is_unsigned c) (Unsigned (little bs)) (Signed (signed bs))
    unfolding value_of
    whole_value_lem = by_physical whole
      where
        by_physical : Whole c → value_of c bs ≡ cond (is_unsigned c) (Unsigned (little bs)) (Signed (signed bs))
        by_physical (inl e) = rw e
        by_physical (inr e) = rw e

    whole_place : annotation_place c bs ≡ 0
    unfolding annotation_place
    whole_place = by_physical whole
      where
        by_physical : Whole c → annotation_place c bs ≡ 0
        by_physical (inl e) = rw e
        by_physical (inr e) = rw e

  other_kind : (a b : ℕ) → eqb a b ≡ false → c.kind ≡ a → (c.kind ≡ b) → ⊥
  other_kind a b d k e = eqb-false a b d (sym k ∙ e)

  -- "INT(n, false) reads its bytes unsigned; INT stays within its width"
  pub unsigned_held : c.kind ≡ INTEGER → c.p2 ≡ 0 → Held edition c bs (little bs < 2 ^ c.p1) (Unsigned (little bs)) 0
  unfolding whole_keeps
  unsigned_held k s =
      let known = other_kind INTEGER UNKNOWN refl k in
      let whole = integer_whole edition c lawful k in
      held (in_bits c.p1 (little bs)) (little bs < 2 ^ c.p1) (Unsigned (little bs)) 0
      (whole_keeps_lem known whole ∙ rw (k, s)) (whole_value_lem known whole ∙ rw (k, s)) (whole_place known whole) (below_exactly (little bs) (2 ^ c.p1))

  pub signed_held : c.kind ≡ INTEGER → c.p2 ≡ 1 → Held edition c bs (InWidth c.p1 (signed bs)) (Signed (signed bs)) 0
  unfolding whole_keeps
  signed_held k s =
      let known = other_kind INTEGER UNKNOWN refl k in
      let whole = integer_whole edition c lawful k in
      held (in_signed_bits c.p1 (signed bs)) (InWidth c.p1 (signed bs)) (Signed (signed bs)) 0
      (whole_keeps_lem known whole ∙ rw (k, s)) (whole_value_lem known whole ∙ rw (k, s)) (whole_place known whole) (width_exactly c.p1 (signed bs))

  -- "TIME: 0 to one day less one tick"
  pub time_held : c.kind ≡ TIME → Held edition c bs (InDay c.p1 (signed bs)) (Signed (signed bs)) 0
  unfolding whole_keeps
  time_held k =
      let known = other_kind TIME UNKNOWN refl k in
      let whole = time_whole edition c lawful k in
      held (in_day (unit_of c.p1) (signed bs)) (InDay c.p1 (signed bs)) (Signed (signed bs)) 0
      (whole_keeps_lem known whole ∙ rw k) (whole_value_lem known whole ∙ rw k) (whole_place known whole) (day_exactly c.p1 (signed bs) (time_unit edition c lawful k))

  -- "DECIMAL: |unscaled| < 10^precision"
  pub decimal_whole_held : c.kind ≡ DECIMAL → Whole c → Held edition c bs (nat_abs (signed bs) < 10 ^ c.p1) (Signed (signed bs)) 0
  unfolding whole_keeps
  decimal_whole_held k whole =
      let known = other_kind DECIMAL UNKNOWN refl k in
      held (in_digits c.p1 (signed bs)) (nat_abs (signed bs) < 10 ^ c.p1) (Signed (signed bs)) 0
      (whole_keeps_lem known whole ∙ rw k) (whole_value_lem known whole ∙ rw k) (whole_place known whole) (below_exactly (nat_abs (signed bs)) (10 ^ c.p1))

  -- byte forms are stretches of bytes
  module _ (form : ByteForm c) where
    bytes_value : value_of c bs ≡ Bytes 0 (length bs)
    unfolding value_of
    bytes_value = by_physical form
      where
        by_physical : ByteForm c → value_of c bs ≡ Bytes 0 (length bs)
        by_physical (inl e) = rw e
        by_physical (inr e) = rw e

    bytes_keeps : ((c.kind ≡ UNKNOWN) → ⊥) → keeps c bs ≡ bytes_keep c bs
    unfolding keeps
    bytes_keeps known = by_physical form
      where
        by_physical : ByteForm c → keeps c bs ≡ bytes_keep c bs
        by_physical (inl e) = rw (ne_eqb c.kind UNKNOWN known, e)
        by_physical (inr e) = rw (ne_eqb c.kind UNKNOWN known, e)

  pub decimal_bytes_held : c.kind ≡ DECIMAL → ByteForm c → Held edition c bs (nat_abs (number bs) < 10 ^ c.p1) (Bytes 0 (length bs)) 0
  unfolding bytes_keep annotation_place
  decimal_bytes_held k form =
      held (in_digits c.p1 (number bs)) (nat_abs (number bs) < 10 ^ c.p1) (Bytes 0 (length bs)) 0
      (bytes_keeps form (other_kind DECIMAL UNKNOWN refl k) ∙ rw k) (bytes_value form) (rw (form_tested c form, k)) (below_exactly (nat_abs (number bs)) (10 ^ c.p1))

  -- "STRING, ENUM, JSON: UTF-8 (RFC 3629)"
  pub text_held : is_text c.kind ≡ true → Held edition c bs (Text bs) (Bytes 0 (length bs)) (valid_up_to bs)
  text_held text =
      held (eqb (valid_up_to bs) (length bs)) (Text bs) (Bytes 0 (length bs)) (valid_up_to bs)
      (text_keeps edition c bs lawful text) (bytes_value (inl (text_form edition c lawful text))) (text_place_lem edition c bs lawful text)
      (λ e. (valid_up_to_length bs).0 (eqb-true (valid_up_to bs) (length bs) e), λ h. eq-eqb (valid_up_to bs) (length bs) ((valid_up_to_length bs).1 h))

  -- "UNKNOWN: no value, so 16"
  pub unknown_refused : c.kind ≡ UNKNOWN → outcome edition c bs ≡ refused (unplaced BREAKS_ANNOTATION)
  unfolding keeps
  unknown_refused k = outcome_is ∙ rw (unknown_place c bs k, k)

  -- "BOOLEAN one byte, 0 or 1 (else 16)"
  pub truth_held : c.physical ≡ BOOLEAN → ((c.kind ≡ UNKNOWN) → ⊥) → Held edition c bs (little bs ≤ 1) (Truth (eqb (little bs) 1)) 0
  unfolding keeps value_of annotation_place
  truth_held p known =
      held (leb (little bs) 1) (little bs ≤ 1) (Truth (eqb (little bs) 1)) 0
      (rw (ne_eqb c.kind UNKNOWN known, p)) (rw p) (rw p) (λ e. leb-true (little bs) 1 e, λ h. le-leb (little bs) 1 h)

  -- "Others: any"
  pub any_whole : Whole c → ((c.kind ≡ UNKNOWN) → ⊥) → ((c.kind ≡ INTEGER) → ⊥) → ((c.kind ≡ TIME) → ⊥) → ((c.kind ≡ DECIMAL) → ⊥) → outcome edition c bs ≡ given (Signed (signed bs))
  unfolding whole_keeps
  any_whole whole known i m d =
      any (Signed (signed bs)) (whole_keeps_lem known whole ∙ rw (ne_eqb c.kind INTEGER i, ne_eqb c.kind TIME m, ne_eqb c.kind DECIMAL d))
      (whole_value_lem known whole ∙ rw (ne_eqb c.kind INTEGER i))

  pub any_float : c.physical ≡ FLOAT → ((c.kind ≡ UNKNOWN) → ⊥) → outcome edition c bs ≡ given (Float (of_bits binary32 (little bs)))
  unfolding keeps value_of
  any_float p known = any (Float (of_bits binary32 (little bs))) (rw (ne_eqb c.kind UNKNOWN known, p)) (rw p)

  pub any_double : c.physical ≡ DOUBLE → ((c.kind ≡ UNKNOWN) → ⊥) → outcome edition c bs ≡ given (Double (of_bits binary64 (little bs)))
  unfolding keeps value_of
  any_double p known = any (Double (of_bits binary64 (little bs))) (rw (ne_eqb c.kind UNKNOWN known, p)) (rw p)

  pub any_int96 : c.physical ≡ INT96 → ((c.kind ≡ UNKNOWN) → ⊥) → outcome edition c bs ≡ given (Bytes 0 (length bs))
  unfolding keeps value_of
  any_int96 p known = any (Bytes 0 (length bs)) (rw (ne_eqb c.kind UNKNOWN known, p)) (rw p)

  pub any_bytes : ByteForm c → ((c.kind ≡ UNKNOWN) → ⊥) → ((c.kind ≡ DECIMAL) → ⊥) → is_text c.kind ≡ false → outcome edition c bs ≡ given (Bytes 0 (length bs))
  unfolding bytes_keep
  any_bytes form known d text =
      any (Bytes 0 (length bs)) (bytes_keeps form known ∙ rw (ne_eqb c.kind DECIMAL d, text)) (bytes_value form)
