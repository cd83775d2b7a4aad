-- Fields to encode, and why a number that no date and time has is refused with 18.
use Prim.Native.Nat.{ℕ, ◌-◌, ◌≤◌, ◌<◌, ◌^◌}
use mathlib.Core.Path.{◌≡◌, refl, sym, ap, ◌∙◌}
use mathlib.Core.Bool.{Bool, true, false, ◌&&◌, cond, true≢false, false≢true}
use mathlib.Core.List.{List, []}
use mathlib.Core.Option.{Option, none, some}
use native.Mathlib.Omega.{arith}
use borrow.Author.Tests.{lt-ltb, le-leb, leb-true}
use lib.Dec.{leb, ltb}
use lib.IntN.{ℤ, pos, negsuc, nat_abs}
use lib.ListN.{length}
use lib.Signed.{le_z}
use mir.Syntax.{w64}
use mir.Val.{SFits, to_z, of_z}
use mir.ValLaws.{to_z-of_z}
use Rattle.laws.proofs.BoolLaws.{and_both, both_and, by_test}
use Rattle.timestamp.specs.Calendar.{months, is_leap, days_of_month}
use Rattle.logical_type.specs.declared.types.TimeUnit.{TimeUnit}
use Rattle.timestamp.specs.Units.{ticks_per_second_of, unit_of}
use Rattle.timestamp.specs.Count.{is_date_time}
use Rattle.refusal.specs.Numbers.{UNKNOWN_TYPE}
use Rattle.refusal.specs.Outcome.{Outcome, given, refused, unplaced}
use Rattle.refusal.specs.declared.answers.Refusal.{Refusal}
use Rattle.timestamp.specs.Outcomes.{no_date_time, day_has, refusal_of, encoded, encoding_in}
use Rattle.timestamp.specs.Outcomes as timestamp
use Rattle.timestamp.specs.declared.fields.Fields.{Fields}
use Rattle.std.specs.Prelude as prelude
use Rattle.std.specs.Prelude.{Result, Some, None, IfSome}
use Rattle.timestamp.specs.declared.encoding.EncodeError.{EncodeError}
use Rattle.timestamp.specs.declared.encoding.EncodeError.TheVariants as error
use Rattle.timestamp.proofs.UnitLaws.{ticks_most}
use Rattle.timestamp.proofs.ClockLaws.{Time, time_parts}
use Rattle.timestamp.proofs.CountLaws.{date_time_parts, encoding_none}
use Rattle.timestamp.proofs.DateLaws.{Date, date_parts}
use Rattle.c_answer.specs.Answers.{within, left}
use Rattle.c_timestamps.specs.Timestamps.{FIELDS, at, is_field, are_fields, fields_of, encoding_of, encoding_read, encode_effect, encoding}
use Rattle.laws.proofs.MostLaws.{AtMost, at_most_test, at_most_get_d}

-- ---- one field

-- a number from one to another
abbrev pub ranged : ℕ → ℕ → ℤ → Bool
ranged least most z = le_z (pos least) z && le_z z (pos most)

-- and what is read of any
abbrev pub read_within : ℕ → ℕ → ℤ → prelude.Option ℕ
read_within least most z = cond (ranged least most z) (Some (nat_abs z)) None

-- it is a field, where it has 32 bits
ranged_field : (least most : ℕ) (z : ℤ) → most < 2 ^ 32 → ranged least most z ≡ true → is_field z ≡ true
ranged_field least most (pos n) h e =
    let last = leb-true n most (and_both (leb least n) (leb n most) e).1 in
    both_and (leb 0 n) (ltb n (2 ^ 32)) (le-leb 0 n (omega arith)) (lt-ltb n (2 ^ 32) (omega arith))
ranged_field least most (negsuc n) h e = absurd (false≢true e)

field_ranged : (least most : ℕ) (z : ℤ) → is_field z ≡ true → least ≤ nat_abs z → nat_abs z ≤ most → ranged least most z ≡ true
field_ranged least most (pos n) e h k = both_and (leb least n) (leb n most) (le-leb least n h) (le-leb n most k)
field_ranged least most (negsuc n) e h k = absurd (false≢true e)

-- what is read of a number that is in range, and of one that is not
read_in : (b : Bool) (n m : ℕ) (r : prelude.Option ℕ) → r ≡ cond b (Some n) None → r ≡ Some m → (b ≡ true) × (m ≡ n)
read_in true n m r e told = (refl, cc)
read_in false n m r e told = absurd cc

read_out : (b : Bool) (n : ℕ) (r : prelude.Option ℕ) → r ≡ cond b (Some n) None → r ≡ None → b ≡ false
read_out true n r e told = absurd cc
read_out false n r e told = refl

-- the same of one of some numbers, which was read back from its bits
module _ (i least most : ℕ) (numbers : List ℤ) {r : prelude.Option ℕ} (h : SFits w64 (at numbers i)) (e : r ≡ read_within least most (to_z w64 (of_z w64 (at numbers i)))) where
  back : to_z w64 (of_z w64 (at numbers i)) ≡ at numbers i
  back = to_z-of_z w64 (at numbers i) h

  pub number_in : {n : ℕ} → r ≡ Some n → (ranged least most (at numbers i) ≡ true) × (n ≡ nat_abs (at numbers i))
  number_in {n} told =
      let q = read_in _ _ n r e told in
      (sym (ap (ranged least most) back) ∙ q.0, q.1 ∙ ap nat_abs back)

  pub number_out : r ≡ None → ranged least most (at numbers i) ≡ true → ⊥
  number_out told t = true≢false (sym t ∙ sym (ap (ranged least most) back) ∙ read_out _ _ r e told)

-- ---- seven numbers

-- of which each but the year is one that its field can have
pub record InRange (numbers : List ℤ) : Type 0 where
  pub month_in : ranged 1 12 (at numbers 1) ≡ true
  pub day_in_lem : ranged 0 31 (at numbers 2) ≡ true
  pub hour_in : ranged 0 23 (at numbers 3) ≡ true
  pub minute_in : ranged 0 59 (at numbers 4) ≡ true
  pub second_in : ranged 0 59 (at numbers 5) ≡ true
  pub fraction_in : ranged 0 999999999 (at numbers 6) ≡ true

-- numbers that are fields, one by one
pub record Each (numbers : List ℤ) : Type 0 where
  pub enough : FIELDS ≤ length numbers
  pub month_is : is_field (at numbers 1) ≡ true
  pub day_is : is_field (at numbers 2) ≡ true
  pub hour_is : is_field (at numbers 3) ≡ true
  pub minute_is : is_field (at numbers 4) ≡ true
  pub second_is : is_field (at numbers 5) ≡ true
  pub fraction_is : is_field (at numbers 6) ≡ true

months_most : (leap : Bool) → AtMost 31 (months leap)
months_most true = at_most_test 31 (months true) refl
months_most false = at_most_test 31 (months false) refl

days_most : (year : ℤ) (month : ℕ) → days_of_month year month ≤ 31
unfolding days_of_month
days_most year month = at_most_get_d 31 (months (is_leap year)) (month - 1) (months_most (is_leap year))

-- no numbers are no fields
no_numbers : (unit : TimeUnit) → encoding_of (some unit) [] ≡ no_date_time
unfolding are_fields
no_numbers unit = refl

module _ (numbers : List ℤ) where
  pub each : are_fields numbers ≡ true → Each numbers
  unfolding are_fields
  each e =
      let p0 = and_both (leb FIELDS (length numbers)) _ e in
      let p1 = and_both (is_field (at numbers 1)) _ p0.1 in
      let p2 = and_both (is_field (at numbers 2)) _ p1.1 in
      let p3 = and_both (is_field (at numbers 3)) _ p2.1 in
      let p4 = and_both (is_field (at numbers 4)) _ p3.1 in
      let p5 = and_both (is_field (at numbers 5)) (is_field (at numbers 6)) p4.1 in
      record {
        enough = leb-true FIELDS (length numbers) p0.0;
        month_is = p1.0;
        day_is = p2.0;
        hour_is = p3.0;
        minute_is = p4.0;
        second_is = p5.0;
        fraction_is = p5.1;
      }

  -- fields are at least seven numbers
  pub fields_enough : are_fields numbers ≡ true → 7 ≤ length numbers
  fields_enough e = (each e).enough

  -- numbers in range are fields
  pub ranged_are : FIELDS ≤ length numbers → InRange numbers → are_fields numbers ≡ true
  unfolding are_fields
  ranged_are h r =
      both_and _ _ (le-leb FIELDS (length numbers) h)
      (both_and _ _ (ranged_field 1 12 (at numbers 1) (omega arith) r.month_in)
      (both_and _ _ (ranged_field 0 31 (at numbers 2) (omega arith) r.day_in_lem)
      (both_and _ _ (ranged_field 0 23 (at numbers 3) (omega arith) r.hour_in)
      (both_and _ _ (ranged_field 0 59 (at numbers 4) (omega arith) r.minute_in)
      (both_and _ _ (ranged_field 0 59 (at numbers 5) (omega arith) r.second_in) (ranged_field 0 999999999 (at numbers 6) (omega arith) r.fraction_in))))))

  -- and fields that form a date and time are in range
  formed_in : (unit : TimeUnit) → are_fields numbers ≡ true → is_date_time (ticks_per_second_of unit) (fields_of numbers) ≡ true → InRange numbers
  unfolding fields_of
  formed_in unit are formed =
      let f = fields_of numbers in
      let t = ticks_per_second_of unit in
      let e = each are in
      let parts = date_time_parts t f formed in
      let date : Date f.year f.month f.day = date_parts f.year f.month f.day parts.0 in
      let time : Time t f.hour f.minute f.second f.fraction = time_parts t f.hour f.minute f.second f.fraction parts.1 in
      record {
        month_in = field_ranged 1 12 (at numbers 1) e.month_is date.month_first date.month_last;
        day_in_lem = field_ranged 0 31 (at numbers 2) e.day_is (omega arith) (omega (arith, date.day_last, days_most f.year f.month));
        hour_in = field_ranged 0 23 (at numbers 3) e.hour_is (omega arith) (omega (arith, time.hour_below));
        minute_in = field_ranged 0 59 (at numbers 4) e.minute_is (omega arith) (omega (arith, time.minute_below));
        second_in = field_ranged 0 59 (at numbers 5) e.second_is (omega arith) (omega (arith, time.second_below));
        fraction_in = field_ranged 0 999999999 (at numbers 6) e.fraction_is (omega arith) (omega (arith, time.fraction_below, ticks_most unit));
      }

  -- numbers that are no fields in range are encoded as no numbers are
  pub encoding_unformed : (are_fields numbers ≡ true → InRange numbers → ⊥) → (u : Option TimeUnit) → encoding_of u numbers ≡ encoding_of u []
  encoding_unformed h none = refl
  encoding_unformed h (some unit) = by_test (are_fields numbers) are (λ e. rw e (sym (no_numbers unit)))
    where
      unformed : are_fields numbers ≡ true → is_date_time (ticks_per_second_of unit) (fields_of numbers) ≡ false
      unformed e = by_test (is_date_time (ticks_per_second_of unit) (fields_of numbers)) (λ d. absurd (h e (formed_in unit e d))) (λ d. d)

      are : are_fields numbers ≡ true → encoding_of (some unit) numbers ≡ encoding_of (some unit) []
      are e = rw e (encoding_none (ticks_per_second_of unit) (fields_of numbers) (unformed e) ∙ sym (no_numbers unit))

  -- and encoding the fields of others is encoding the numbers
  pub encoding_fields : (f : Fields) (u : Option TimeUnit) → are_fields numbers ≡ true → f ≡ fields_of numbers → timestamp.encoding u f ≡ encoding_of u numbers
  encoding_fields f none e p = refl
  encoding_fields f (some unit) e p = rw e (ap (encoding_in (ticks_per_second_of unit)) p)

  -- what numbers are read as, where they are no fields in range
  pub read_none : {r : prelude.Option Fields} → r ≡ None → (are_fields numbers ≡ true → InRange numbers → ⊥) → (u : Option TimeUnit) → encoding_read u r ≡ encoding_of u numbers
  read_none e h u = ap (encoding_read u) e ∙ sym (encoding_unformed h u)

-- what is read of numbers are their fields
abbrev pub AreRead : List ℤ → prelude.Option Fields → Type 0
AreRead numbers r = IfSome r (λ f. (are_fields numbers ≡ true) × (f ≡ fields_of numbers))

-- of none nothing is told
pub none_read : (numbers : List ℤ) {r : prelude.Option Fields} → r ≡ None → AreRead numbers r
none_read numbers e = rw e tt

-- and of some both
pub some_read : (numbers : List ℤ) (f : Fields) → are_fields numbers ≡ true → f ≡ fields_of numbers
    → AreRead numbers (Some f) × ((u : Option TimeUnit) → encoding_read u (Some f) ≡ encoding_of u numbers)
some_read numbers f e p = ((e, p), λ u. encoding_fields numbers f u e p)

-- ---- no numbers

-- by whether a unit is named
pub unformed_known : (unit tick lent : ℕ) (b : Bool) → given b ≡ day_has (unit_of unit) tick → encoding unit [] lent ≡ within lent (encode_effect no_date_time)
unfolding encoding
unformed_known unit tick lent b = known (unit_of unit)
  where
    known : (u : Option TimeUnit) → given b ≡ day_has u tick → within lent (encode_effect (encoding_of u [])) ≡ within lent (encode_effect no_date_time)
    known none q = absurd (let z : ◌≡◌ {A = ℕ} 0 1 = cc in omega arith)
    known (some unit) q = rw (no_numbers unit)

pub unformed_unknown : (unit tick lent : ℕ) (r : Refusal) → refused r ≡ day_has (unit_of unit) tick → (encoding unit [] lent ≡ refused r) × (r ≡ unplaced UNKNOWN_TYPE)
unfolding encoding
unformed_unknown unit tick lent r = unknown (unit_of unit)
  where
    unknown : (u : Option TimeUnit) → refused r ≡ day_has u tick → (within lent (encode_effect (encoding_of u [])) ≡ refused r) × (r ≡ unplaced UNKNOWN_TYPE)
    unknown none q = let same : r ≡ unplaced UNKNOWN_TYPE = cc in (ap refused (sym same), same)
    unknown (some unit) q = absurd (let z : ◌≡◌ {A = ℕ} 0 1 = cc in omega arith)

-- and so is what numbers come to that are encoded as none are
pub unformed_encoding : (unit : ℕ) (numbers : List ℤ) (lent : ℕ) → encoding_of (unit_of unit) numbers ≡ encoding_of (unit_of unit) [] → encoding unit numbers lent ≡ encoding unit [] lent
unfolding encoding
unformed_encoding unit numbers lent e = ap (λ (o : Outcome ℤ). within lent (encode_effect o)) e

-- nothing is written of them
pub unformed_left : (unit lent : ℕ) (kept : List ℤ) → left (encoding unit [] lent) kept ≡ kept
unfolding encoding
unformed_left unit lent kept = of (unit_of unit)
  where
    of : (u : Option TimeUnit) → left (within lent (encode_effect (encoding_of u []))) kept ≡ kept
    of none = refl
    of (some unit) = rw (no_numbers unit)

-- ---- answers

-- a refusal to encode has no place
pub error_place : (e : EncodeError) → (refusal_of e).place ≡ 0
error_place error.NoDateTime = refl
error_place error.NotRepresentable = refl
error_place error.UnknownUnit = refl

-- what encoding comes to, of what `timestamp` answers
pub encoding_of_lem : (unit : ℕ) (numbers : List ℤ) (lent : ℕ) {r s : Result ℤ EncodeError} → encoded r ≡ encoding_of (unit_of unit) numbers → r ≡ s → encoding unit numbers lent ≡ within lent (encode_effect (encoded s))
unfolding encoding
encoding_of_lem unit numbers lent e told = ap (λ (o : Outcome ℤ). within lent (encode_effect o)) (sym e) ∙ ap (λ (x : Result ℤ EncodeError). within lent (encode_effect (encoded x))) told
