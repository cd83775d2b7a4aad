-- Laws of INT96 values: each count of 64 bits has one value, which is accepted and returns the count, and each refusal stands exactly where
-- document 02 has it.
use Prim.Native.Nat.{ℕ, ◌+◌, ◌*◌, ◌/◌, ◌%◌, ◌<◌, ◌≤◌, ◌^◌}
use native.Mathlib.Nat.{div-add-mod'}
use native.Mathlib.Omega.{arith}
use mathlib.Core.Path.{◌≡◌, refl, sym, ap, ap₂, subst, ◌∙◌}
use mathlib.Core.Bool.{Bool, true, false, cond}
use mathlib.Core.List.{List, ◌++◌}
use mathlib.Core.Logic.{◌↔◌}
use borrow.Author.Tests.{lt-ltb, le-ltb, eq-eqb, ne_eqb, eqb-true, eqb-false}
use lib.Dec.{eqb, ltb}
use lib.IntN.{ℤ, pos, nat_abs, ◌+ℤ◌, ◌-ℤ◌}
use lib.ListN.{length, take, drop, length-append, length-drop, take-append-drop}
use lib.Seq.{length-take-le, take_at, drop_at}
use lib.Signed.{mag}
use Rattle.laws.specs.Bytes.{Bytes, little, bytes_of}
use Rattle.laws.proofs.BoolLaws.{by_test}
use Rattle.laws.proofs.DifferenceLaws.{below?}
use Rattle.laws.proofs.ByteLaws.{bytes_append, bytes_take, bytes_drop, length_bytes_of, bytes_bytes_of, little_bytes_of, little_lt, bytes_of_little}
use Rattle.refusal.specs.Numbers.{WRONG_LENGTH, BREAKS_ANNOTATION, NOT_REPRESENTABLE}
use Rattle.refusal.specs.Outcome.{Outcome, given, refused, unplaced, short_output}
use Rattle.std.specs.Prelude.{Ok, Err}
use Rattle.refusal.specs.declared.answers.Refusal.{Refusal}
use Rattle.timestamp.specs.Outcomes.{is_signed64, counting}
use Rattle.timestamp.specs.FloorDivision.{FloorDivision}
use Rattle.timestamp.specs.declared.division.Division.{Division}
use Rattle.timestamp.proofs.CalendarLaws.{difference_most}
use Rattle.timestamp.proofs.DivisionLaws.{quotient_is, rest_is}
use Rattle.timestamp.proofs.FloorLaws.{division_reach}
use Rattle.timestamp.proofs.RefusalLaws.{other}
use Rattle.int96.specs.Value.{NANOS_BYTES, DAY_BYTES, VALUE_BYTES, DAY_OF_1970, NANOS_PER_DAY, nanos_in, day_in, count_of, ValueOf, since_day0, value_of}
use Rattle.int96.specs.Outcomes.{decoding, encoding, encoded}
use Rattle.int96.proofs.DayZeroLaws.{day_back, since_joined, since_one, since_is, signed_near}

-- ---- the parts of a value

-- the nanoseconds and the day in their bytes
abbrev in_bytes : ℕ → ℕ → List ℕ
in_bytes nanos day = bytes_of NANOS_BYTES nanos ++ bytes_of DAY_BYTES day

nanos_in_lem : (nanos day : ℕ) → nanos < 256 ^ NANOS_BYTES → nanos_in (in_bytes nanos day) ≡ nanos
unfolding nanos_in
nanos_in_lem nanos day h =
    ap little (take_at (bytes_of NANOS_BYTES nanos) (bytes_of DAY_BYTES day) NANOS_BYTES (length_bytes_of NANOS_BYTES nanos)) ∙ little_bytes_of NANOS_BYTES nanos h

day_in_lem : (nanos day : ℕ) → day < 256 ^ DAY_BYTES → day_in (in_bytes nanos day) ≡ day
unfolding day_in
day_in_lem nanos day h =
    ap little (drop_at (bytes_of NANOS_BYTES nanos) (bytes_of DAY_BYTES day) NANOS_BYTES (length_bytes_of NANOS_BYTES nanos)) ∙ little_bytes_of DAY_BYTES day h

-- the bytes of a value are those of its parts
in_bytes_lem : (v : List ℕ) → Bytes v → length v ≡ VALUE_BYTES → in_bytes (nanos_in v) (day_in v) ≡ v
unfolding nanos_in day_in
in_bytes_lem v all long =
    ap₂ ◌++◌
    (back (take NANOS_BYTES v) NANOS_BYTES (length-take-le NANOS_BYTES v (omega arith)) (bytes_take NANOS_BYTES v all))
    (back (drop NANOS_BYTES v) DAY_BYTES (length-drop NANOS_BYTES v ∙ omega arith) (bytes_drop NANOS_BYTES v all))
    ∙ take-append-drop NANOS_BYTES v
  where
    back : (bs : List ℕ) (n : ℕ) → length bs ≡ n → Bytes bs → bytes_of n (little bs) ≡ bs
    back bs n e b = ap (λ (k : ℕ). bytes_of k (little bs)) (sym e) ∙ bytes_of_little bs b

-- its day has four bytes
pub day_small : (v : List ℕ) → Bytes v → length v ≡ VALUE_BYTES → day_in v < 256 ^ DAY_BYTES
unfolding day_in
day_small v all long =
    let four : length (drop NANOS_BYTES v) ≡ DAY_BYTES = length-drop NANOS_BYTES v ∙ omega arith in
    subst (λ (n : ℕ). day_in v < 256 ^ n) four (little_lt (drop NANOS_BYTES v) (bytes_drop NANOS_BYTES v all))

-- so the days from 1 January 1970 to it have 64 bits
pub days_fit : (v : List ℕ) → Bytes v → length v ≡ VALUE_BYTES → mag (pos (day_in v) -ℤ pos DAY_OF_1970) < 2 ^ 63
days_fit v all long = difference_most (day_in v) DAY_OF_1970 (2 ^ 63) (omega (arith, day_small v all long)) (omega arith)

-- the value of a count is twelve bytes
pub length_value : (z : ℤ) → length (value_of z) ≡ VALUE_BYTES
unfolding value_of
length_value z = simp (length-append, length_bytes_of)

bytes_value : (z : ℤ) → Bytes (value_of z)
unfolding value_of
bytes_value z = bytes_append (bytes_of NANOS_BYTES (since_day0 z % NANOS_PER_DAY)) (bytes_of DAY_BYTES (since_day0 z / NANOS_PER_DAY)) (bytes_bytes_of _ _) (bytes_bytes_of _ _)

-- from day 0 on, the count of a value is its days and its nanoseconds
since_count : (v : List ℕ) → count_of v +ℤ pos (DAY_OF_1970 * NANOS_PER_DAY) ≡ pos (day_in v * NANOS_PER_DAY + nanos_in v)
unfolding count_of
since_count v = since_joined DAY_OF_1970 NANOS_PER_DAY (pos (day_in v) -ℤ pos DAY_OF_1970) (day_in v) (nanos_in v) (day_back (day_in v) DAY_OF_1970)

-- ---- counts and values

module _ (z : ℤ) (signed : is_signed64 z ≡ true) where
  near : mag z < 2 ^ 63
  near = signed_near z signed

  since : (z +ℤ pos (DAY_OF_1970 * NANOS_PER_DAY) ≡ pos (since_day0 z)) × (since_day0 z ≤ DAY_OF_1970 * NANOS_PER_DAY + mag z)
  unfolding since_day0
  since = since_is (DAY_OF_1970 * NANOS_PER_DAY) z (omega (arith, near))

  nanos_is : nanos_in (value_of z) ≡ since_day0 z % NANOS_PER_DAY
  unfolding value_of
  nanos_is = nanos_in_lem (since_day0 z % NANOS_PER_DAY) (since_day0 z / NANOS_PER_DAY) (omega arith)

  day_is : day_in (value_of z) ≡ since_day0 z / NANOS_PER_DAY
  unfolding value_of
  day_is = day_in_lem (since_day0 z % NANOS_PER_DAY) (since_day0 z / NANOS_PER_DAY) (omega (arith, near, since.1))

  -- every count has a value
  pub value_of_lem : ValueOf z (value_of z)
  value_of_lem =
      record {
        bytes = bytes_value z;
        long = length_value z;
        in_day_lem = subst (λ (n : ℕ). n < NANOS_PER_DAY) (sym nanos_is) (omega arith);
        counted = since_one (count_of (value_of z)) z (DAY_OF_1970 * NANOS_PER_DAY) (since_count (value_of z) ∙ ap pos whole ∙ sym since.0);
      }
    where
      whole : day_in (value_of z) * NANOS_PER_DAY + nanos_in (value_of z) ≡ since_day0 z
      whole = ap₂ (λ (d n : ℕ). d * NANOS_PER_DAY + n) day_is nanos_is ∙ div-add-mod' (since_day0 z) NANOS_PER_DAY

-- and only this one
pub value_one : (z : ℤ) (v : List ℕ) → ValueOf z v → v ≡ value_of z
unfolding since_day0 value_of
value_one z v p =
    sym (in_bytes_lem v p.bytes p.long)
    ∙ ap₂ in_bytes
    (sym (rest_is _ NANOS_PER_DAY (day_in v) (nanos_in v) whole p.in_day_lem))
    (sym (quotient_is _ NANOS_PER_DAY (day_in v) (nanos_in v) whole p.in_day_lem))
  where
    whole : since_day0 z ≡ day_in v * NANOS_PER_DAY + nanos_in v
    whole = ap nat_abs (ap (λ (w : ℤ). w +ℤ pos (DAY_OF_1970 * NANOS_PER_DAY)) (sym p.counted) ∙ since_count v)

-- a count that is divided into days and a rest has these in its value
module _ (z : ℤ) (d : Division) (near : mag z < 2 ^ 63) (p : FloorDivision z NANOS_PER_DAY d) where
  day_near : mag d.day < DAY_OF_1970
  day_near = omega (arith, near, division_reach p)

  day : (d.day +ℤ pos DAY_OF_1970 ≡ pos (nat_abs (d.day +ℤ pos DAY_OF_1970))) × (nat_abs (d.day +ℤ pos DAY_OF_1970) ≤ DAY_OF_1970 + mag d.day)
  day = since_is DAY_OF_1970 d.day day_near

  whole : since_day0 z ≡ nat_abs (d.day +ℤ pos DAY_OF_1970) * NANOS_PER_DAY + d.rest
  unfolding since_day0
  whole =
      ap (λ (w : ℤ). nat_abs (w +ℤ pos (DAY_OF_1970 * NANOS_PER_DAY))) p.exact
      ∙ ap nat_abs (since_joined DAY_OF_1970 NANOS_PER_DAY d.day (nat_abs (d.day +ℤ pos DAY_OF_1970)) d.rest day.0)

  -- the Julian day is that of 1 January 1970 and the days from there
  pub divided_day : d.day +ℤ pos DAY_OF_1970 ≡ pos (since_day0 z / NANOS_PER_DAY)
  divided_day = day.0 ∙ ap pos (sym (quotient_is (since_day0 z) NANOS_PER_DAY _ d.rest whole p.below))

  -- it has 64 bits
  pub divided_small : since_day0 z / NANOS_PER_DAY < 2 ^ 63
  divided_small = omega (arith, quotient_is (since_day0 z) NANOS_PER_DAY _ d.rest whole p.below, day.1, day_near)

  -- and the nanoseconds are the rest
  pub divided_rest : d.rest ≡ since_day0 z % NANOS_PER_DAY
  divided_rest = sym (rest_is (since_day0 z) NANOS_PER_DAY _ d.rest whole p.below)

-- ---- what decoding answers

module _ (v : List ℕ) where
  abbrev by_length : Bool → Outcome ℤ
  by_length b =
      cond b (cond (ltb (nanos_in v) NANOS_PER_DAY) (counting (count_of v)) (refused (unplaced BREAKS_ANNOTATION))) (refused (unplaced WRONG_LENGTH))

  abbrev by_nanos : Bool → Outcome ℤ
  by_nanos b = cond b (counting (count_of v)) (refused (unplaced BREAKS_ANNOTATION))

  abbrev by_count : Bool → Outcome ℤ
  by_count b = cond b (given (count_of v)) (refused (unplaced NOT_REPRESENTABLE))

  -- another length than twelve is 15
  pub decoding_15 : (length v ≡ VALUE_BYTES → ⊥) → decoding v ≡ refused (unplaced WRONG_LENGTH)
  unfolding decoding
  decoding_15 h = ap by_length (ne_eqb (length v) VALUE_BYTES h)

  module _ (long : length v ≡ VALUE_BYTES) where
    -- a full day of nanoseconds or more is 16
    pub decoding_16 : NANOS_PER_DAY ≤ nanos_in v → decoding v ≡ refused (unplaced BREAKS_ANNOTATION)
    unfolding decoding
    decoding_16 h = ap by_length (eq-eqb (length v) VALUE_BYTES long) ∙ ap by_nanos (le-ltb (nanos_in v) NANOS_PER_DAY h)

    -- where the nanoseconds are of a day, the count decides
    pub decoding_counted : nanos_in v < NANOS_PER_DAY → decoding v ≡ counting (count_of v)
    unfolding decoding
    decoding_counted h = ap by_length (eq-eqb (length v) VALUE_BYTES long) ∙ ap by_nanos (lt-ltb (nanos_in v) NANOS_PER_DAY h)

    -- a count that is no signed 64-bit number is 19
    pub decoding_19 : nanos_in v < NANOS_PER_DAY → is_signed64 (count_of v) ≡ false → decoding v ≡ refused (unplaced NOT_REPRESENTABLE)
    decoding_19 h e = decoding_counted h ∙ ap by_count e

    -- and any other is given
    pub decoding_given : nanos_in v < NANOS_PER_DAY → is_signed64 (count_of v) ≡ true → decoding v ≡ given (count_of v)
    decoding_given h e = decoding_counted h ∙ ap by_count e

  -- four answers, each with what it takes
  by_answer : {X : Type 0} → ((length v ≡ VALUE_BYTES → ⊥) → decoding v ≡ refused (unplaced WRONG_LENGTH) → X)
      → (length v ≡ VALUE_BYTES → NANOS_PER_DAY ≤ nanos_in v → decoding v ≡ refused (unplaced BREAKS_ANNOTATION) → X)
      → (length v ≡ VALUE_BYTES → nanos_in v < NANOS_PER_DAY → is_signed64 (count_of v) ≡ false → decoding v ≡ refused (unplaced NOT_REPRESENTABLE) → X)
      → (length v ≡ VALUE_BYTES → nanos_in v < NANOS_PER_DAY → is_signed64 (count_of v) ≡ true → decoding v ≡ given (count_of v) → X) → X
  by_answer on-15 on-16 on-19 on-count =
      by_test (eqb (length v) VALUE_BYTES)
      (λ e. let long = eqb-true (length v) VALUE_BYTES e in
      below? (nanos_in v) NANOS_PER_DAY
      (λ h. by_test (is_signed64 (count_of v)) (λ s. on-count long h s (decoding_given long h s)) (λ s. on-19 long h s (decoding_19 long h s)))
      (λ h. on-16 long h (decoding_16 long h)))
      (λ e. let short = eqb-false (length v) VALUE_BYTES e in on-15 short (decoding_15 short))

  -- 15 exactly where there are not twelve bytes
  pub wrong_length_lem : (decoding v ≡ refused (unplaced WRONG_LENGTH)) ↔ (length v ≡ VALUE_BYTES → ⊥)
  wrong_length_lem = (
    λ e. by_answer
        (λ short a. short)
        (λ long h a. other _ _ a e (λ n. omega arith))
        (λ long h s a. other _ _ a e (λ n. omega arith))
        (λ long h s a. other _ _ a e (λ n. omega arith)),
    decoding_15,
  )

  -- 16 exactly where there are, and the nanoseconds are a full day or more
  pub beyond_day : (decoding v ≡ refused (unplaced BREAKS_ANNOTATION)) ↔ ((length v ≡ VALUE_BYTES) × (NANOS_PER_DAY ≤ nanos_in v))
  beyond_day = (
    λ e. by_answer
        (λ short a. other _ _ a e (λ n. omega arith))
        (λ long h a. (long, h))
        (λ long h s a. other _ _ a e (λ n. omega arith))
        (λ long h s a. other _ _ a e (λ n. omega arith)),
    λ p. decoding_16 p.0 p.1,
  )

  -- 19 exactly where they are less, and no signed 64-bit number is the count
  pub not_fitting : (decoding v ≡ refused (unplaced NOT_REPRESENTABLE)) ↔ ((length v ≡ VALUE_BYTES) × (nanos_in v < NANOS_PER_DAY) × (is_signed64 (count_of v) ≡ false))
  not_fitting = (
    λ e. by_answer
        (λ short a. other _ _ a e (λ n. omega arith))
        (λ long h a. other _ _ a e (λ n. omega arith))
        (λ long h s a. (long, h, s))
        (λ long h s a. other _ _ a e (λ n. omega arith)),
    λ p. decoding_19 p.0 p.1 p.2,
  )

  -- and else the count is given
  pub accepted : (z : ℤ) → (decoding v ≡ given z) ↔ ((length v ≡ VALUE_BYTES) × (nanos_in v < NANOS_PER_DAY) × (count_of v ≡ z) × (is_signed64 z ≡ true))
  accepted z = (
    λ e. by_answer
        (λ short a. refused_given a e)
        (λ long h a. refused_given a e)
        (λ long h s a. refused_given a e)
        (λ long h s a. let same : count_of v ≡ z = given_inj (sym a ∙ e) in (long, h, same, ap is_signed64 (sym same) ∙ s)),
    λ p. decoding_given p.0 p.1 (ap is_signed64 p.2 ∙ p.3) ∙ ap given p.2,
  )
    where
      given_inj : {w : ℤ} → given w ≡ given z → w ≡ z
      given_inj e = cc

      refused_given : {X : Type 0} {r : Refusal} → decoding v ≡ refused r → decoding v ≡ given z → X
      refused_given p q = let n : ◌≡◌ {A = ℕ} 0 1 = cc in absurd (omega arith)

-- ---- both ways

-- each count returns to itself
pub count_returns : (z : ℤ) → is_signed64 z ≡ true → decoding (value_of z) ≡ given z
count_returns z signed = let p = value_of_lem z signed in (accepted (value_of z) z).1 (p.long, p.in_day_lem, p.counted, signed)

-- and so does each value that is accepted
pub value_returns : (v : List ℕ) (z : ℤ) → Bytes v → decoding v ≡ given z → (value_of z ≡ v) × (is_signed64 z ≡ true)
value_returns v z all e =
    let p = (accepted v z).0 e in
    (sym (value_one z v (record { bytes = all; long = p.0; in_day_lem = p.1; counted = p.2 })), p.3)

-- ---- what encoding leaves

-- a refusal leaves the output as it was
pub refused_unchanged : (z : ℤ) (lent : List ℕ) (r : Refusal) → encoding (length lent) ≡ Err r → encoded z lent ≡ lent
unfolding encoding encoded
refused_unchanged z lent r = by_room (ltb (length lent) VALUE_BYTES) refl
  where
    by_room : (b : Bool) → ltb (length lent) VALUE_BYTES ≡ b → cond b (Err short_output) (Ok VALUE_BYTES) ≡ Err r
        → cond b lent (value_of z ++ drop VALUE_BYTES lent) ≡ lent
    by_room true e p = refl
    by_room false e p = let n : ◌≡◌ {A = ℕ} 0 1 = cc in absurd (omega arith)

-- and what stands behind a value stays
pub behind_unchanged : (z : ℤ) (lent : List ℕ) → drop VALUE_BYTES (encoded z lent) ≡ drop VALUE_BYTES lent
unfolding encoded
behind_unchanged z lent = by_room (ltb (length lent) VALUE_BYTES)
  where
    by_room : (b : Bool) → drop VALUE_BYTES (cond b lent (value_of z ++ drop VALUE_BYTES lent)) ≡ drop VALUE_BYTES lent
    by_room true = refl
    by_room false = drop_at (value_of z) (drop VALUE_BYTES lent) VALUE_BYTES (length_value z)
