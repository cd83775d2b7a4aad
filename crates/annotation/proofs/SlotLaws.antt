-- What a packed annotation tells of its slot: its kind, what is written for it, and the first rule that it breaks.
-- Assumes nothing.
use Prim.Native.Nat.{ℕ, ◌+◌, ◌^◌, ◌≤◌, ◌<◌}
use mathlib.Core.Path.{◌≡◌, refl, sym, ap, ◌∙◌}
use mathlib.Core.Bool.{Bool, true, false, not, cond, ◌&&◌}
use native.Mathlib.Omega.{arith}
use lib.Dec.{eqb}
use borrow.Author.Tests.{eqb-true, eq-eqb, ne_eqb, le-leb, lt-leb}
use Rattle.std.specs.Prelude.{None, Result, Ok, Err}
use Rattle.std.specs.Result.{result_err}
use Rattle.edition.specs.Editions.{int96_retired, has_geospatial}
use Rattle.parquet.specs.Physical as physical
use Rattle.parquet.specs.Converted as converted
use Rattle.parquet.specs.Logical as logical
use Rattle.logical_type.specs.Parameters.{UNUSED, valid_parameters}
use Rattle.logical_type.specs.Backward.{backward_of}
use Rattle.annotation.specs.Signed.{natural}
use Rattle.annotation.specs.Meaning.{annotation_of}
use Rattle.annotation.specs.Rule9.{rule9}
use Rattle.annotation.specs.Rule10.{INTERVAL_LENGTH, is_fixed, decimal_on, logical_on, annotation_on, is_placed, is_retired, is_early, rule10}
use Rattle.annotation.specs.Rule11.{decimal_holds, digits_allowed, rule11}
use Rattle.annotation.specs.Kinds.{plain_kind, decimal_kind, kind_as, kind_of}
use Rattle.annotation.specs.Outcome.{refusal_number, resolution_of}
use Rattle.annotation.specs.Rewriting.{written_as, written_of}
use Rattle.annotation.specs.Packed.{ANY_PHYSICAL, NO_PHYSICAL, OWN_RULE, DISAGREEMENT_MARK, demand_of, packed_of, demand_part}
use Rattle.annotation.specs.Steps.{is_plain, marked, reading_of, geospatial_on, own_on, own_check, check_by, plain_check, stands_by, lone_kind, kind_by, written_by}
use Rattle.logical_type.specs.declared.types.TimeUnit.{TimeUnit}
use Rattle.logical_type.specs.declared.types.BitWidth.{BitWidth}
use Rattle.logical_type.specs.declared.types.LogicalType.{LogicalType}
use Rattle.logical_type.specs.declared.types.Annotation.{Annotation}
use Rattle.annotation.specs.declared.slot.Annotated.{Annotated}
use Rattle.annotation.specs.declared.resolution.Kind.{Kind}
use Rattle.annotation.specs.declared.rules.Broken.{Broken}
use Rattle.laws.proofs.BoolLaws.{and_both, and_left, by_test}
use Rattle.annotation.proofs.PackedLaws.{bytes, demand, packed_bound, not_int96}
use Rattle.annotation.proofs.OutcomeLaws.{resolved_of_refusal}
use Rattle.annotation.proofs.PlacementLaws.{code_stands}

kind_by_lem : (agree : Bool) (says : Annotation) (n : Annotated) → kind_by (marked agree (packed_of says)) n ≡ kind_as says n
unfolding kind_by
kind_by_lem agree says n =
    let of = bytes agree says in
    rw (of.converted, of.logical, of.a, of.b) (cases says)
  where
    cases : (says : Annotation)
        → cond (eqb (written_as says).logical logical.NONE) (lone_kind (written_as says).converted n.physical)
        (cond (eqb (written_as says).logical logical.DECIMAL) (decimal_kind n)
        (record { kind = (written_as says).logical; p1 = (written_as says).a; p2 = (written_as says).b }))
        ≡ kind_as says n
    cases Annotation.Plain = refl
    cases (Annotation.Logical l) = rw (code_stands l).0
    cases Annotation.Interval = refl
    cases Annotation.Unreadable = refl

-- the kind of a slot by its packed annotation
reading_kind : (n : Annotated) (under_map_of : Bool) → kind_by (reading_of n under_map_of) n ≡ kind_of n under_map_of
unfolding reading_of kind_of
reading_kind n under_map_of = kind_by_lem (rule9 n) (annotation_of n under_map_of) n

written_by_lem : (agree : Bool) (says : Annotation) → written_by (marked agree (packed_of says)) ≡ written_as says
written_by_lem agree says =
    let of = bytes agree says in
    rw (of.converted, of.logical, of.a, of.b)

-- what is written for a slot by its packed annotation
reading_written : (n : Annotated) (under_map_of : Bool) → written_by (reading_of n under_map_of) ≡ written_of n under_map_of
unfolding reading_of written_of
reading_written n under_map_of = written_by_lem (rule9 n) (annotation_of n under_map_of)

-- the outcome of the numbers of a slot by whether its annotations agree, whether its physical type is retired, and what the annotations say
resolution_as : ℕ → Bool → Bool → Annotation → Annotated → Result Kind Broken
resolution_as edition agree retired says n =
    cond agree
    (cond (not retired && (not (is_early edition says) && annotation_on says n.physical (natural n.type_length)))
    (cond (digits_allowed edition says n) (Ok (kind_as says n)) (Err Broken.BadDecimal))
    (Err Broken.Misplaced))
    (Err Broken.Disagreement)

-- a resolution without its kind: whether the rules are kept, or the first that is broken
abbrev pub kept_of : Result Kind Broken → Result (Unit {0}) Broken
kept_of (Ok kind) = Ok tt
kept_of (Err broken) = Err broken

-- the rules by their truth values

by_ten : (ten : Bool) (k : Kind) → cond ten (Ok tt) (Err Broken.Misplaced) ≡ kept_of (cond ten (Ok k) (Err Broken.Misplaced))
by_ten true k = refl
by_ten false k = refl

by_ten_eleven : (ten eleven : Bool) (k : Kind)
    → cond ten (cond eleven (Ok tt) (Err Broken.BadDecimal)) (Err Broken.Misplaced)
    ≡ kept_of (cond ten (cond eleven (Ok k) (Err Broken.BadDecimal)) (Err Broken.Misplaced))
by_ten_eleven true true k = refl
by_ten_eleven true false k = refl
by_ten_eleven false eleven k = refl

by_geospatial : (on has : Bool) (k : Kind)
    → cond (on && has) (Ok tt) (Err Broken.Misplaced) ≡ kept_of (cond (not (not has) && on) (Ok k) (Err Broken.Misplaced))
by_geospatial true true k = refl
by_geospatial true false k = refl
by_geospatial false true k = refl
by_geospatial false false k = refl

-- rules 10 and 11 of a physical type that is not retired, by what an annotation demands and the logical type that is written for it
placed_by : ℕ → Annotation → Annotated → Result (Unit {0}) Broken
placed_by edition says n =
    cond (eqb n.physical (demand_of says)) (Ok tt)
    (cond (eqb (demand_of says) ANY_PHYSICAL) (Ok tt)
    (cond (eqb (demand_of says) OWN_RULE) (own_check edition (written_as says).logical n) (Err Broken.Misplaced)))

module _ (edition : ℕ) (n : Annotated) (byte : n.physical < 2 ^ 8) where
  -- an annotation keeps rules 10 and 11 as its demand says; a demand that is no physical type is above a byte

  apart : (above : ℕ) → 2 ^ 8 ≤ above → eqb n.physical above ≡ false
  apart above h = ne_eqb n.physical above (λ (e : n.physical ≡ above). omega arith)

  kept : (l : LogicalType)
      → let on = logical_on l n.physical (natural n.type_length) in
      cond on (Ok tt) (Err Broken.Misplaced) ≡ kept_of (cond on (Ok (kind_as (Annotation.Logical l) n)) (Err Broken.Misplaced))
  kept l = by_ten (logical_on l n.physical (natural n.type_length)) (kind_as (Annotation.Logical l) n)

  logical_placed : (l : LogicalType) → placed_by edition (Annotation.Logical l) n ≡ kept_of (resolution_as edition true false (Annotation.Logical l) n)
  unfolding placed_by resolution_as own_check own_on geospatial_on decimal_holds
  logical_placed LogicalType.String = kept LogicalType.String
  logical_placed LogicalType.Map = kept LogicalType.Map
  logical_placed LogicalType.List = kept LogicalType.List
  logical_placed LogicalType.Enum = kept LogicalType.Enum
  logical_placed LogicalType.Decimal =
      rw (apart OWN_RULE (omega arith)) (by_ten_eleven (decimal_on n.physical) (decimal_holds edition n) (decimal_kind n))
  logical_placed LogicalType.Date = kept LogicalType.Date
  logical_placed (LogicalType.Time TimeUnit.Millis utc) = kept (LogicalType.Time TimeUnit.Millis utc)
  logical_placed (LogicalType.Time TimeUnit.Micros utc) = kept (LogicalType.Time TimeUnit.Micros utc)
  logical_placed (LogicalType.Time TimeUnit.Nanos utc) = kept (LogicalType.Time TimeUnit.Nanos utc)
  logical_placed (LogicalType.Timestamp unit utc) = kept (LogicalType.Timestamp unit utc)
  logical_placed (LogicalType.Integer BitWidth.Bits8 signed) = kept (LogicalType.Integer BitWidth.Bits8 signed)
  logical_placed (LogicalType.Integer BitWidth.Bits16 signed) = kept (LogicalType.Integer BitWidth.Bits16 signed)
  logical_placed (LogicalType.Integer BitWidth.Bits32 signed) = kept (LogicalType.Integer BitWidth.Bits32 signed)
  logical_placed (LogicalType.Integer BitWidth.Bits64 signed) = kept (LogicalType.Integer BitWidth.Bits64 signed)
  logical_placed LogicalType.Unknown = rw (apart OWN_RULE (omega arith)) (kept LogicalType.Unknown)
  logical_placed LogicalType.Json = kept LogicalType.Json
  logical_placed LogicalType.Bson = kept LogicalType.Bson
  logical_placed LogicalType.Uuid = rw (apart OWN_RULE (omega arith)) (kept LogicalType.Uuid)
  logical_placed LogicalType.Geometry =
      rw (apart OWN_RULE (omega arith)) (by_geospatial (eqb n.physical physical.BYTE_ARRAY) (has_geospatial edition) (kind_as (Annotation.Logical LogicalType.Geometry) n))
  logical_placed (LogicalType.Geography edge) =
      rw (apart OWN_RULE (omega arith)) (by_geospatial (eqb n.physical physical.BYTE_ARRAY) (has_geospatial edition) (kind_as (Annotation.Logical (LogicalType.Geography edge)) n))

  placed : (says : Annotation) → placed_by edition says n ≡ kept_of (resolution_as edition true false says n)
  unfolding placed_by resolution_as own_check own_on
  placed Annotation.Plain = either (eqb n.physical ANY_PHYSICAL)
    where
      either : (same : Bool) → ◌≡◌ {A = Result (Unit {0}) Broken} (cond same (Ok tt) (Ok tt)) (Ok tt)
      either true = refl
      either false = refl
  placed (Annotation.Logical l) = logical_placed l
  placed Annotation.Interval =
      rw (apart OWN_RULE (omega arith)) (by_ten (is_fixed INTERVAL_LENGTH n.physical (natural n.type_length)) (kind_as Annotation.Interval n))
  placed Annotation.Unreadable = rw (apart NO_PHYSICAL (omega arith))

  -- no annotation demands a physical type that is retired
  not_demanded : (says : Annotation) → is_retired edition n.physical ≡ true → eqb n.physical (demand_of says) ≡ false
  unfolding is_retired
  not_demanded says r =
      let int96 : n.physical ≡ physical.INT96 = eqb-true n.physical physical.INT96 (and_left (eqb n.physical physical.INT96) (int96_retired edition) r) in
      rw int96 (not_int96 says)

  check_by_lem : (agree : Bool) (says : Annotation)
      → check_by edition (marked agree (packed_of says)) n ≡ kept_of (resolution_as edition agree (is_retired edition n.physical) says n)
  unfolding check_by resolution_as placed_by
  check_by_lem false says = rw (le-leb DISAGREEMENT_MARK (packed_of says + DISAGREEMENT_MARK) (omega arith))
  check_by_lem true says =
      rw (lt-leb DISAGREEMENT_MARK (packed_of says) (packed_bound says), demand says, (bytes true says).logical)
      (by_test (is_retired edition n.physical) (λ r. rw (r, not_demanded says r)) (λ r. rw r (placed says)))

  -- the first rule that a slot breaks by its packed annotation
  reading_check : (under_map_of : Bool) → check_by edition (reading_of n under_map_of) n ≡ kept_of (resolution_of edition n under_map_of)
  unfolding reading_of resolution_of resolution_as is_placed rule10 rule11 kind_of
  reading_check under_map_of = check_by_lem (rule9 n) (annotation_of n under_map_of)

-- where a packed annotation tells at once that no rule is broken, none is
stands_kept : (edition packed : ℕ) (n : Annotated) → n.physical < 2 ^ 8 → stands_by packed n.physical ≡ true → Ok tt ≡ check_by edition packed n
unfolding check_by
stands_kept edition packed n byte e =
    rw (e, lt-leb DISAGREEMENT_MARK packed (let z = eqb-true n.physical (demand_part packed) e in omega arith))

-- a resolution by whether the rules are kept
kept_err : (r : Result Kind Broken) → result_err r ≡ result_err (kept_of r)
kept_err (Ok k) = refl
kept_err (Err broken) = refl

broken_kept : (r : Result Kind Broken) (broken : Broken) → Err broken ≡ kept_of r → r ≡ Err broken
broken_kept (Ok k) broken e = (cc)
broken_kept (Err other) broken e = (cc)

-- what the packed annotation that was read of a slot tells of it
module _ (n : Annotated) (under_map_of : Bool) (packed : ℕ) (read : packed ≡ reading_of n under_map_of) where
  pub kind_read : kind_by packed n ≡ kind_of n under_map_of
  kind_read = rw read (reading_kind n under_map_of)

  pub written_read : written_by packed ≡ written_of n under_map_of
  written_read = rw read (reading_written n under_map_of)

  check_read : (edition : ℕ) → n.physical < 2 ^ 8 → check_by edition packed n ≡ kept_of (resolution_of edition n under_map_of)
  check_read edition byte = rw read (reading_check edition n byte under_map_of)

  -- the rule that it breaks
  pub refusal_read : (edition : ℕ) → n.physical < 2 ^ 8 → result_err (check_by edition packed n) ≡ result_err (resolution_of edition n under_map_of)
  refusal_read edition byte = ap result_err (check_read edition byte) ∙ sym (kept_err (resolution_of edition n under_map_of))

  pub broken_read : (edition : ℕ) (broken : Broken) → n.physical < 2 ^ 8 → Err broken ≡ check_by edition packed n → resolution_of edition n under_map_of ≡ Err broken
  broken_read edition broken byte e = broken_kept _ broken (e ∙ check_read edition byte)

  -- or that it resolves
  pub resolved_read : (edition : ℕ) → n.physical < 2 ^ 8 → Ok tt ≡ check_by edition packed n → resolution_of edition n under_map_of ≡ Ok (kind_of n under_map_of)
  resolved_read edition byte e =
      resolved_of_refusal edition n under_map_of (ap refusal_number (ap result_err e ∙ refusal_read edition byte))

  -- no rule is broken where it tells so at once
  pub kept_read : (edition : ℕ) → n.physical < 2 ^ 8 → stands_by packed n.physical ≡ true → None ≡ result_err (resolution_of edition n under_map_of)
  kept_read edition byte e = ap result_err (stands_kept edition packed n byte e) ∙ refusal_read edition byte

-- a slot without annotation and parameters
module _ (n : Annotated) (under_map_of : Bool) (plain : is_plain n ≡ true) where
  -- none of its four numbers says anything
  each : (n.converted ≡ converted.NONE) × (n.logical ≡ logical.NONE) × (n.a ≡ UNUSED) × (n.b ≡ UNUSED)
  unfolding is_plain
  each =
      let b = and_both (eqb n.converted converted.NONE && eqb n.logical logical.NONE && eqb n.a UNUSED) (eqb n.b UNUSED) plain in
      let a = and_both (eqb n.converted converted.NONE && eqb n.logical logical.NONE) (eqb n.a UNUSED) b.0 in
      let front = and_both (eqb n.converted converted.NONE) (eqb n.logical logical.NONE) a.0 in
      (eqb-true _ _ front.0, eqb-true _ _ front.1, eqb-true _ _ a.1, eqb-true _ _ b.1)

  -- so they say no annotation
  says_plain : annotation_of n under_map_of ≡ Annotation.Plain
  unfolding annotation_of valid_parameters backward_of
  says_plain = rw (each.0, each.1, each.2, each.3)

  -- no rule is broken but by a physical type that is retired, no logical type is written, and the kind is the plain one
  pub plain_check_err : (edition : ℕ) → result_err (plain_check edition n.physical) ≡ result_err (resolution_of edition n under_map_of)
  unfolding resolution_of rule9 is_placed rule10 rule11
  plain_check_err edition =
      rw (says_plain, eq-eqb n.converted converted.NONE each.0) (by_test (is_retired edition n.physical) (λ r. rw r) (λ r. rw r))

  pub plain_logical : logical.NONE ≡ (written_of n under_map_of).logical
  unfolding written_of
  plain_logical = sym (rw says_plain)

  pub plain_kind_lem : plain_kind n.physical ≡ kind_of n under_map_of
  unfolding kind_of
  plain_kind_lem = sym (rw says_plain)
