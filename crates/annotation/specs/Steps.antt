-- What the steps of resolving a slot answer, which the contracts of private functions cite. Nothing here is a promise to a caller.
use Rattle.std.specs.Prelude.{ℕ, ◌+◌, Bool, true, false, not, cond, ◌&&◌, eqb, leb, pos, Result, Ok, Err}
use Rattle.edition.specs.Editions.{has_geospatial}
use Rattle.parquet.specs.Physical as physical
use Rattle.parquet.specs.Converted as converted
use Rattle.parquet.specs.Logical as logical
use Rattle.logical_type.specs.Parameters.{UNUSED}
use Rattle.annotation.specs.Signed.{natural}
use Rattle.annotation.specs.Meaning.{annotation_of}
use Rattle.annotation.specs.Rule9.{rule9}
use Rattle.annotation.specs.Rule10.{UUID_LENGTH, INTERVAL_LENGTH, is_fixed, decimal_on, is_retired}
use Rattle.annotation.specs.Rule11.{decimal_holds}
use Rattle.annotation.specs.Kinds.{bare_kind, plain_kind, decimal_kind}
use Rattle.annotation.specs.Packed.{ANY_PHYSICAL, OWN_RULE, DISAGREEMENT_MARK, packed_of, converted_part, logical_part, a_part, b_part, demand_part}
use Rattle.annotation.specs.declared.slot.Annotated.{Annotated}
use Rattle.annotation.specs.declared.resolution.Kind.{Kind}
use Rattle.annotation.specs.declared.rewriting.Written.{Written}
use Rattle.annotation.specs.declared.rules.Broken.{Broken}

-- no annotation stands, and no parameter
unfoldable pub is_plain : Annotated → Bool
is_plain n =
    eqb n.converted converted.NONE && eqb n.logical logical.NONE && eqb n.a UNUSED && eqb n.b UNUSED

-- the numbers of a slot of which only the annotations count
abbrev pub annotated_by : ℕ → ℕ → ℕ → ℕ → Annotated
annotated_by code named a b =
    record {
      physical = physical.BOOLEAN;
      type_length = pos 0;
      converted = code;
      logical = named;
      a = a;
      b = b;
      scale = pos 0;
      precision = pos 0;
    }

-- a packed annotation, marked where rule 9 does not hold
abbrev pub marked : Bool → ℕ → ℕ
marked true packed = packed
marked false packed = packed + DISAGREEMENT_MARK

-- what the annotations of a slot say, packed, and marked where they disagree
unfoldable pub reading_of : Annotated → Bool → ℕ
reading_of n under_map_of = marked (rule9 n) (packed_of (annotation_of n under_map_of))

-- rule 10 of GEOMETRY and GEOGRAPHY
unfoldable pub geospatial_on : ℕ → ℕ → Bool
geospatial_on edition code = eqb code physical.BYTE_ARRAY && has_geospatial edition

-- rule 10 of DECIMAL, UNKNOWN, UUID, GEOMETRY, GEOGRAPHY and INTERVAL, which have a rule of their own
unfoldable pub own_on : ℕ → ℕ → ℕ → ℕ → Bool
own_on edition named code length =
    cond (eqb named logical.DECIMAL) (decimal_on code)
    (cond (eqb named logical.UNKNOWN) (not (eqb code physical.GROUP))
    (cond (eqb named logical.UUID) (is_fixed UUID_LENGTH code length)
    (cond (eqb named logical.GEOMETRY) (geospatial_on edition code)
    (cond (eqb named logical.GEOGRAPHY) (geospatial_on edition code) (is_fixed INTERVAL_LENGTH code length)))))

-- the second check where the first is kept
abbrev pub and_then : Result (Unit {0}) Broken → Result (Unit {0}) Broken → Result (Unit {0}) Broken
and_then (Ok kept) next = next
and_then (Err broken) next = Err broken

-- whether the rules 10 and 11 are kept by one of these, or the first that it breaks
unfoldable pub own_check : ℕ → ℕ → Annotated → Result (Unit {0}) Broken
own_check edition named n =
    cond (own_on edition named n.physical (natural n.type_length))
    (cond (eqb named logical.DECIMAL) (cond (decimal_holds edition n) (Ok tt) (Err Broken.BadDecimal)) (Ok tt))
    (Err Broken.Misplaced)

-- whether a slot without annotations keeps the rules, or the first that it breaks
abbrev pub plain_check : ℕ → ℕ → Result (Unit {0}) Broken
plain_check edition code = cond (is_retired edition code) (Err Broken.Misplaced) (Ok tt)

-- whether the numbers of a slot keep the rules 9, 10 and 11, or the first that they break, by its packed annotation
unfoldable pub check_by : ℕ → ℕ → Annotated → Result (Unit {0}) Broken
check_by edition packed n =
    cond (leb DISAGREEMENT_MARK packed) (Err Broken.Disagreement)
    (cond (eqb n.physical (demand_part packed)) (Ok tt)
    (and_then (plain_check edition n.physical)
    (cond (eqb (demand_part packed) ANY_PHYSICAL) (Ok tt)
    (cond (eqb (demand_part packed) OWN_RULE) (own_check edition (logical_part packed) n) (Err Broken.Misplaced)))))

-- whether a packed annotation tells at once that none is broken: it demands this physical type
abbrev pub stands_by : ℕ → ℕ → Bool
stands_by packed code = eqb code (demand_part packed)

-- the kind of a node without logical type
abbrev pub lone_kind : ℕ → ℕ → Kind
lone_kind code kind = cond (eqb code converted.INTERVAL) (bare_kind converted.INTERVAL) (plain_kind kind)

-- the kind of a logical type other than DECIMAL
abbrev pub logical_kind_by : ℕ → Kind
logical_kind_by packed = record { kind = logical_part packed; p1 = a_part packed; p2 = b_part packed }

-- the kind of a node by its packed annotation
unfoldable pub kind_by : ℕ → Annotated → Kind
kind_by packed n =
    cond (eqb (logical_part packed) logical.NONE) (lone_kind (converted_part packed) n.physical)
    (cond (eqb (logical_part packed) logical.DECIMAL) (decimal_kind n) (logical_kind_by packed))

-- what is written for a packed annotation
abbrev pub written_by : ℕ → Written
written_by packed =
    record { converted = converted_part packed; logical = logical_part packed; a = a_part packed; b = b_part packed }
