-- A leaf that keeps the rules has a lawful column type in its row.
use Prim.Native.Nat.{ℕ, ◌<◌}
use mathlib.Core.Path.{◌≡◌, refl, sym, ap, ap₂, ◌∙◌}
use mathlib.Core.Bool.{Bool, true, false, true≢false, not, cond, ◌&&◌}
use native.Mathlib.Omega.{arith}
use lib.Dec.{eqb, leb}
use lib.IntN.{ℤ, pos, negsuc}
use lib.Signed.{mag}
use Rattle.laws.proofs.BoolLaws.{and_both}
use Rattle.parquet.specs.Physical as physical
use Rattle.parquet.specs.Logical as logical
use Rattle.logical_type.specs.Parameters.{valid_parameters}
use Rattle.logical_type.specs.Spelling.{named_of, stated_of}
use Rattle.annotation.specs.Signed.{natural}
use Rattle.logical_type.specs.Backward.{backward_of}
use Rattle.annotation.specs.Meaning.{annotation_of}
use Rattle.annotation.specs.Rule10.{annotation_on, is_placed, is_retired, is_early, rule10}
use Rattle.annotation.specs.Rule11.{is_decimal, ordered, physical_holds, decimal_holds, digits_allowed, rule11}
use Rattle.annotation.specs.Kinds.{PLAIN_LEAF, PLAIN_GROUP, bare_kind, plain_kind, decimal_kind, kind_as, kind_of}
use Rattle.logical_type.specs.declared.types.LogicalType.{LogicalType}
use Rattle.logical_type.specs.declared.types.Annotation.{Annotation}
use Rattle.annotation.specs.declared.slot.Annotated.{Annotated}
use Rattle.annotation.proofs.PlacementLaws.{ten_placed}
use Rattle.annotation.specs.declared.resolution.Kind.{Kind}
use Rattle.logical_type.proofs.SpellingLaws.{stated_spelled}
use Rattle.logical_type.proofs.ReadingLaws.{spelled_bytes}
use Rattle.tree.specs.Rules.{is_group, is_nought, length_shape}
use Rattle.column_type.specs.Lawful.{slot_of, byte_numbers, signed_numbers, parameter_numbers, is_leaf, slot_keeps}
use Rattle.column_type.specs.declared.types.ColumnType.{ColumnType}
use Rattle.column_type.proofs.FitsLaws.{Fits, parts_fits, is_leaf_not_group}
use Rattle.column_type.proofs.SlotLaws.{slot_of_physical, slot_of_length, slot_of_agrees}

-- the column type of a slot with some kind
unfoldable pub column_with : Annotated → Kind → ColumnType
column_with n k = record { physical = n.physical; type_length = natural n.type_length; kind = k.kind; p1 = k.p1; p2 = k.p2 }

-- the signed numbers of a slot are within four bytes, and its physical within one
pub record InRange (n : Annotated) : Type 0 where
  pub physical : n.physical < byte_numbers
  pub «type_length» : mag n.type_length < signed_numbers
  pub scale : mag n.scale < signed_numbers
  pub precision : mag n.precision < signed_numbers

natural_lt : (z : ℤ) → mag z < signed_numbers → natural z < signed_numbers
unfolding natural
natural_lt (pos n) h = h
natural_lt (negsuc n) h = omega arith

-- the slot of a column type says what the slot said that the column type comes from
says_slot : (says : Annotation) (n : Annotated) (length : ℕ) → is_group n.physical ≡ false → annotation_on says n.physical length ≡ true → annotation_of (slot_of (column_with n (kind_as says n))) false ≡ says
unfolding annotation_of slot_of column_with backward_of stated_of named_of valid_parameters
says_slot Annotation.Plain n length leaf e = rw leaf
says_slot (Annotation.Logical LogicalType.String) n length leaf e = refl
says_slot (Annotation.Logical LogicalType.Map) n length leaf e = refl
says_slot (Annotation.Logical LogicalType.List) n length leaf e = refl
says_slot (Annotation.Logical LogicalType.Enum) n length leaf e = refl
says_slot (Annotation.Logical LogicalType.Decimal) n length leaf e = refl
says_slot (Annotation.Logical LogicalType.Date) n length leaf e = refl
says_slot (Annotation.Logical (LogicalType.Time unit utc)) n length leaf e = stated_spelled (LogicalType.Time unit utc)
says_slot (Annotation.Logical (LogicalType.Timestamp unit utc)) n length leaf e = stated_spelled (LogicalType.Timestamp unit utc)
says_slot (Annotation.Logical (LogicalType.Integer width signed)) n length leaf e = stated_spelled (LogicalType.Integer width signed)
says_slot (Annotation.Logical LogicalType.Unknown) n length leaf e = refl
says_slot (Annotation.Logical LogicalType.Json) n length leaf e = refl
says_slot (Annotation.Logical LogicalType.Bson) n length leaf e = refl
says_slot (Annotation.Logical LogicalType.Uuid) n length leaf e = refl
says_slot (Annotation.Logical LogicalType.Geometry) n length leaf e = refl
says_slot (Annotation.Logical (LogicalType.Geography edge)) n length leaf e = stated_spelled (LogicalType.Geography edge)
says_slot Annotation.Interval n length leaf e = refl
says_slot Annotation.Unreadable n length leaf e = absurd (true≢false (sym e))

-- a rule 8 length is not negative
length_natural : (code : ℕ) (z : ℤ) → length_shape code z ≡ true → length_shape code (pos (natural z)) ≡ true
unfolding natural length_shape is_nought
length_natural code (pos n) e = e
length_natural code (negsuc n) e = absurd (neither (eqb code physical.FIXED_LEN_BYTE_ARRAY) e)
  where
    neither : (b : Bool) → cond b false false ≡ true → ⊥
    neither true q = true≢false (sym q)
    neither false q = true≢false (sym q)

-- precision and scale in order are not negative
ordered_natural : (edition : ℕ) (precision scale : ℤ) → ordered edition precision scale ≡ true → ordered edition (pos (natural precision)) (pos (natural scale)) ≡ true
unfolding ordered natural
ordered_natural edition (pos p) (pos s) e = e
ordered_natural edition (pos p) (negsuc s) e = absurd (middle (leb 1 p) _ e)
  where
    middle : (b s : Bool) → b && false && s ≡ true → ⊥
    middle true s q = true≢false (sym q)
    middle false s q = true≢false (sym q)
ordered_natural edition (negsuc p) s e = absurd (true≢false (sym e))

-- the kind of a DECIMAL
kind_decimal : (says : Annotation) (n : Annotated) → is_decimal says ≡ true → kind_as says n ≡ decimal_kind n
kind_decimal Annotation.Plain n e = absurd (true≢false (sym e))
kind_decimal (Annotation.Logical l) n e = rw e
kind_decimal Annotation.Interval n e = absurd (true≢false (sym e))
kind_decimal Annotation.Unreadable n e = absurd (true≢false (sym e))

-- a number of one byte is one that p1 and p2 can be, of whatever kind
byte_parameter : (kind x : ℕ) → x < byte_numbers → x < parameter_numbers kind
byte_parameter kind x h = cases (eqb kind logical.DECIMAL)
  where
    cases : (b : Bool) → x < cond b signed_numbers byte_numbers
    cases true = omega arith
    cases false = h

-- the kinds of other annotations have numbers of one byte
record ByteKind (k : Kind) : Type 0 where
  kind : k.kind < byte_numbers
  p1 : k.p1 < byte_numbers
  p2 : k.p2 < byte_numbers

plain_bytes : (code : ℕ) → ByteKind (plain_kind code)
plain_bytes code = cases (eqb code physical.GROUP)
  where
    cases : (b : Bool) → ByteKind (cond b (bare_kind PLAIN_GROUP) (bare_kind PLAIN_LEAF))
    cases true = record { kind = omega arith; p1 = omega arith; p2 = omega arith }
    cases false = record { kind = omega arith; p1 = omega arith; p2 = omega arith }

kind_bytes : (says : Annotation) (n : Annotated) → is_decimal says ≡ false → ByteKind (kind_as says n)
kind_bytes Annotation.Plain n e = plain_bytes n.physical
kind_bytes (Annotation.Logical l) n e =
    let b = spelled_bytes l in
    rw e (record { kind = b.0; p1 = b.1; p2 = b.2 })
kind_bytes Annotation.Interval n e = record { kind = omega arith; p1 = omega arith; p2 = omega arith }
kind_bytes Annotation.Unreadable n e = plain_bytes n.physical

-- the numbers of a slot's row fit a slot
fits_kept : (says : Annotation) (n : Annotated) → InRange n → Fits (column_with n (kind_as says n))
unfolding column_with
fits_kept says n r = cases (is_decimal says) refl
  where
    cases : (b : Bool) → is_decimal says ≡ b → Fits (column_with n (kind_as says n))
    cases true e = rw (kind_decimal says n e)
        (record {
          physical = r.physical;
          «type_length» = natural_lt n.type_length r.«type_length»;
          kind = omega arith;
          p1 = natural_lt n.precision r.precision;
          p2 = natural_lt n.scale r.scale;
        })
    cases false e =
        let b = kind_bytes says n e in
        record {
          physical = r.physical;
          «type_length» = natural_lt n.type_length r.«type_length»;
          kind = b.kind;
          p1 = byte_parameter (kind_as says n).kind (kind_as says n).p1 b.p1;
          p2 = byte_parameter (kind_as says n).kind (kind_as says n).p2 b.p2;
        }

-- rule 11 holds of the slot of the column type where it held of the slot that the column type comes from
decimal_slot : (edition : ℕ) (n : Annotated) → decimal_holds edition n ≡ true → decimal_holds edition (slot_of (column_with n (decimal_kind n))) ≡ true
unfolding decimal_holds slot_of column_with natural
decimal_slot edition n e =
    let both = and_both (ordered edition n.precision n.scale) (physical_holds n.physical (natural n.type_length) (natural n.precision)) e in
    rw (ordered_natural edition n.precision n.scale both.0) both.1

digits_slot : (edition : ℕ) (says : Annotation) (n : Annotated) → digits_allowed edition says n ≡ true → digits_allowed edition says (slot_of (column_with n (kind_as says n))) ≡ true
digits_slot edition says n e = cases (is_decimal says) refl
  where
    cases : (b : Bool) → is_decimal says ≡ b → digits_allowed edition says (slot_of (column_with n (kind_as says n))) ≡ true
    cases true q = rw (q, kind_decimal says n q) (decimal_slot edition n (rw q at e))
    cases false q = rw q

-- a leaf that keeps rules 8, 10 and 11, its numbers within a slot's, has a column type whose slot keeps them
module _ (edition : ℕ) (n : Annotated) (under : Bool) (range : InRange n) (leaf : is_leaf n.physical ≡ true) (shaped : length_shape n.physical n.type_length ≡ true) (ten : rule10 edition n under ≡ true) (eleven : rule11 edition n under ≡ true) where
  column : ColumnType
  column = column_with n (kind_of n under)

  placed : is_placed n under ≡ true
  placed = ten_placed edition n under ten

  says_same : annotation_of (slot_of column) false ≡ annotation_of n under
  unfolding column kind_of is_placed
  says_same = says_slot (annotation_of n under) n (natural n.type_length) (is_leaf_not_group n.physical leaf) placed

  placed_slot : is_placed (slot_of column) false ≡ is_placed n under
  unfolding column column_with is_placed natural
  placed_slot = rw (says_same, slot_of_physical column, slot_of_length column)

  ten_slot : rule10 edition (slot_of column) false ≡ true
  unfolding column column_with rule10
  ten_slot =
      ap (λ (code : ℕ). not (is_retired edition code) && (not (is_early edition (annotation_of (slot_of column) false)) && is_placed (slot_of column) false)) (slot_of_physical column)
      ∙ ap₂ (λ (says : Annotation) (on : Bool). not (is_retired edition n.physical) && (not (is_early edition says) && on)) says_same placed_slot
      ∙ ten

  eleven_slot : rule11 edition (slot_of column) false ≡ true
  unfolding column kind_of rule11
  eleven_slot = rw says_same (digits_slot edition (annotation_of n under) n eleven)

  pub kept_keeps : slot_keeps edition (column_with n (kind_of n under)) ≡ true
  unfolding slot_keeps column column_with kind_of
  kept_keeps =
      rw (parts_fits column (fits_kept (annotation_of n under) n range), leaf, length_natural n.physical n.type_length shaped, slot_of_agrees column, ten_slot, eleven_slot)
