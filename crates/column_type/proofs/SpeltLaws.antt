-- The slot of a lawful column type: its numbers fit, its codes are listed, and its row has the kind, p1 and p2 that it was made of.
use Prim.Native.Nat.{ℕ, ◌<◌}
use mathlib.Core.Path.{◌≡◌, refl, sym, ◌∙◌}
use mathlib.Core.Bool.{true, false, true≢false, cond, or-true}
use native.Mathlib.Decide.{ℕ_discrete}
use native.Mathlib.Omega.{arith}
use lib.Dec.{eqb}
use borrow.Author.Tests.{eqb-true, ne_eqb}
use Rattle.laws.proofs.BoolLaws.{and_both}
use Rattle.parquet.specs.Converted as converted
use Rattle.parquet.specs.Logical as logical
use Rattle.logical_type.specs.Parameters.{UNUSED, valid_parameters}
use Rattle.logical_type.specs.Spelling.{code_of, named_of, stated_of}
use Rattle.annotation.proofs.PlacementLaws.{readable, ten_placed, ten_timely}
use Rattle.annotation.specs.Signed.{natural}
use Rattle.logical_type.specs.Backward.{backward_of}
use Rattle.annotation.specs.Meaning.{annotation_of}
use Rattle.annotation.specs.Rule10.{annotation_on, is_placed, is_early, rule10}
use Rattle.annotation.specs.Kinds.{kind_as, kind_of}
use Rattle.logical_type.specs.declared.types.Annotation.{Annotation}
use Rattle.annotation.specs.declared.slot.Annotated.{Annotated}
use Rattle.annotation.specs.declared.resolution.Kind.{Kind}
use Rattle.logical_type.proofs.ReadingLaws.{Spells, spelled_stated}
use Rattle.sheet.specs.Sound.{listed, converted_listed, logical_listed}
use Rattle.schema.proofs.RewrittenSlotLaws.{code_listed}
use Rattle.tree.specs.Rules.{is_group, is_nought, decimal_shape}
use Rattle.column_type.specs.Lawful.{slot_with, slot_of, byte_numbers, signed_numbers}
use Rattle.column_type.specs.declared.types.ColumnType.{ColumnType}
use Rattle.column_type.proofs.FitsLaws.{Fits, fits_decimal, fits_other}
use Rattle.column_type.proofs.SlotLaws.{slot_of_decimal, slot_of_interval, slot_of_logical}
use Rattle.column_type.proofs.LeafSheet.{Holds}

-- the kind, p1 and p2 of a column type
abbrev pub kind_in : ColumnType → Kind
kind_in c = record { kind = c.kind; p1 = c.p1; p2 = c.p2 }

-- a slot has the numbers of a column type, and codes of an edition
pub record Spelt (edition : ℕ) (c : ColumnType) (n : Annotated) : Type 0 where
  pub holds : Holds n
  pub converted : converted_listed n.converted ≡ true
  pub logical : logical_listed edition n.logical ≡ true
  pub digits : decimal_shape n.converted n.logical n.scale n.precision ≡ true
  pub kind : kind_of n false ≡ kind_in c

-- no logical type is listed
none_listed : (edition code : ℕ) → code ≡ logical.NONE → logical_listed edition code ≡ true
unfolding logical_listed
none_listed edition code e = rw e

-- the numbers of a slot that a column type is spelled by
holds_with : (c : ColumnType) (conv log a b precision scale : ℕ) → Fits c → conv < byte_numbers → log < byte_numbers → a < byte_numbers → b < byte_numbers → precision < signed_numbers → scale < signed_numbers → Holds (slot_with c conv log a b precision scale)
unfolding natural
holds_with c conv log a b precision scale f h i j k m o =
    record {
      physical = f.physical;
      converted = h;
      logical = i;
      a = j;
      b = k;
      «type_length» = f.«type_length»;
      scale = o;
      precision = m;
      length_natural = refl;
      scale_natural = refl;
      precision_natural = refl;
    }

module _ (edition : ℕ) (c : ColumnType) (f : Fits c) (leaf : is_group c.physical ≡ false) where
  -- a DECIMAL
  spelt_decimal : c.kind ≡ logical.DECIMAL → Spelt edition c (slot_with c converted.NONE logical.DECIMAL UNUSED UNUSED c.p1 c.p2)
  unfolding converted_listed logical_listed listed decimal_shape kind_of annotation_of stated_of named_of valid_parameters natural
  spelt_decimal e =
      let p = fits_decimal c f e in
      record {
        holds = holds_with c converted.NONE logical.DECIMAL UNUSED UNUSED c.p1 c.p2 f (omega arith) (omega arith) (omega arith) (omega arith) p.0 p.1;
        converted = refl;
        logical = refl;
        digits = refl;
        kind = rw e;
      }

  module _ (other : c.kind ≡ logical.DECIMAL → ⊥) where
    -- p1 and p2 that stand without a logical type are 0
    none_stated : (says : Annotation) (length : ℕ) → annotation_on (cond (valid_parameters logical.NONE c.p1 c.p2) says Annotation.Unreadable) c.physical length ≡ true → (c.p1 ≡ 0) × (c.p2 ≡ 0)
    unfolding valid_parameters
    none_stated says length e =
        let both = and_both (eqb c.p1 UNUSED) (eqb c.p2 UNUSED) (readable (valid_parameters logical.NONE c.p1 c.p2) says c.physical length e) in
        (eqb-true c.p1 UNUSED both.0, eqb-true c.p2 UNUSED both.1)

    -- INTERVAL
    spelt_interval : c.kind ≡ converted.INTERVAL → is_placed (slot_with c converted.INTERVAL logical.NONE c.p1 c.p2 0 0) false ≡ true → Spelt edition c (slot_with c converted.INTERVAL logical.NONE c.p1 c.p2 0 0)
    unfolding converted_listed logical_listed listed decimal_shape is_nought kind_of is_placed annotation_of backward_of valid_parameters natural
    spelt_interval e placed =
        let p = fits_other c f other in
        let zero = none_stated Annotation.Interval c.type_length placed in
        record {
          holds = holds_with c converted.INTERVAL logical.NONE c.p1 c.p2 0 0 f (omega arith) (omega arith) p.0 p.1 (omega arith) (omega arith);
          converted = refl;
          logical = refl;
          digits = refl;
          kind = rw (e, zero.0, zero.1);
        }

    module _ (converted_not : c.kind ≡ converted.INTERVAL → ⊥) where
      -- no annotation
      kind_plain : c.kind ≡ logical.NONE → is_placed (slot_with c converted.NONE c.kind c.p1 c.p2 0 0) false ≡ true → kind_of (slot_with c converted.NONE c.kind c.p1 c.p2 0 0) false ≡ kind_in c
      unfolding kind_of is_placed annotation_of backward_of valid_parameters natural
      kind_plain e placed =
          let zero = none_stated Annotation.Plain c.type_length (rw e at placed) in
          rw (e, zero.0, zero.1, leaf)

      -- a logical type that its code and parameters say
      stated_kind : (says : Annotation) (n : Annotated) (length : ℕ) → Spells says c.kind c.p1 c.p2 → annotation_on says c.physical length ≡ true → is_early edition says ≡ false → (logical_listed edition c.kind ≡ true) × (kind_as says n ≡ kind_in c)
      stated_kind Annotation.Plain n length s e t = absurd s
      stated_kind (Annotation.Logical l) n length s e t =
          let apart = ne_eqb (code_of l) logical.DECIMAL (λ (q : code_of l ≡ logical.DECIMAL). other (sym s.0 ∙ q)) in
          (rw (← s.0) (code_listed edition l t), rw (apart, s.0, s.1, s.2))
      stated_kind Annotation.Interval n length s e t = absurd s
      stated_kind Annotation.Unreadable n length s e t = absurd (true≢false (sym e))

      kind_logical : (c.kind ≡ logical.NONE → ⊥) → is_placed (slot_with c converted.NONE c.kind c.p1 c.p2 0 0) false ≡ true → is_early edition (annotation_of (slot_with c converted.NONE c.kind c.p1 c.p2 0 0) false) ≡ false → (logical_listed edition c.kind ≡ true) × (kind_of (slot_with c converted.NONE c.kind c.p1 c.p2 0 0) false ≡ kind_in c)
      unfolding kind_of is_placed annotation_of natural
      kind_logical n placed timely =
          let stands = ne_eqb c.kind logical.NONE n in
          rw stands (stated_kind (stated_of c.kind c.p1 c.p2) _ c.type_length (spelled_stated c.kind c.p1 c.p2) (rw stands at placed) (rw stands at timely))

      -- a plain leaf or a logical type
      spelt_logical : is_placed (slot_with c converted.NONE c.kind c.p1 c.p2 0 0) false ≡ true → is_early edition (annotation_of (slot_with c converted.NONE c.kind c.p1 c.p2 0 0) false) ≡ false → Spelt edition c (slot_with c converted.NONE c.kind c.p1 c.p2 0 0)
      unfolding converted_listed listed decimal_shape is_nought
      spelt_logical placed timely =
          let p = fits_other c f other in
          let by : (logical_listed edition c.kind ≡ true) × (kind_of (slot_with c converted.NONE c.kind c.p1 c.p2 0 0) false ≡ kind_in c) = cases (ℕ_discrete c.kind logical.NONE) in
          record {
            holds = holds_with c converted.NONE c.kind c.p1 c.p2 0 0 f (omega arith) f.kind p.0 p.1 (omega arith) (omega arith);
            converted = refl;
            logical = by.0;
            digits = or-true (eqb c.kind logical.DECIMAL);
            kind = by.1;
          }
        where
          cases : Dec (c.kind ≡ logical.NONE) → (logical_listed edition c.kind ≡ true) × (kind_of (slot_with c converted.NONE c.kind c.p1 c.p2 0 0) false ≡ kind_in c)
          cases (yes e) = (none_listed edition c.kind e, kind_plain e placed)
          cases (no n) = kind_logical n placed timely

-- the slot of a column type that keeps rule 10 has its numbers
pub slot_of_spelt : (edition : ℕ) (c : ColumnType) → Fits c → is_group c.physical ≡ false → rule10 edition (slot_of c) false ≡ true → Spelt edition c (slot_of c)
slot_of_spelt edition c f leaf ten = decimal (ℕ_discrete c.kind logical.DECIMAL)
  where
    placed : is_placed (slot_of c) false ≡ true
    placed = ten_placed edition (slot_of c) false ten

    timely : is_early edition (annotation_of (slot_of c) false) ≡ false
    timely = ten_timely edition (slot_of c) false ten

    interval : (c.kind ≡ logical.DECIMAL → ⊥) → Dec (c.kind ≡ converted.INTERVAL) → Spelt edition c (slot_of c)
    interval n (yes e) = let is = slot_of_interval c n e in rw is (spelt_interval edition c f leaf n e (rw is at placed))
    interval n (no m) = let is = slot_of_logical c n m in rw is (spelt_logical edition c f leaf n m (rw is at placed) (rw is at timely))

    decimal : Dec (c.kind ≡ logical.DECIMAL) → Spelt edition c (slot_of c)
    decimal (yes e) = rw (slot_of_decimal c e) (spelt_decimal edition c f leaf e)
    decimal (no n) = interval n (ℕ_discrete c.kind converted.INTERVAL)
