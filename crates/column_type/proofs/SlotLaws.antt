-- The slot of a column type, by its kind.
use Prim.Native.Nat.{ℕ, ◌<◌}
use mathlib.Core.Path.{◌≡◌, refl}
use mathlib.Core.Bool.{Bool, true, false, cond, ◌&&◌}
use native.Mathlib.Omega.{arith}
use lib.Dec.{eqb}
use lib.IntN.{pos}
use borrow.Author.Tests.{eq-eqb, ne_eqb}
use Rattle.parquet.specs.Converted as converted
use Rattle.parquet.specs.Logical as logical
use Rattle.parquet.specs.Logical.{is_geospatial}
use Rattle.logical_type.specs.Parameters.{UNUSED}
use Rattle.annotation.specs.Rule9.{rule9}
use Rattle.annotation.specs.declared.slot.Annotated.{Annotated}
use Rattle.laws.proofs.BoolLaws.{by_test}
use Rattle.std.specs.Prelude.{Option, Some, None, Result, Ok, Err}
use Rattle.std.specs.Result.{OkIff, result_ok}
use Rattle.tree.specs.Rules.{length_shape}
use Rattle.column_type.proofs.FitsLaws.{Fits, fits_parts, parts_fits}
use Rattle.column_type.specs.Lawful.{slot_with, slot_of, byte_numbers, signed_numbers, parameter_numbers, fits, is_leaf, annotation_right, slot_keeps}
use Rattle.column_type.specs.Steps.{slot_in}
use Rattle.column_type.specs.declared.types.ColumnType.{ColumnType}

-- a number that a conversion leaves out does not fit, and one that it lets through is that number
pub field_out : {A P E : Type 0} (r : Result A E) (v : A) (o : Option A) → OkIff r P v → o ≡ result_ok r → o ≡ None → P → ⊥
field_out (Ok x) v o e s n p = cc
field_out (Err d) v o e s n p = e p

pub field_in : {A P E : Type 0} {x : A} (r : Result A E) (v : A) (o : Option A) → OkIff r P v → o ≡ result_ok r → o ≡ Some x → P × (x ≡ v)
field_in (Ok y) v o e s n = (e.0, (let h = e.1 in cc))
field_in (Err d) v o e s n = absurd (cc)

module _ (c : ColumnType) where
  -- where a number does not fit its field there is no slot, and else it is this one
  pub slot_none : None ≡ slot_in c → fits c ≡ false
  unfolding slot_in
  slot_none e = by_test (fits c) (λ t. absurd (cc (rw t at e))) (λ f. f)

  pub slot_some : (n : Annotated) → Some n ≡ slot_in c → (fits c ≡ true) × (n ≡ slot_of c)
  unfolding slot_in
  slot_some n e = by_test (fits c) (λ t. (t, (let same = rw t at e in cc))) (λ f. absurd (cc (rw f at e)))

  pub slot_of_decimal : c.kind ≡ logical.DECIMAL → slot_of c ≡ slot_with c converted.NONE logical.DECIMAL UNUSED UNUSED c.p1 c.p2
  unfolding slot_of
  slot_of_decimal e = rw (eq-eqb c.kind logical.DECIMAL e)

  pub slot_of_interval : (c.kind ≡ logical.DECIMAL → ⊥) → c.kind ≡ converted.INTERVAL → slot_of c ≡ slot_with c converted.INTERVAL logical.NONE c.p1 c.p2 0 0
  unfolding slot_of
  slot_of_interval n e = rw (ne_eqb c.kind logical.DECIMAL n, eq-eqb c.kind converted.INTERVAL e)

  pub slot_of_logical : (c.kind ≡ logical.DECIMAL → ⊥) → (c.kind ≡ converted.INTERVAL → ⊥) → slot_of c ≡ slot_with c converted.NONE c.kind c.p1 c.p2 0 0
  unfolding slot_of
  slot_of_logical n m = rw (ne_eqb c.kind logical.DECIMAL n, ne_eqb c.kind converted.INTERVAL m)

  -- there is one where each number fits its field
  pub slot_without : (Fits c → ⊥) → slot_in c ≡ None
  unfolding slot_in
  slot_without n = by_test (fits c) (λ t. absurd (n (fits_parts c t))) (λ f. rw f)

  small : (kind x : ℕ) → x < byte_numbers → x < parameter_numbers kind
  small kind x h = by_test (eqb kind logical.DECIMAL) (λ t. rw t (omega arith)) (λ f. rw f h)

  module _ (kind : c.kind < byte_numbers) (physical : c.physical < byte_numbers) (length : c.type_length < signed_numbers) (p1 : c.p1 < byte_numbers) (p2 : c.p2 < byte_numbers) where
    fitting : fits c ≡ true
    fitting = parts_fits c (record { physical = physical; «type_length» = length; kind = kind; p1 = small c.kind c.p1 p1; p2 = small c.kind c.p2 p2 })

    pub interval_in : c.kind ≡ converted.INTERVAL → Some (slot_with c converted.INTERVAL logical.NONE c.p1 c.p2 0 0) ≡ slot_in c
    unfolding slot_in slot_of
    interval_in e = rw (fitting, e)

    pub logical_in : (c.kind ≡ logical.DECIMAL → ⊥) → (c.kind ≡ converted.INTERVAL → ⊥) → Some (slot_with c converted.NONE c.kind c.p1 c.p2 0 0) ≡ slot_in c
    unfolding slot_in
    logical_in n m = rw (fitting, slot_of_logical n m)

  -- what is asked of it
  pub keeps_by : (edition : ℕ) (n : Annotated) → (fits c ≡ true) × (n ≡ slot_of c) → (is_leaf c.physical && length_shape c.physical (pos c.type_length) && annotation_right edition n) ≡ slot_keeps edition c
  unfolding slot_keeps
  keeps_by edition n there = rw (there.0, there.1)

  -- what holds of each of the three holds of the slot
  slot_of_any : (P : Annotated → Type 0) → P (slot_with c converted.NONE logical.DECIMAL UNUSED UNUSED c.p1 c.p2) → P (slot_with c converted.INTERVAL logical.NONE c.p1 c.p2 0 0) → P (slot_with c converted.NONE c.kind c.p1 c.p2 0 0) → P (slot_of c)
  unfolding slot_of
  slot_of_any P d i l = cases (eqb c.kind logical.DECIMAL) (eqb c.kind converted.INTERVAL)
    where
      cases : (a b : Bool) → P (cond a (slot_with c converted.NONE logical.DECIMAL UNUSED UNUSED c.p1 c.p2) (cond b (slot_with c converted.INTERVAL logical.NONE c.p1 c.p2 0 0) (slot_with c converted.NONE c.kind c.p1 c.p2 0 0)))
      cases true b = d
      cases false true = i
      cases false false = l

  pub slot_of_physical : (slot_of c).physical ≡ c.physical
  slot_of_physical = slot_of_any (λ n. n.physical ≡ c.physical) refl refl refl

  pub slot_of_length : (slot_of c).type_length ≡ pos c.type_length
  slot_of_length = slot_of_any (λ n. n.type_length ≡ pos c.type_length) refl refl refl

  -- its logical type is GEOMETRY or GEOGRAPHY only where the kind is
  pub slot_of_other : is_geospatial c.kind ≡ false → is_geospatial (slot_of c).logical ≡ false
  slot_of_other e = slot_of_any (λ n. is_geospatial n.logical ≡ false) refl refl e

  -- it has one annotation at the most
  pub slot_of_agrees : rule9 (slot_of c) ≡ true
  unfolding rule9
  slot_of_agrees = slot_of_any (λ n. rule9 n ≡ true) refl refl refl
