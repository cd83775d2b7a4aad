-- Column types in the editions: one that is lawful in the first is lawful in the second; one that is so in the second and not in the first is a DECIMAL whose scale
-- equals its precision; one that is neither GEOMETRY nor GEOGRAPHY is lawful in the third exactly where it is so in the second and is no INT96.
use Prim.Native.Nat.{ℕ}
use mathlib.Core.Path.{◌≡◌, refl, sym, ap, ap₂, ◌∙◌}
use mathlib.Core.Bool.{Bool, true, false, true≢false, not, ◌&&◌}
use lib.Dec.{eqb}
use lib.IntN.{pos}
use Rattle.laws.proofs.BoolLaws.{and_both}
use Rattle.edition.specs.Editions.{FIRST, SECOND, THIRD, is_known}
use Rattle.edition.proofs.EditionLaws.{first, second, third, known_of}
use Rattle.parquet.specs.Physical.{INT96}
use Rattle.parquet.specs.Converted as converted
use Rattle.parquet.specs.Logical as logical
use Rattle.parquet.specs.Logical.{is_geospatial}
use Rattle.annotation.specs.Rule9.{rule9}
use Rattle.annotation.specs.Rule10.{is_placed, rule10}
use Rattle.annotation.specs.Rule11.{rule11}
use Rattle.annotation.specs.declared.slot.Annotated.{Annotated}
use Rattle.annotation.specs.declared.resolution.Kind.{Kind}
use Rattle.annotation.proofs.EditionLaws.{is_equal, eleven_second, eleven_first, ten_second, ten_before, ten_third, not_said, geospatial_breaks, eleven_third}
use Rattle.tree.specs.Rules.{length_shape}
use Rattle.column_type.specs.Lawful.{slot_of, fits, is_leaf, slot_keeps, is_lawful}
use Rattle.column_type.specs.declared.types.ColumnType.{ColumnType}
use Rattle.column_type.proofs.SlotLaws.{slot_of_physical, slot_of_logical, slot_of_other}
use Rattle.column_type.proofs.LawfulLaws.{spelt}

-- what lawfulness asks besides rules 10 and 11, which no edition decides
besides : ColumnType → Bool
besides c = fits c && is_leaf c.physical && length_shape c.physical (pos c.type_length)

-- rules 9, 10 and 11
annotated : ℕ → ColumnType → Bool
annotated edition c = rule9 (slot_of c) && rule10 edition (slot_of c) false && rule11 edition (slot_of c) false

module _ (edition : ℕ) (c : ColumnType) (known : is_known edition ≡ true) where
  lawful_is : is_lawful edition c ≡ (besides c && annotated edition c)
  unfolding is_lawful slot_keeps besides annotated
  lawful_is = rw known

  parts : is_lawful edition c ≡ true → (besides c ≡ true) × (rule9 (slot_of c) ≡ true) × (rule10 edition (slot_of c) false ≡ true) × (rule11 edition (slot_of c) false ≡ true)
  unfolding annotated
  parts e =
      let both = and_both (besides c) (annotated edition c) (sym lawful_is ∙ e) in
      let rules = and_both (rule9 (slot_of c) && rule10 edition (slot_of c) false) (rule11 edition (slot_of c) false) both.1 in
      let front = and_both (rule9 (slot_of c)) (rule10 edition (slot_of c) false) rules.0 in
      (both.0, front.0, front.1, rules.1)

  by_eleven : besides c ≡ true → rule9 (slot_of c) ≡ true → rule10 edition (slot_of c) false ≡ true → is_lawful edition c ≡ rule11 edition (slot_of c) false
  unfolding annotated
  by_eleven p nine ten = lawful_is ∙ rw (p, nine, ten)

pub lawful_second : (c : ColumnType) → is_lawful FIRST c ≡ true → is_lawful SECOND c ≡ true
lawful_second c e =
    let h = parts FIRST c (known_of first) e in
    by_eleven SECOND c (known_of second) h.0 h.1 (ten_second (slot_of c) false ∙ h.2) ∙ eleven_second (slot_of c) false h.3

pub lawful_first : (c : ColumnType) → is_lawful SECOND c ≡ true → is_lawful FIRST c ≡ not (eqb c.kind logical.DECIMAL && eqb c.p1 c.p2)
unfolding is_equal
lawful_first c e =
    let h = parts SECOND c (known_of second) e in
    by_eleven FIRST c (known_of first) h.0 h.1 (sym (ten_second (slot_of c) false) ∙ h.2)
    ∙ eleven_first (slot_of c) false h.3
    ∙ ap (λ (k : Kind). not (is_equal k)) (spelt SECOND c e).kind

-- the third asks what the second does, and that it is no INT96; the second besides that it is neither GEOMETRY nor GEOGRAPHY
ten_is : (c : ColumnType) → rule10 THIRD (slot_of c) false ≡ (not (eqb c.physical INT96) && is_placed (slot_of c) false)
ten_is c = ten_third (slot_of c) false ∙ ap (λ (code : ℕ). not (eqb code INT96) && is_placed (slot_of c) false) (slot_of_physical c)

ten_other : (c : ColumnType) → is_geospatial c.kind ≡ false → rule10 SECOND (slot_of c) false ≡ is_placed (slot_of c) false
ten_other c e = ten_before (slot_of c) false ∙ ap (λ (said : Bool). not said && is_placed (slot_of c) false) (not_said (slot_of c) false (slot_of_other c e))

pub lawful_third : (c : ColumnType) → is_geospatial c.kind ≡ false → is_lawful THIRD c ≡ (not (eqb c.physical INT96) && is_lawful SECOND c)
unfolding annotated
lawful_third c e =
    lawful_is THIRD c (known_of third)
    ∙ ap₂ (λ (ten eleven : Bool). besides c && (rule9 (slot_of c) && ten && eleven)) (ten_is c ∙ ap (λ (placed : Bool). not (eqb c.physical INT96) && placed) (sym (ten_other c e))) (eleven_third (slot_of c) false)
    ∙ moved (besides c) (rule9 (slot_of c)) (rule10 SECOND (slot_of c) false) (rule11 SECOND (slot_of c) false) (eqb c.physical INT96)
    ∙ ap (λ (b : Bool). not (eqb c.physical INT96) && b) (sym (lawful_is SECOND c (known_of second)))
  where
    moved : (b nine ten eleven int96 : Bool) → (b && ((nine && (not int96 && ten)) && eleven)) ≡ (not int96 && (b && ((nine && ten) && eleven)))
    moved b nine ten eleven false = refl
    moved false nine ten eleven true = refl
    moved true false ten eleven true = refl
    moved true true ten eleven true = refl

-- one of INT96 is not lawful there, whatever its kind
pub int96_unlawful : (c : ColumnType) → eqb c.physical INT96 ≡ true → is_lawful THIRD c ≡ false
unfolding annotated
int96_unlawful c t = lawful_is THIRD c (known_of third) ∙ rw (ten_is c, t) (none (besides c) (rule9 (slot_of c)))
  where
    none : (b nine : Bool) → (b && ((nine && false) && rule11 THIRD (slot_of c) false)) ≡ false
    none false nine = refl
    none true false = refl
    none true true = refl

-- and neither GEOMETRY nor GEOGRAPHY is in the second
pub geospatial_unlawful : (c : ColumnType) → is_geospatial c.kind ≡ true → is_lawful SECOND c ≡ false
unfolding annotated
geospatial_unlawful c t =
    lawful_is SECOND c (known_of second)
    ∙ rw (geospatial_breaks (slot_of c) false (ap (λ (n : Annotated). is_geospatial n.logical) (slot_of_logical c not_decimal not_interval) ∙ t)) (none (besides c) (rule9 (slot_of c)))
  where
    not_decimal : c.kind ≡ logical.DECIMAL → ⊥
    not_decimal e = true≢false (sym (rw e at t))

    not_interval : c.kind ≡ converted.INTERVAL → ⊥
    not_interval e = true≢false (sym (rw e at t))

    none : (b nine : Bool) → (b && ((nine && false) && rule11 SECOND (slot_of c) false)) ≡ false
    none false nine = refl
    none true false = refl
    none true true = refl
