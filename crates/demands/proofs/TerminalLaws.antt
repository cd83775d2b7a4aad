-- GEOMETRY and GEOGRAPHY, as document 02's R-11 asks: where their codes are listed, what rules 9 and 10 ask of them, and their column types.
use Prim.Native.Nat.{ℕ, zero, suc, ◌≤◌}
use mathlib.Core.Path.{◌≡◌, refl, sym, ap, subst, ◌∙◌}
use mathlib.Core.Bool.{Bool, true, false, true≢false, not, cond, ◌&&◌, ◌||◌}
use mathlib.Core.Logic.{◌↔◌, ◌⊎◌, inl, inr, ⊎_elim}
use mathlib.Core.List.{List}
use native.Mathlib.Omega.{arith}
use lib.Dec.{eqb, leb}
use lib.IntN.{pos}
use lib.ListN.{length}
use borrow.Author.Tests.{eqb-true}
use Rattle.laws.proofs.BoolLaws.{and_right, and_both, both_and, is_false, by_test}
use Rattle.refusal.specs.Outcome.{given, refusal}
use Rattle.refusal.specs.Faults as sided
use Rattle.refusal.specs.Faults.{fault}
use Rattle.std.specs.Prelude.{Err}
use Rattle.edition.specs.Editions.{has_geospatial}
use Rattle.edition.proofs.EditionLaws.{first, second, known_of}
use Rattle.parquet.specs.Physical as physical
use Rattle.parquet.specs.Converted as converted
use Rattle.parquet.specs.Logical as logical
use Rattle.parquet.specs.Logical.{is_geospatial}
use Rattle.sheet.specs.Sound.{logical_listed}
use Rattle.logical_type.specs.Parameters.{edge_code, valid_edge, edge_of, valid_parameters}
use Rattle.logical_type.specs.Spelling.{named_of, stated_of}
use Rattle.logical_type.specs.Forward.{image_of}
use Rattle.logical_type.specs.declared.types.EdgeRule.{EdgeRule}
use Rattle.logical_type.specs.declared.types.Annotation.{Annotation}
use Rattle.logical_type.proofs.ReadingLaws.{edge_unused_spelled}
use Rattle.annotation.specs.Signed.{natural}
use Rattle.annotation.specs.Meaning.{annotation_of}
use Rattle.annotation.specs.Rule9.{rule9}
use Rattle.annotation.specs.Rule10.{annotation_on, is_placed, rule10}
use Rattle.annotation.specs.Kinds.{kind_of}
use Rattle.annotation.specs.Rewriting.{written_of}
use Rattle.annotation.specs.declared.slot.Annotated.{Annotated}
use Rattle.annotation.proofs.EditionLaws.{ten_second, ten_third, geospatial_breaks}
use Rattle.tree.specs.Rules.{is_nought, length_shape}
use Rattle.column_type.specs.Lawful.{slot_of, is_lawful, judgement_of as typeJudgement}
use Rattle.column_type.specs.declared.types.ColumnType.{ColumnType}
use Rattle.column_type.proofs.SlotLaws.{slot_of_logical}
use Rattle.column_type.proofs.LawfulLaws.{shaped, ten, placed}
use Rattle.column_type.proofs.EditionLaws.{lawful_second, geospatial_unlawful}
use Rattle.column_type.proofs.RefusalLaws.{refusal_known}
use Rattle.column_type.proofs.Points.{geometry_lawful, geography_lawful}
use Rattle.column.specs.Promises.{RightLength}
use Rattle.column.specs.Outcome as read
use Rattle.column.specs.declared.value.Value.TheVariants as value
use Rattle.column.proofs.PromiseLaws.{any_bytes}
use Rattle.column_order.specs.Outcome as order
use Rattle.column_order.proofs.PromiseLaws.{no_order_exactly}
use Rattle.demands.specs.Requests.{geometries, geographies}

-- which of the two
either : (code : ℕ) → is_geospatial code ≡ true → (code ≡ logical.GEOMETRY) ⊎ (code ≡ logical.GEOGRAPHY)
either code e =
    by_test (eqb code logical.GEOMETRY) (λ t. inl (eqb-true code logical.GEOMETRY t)) (λ f. inr (eqb-true code logical.GEOGRAPHY (rw f at e)))

-- the list of codes --------------------------------------------------------------------------------------------------------

third_listed : (code : ℕ) → logical_listed 3 code ≡ (logical_listed 2 code || is_geospatial code)
unfolding logical_listed has_geospatial
third_listed code = cases (leb code logical.TIMESTAMP) (leb logical.INTEGER code && leb code logical.UUID) (is_geospatial code)
  where
    cases : (a b g : Bool) → (a || b || (g && true)) ≡ ((a || b || (g && false)) || g)
    cases true b g = refl
    cases false true g = refl
    cases false false true = refl
    cases false false false = refl

pub listed : (code : ℕ) → (logical_listed 3 code ≡ true) ↔ ((logical_listed 2 code ≡ true) ⊎ ((code ≡ 17) ⊎ (code ≡ 18)))
listed code = ((λ e. by_test (logical_listed 2 code) inl (λ f. inr (either code (rw f at (sym (third_listed code) ∙ e))))), λ h. third_listed code ∙ ⊎_elim (λ e. rw e) (λ e. or_right (logical_listed 2 code) (geospatial e)) h)
  where
    geospatial : (code ≡ 17) ⊎ (code ≡ 18) → is_geospatial code ≡ true
    geospatial (inl e) = rw e
    geospatial (inr e) = rw e

    or_right : (a : Bool) → is_geospatial code ≡ true → (a || is_geospatial code) ≡ true
    or_right true e = refl
    or_right false e = e

pub same_list : (code : ℕ) → logical_listed 2 code ≡ logical_listed 1 code
unfolding logical_listed has_geospatial
same_list code = refl

pub not_listed : (code : ℕ) → is_geospatial code ≡ true → logical_listed 2 code ≡ false
unfolding logical_listed has_geospatial
not_listed code e = ⊎_elim (λ q. rw q) (λ q. rw q) (either code e)

pub never_listed : (edition : ℕ) → (logical_listed edition 15 ≡ false) × (logical_listed edition 16 ≡ false)
unfolding logical_listed
never_listed edition = (refl, refl)

-- rules 9 and 10 -----------------------------------------------------------------------------------------------------------

-- the edge rules are 0 to 4

edge_low : (edge : EdgeRule) → edge_code edge ≤ 4
edge_low EdgeRule.Spherical = omega arith
edge_low EdgeRule.Vincenty = omega arith
edge_low EdgeRule.Thomas = omega arith
edge_low EdgeRule.Andoyer = omega arith
edge_low EdgeRule.Karney = omega arith

low_edge : (a : ℕ) → a ≤ 4 → valid_edge a ≡ true
low_edge zero h = refl
low_edge (suc zero) h = refl
low_edge (suc (suc zero)) h = refl
low_edge (suc (suc (suc zero))) h = refl
low_edge (suc (suc (suc (suc zero)))) h = refl
low_edge (suc (suc (suc (suc (suc a))))) h = absurd (omega arith)

-- what stands on BYTE_ARRAY is no INT96
on_bytes : (n : Annotated) (under : Bool) → n.physical ≡ physical.BYTE_ARRAY → is_placed n under ≡ true → rule10 3 n under ≡ true
on_bytes n under e placed = ten_third n under ∙ both_and _ _ (ap (λ (code : ℕ). not (eqb code physical.INT96)) e) placed

placed_in : (n : Annotated) (under : Bool) → rule10 3 n under ≡ true → is_placed n under ≡ true
placed_in n under e = and_right (not (eqb n.physical physical.INT96)) (is_placed n under) (sym (ten_third n under) ∙ e)

-- of an annotation that is read where its parameters are valid
stands : (valid : Bool) (says : Annotation) (code length : ℕ) → annotation_on (cond valid says Annotation.Unreadable) code length ≡ (valid && annotation_on says code length)
stands true says code length = refl
stands false says code length = refl

module _ (n : Annotated) (under : Bool) where
  module _ (e : n.logical ≡ logical.GEOMETRY) where
    geometry_placed : is_placed n under ≡ ((eqb n.a 0 && eqb n.b 0) && eqb n.physical physical.BYTE_ARRAY)
    unfolding is_placed annotation_of stated_of named_of valid_parameters
    geometry_placed = rw e (stands (eqb n.a 0 && eqb n.b 0) _ n.physical (natural n.type_length))

    pub geometry : (rule10 3 n under ≡ true) ↔ ((n.physical ≡ physical.BYTE_ARRAY) × (n.a ≡ 0) × (n.b ≡ 0))
    geometry = (
      (λ t.
          let both = and_both _ (eqb n.physical physical.BYTE_ARRAY) (sym geometry_placed ∙ placed_in n under t) in
          let parts = and_both (eqb n.a 0) (eqb n.b 0) both.0 in
          (eqb-true _ _ both.1, eqb-true _ _ parts.0, eqb-true _ _ parts.1)),
      λ h. on_bytes n under h.0 (geometry_placed ∙ rw (h.0, h.1, h.2)),
    )

    geometry_kind : rule10 3 n under ≡ true → kind_of n under ≡ record { kind = n.logical; p1 = n.a; p2 = 0 }
    unfolding kind_of annotation_of stated_of named_of valid_parameters
    geometry_kind t = let h = geometry.0 t in rw (e, h.1, h.2)

    geometry_written : rule10 3 n under ≡ true → written_of n under ≡ record { converted = 255; logical = n.logical; a = n.a; b = 0 }
    unfolding written_of annotation_of stated_of named_of valid_parameters
    geometry_written t = let h = geometry.0 t in rw (e, h.1, h.2)

  module _ (e : n.logical ≡ logical.GEOGRAPHY) where
    geography_placed : is_placed n under ≡ ((valid_edge n.a && eqb n.b 0) && eqb n.physical physical.BYTE_ARRAY)
    unfolding is_placed annotation_of stated_of named_of valid_parameters
    geography_placed = rw e (stands (valid_edge n.a && eqb n.b 0) _ n.physical (natural n.type_length))

    geography_parts : rule10 3 n under ≡ true → ((valid_edge n.a && eqb n.b 0) ≡ true) × (n.physical ≡ physical.BYTE_ARRAY)
    geography_parts t =
        let both = and_both (valid_edge n.a && eqb n.b 0) (eqb n.physical physical.BYTE_ARRAY) (sym geography_placed ∙ placed_in n under t) in
        (both.0, eqb-true _ _ both.1)

    pub geography : (rule10 3 n under ≡ true) ↔ ((n.physical ≡ physical.BYTE_ARRAY) × (n.a ≤ 4) × (n.b ≡ 0))
    geography = (
      (λ t.
          let parts = geography_parts t in
          let spelled = edge_unused_spelled n.a n.b parts.0 in
          (parts.1, omega (arith, spelled.0, edge_low (edge_of n.a)), sym spelled.1)),
      λ h. on_bytes n under h.0 (geography_placed ∙ rw (h.0, h.2, low_edge n.a h.1)),
    )

    geography_kind : rule10 3 n under ≡ true → kind_of n under ≡ record { kind = n.logical; p1 = n.a; p2 = 0 }
    unfolding kind_of annotation_of stated_of named_of valid_parameters
    geography_kind t = let parts = geography_parts t in rw (e, parts.0, (edge_unused_spelled n.a n.b parts.0).0)

    geography_written : rule10 3 n under ≡ true → written_of n under ≡ record { converted = 255; logical = n.logical; a = n.a; b = 0 }
    unfolding written_of annotation_of stated_of named_of valid_parameters
    geography_written t = let parts = geography_parts t in rw (e, parts.0, (edge_unused_spelled n.a n.b parts.0).0)

  pub kinds : is_geospatial n.logical ≡ true → rule10 3 n under ≡ true → kind_of n under ≡ record { kind = n.logical; p1 = n.a; p2 = 0 }
  kinds g = ⊎_elim geometry_kind geography_kind (either n.logical g)

  pub rewritten : is_geospatial n.logical ≡ true → rule10 3 n under ≡ true → written_of n under ≡ record { converted = 255; logical = n.logical; a = n.a; b = 0 }
  rewritten g = ⊎_elim geometry_written geography_written (either n.logical g)

  pub early : is_geospatial n.logical ≡ true → (rule10 1 n under ≡ false) × (rule10 2 n under ≡ false)
  early g = let e = geospatial_breaks n under g in (sym (ten_second n under) ∙ e, e)

-- there is no image
no_image : (code a b : ℕ) → is_geospatial code ≡ true → image_of (stated_of code a b) ≡ converted.NONE
unfolding stated_of named_of valid_parameters
no_image code a b g = ⊎_elim (λ e. rw e (on (eqb a 0 && eqb b 0) _ refl)) (λ e. rw e (on (valid_edge a && eqb b 0) _ refl)) (either code g)
  where
    on : (valid : Bool) (says : Annotation) → image_of says ≡ converted.NONE → image_of (cond valid says Annotation.Unreadable) ≡ converted.NONE
    on true says e = e
    on false says e = refl

pub no_converted : (n : Annotated) → is_geospatial n.logical ≡ true → (rule9 n ≡ true) ↔ (n.converted ≡ 255)
unfolding rule9
no_converted n g = ((λ e. by_test (eqb n.converted 255) (λ t. eqb-true _ _ t) (λ f. sym (eqb-true 255 n.converted (rw (f, stands_not, no_image n.logical n.a n.b g) at e)))), λ e. rw e)
  where
    stands_not : eqb n.logical logical.NONE ≡ false
    stands_not = is_false (eqb n.logical logical.NONE) (λ t. true≢false (sym (rw (eqb-true n.logical logical.NONE t) at g)))

-- column types -------------------------------------------------------------------------------------------------------------

-- the slot of one
slot_is : (c : ColumnType) → is_geospatial c.kind ≡ true → ((slot_of c).physical ≡ c.physical) × ((slot_of c).logical ≡ c.kind) × ((slot_of c).a ≡ c.p1) × ((slot_of c).b ≡ c.p2)
slot_is c g = let e = slot_of_logical c not_decimal not_interval in (ap (λ n. n.physical) e, ap (λ n. n.logical) e, ap (λ n. n.a) e, ap (λ n. n.b) e)
  where
    not_decimal : c.kind ≡ logical.DECIMAL → ⊥
    not_decimal e = true≢false (sym (rw e at g))

    not_interval : c.kind ≡ converted.INTERVAL → ⊥
    not_interval e = true≢false (sym (rw e at g))

-- a BYTE_ARRAY has no type length
no_length : (z : ℕ) → length_shape physical.BYTE_ARRAY (pos z) ≡ true → z ≡ 0
unfolding length_shape is_nought
no_length z e = eqb-true z 0 e

made : ℕ → ℕ → ℕ → ℕ → ℕ → ColumnType
made ph len kind p1 p2 = record { physical = ph; type_length = len; kind = kind; p1 = p1; p2 = p2 }

same_type : (c : ColumnType) (ph len kind p1 p2 : ℕ) → c.physical ≡ ph → c.type_length ≡ len → c.kind ≡ kind → c.p1 ≡ p1 → c.p2 ≡ p2 → c ≡ made ph len kind p1 p2
unfolding made
same_type c ph len kind p1 p2 a b d e f =
    ap (λ x. made x c.type_length c.kind c.p1 c.p2) a
    ∙ ap (λ x. made ph x c.kind c.p1 c.p2) b
    ∙ ap (λ x. made ph len x c.p1 c.p2) d
    ∙ ap (λ x. made ph len kind x c.p2) e
    ∙ ap (λ x. made ph len kind p1 x) f

module _ (c : ColumnType) (lawful : is_lawful 3 c ≡ true) where
  length_none : c.physical ≡ physical.BYTE_ARRAY → c.type_length ≡ 0
  length_none e = no_length c.type_length (subst (λ (code : ℕ). length_shape code (pos c.type_length) ≡ true) e (shaped 3 c lawful).1)

pub geometry_type : (c : ColumnType) → c.kind ≡ 17 → (is_lawful 3 c ≡ true) ↔ (c ≡ geometries)
unfolding made
geometry_type c k = (to, λ e. ap (is_lawful 3) e ∙ geometry_lawful)
  where
    to : is_lawful 3 c ≡ true → c ≡ geometries
    to lawful =
        let is = slot_is c (rw k) in
        let h = (geometry (slot_of c) false (is.1 ∙ k)).0 (ten 3 c lawful).1 in
        let on = sym is.0 ∙ h.0 in
        same_type c physical.BYTE_ARRAY 0 17 0 0 on (length_none c lawful on) k (sym is.2 ∙ h.1) (sym is.3 ∙ h.2)

pub geography_type : (c : ColumnType) → c.kind ≡ 18 → (is_lawful 3 c ≡ true) ↔ ((edge : ℕ) × (edge ≤ 4) × (c ≡ geographies edge))
unfolding made
geography_type c k = (to, λ h. ap (is_lawful 3) h.2 ∙ geography_lawful h.0 h.1)
  where
    to : is_lawful 3 c ≡ true → (edge : ℕ) × (edge ≤ 4) × (c ≡ geographies edge)
    to lawful =
        let is = slot_is c (rw k) in
        let h = (geography (slot_of c) false (is.1 ∙ k)).0 (ten 3 c lawful).1 in
        let on = sym is.0 ∙ h.0 in
        (c.p1, subst (λ (a : ℕ). a ≤ 4) is.2 h.1, same_type c physical.BYTE_ARRAY 0 18 c.p1 0 on (length_none c lawful on) k refl (sym is.3 ∙ h.2))

-- no logical type has code 15 or 16
pub never_type : (edition : ℕ) (c : ColumnType) → (c.kind ≡ 15) ⊎ (c.kind ≡ 16) → is_lawful edition c ≡ false
unfolding is_placed annotation_of stated_of named_of
never_type edition c k = is_false (is_lawful edition c) (λ lawful. true≢false (sym (placed edition c lawful) ∙ unplaced k))
  where
    none : (a : Bool) → (a && false) ≡ false
    none true = refl
    none false = refl

    unplaced : (c.kind ≡ 15) ⊎ (c.kind ≡ 16) → is_placed (slot_of c) false ≡ false
    unplaced (inl e) = rw (slot_of_logical c (λ q. absurd (omega (arith, e, q))) (λ q. absurd (omega (arith, e, q))), e) (stands (valid_parameters 15 c.p1 c.p2) Annotation.Unreadable c.physical (natural (pos c.type_length)) ∙ none (valid_parameters 15 c.p1 c.p2))
    unplaced (inr e) = rw (slot_of_logical c (λ q. absurd (omega (arith, e, q))) (λ q. absurd (omega (arith, e, q))), e) (stands (valid_parameters 16 c.p1 c.p2) Annotation.Unreadable c.physical (natural (pos c.type_length)) ∙ none (valid_parameters 16 c.p1 c.p2))

module _ (c : ColumnType) (g : is_geospatial c.kind ≡ true) where
  second_not : is_lawful 2 c ≡ false
  second_not = geospatial_unlawful c g

  first_not : is_lawful 1 c ≡ false
  first_not = is_false (is_lawful 1 c) (λ e. true≢false (sym (lawful_second c e) ∙ second_not))

  pub early_type : (typeJudgement 1 c ≡ Err (refusal 20 0)) × (typeJudgement 2 c ≡ Err (refusal 20 0))
  unfolding typeJudgement
  early_type = (rw (first_not, refusal_known 1 (known_of first)), rw (second_not, refusal_known 2 (known_of second)))

  pub no_order : (a b : List ℕ) → is_lawful 3 c ≡ true → order.outcome 3 c a b ≡ sided.refused (fault 0 (refusal 17 0))
  no_order a b lawful = (no_order_exactly 3 c a b).1 (lawful, inr (inr g))

  -- it stands on BYTE_ARRAY
  on_byte_array : is_lawful 3 c ≡ true → c.physical ≡ physical.BYTE_ARRAY
  on_byte_array lawful = ⊎_elim (λ k. ap (λ d. d.physical) ((geometry_type c k).0 lawful)) (λ k. ap (λ d. d.physical) ((geography_type c k).0 lawful).2) (either c.kind g)

  pub any_value : (bs : List ℕ) → is_lawful 3 c ≡ true → length bs ≤ 65536 → read.outcome 3 c bs ≡ given (value.Bytes 0 (length bs))
  any_value bs lawful most = any_bytes 3 c bs lawful right (inl on) (other logical.UNKNOWN refl) (other logical.DECIMAL refl) (⊎_elim (λ k. rw k) (λ k. rw k) (either c.kind g))
    where
      on : c.physical ≡ physical.BYTE_ARRAY
      on = on_byte_array lawful

      other : (code : ℕ) → is_geospatial code ≡ false → c.kind ≡ code → ⊥
      other code none k = true≢false (sym g ∙ ap is_geospatial k ∙ none)

      right : RightLength c (length bs)
      right =
          record {
            most = most;
            boolean = λ e. absurd (omega (arith, on, e));
            int32 = λ e. absurd (omega (arith, on, e));
            int64 = λ e. absurd (omega (arith, on, e));
            int96 = λ e. absurd (omega (arith, on, e));
            float = λ e. absurd (omega (arith, on, e));
            double = λ e. absurd (omega (arith, on, e));
            fixed = λ e. absurd (omega (arith, on, e));
            decimal = λ k f. absurd (other logical.DECIMAL refl k);
          }
