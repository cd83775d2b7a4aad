-- Rules 10 and 11 in the editions: what keeps the first's keeps the second's, and what keeps the second's alone is a DECIMAL whose scale equals its precision;
-- what is neither GEOMETRY nor GEOGRAPHY keeps the third's exactly where it keeps the second's and is no INT96.
-- Assumes nothing.
use Prim.Native.Nat.{ℕ, ◌≤◌, ◌<◌}
use mathlib.Core.Path.{◌≡◌, refl, sym, ◌∙◌}
use mathlib.Core.Logic.{◌↔◌}
use mathlib.Core.List.{List, [], ◌∷◌}
use mathlib.Core.Bool.{Bool, true, false, true≢false, not, cond, ◌&&◌, ◌||◌}
use native.Mathlib.Omega.{arith}
use lib.Dec.{eqb, leb, ltb}
use lib.IntN.{ℤ, pos, negsuc}
use lib.Signed.{le_z}
use borrow.Author.Tests.{not-true, eqb-true, eqb-false, le-leb, lt-ltb, leb-true, ltb-true}
use Rattle.laws.proofs.BoolLaws.{and_left, and_both, both_and, and-true, is_false, by_test}
use Rattle.edition.specs.Editions.{FIRST, SECOND, THIRD, scale_may_equal, int96_retired, has_geospatial}
use Rattle.parquet.specs.Physical as physical
use Rattle.parquet.specs.Logical as logical
use Rattle.parquet.specs.Logical.{is_geospatial}
use Rattle.logical_type.specs.Table.{lookup}
use Rattle.logical_type.specs.Parameters.{valid_parameters}
use Rattle.logical_type.specs.Spelling.{code_of, stated_of}
use Rattle.logical_type.specs.Backward.{backward_table, backward_of}
use Rattle.logical_type.proofs.ReadingLaws.{Spells, spelled_stated}
use Rattle.logical_type.specs.declared.types.Annotation.{Annotation}
use Rattle.annotation.specs.Signed.{natural}
use Rattle.annotation.specs.Meaning.{annotation_of}
use Rattle.annotation.specs.Rule10.{annotation_on, says_geospatial, is_placed, is_retired, rule10}
use Rattle.annotation.specs.Rule11.{scale_allowed, ordered, physical_holds, is_decimal, decimal_holds, digits_allowed, rule11}
use Rattle.annotation.specs.Kinds.{PLAIN_LEAF, PLAIN_GROUP, bare_kind, kind_as, kind_of}
use Rattle.annotation.specs.declared.slot.Annotated.{Annotated}
use Rattle.annotation.specs.declared.resolution.Kind.{Kind}

-- precision and scale in order --------------------------------------------------------------------------------------------

in_order : (p s : ℕ) (beside : Bool) → ((leb 1 p && leb 0 s) && beside) ≡ true → (1 ≤ p) × (beside ≡ true)
in_order p s beside e =
    let both = and_both (leb 1 p && leb 0 s) beside e in
    (leb-true 1 p (and_left (leb 1 p) (leb 0 s) both.0), both.1)

pub first_ordered : (p s : ℕ) → (ordered FIRST (pos p) (pos s) ≡ true) ↔ ((1 ≤ p) × (s < p))
unfolding ordered scale_allowed scale_may_equal
first_ordered p s = (
  λ e. (let o = in_order p s (ltb s p) e in (o.0, ltb-true s p o.1)),
  λ h. rw (le-leb 1 p h.0, le-leb 0 s (omega arith), lt-ltb s p h.1),
)

pub second_ordered : (p s : ℕ) → (ordered SECOND (pos p) (pos s) ≡ true) ↔ ((1 ≤ p) × (s ≤ p))
unfolding ordered scale_allowed scale_may_equal
second_ordered p s = (
  λ e. (let o = in_order p s (leb s p) e in (o.0, leb-true s p o.1)),
  λ h. rw (le-leb 1 p h.0, le-leb 0 s (omega arith), le-leb s p h.1),
)

-- neither is negative
pub ordered_precision : (edition p : ℕ) (s : ℤ) → ordered edition (negsuc p) s ≡ false
unfolding ordered
ordered_precision edition p s = refl

pub ordered_scale : (edition : ℕ) (p : ℤ) (s : ℕ) → ordered edition p (negsuc s) ≡ false
unfolding ordered
ordered_scale edition p s = either (le_z (pos 1) p) (scale_allowed edition p (negsuc s))
  where
    either : (a b : Bool) → ((a && false) && b) ≡ false
    either true b = refl
    either false b = refl

ordered_second : (p s : ℤ) → ordered FIRST p s ≡ true → ordered SECOND p s ≡ true
ordered_second (pos p) (pos s) e =
    let h = (first_ordered p s).0 e in
    (second_ordered p s).1 (h.0, omega (arith, h.1))
ordered_second (pos p) (negsuc s) e = absurd (true≢false (sym e ∙ ordered_scale FIRST (pos p) s))
ordered_second (negsuc p) s e = absurd (true≢false (sym e ∙ ordered_precision FIRST p s))

-- what is in order in the second edition is so in the first but where the two are equal
ordered_first : (p s : ℤ) → ordered SECOND p s ≡ true → ordered FIRST p s ≡ not (eqb (natural p) (natural s))
unfolding natural
ordered_first (pos p) (pos s) e = on (eqb p s) refl
  where
    h : (1 ≤ p) × (s ≤ p)
    h = (second_ordered p s).0 e

    on : (b : Bool) → eqb p s ≡ b → ordered FIRST (pos p) (pos s) ≡ not b
    on true q =
        by_test (ordered FIRST (pos p) (pos s)) (λ o. absurd (let l = ((first_ordered p s).0 o).1 in omega (arith, eqb-true p s q))) (λ o. o)
    on false q = (first_ordered p s).1 (h.0, (let n = eqb-false p s q in omega (arith, h.1)))
ordered_first (pos p) (negsuc s) e = absurd (true≢false (sym e ∙ ordered_scale SECOND (pos p) s))
ordered_first (negsuc p) s e = absurd (true≢false (sym e ∙ ordered_precision SECOND p s))

-- rule 11 -----------------------------------------------------------------------------------------------------------------

holds_second : (n : Annotated) → decimal_holds FIRST n ≡ true → decimal_holds SECOND n ≡ true
unfolding decimal_holds
holds_second n e =
    let both = and_both (ordered FIRST n.precision n.scale) (physical_holds n.physical (natural n.type_length) (natural n.precision)) e in
    both_and (ordered SECOND n.precision n.scale) _ (ordered_second n.precision n.scale both.0) both.1

-- what keeps the first edition's keeps the second's
pub eleven_second : (n : Annotated) (under_map_of : Bool) → rule11 FIRST n under_map_of ≡ true → rule11 SECOND n under_map_of ≡ true
unfolding rule11
eleven_second n under_map_of e = on (is_decimal (annotation_of n under_map_of)) e
  where
    on : (b : Bool) → (not b || decimal_holds FIRST n) ≡ true → (not b || decimal_holds SECOND n) ≡ true
    on true f = holds_second n f
    on false f = refl

-- a kind of DECIMAL whose scale equals its precision
unfoldable pub is_equal : Kind → Bool
is_equal k = eqb k.kind logical.DECIMAL && eqb k.p1 k.p2

holds_first : (n : Annotated) → decimal_holds SECOND n ≡ true → decimal_holds FIRST n ≡ not (eqb (natural n.precision) (natural n.scale))
unfolding decimal_holds
holds_first n e =
    let both = and_both (ordered SECOND n.precision n.scale) (physical_holds n.physical (natural n.type_length) (natural n.precision)) e in
    rw (both.1, ordered_first n.precision n.scale both.0) (and-true (not (eqb (natural n.precision) (natural n.scale))))

-- and what keeps the second's keeps the first's but for these
pub eleven_first : (n : Annotated) (under_map_of : Bool) → rule11 SECOND n under_map_of ≡ true → rule11 FIRST n under_map_of ≡ not (is_equal (kind_of n under_map_of))
unfolding rule11 kind_of is_equal
eleven_first n under_map_of e = on (annotation_of n under_map_of) e
  where
    plain : (b : Bool) → true ≡ not (eqb (cond b (bare_kind PLAIN_GROUP) (bare_kind PLAIN_LEAF)).kind logical.DECIMAL && eqb (cond b (bare_kind PLAIN_GROUP) (bare_kind PLAIN_LEAF)).p1 (cond b (bare_kind PLAIN_GROUP) (bare_kind PLAIN_LEAF)).p2)
    plain true = refl
    plain false = refl

    on : (says : Annotation) → digits_allowed SECOND says n ≡ true → digits_allowed FIRST says n ≡ not (eqb (kind_as says n).kind logical.DECIMAL && eqb (kind_as says n).p1 (kind_as says n).p2)
    on Annotation.Plain f = plain (eqb n.physical physical.GROUP)
    on (Annotation.Logical l) f = by_test (eqb (code_of l) logical.DECIMAL) (λ d. rw d (holds_first n (rw d at f))) (λ d. rw (d, d))
    on Annotation.Interval f = refl
    on Annotation.Unreadable f = plain (eqb n.physical physical.GROUP)

-- the third edition -------------------------------------------------------------------------------------------------------

-- of rule 10 the first two editions ask the same
pub ten_second : (n : Annotated) (under_map_of : Bool) → rule10 SECOND n under_map_of ≡ rule10 FIRST n under_map_of
unfolding rule10 is_retired int96_retired has_geospatial
ten_second n under_map_of = refl

-- what document 01 does, and that it is neither GEOMETRY nor GEOGRAPHY
pub ten_before : (n : Annotated) (under_map_of : Bool) → rule10 SECOND n under_map_of ≡ (not (says_geospatial (annotation_of n under_map_of)) && is_placed n under_map_of)
unfolding rule10 is_retired int96_retired has_geospatial
ten_before n under_map_of =
    by_test (eqb n.physical physical.INT96) (λ t. rw (t, and-true (says_geospatial (annotation_of n under_map_of)))) (λ f. rw (f, and-true (says_geospatial (annotation_of n under_map_of))))

-- and the third what document 01 does, and that there is no INT96
pub ten_third : (n : Annotated) (under_map_of : Bool) → rule10 THIRD n under_map_of ≡ (not (eqb n.physical physical.INT96) && is_placed n under_map_of)
unfolding rule10 is_retired int96_retired has_geospatial
ten_third n under_map_of =
    rw (and-true (eqb n.physical physical.INT96)) (by_test (says_geospatial (annotation_of n under_map_of)) (λ t. rw t) (λ f. rw f))

-- a logical type that is said has the code that stands
said_code : (n : Annotated) (says : Annotation) → Spells says n.logical n.a n.b → says_geospatial says ≡ true → is_geospatial n.logical ≡ true
said_code n Annotation.Plain s e = absurd s
said_code n (Annotation.Logical l) s e = rw (← s.0) e
said_code n Annotation.Interval s e = absurd s
said_code n Annotation.Unreadable s e = absurd (true≢false (sym e))

-- no converted type means GEOMETRY or GEOGRAPHY
none_says : List (ℕ × Annotation) → Bool
none_says [] = true
none_says (entry ∷ table) = not (says_geospatial entry.1) && none_says table

none_said : (code : ℕ) (table : List (ℕ × Annotation)) → none_says table ≡ true → says_geospatial (lookup code table Annotation.Unreadable) ≡ false
unfolding none_says
none_said code [] e = refl
none_said code (entry ∷ table) e =
    let both = and_both (not (says_geospatial entry.1)) (none_says table) e in
    by_test (eqb code entry.0) (λ t. rw t (not-true _ both.0)) (λ f. rw f (none_said code table both.1))

converted_not : (code : ℕ) (under_map_of : Bool) → says_geospatial (backward_of code under_map_of) ≡ false
unfolding backward_of none_says
converted_not code true = none_said code (backward_table true) refl
converted_not code false = none_said code (backward_table false) refl

-- so a slot says so only where its logical code does
pub not_said : (n : Annotated) (under_map_of : Bool) → is_geospatial n.logical ≡ false → says_geospatial (annotation_of n under_map_of) ≡ false
unfolding annotation_of
not_said n under_map_of e = by_test (eqb n.logical logical.NONE) (λ t. rw t (alone (valid_parameters logical.NONE n.a n.b))) (λ f. rw f stated)
  where
    alone : (valid : Bool) → says_geospatial (cond valid (backward_of n.converted under_map_of) Annotation.Unreadable) ≡ false
    alone true = converted_not n.converted under_map_of
    alone false = refl

    stated : says_geospatial (stated_of n.logical n.a n.b) ≡ false
    stated = is_false _ (λ said. true≢false (sym (said_code n (stated_of n.logical n.a n.b) (spelled_stated n.logical n.a n.b) said) ∙ e))

-- where it does, the second edition's rule 10 is broken
pub geospatial_breaks : (n : Annotated) (under_map_of : Bool) → is_geospatial n.logical ≡ true → rule10 SECOND n under_map_of ≡ false
unfolding is_placed annotation_of
geospatial_breaks n under_map_of e = ten_before n under_map_of ∙ rw stands (stated (stated_of n.logical n.a n.b) (spelled_stated n.logical n.a n.b))
  where
    stands : eqb n.logical logical.NONE ≡ false
    stands = is_false (eqb n.logical logical.NONE) (λ t. true≢false (sym (rw (eqb-true n.logical logical.NONE t) at e)))

    stated : (says : Annotation) → Spells says n.logical n.a n.b → (not (says_geospatial says) && annotation_on says n.physical (natural n.type_length)) ≡ false
    stated Annotation.Plain s = absurd s
    stated (Annotation.Logical l) s = rw (s.0, e)
    stated Annotation.Interval s = absurd s
    stated Annotation.Unreadable s = refl

-- of rule 11 it asks what the second does
pub eleven_third : (n : Annotated) (under_map_of : Bool) → rule11 THIRD n under_map_of ≡ rule11 SECOND n under_map_of
unfolding rule11 decimal_holds ordered scale_allowed scale_may_equal
eleven_third n under_map_of = refl
