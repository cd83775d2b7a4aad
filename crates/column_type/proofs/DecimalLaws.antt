-- What rules 9, 10 and 11 ask of the slot of a DECIMAL column. Assumes nothing.
use Prim.Native.Nat.{ℕ, ◌≤◌}
use mathlib.Core.Path.{◌≡◌, refl, sym, ap, ◌∙◌}
use mathlib.Core.Bool.{Bool, true, false, true≢false, not, cond, ◌&&◌}
use native.Mathlib.Omega.{arith}
use lib.Dec.{leb, ltb, eqb, leb-zero}
use lib.IntN.{pos}
use borrow.Author.Tests.{leb-true, ltb-true, le-leb, lt-ltb, eqb-true}
use Rattle.edition.specs.Editions.{scale_may_equal, int96_retired}
use Rattle.laws.proofs.BoolLaws.{and_right, and-true, and_assoc, by_test}
use Rattle.decimal_bytes.specs.Precision.{is_length}
use Rattle.decimal_bytes.proofs.PrecisionLaws.{is_length_bounds}
use Rattle.parquet.specs.Physical.{INT96}
use Rattle.parquet.specs.Logical as logical
use Rattle.annotation.specs.Signed.{natural}
use Rattle.annotation.specs.Meaning.{annotation_of}
use Rattle.annotation.specs.Rule9.{rule9}
use Rattle.annotation.specs.Rule10.{decimal_on, is_placed, is_retired, rule10}
use Rattle.annotation.specs.Rule11.{scale_allowed, ordered, physical_holds, decimal_holds, rule11}
use Rattle.logical_type.specs.Parameters.{valid_parameters}
use Rattle.logical_type.specs.Spelling.{named_of, stated_of}
use Rattle.column_type.specs.Lawful.{slot_of, byte_numbers, signed_numbers, fits, is_leaf, annotation_right, slot_keeps}
use Rattle.column_type.specs.Steps.{stands_on}
use Rattle.column_type.specs.declared.types.ColumnType.{ColumnType}
use Rattle.column_type.proofs.FitsLaws.{is_leaf_upto}

swap : (a o h : Bool) → (a && (o && h)) ≡ (o && (a && h))
swap true true h = refl
swap true false h = refl
swap false true h = refl
swap false false h = refl

-- none that a DECIMAL may stand on is retired
decimal_unretired : (edition code : ℕ) → (not (is_retired edition code) && decimal_on code) ≡ decimal_on code
unfolding is_retired
decimal_unretired edition code = by_test (eqb code INT96) (λ t. rw (eqb-true code INT96 t) (either (int96_retired edition))) (λ f. rw f)
  where
    either : (b : Bool) → (not b && false) ≡ false
    either true = refl
    either false = refl

rules : (edition : ℕ) (c : ColumnType) → eqb c.kind logical.DECIMAL ≡ true
    → annotation_right edition (slot_of c) ≡ (decimal_on c.physical && (((leb 1 c.p1 && leb 0 c.p2) && scale_allowed edition (pos c.p1) (pos c.p2)) && physical_holds c.physical c.type_length c.p1))
unfolding slot_of rule9 is_placed rule10 rule11 annotation_of stated_of named_of valid_parameters decimal_holds ordered natural
rules edition c e = rw (e, decimal_unretired edition c.physical)

-- its digits are in order: precision at least 1, and a scale that the edition allows
abbrev in_order : ℕ → ColumnType → Bool
in_order edition c = leb 1 c.p1 && scale_allowed edition (pos c.p1) (pos c.p2)

decimal_kept : (edition : ℕ) (c : ColumnType) → eqb c.kind logical.DECIMAL ≡ true
    → annotation_right edition (slot_of c) ≡ (in_order edition c && (decimal_on c.physical && physical_holds c.physical c.type_length c.p1))
decimal_kept edition c e =
    rules edition c e
    ∙ ap (λ (b : Bool). decimal_on c.physical && (((leb 1 c.p1 && b) && scale_allowed edition (pos c.p1) (pos c.p2)) && physical_holds c.physical c.type_length c.p1)) (leb-zero c.p2)
    ∙ ap (λ (b : Bool). decimal_on c.physical && ((b && scale_allowed edition (pos c.p1) (pos c.p2)) && physical_holds c.physical c.type_length c.p1)) (and-true (leb 1 c.p1))
    ∙ swap (decimal_on c.physical) (in_order edition c) (physical_holds c.physical c.type_length c.p1)

-- a scale that is allowed is at most the precision
allowed_most : (edition p s : ℕ) → scale_allowed edition (pos p) (pos s) ≡ true → s ≤ p
unfolding scale_allowed
allowed_most edition p s e = either (scale_may_equal edition) e
  where
    either : (b : Bool) → cond b (leb s p) (ltb s p) ≡ true → s ≤ p
    either true q = leb-true s p q
    either false q = let h = ltb-true s p q in omega arith

-- ---- a DECIMAL judged without its slot

-- whole numbers, whose type length is 0
pub stands_whole : (length : ℕ) (holds : Bool) → (eqb length 0 && holds) ≡ (ltb length signed_numbers && true && eqb length 0 && (true && holds))
stands_whole length holds = go (eqb length 0) refl
  where
    never : (b : Bool) → ((b && true) && false) ≡ false
    never true = refl
    never false = refl

    go : (t : Bool) → eqb length 0 ≡ t → (t && holds) ≡ (ltb length signed_numbers && true && t && (true && holds))
    go true e = rw (eqb-true length 0 e)
    go false e = sym (ap (λ (b : Bool). b && (true && holds)) (never (ltb length signed_numbers)))

-- FIXED, whose type length is one of a decimal
pub stands_fixed : (length : ℕ) (holds : Bool)
    → (is_length length && holds) ≡ (ltb length signed_numbers && true && leb 1 length && (true && (is_length length && holds)))
stands_fixed length holds = go (is_length length) refl
  where
    never : (a b : Bool) → false ≡ (a && true && b && false)
    never true true = refl
    never true false = refl
    never false b = refl

    go : (t : Bool) → is_length length ≡ t → (t && holds) ≡ (ltb length signed_numbers && true && leb 1 length && (true && (t && holds)))
    go true e =
        let bounds = is_length_bounds length e in
        rw (lt-ltb length signed_numbers (omega (arith, bounds.1)), le-leb 1 length bounds.0)
    go false e = never (ltb length signed_numbers) (leb 1 length)

-- the numbers that the other tests leave no room for
lawful_tests : (p1 less fits leaf shape digits byte p2 : Bool) → (leaf ≡ true → byte ≡ true) → (p1 ≡ true → less ≡ true → p2 ≡ true)
    → (p1 && less && (fits && leaf && shape && digits)) ≡ (byte && fits && true && p1 && p2 && leaf && shape && (less && digits))
lawful_tests p1 less fits true shape digits false p2 f g = absurd (true≢false (sym (f refl)))
lawful_tests true true true false shape digits false p2 f g = refl
lawful_tests true true false false shape digits false p2 f g = refl
lawful_tests true false fits false shape digits false p2 f g = refl
lawful_tests false less fits false shape digits false p2 f g = refl
lawful_tests true true false leaf shape digits true p2 f g = refl
lawful_tests true false false leaf shape digits true p2 f g = refl
lawful_tests false less false leaf shape digits true p2 f g = refl
lawful_tests false less true leaf shape digits true p2 f g = refl
lawful_tests true true true leaf shape digits true true f g = refl
lawful_tests true true true leaf shape digits true false f g = absurd (true≢false (sym (g refl refl)))
lawful_tests true false true true true digits true true f g = refl
lawful_tests true false true true false digits true true f g = refl
lawful_tests true false true false shape digits true true f g = refl
lawful_tests true false true leaf shape digits true false f g = refl

pub keeps_decimal : (edition : ℕ) (c : ColumnType) → eqb c.kind logical.DECIMAL ≡ true
    → (ltb c.p1 signed_numbers && leb 1 c.p1 && scale_allowed edition (pos c.p1) (pos c.p2) && stands_on c.physical c.type_length c.p1) ≡ slot_keeps edition c
unfolding stands_on slot_keeps fits
keeps_decimal edition c e =
    ap (λ (b : Bool). b && stands_on c.physical c.type_length c.p1) (and_assoc (ltb c.p1 signed_numbers) (leb 1 c.p1) (scale_allowed edition (pos c.p1) (pos c.p2)))
    ∙ rw (decimal_kept edition c e, e, eqb-true c.kind logical.DECIMAL e)
    (lawful_tests (ltb c.p1 signed_numbers) (in_order edition c) (ltb c.type_length signed_numbers) (is_leaf c.physical) _ _ (ltb c.physical byte_numbers) (ltb c.p2 signed_numbers)
    (λ l. lt-ltb c.physical byte_numbers (let h = leb-true c.physical 7 (is_leaf_upto c.physical ∙ l) in omega arith))
    (λ p q. lt-ltb c.p2 signed_numbers
    (let h = ltb-true c.p1 signed_numbers p in let k = allowed_most edition c.p1 c.p2 (and_right (leb 1 c.p1) _ q) in omega arith)))
