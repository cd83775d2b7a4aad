-- A slot keeps rules 9, 10 and 11 exactly where resolving it is not refused; and what refuses a column type.
use Prim.Native.Nat.{ℕ}
use mathlib.Core.Path.{◌≡◌, refl}
use mathlib.Core.Bool.{Bool, true, false, cond, ◌&&◌}
use Rattle.std.specs.Prelude.{Ok, Err, is_ok}
use Rattle.refusal.specs.Numbers.{UNKNOWN_TYPE}
use Rattle.refusal.specs.Outcome.{unplaced, unknown_edition}
use Rattle.refusal.specs.declared.answers.Refusal.{Refusal}
use Rattle.edition.specs.Editions.{is_known}
use Rattle.laws.proofs.BoolLaws.{and_left}
use Rattle.annotation.specs.Rule9.{rule9}
use Rattle.annotation.specs.Rule10.{rule10}
use Rattle.annotation.specs.Rule11.{rule11}
use Rattle.annotation.specs.Kinds.{kind_of}
use Rattle.annotation.specs.Outcome.{resolution_of}
use Rattle.annotation.specs.declared.slot.Annotated.{Annotated}
use Rattle.annotation.specs.declared.resolution.Kind.{Kind}
use Rattle.annotation.specs.declared.rules.Broken.{Broken}
use Rattle.column_type.specs.Lawful.{annotation_right, slot_keeps, is_lawful, type_refusal}
use Rattle.column_type.specs.declared.types.ColumnType.{ColumnType}

pub annotation_right_unrefused : (edition : ℕ) (n : Annotated) → is_ok (resolution_of edition n false) ≡ annotation_right edition n
unfolding resolution_of
annotation_right_unrefused edition n = cases (rule9 n) (rule10 edition n false) (rule11 edition n false) (kind_of n false)
  where
    cases : (nine ten eleven : Bool) (k : Kind) → is_ok (cond nine (cond ten (cond eleven (Ok k) (Err Broken.BadDecimal)) (Err Broken.Misplaced)) (Err Broken.Disagreement)) ≡ nine && ten && eleven
    cases true true true k = refl
    cases true true false k = refl
    cases true false eleven k = refl
    cases false ten eleven k = refl

-- only a known edition has lawful column types
pub lawful_known : (edition : ℕ) (c : ColumnType) → is_lawful edition c ≡ true → is_known edition ≡ true
unfolding is_lawful
lawful_known edition c e = and_left (is_known edition) (slot_keeps edition c) e

pub unknown_unlawful : (edition : ℕ) (c : ColumnType) → is_known edition ≡ false → is_lawful edition c ≡ false
unfolding is_lawful
unknown_unlawful edition c e = rw e

-- a column type is refused with 20 in a known edition, and with 21 in any other
pub refusal_known : (edition : ℕ) → is_known edition ≡ true → type_refusal edition ≡ unplaced UNKNOWN_TYPE
unfolding type_refusal
refusal_known edition e = rw e

pub refusal_unknown : (edition : ℕ) → is_known edition ≡ false → type_refusal edition ≡ unknown_edition
unfolding type_refusal
refusal_unknown edition e = rw e

-- so what holds of both refusals holds of it
pub refusal_either : (edition : ℕ) (P : Refusal → Type 0) → P (unplaced UNKNOWN_TYPE) → P unknown_edition → P (type_refusal edition)
unfolding type_refusal
refusal_either edition P h k = by (is_known edition)
  where
    by : (b : Bool) → P (cond b (unplaced UNKNOWN_TYPE) unknown_edition)
    by true = h
    by false = k
