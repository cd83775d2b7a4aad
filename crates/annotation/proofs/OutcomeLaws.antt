-- The numbers of a slot resolve exactly where rules 9, 10 and 11 hold, to their kind; else the first that fails is answered.
-- Assumes nothing.
use Prim.Native.Nat.{ℕ}
use mathlib.Core.Path.{◌≡◌, refl}
use mathlib.Core.Bool.{Bool, true, false, cond}
use native.Mathlib.Omega.{arith}
use lib.Dec.{eqb}
use Rattle.std.specs.Prelude.{Result, Ok, Err}
use Rattle.annotation.specs.Rule9.{rule9}
use Rattle.annotation.specs.Rule10.{rule10}
use Rattle.annotation.specs.Rule11.{rule11}
use Rattle.annotation.specs.Kinds.{kind_of}
use Rattle.annotation.specs.Outcome.{number_of, resolution_of, refusal_of}
use Rattle.annotation.specs.declared.slot.Annotated.{Annotated}
use Rattle.annotation.specs.declared.resolution.Kind.{Kind}
use Rattle.annotation.specs.declared.rules.Broken.{Broken}

-- rules 9, 10 and 11 all hold in an edition
pub record Keeps (edition : ℕ) (n : Annotated) (under_map_of : Bool) : Type 0 where
  pub nine : rule9 n ≡ true
  pub ten : rule10 edition n under_map_of ≡ true
  pub eleven : rule11 edition n under_map_of ≡ true

-- a refusal has a number
pub number_stands : (broken : Broken) → eqb (number_of broken) 0 ≡ false
number_stands Broken.Disagreement = refl
number_stands Broken.Misplaced = refl
number_stands Broken.BadDecimal = refl

-- where they hold, the numbers resolve to their kind
pub resolved_of_keeps : (edition : ℕ) (n : Annotated) (under_map_of : Bool) → Keeps edition n under_map_of → resolution_of edition n under_map_of ≡ Ok (kind_of n under_map_of)
unfolding resolution_of
resolved_of_keeps edition n under_map_of k = rw (k.nine, k.ten, k.eleven)

-- the three tests in order, as truth values
InOrder : Bool → Bool → Bool → Kind → Result Kind Broken
InOrder nine ten eleven k = cond nine (cond ten (cond eleven (Ok k) (Err Broken.BadDecimal)) (Err Broken.Misplaced)) (Err Broken.Disagreement)

all_held : (nine ten eleven : Bool) (k k' : Kind) → InOrder nine ten eleven k ≡ Ok k' → (nine ≡ true) × (ten ≡ true) × (eleven ≡ true) × (k ≡ k')
unfolding InOrder
all_held true true true k k' e = (refl, refl, refl, (cc))
all_held true true false k k' e = (refl, refl, (cc), (cc))
all_held true false eleven k k' e = (refl, (cc), (cc), (cc))
all_held false ten eleven k k' e = ((cc), (cc), (cc), (cc))

-- numbers that resolve keep the three rules, and what they resolve to is their kind
pub keeps_of_resolved : (edition : ℕ) (n : Annotated) (under_map_of : Bool) (k : Kind) → resolution_of edition n under_map_of ≡ Ok k → Keeps edition n under_map_of
unfolding resolution_of InOrder
keeps_of_resolved edition n under_map_of k e =
    let held = all_held (rule9 n) (rule10 edition n under_map_of) (rule11 edition n under_map_of) (kind_of n under_map_of) k e in
    record { nine = held.0; ten = held.1; eleven = held.2 }

pub kind_of_resolved : (edition : ℕ) (n : Annotated) (under_map_of : Bool) (k : Kind) → resolution_of edition n under_map_of ≡ Ok k → kind_of n under_map_of ≡ k
unfolding resolution_of InOrder
kind_of_resolved edition n under_map_of k e = (all_held (rule9 n) (rule10 edition n under_map_of) (rule11 edition n under_map_of) (kind_of n under_map_of) k e).3

-- numbers that are not refused resolve to their kind
pub resolved_of_refusal : (edition : ℕ) (n : Annotated) (under_map_of : Bool) → 0 ≡ refusal_of (resolution_of edition n under_map_of) → resolution_of edition n under_map_of ≡ Ok (kind_of n under_map_of)
unfolding resolution_of InOrder
resolved_of_refusal edition n under_map_of e = cases (rule9 n) (rule10 edition n under_map_of) (rule11 edition n under_map_of) e
  where
    cases : (nine ten eleven : Bool) → 0 ≡ refusal_of (InOrder nine ten eleven (kind_of n under_map_of)) → InOrder nine ten eleven (kind_of n under_map_of) ≡ Ok (kind_of n under_map_of)
    cases true true true z = refl
    cases true true false z = absurd (omega arith)
    cases true false eleven z = absurd (omega arith)
    cases false ten eleven z = absurd (omega arith)
