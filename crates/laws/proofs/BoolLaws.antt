-- Laws of truth values and of tests: when both hold, when one of two does, and a test at each number below a bound.
-- Assumes nothing.
use Prim.Native.Nat.{ℕ, zero, suc, ◌<◌}
use native.Mathlib.Omega.{arith}
use native.Mathlib.Decide.{ℕ_discrete}
use mathlib.Core.Path.{◌≡◌, refl, sym, ap, ◌∙◌}
use mathlib.Core.Logic.{◌⊎◌, inl, inr}
use mathlib.Core.Bool.{Bool, true, false, not, ◌&&◌, ◌||◌}
use lib.Dec.{T}

pub and_left : (a b : Bool) → (a && b) ≡ true → a ≡ true
and_left true b e = refl
and_left false b e = e

pub and_right : (a b : Bool) → (a && b) ≡ true → b ≡ true
and_right true b e = e
and_right false b e = cc

pub and_both : (a b : Bool) → (a && b) ≡ true → (a ≡ true) × (b ≡ true)
and_both a b e = (and_left a b e, and_right a b e)

pub both_and : (a b : Bool) → a ≡ true → b ≡ true → (a && b) ≡ true
both_and true b p q = q
both_and false b p q = p

pub and-true : (b : Bool) → (b && true) ≡ b
and-true true = refl
and-true false = refl

pub and_assoc : (a b c : Bool) → ((a && b) && c) ≡ (a && (b && c))
and_assoc true b c = refl
and_assoc false b c = refl

-- where the first of two tests asks for the second, and holds, so does the second
pub implied : (a b : Bool) → (not a || b) ≡ true → a ≡ true → b ≡ true
implied true b e f = e
implied false b e f = cc

-- where the first of two tests fails and one holds, the second does
pub or_rest : (a b : Bool) → a ≡ false → (a || b) ≡ true → b ≡ true
or_rest true b e t = cc
or_rest false b e t = t

-- which of two tests holds where one does, and that neither does where none does
pub or_cases : (a b : Bool) → (a || b) ≡ true → (a ≡ true) ⊎ (b ≡ true)
or_cases true b e = inl refl
or_cases false b e = inr e

pub or_neither : (a b : Bool) → (a || b) ≡ false → (a ≡ false) × (b ≡ false)
or_neither true b e = ((cc), (cc))
or_neither false b e = (refl, e)

-- two tests that pass together are one
pub same_test : (s t : Bool) → (s ≡ true → t ≡ true) → (t ≡ true → s ≡ true) → s ≡ t
same_test true true f g = refl
same_test true false f g = sym (f refl)
same_test false true f g = g refl
same_test false false f g = refl

-- by a test's value, with the equation
pub by_test {ℓ} : {X : Type ℓ} (b : Bool) → (b ≡ true → X) → (b ≡ false → X) → X
by_test true f g = f refl
by_test false f g = g refl

-- the same of `T`, which holds of true alone
pub T_true : (t : Bool) → T t → t ≡ true
T_true true h = refl
T_true false h = absurd h

pub T_false : (t : Bool) → (T t → ⊥) → t ≡ false
T_false true h = absurd (h tt)
T_false false h = refl

pub T_and_left : (a b : Bool) → T (a && b) → T a
T_and_left true b t = tt
T_and_left false b t = t

pub T_and_right : (a b : Bool) → T (a && b) → T b
T_and_right true b t = t
T_and_right false b t = absurd t

pub T_or_left : (a b : Bool) → T a → T (a || b)
T_or_left true b h = tt
T_or_left false b h = absurd h

pub T_or_right : (a b : Bool) → T b → T (a || b)
T_or_right true b h = tt
T_or_right false b h = h

pub T_or_cases : {C : Type 0} (a b : Bool) → T (a || b) → (T a → C) → (T b → C) → C
T_or_cases true b t f g = f tt
T_or_cases false b t f g = g t

-- a test at each number below n
abbrev pub all_below : ℕ → (ℕ → Bool) → Bool
all_below zero p = true
all_below (suc n) p = p n && all_below n p

pub at_each : (n : ℕ) (p : ℕ → Bool) → all_below n p ≡ true → (i : ℕ) → i < n → p i ≡ true
at_each zero p e i h = absurd (omega arith)
at_each (suc n) p e i h = last (ℕ_discrete i n) (at_each n p (and_both (p n) (all_below n p) e).1 i)
  where
    last : Dec (i ≡ n) → (i < n → p i ≡ true) → p i ≡ true
    last (yes q) f = ap p q ∙ (and_both (p n) (all_below n p) e).0
    last (no q) f = f (omega arith)

-- what is not true is false
pub is_false : (t : Bool) → (t ≡ true → ⊥) → t ≡ false
is_false true h = absurd (h refl)
is_false false h = refl
