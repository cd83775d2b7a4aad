-- Which refusal encoding gives: each exactly where document 01 has it, in the order 20, 18, 19.
use Prim.Native.Nat.{ℕ}
use native.Mathlib.Omega.{arith}
use mathlib.Core.Path.{◌≡◌, refl, sym, ap, ◌∙◌}
use mathlib.Core.Bool.{true, false}
use mathlib.Core.Logic.{◌↔◌}
use mathlib.Core.Option.{Option, none, some}
use lib.IntN.{ℤ}
use Rattle.refusal.specs.Outcome.{Outcome, given, refused}
use Rattle.timestamp.specs.declared.fields.Fields.{Fields}
use Rattle.logical_type.specs.declared.types.TimeUnit.{TimeUnit}
use Rattle.timestamp.specs.Units.{ticks_per_second_of}
use Rattle.timestamp.specs.Count.{is_date_time, count_of}
use Rattle.timestamp.specs.Outcomes.{no_date_time, not_representable, unknown_unit, is_signed64, encoding_in, encoding}
use Rattle.laws.proofs.BoolLaws.{by_test}
use Rattle.timestamp.proofs.CountLaws.{encoding_none, encoding_beyond, encoding_good}

-- the number of a refusal, and 0 of what is given
abbrev pub number : Outcome ℤ → ℕ
number (refused r) = r.number
number (given count) = 0

-- one answer has one number
pub other : {X : Type 0} {o : Outcome ℤ} (a b : Outcome ℤ) → o ≡ a → o ≡ b → (number a ≡ number b → ⊥) → X
other a b p q h = absurd (h (ap number (sym p ∙ q)))

-- what encoding answers in a unit: three answers, each with what it takes
by_answer : {X : Type 0} (t : ℕ) (f : Fields) → (is_date_time t f ≡ false → encoding_in t f ≡ no_date_time → X) → (is_date_time t f ≡ true → is_signed64 (count_of t f) ≡ false → encoding_in t f ≡ not_representable → X) → (encoding_in t f ≡ given (count_of t f) → X) → X
by_answer t f on-18 on-19 on-count =
    by_test (is_date_time t f)
    (λ p. by_test (is_signed64 (count_of t f)) (λ q. on-count (encoding_good t f p q)) (λ q. on-19 p q (encoding_beyond t f p q)))
    (λ p. on-18 p (encoding_none t f p))

-- 20 exactly where no unit is named
pub refused_20 : (u : Option TimeUnit) (f : Fields) → (encoding u f ≡ unknown_unit) ↔ (u ≡ none)
refused_20 u f = (only u, λ e. ap (λ (v : Option TimeUnit). encoding v f) e)
  where
    only : (u : Option TimeUnit) → encoding u f ≡ unknown_unit → u ≡ none
    only none e = refl
    only (some unit) e =
        by_answer (ticks_per_second_of unit) f
        (λ p a. other no_date_time unknown_unit a e (λ n. omega arith))
        (λ p q a. other not_representable unknown_unit a e (λ n. omega arith))
        (λ a. other (given (count_of (ticks_per_second_of unit) f)) unknown_unit a e (λ n. omega arith))

module _ (unit : TimeUnit) (f : Fields) where
  abbrev t : ℕ
  t = ticks_per_second_of unit

  -- 18 exactly where the fields form no date or time in the unit
  pub refused_18 : (encoding (some unit) f ≡ no_date_time) ↔ (is_date_time t f ≡ false)
  refused_18 = (
    λ e. by_answer t f
        (λ p a. p)
        (λ p q a. other not_representable no_date_time a e (λ n. omega arith))
        (λ a. other (given (count_of t f)) no_date_time a e (λ n. omega arith)),
    encoding_none t f,
  )

  -- 19 exactly where they do, and no signed 64-bit number is their count
  pub refused_19 : (encoding (some unit) f ≡ not_representable) ↔ ((is_date_time t f ≡ true) × (is_signed64 (count_of t f) ≡ false))
  refused_19 = (
    λ e. by_answer t f
        (λ p a. other no_date_time not_representable a e (λ n. omega arith))
        (λ p q a. (p, q))
        (λ a. other (given (count_of t f)) not_representable a e (λ n. omega arith)),
    λ h. encoding_beyond t f h.0 h.1,
  )
