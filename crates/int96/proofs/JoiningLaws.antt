-- What decoding answers, by what joining the day and the nanoseconds of a value answers.
use Prim.Native.Nat.{ℕ, ◌<◌, ◌≤◌}
use native.Mathlib.Omega.{arith}
use mathlib.Core.Path.{◌≡◌, refl, sym, ap, ◌∙◌}
use mathlib.Core.Bool.{Bool, cond}
use mathlib.Core.List.{List}
use borrow.Author.Tests.{lt-ltb, le-ltb}
use lib.IntN.{ℤ, pos, ◌-ℤ◌}
use lib.ListN.{length}
use Rattle.std.specs.Prelude.{Result, Ok, Err}
use Rattle.refusal.specs.Numbers.{BREAKS_ANNOTATION, NO_DATE_TIME, NOT_REPRESENTABLE, UNKNOWN_TYPE}
use Rattle.refusal.specs.Outcome.{Outcome, given, refused, unplaced}
use Rattle.timestamp.specs.Outcomes.{is_signed64, no_date_time, not_representable, unknown_unit, counting, encoded, joining}
use Rattle.timestamp.specs.declared.encoding.EncodeError.{EncodeError}
use Rattle.timestamp.proofs.RefusalLaws.{other}
use Rattle.laws.proofs.BoolLaws.{by_test}
use Rattle.laws.proofs.DifferenceLaws.{below?}
use Rattle.int96.specs.Value.{VALUE_BYTES, DAY_OF_1970, NANOS_PER_DAY, nanos_in, day_in, count_of}
use Rattle.int96.specs.Outcomes.{decoding}
use Rattle.int96.proofs.ValueLaws.{decoding_16, decoding_counted}

-- what each answer of joining stands for here
abbrev pub meant : Result ℤ EncodeError → Outcome ℤ
meant (Ok z) = given z
meant (Err EncodeError.NoDateTime) = refused (unplaced BREAKS_ANNOTATION)
meant (Err EncodeError.NotRepresentable) = not_representable
meant (Err EncodeError.UnknownUnit) = unknown_unit

-- a count that does not fit is 19, and no count is refused otherwise
counting_else : {X : Type 0} (z : ℤ) (n : ℕ) → (n ≡ 0 → ⊥) → (n ≡ NOT_REPRESENTABLE → ⊥) → refused (unplaced n) ≡ counting z → X
counting_else z n some not-19 e =
    by_test (is_signed64 z)
    (λ s. other (refused (unplaced n)) (given z) refl (e ∙ ap (λ (b : Bool). cond b (given z) not_representable) s) some)
    (λ s. other (refused (unplaced n)) not_representable refl (e ∙ ap (λ (b : Bool). cond b (given z) not_representable) s) not-19)

module _ (v : List ℕ) (long : length v ≡ VALUE_BYTES) where
  abbrev joins : Outcome ℤ
  joins = joining NANOS_PER_DAY (pos (day_in v) -ℤ pos DAY_OF_1970) (nanos_in v)

  -- nanoseconds of a day: both answer by the count
  within : (k : Result ℤ EncodeError) → nanos_in v < NANOS_PER_DAY → encoded k ≡ counting (count_of v) → meant k ≡ decoding v
  within (Ok z) h e = e ∙ sym (decoding_counted v long h)
  within (Err EncodeError.NoDateTime) h e = counting_else (count_of v) NO_DATE_TIME (λ n. omega arith) (λ n. omega arith) e
  within (Err EncodeError.NotRepresentable) h e = e ∙ sym (decoding_counted v long h)
  within (Err EncodeError.UnknownUnit) h e = counting_else (count_of v) UNKNOWN_TYPE (λ n. omega arith) (λ n. omega arith) e

  -- and more: 18 of joining is 16 here
  beyond : (k : Result ℤ EncodeError) → NANOS_PER_DAY ≤ nanos_in v → encoded k ≡ no_date_time → meant k ≡ decoding v
  beyond (Ok z) h e = other (given z) no_date_time refl e (λ n. omega arith)
  beyond (Err EncodeError.NoDateTime) h e = sym (decoding_16 v long h)
  beyond (Err EncodeError.NotRepresentable) h e = other not_representable no_date_time refl e (λ n. omega arith)
  beyond (Err EncodeError.UnknownUnit) h e = other (refused (unplaced UNKNOWN_TYPE)) no_date_time refl e (λ n. omega arith)

  -- what joining answers is what decoding does
  pub joined_told : (k : Result ℤ EncodeError) → encoded k ≡ joins → meant k ≡ decoding v
  unfolding count_of
  joined_told k e =
      below? (nanos_in v) NANOS_PER_DAY
      (λ h. within k h (e ∙ ap (λ (b : Bool). cond b (counting (count_of v)) no_date_time) (lt-ltb (nanos_in v) NANOS_PER_DAY h)))
      (λ h. beyond k h (e ∙ ap (λ (b : Bool). cond b (counting (count_of v)) no_date_time) (le-ltb (nanos_in v) NANOS_PER_DAY h)))
