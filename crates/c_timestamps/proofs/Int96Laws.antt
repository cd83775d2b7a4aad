-- What calls on INT96 values answer: every refusal has a number of at most 20, and the place 0.
use Prim.Native.Nat.{ℕ}
use mathlib.Core.Path.{◌≡◌, sym, ap, ◌∙◌}
use mathlib.Core.Bool.{Bool, true, false, cond}
use mathlib.Core.List.{List}
use native.Mathlib.Omega.{arith}
use lib.Dec.{eqb, ltb}
use lib.IntN.{ℤ}
use lib.ListN.{length}
use Rattle.refusal.specs.Numbers.{SHORT_OUTPUT, WRONG_LENGTH, BREAKS_ANNOTATION, NOT_REPRESENTABLE, UNKNOWN_TYPE}
use Rattle.refusal.specs.Outcome.{Outcome, given, refused, unplaced}
use Rattle.refusal.specs.Bounds.{CountedBounded}
use Rattle.std.specs.Prelude.{Ok, Err}
use Rattle.timestamp.specs.Outcomes.{is_signed64}
use Rattle.int96.specs.Value.{VALUE_BYTES, NANOS_PER_DAY, nanos_in, count_of}
use Rattle.int96.specs.Outcomes.{converted, decoding, encoding}
use Rattle.std.specs.Prelude.{Result}
use Rattle.refusal.specs.declared.answers.Refusal.{Refusal}
use Rattle.c_answer.specs.Answers.{within}
use Rattle.c_timestamps.specs.Timestamps.{encode_effect}
use Rattle.c_timestamps.specs.Int96.{from_int96}
use Rattle.c_timestamps.proofs.BoundLaws.{OutcomeBounded}

-- a value's refusal is within the bounds of a timestamp's
pub from_bounded : (value : List ℕ) → OutcomeBounded (decoding value)
unfolding decoding
from_bounded value = by_tests_lem (eqb (length value) VALUE_BYTES) (ltb (nanos_in value) NANOS_PER_DAY) (is_signed64 (count_of value))
  where
    by_tests_lem : (long in_day_lem fits : Bool)
        → OutcomeBounded (cond long (cond in_day_lem (cond fits (given (count_of value)) (refused (unplaced NOT_REPRESENTABLE))) (refused (unplaced BREAKS_ANNOTATION))) (refused (unplaced WRONG_LENGTH)))
    by_tests_lem true true true = tt
    by_tests_lem true true false = record { some_number = omega arith; most_number = omega arith; most_place = omega arith }
    by_tests_lem true false fits = record { some_number = omega arith; most_number = omega arith; most_place = omega arith }
    by_tests_lem false in_day_lem fits = record { some_number = omega arith; most_number = omega arith; most_place = omega arith }

-- and so is a count's, whose value has twelve bytes
pub to_bounded : (lent : ℕ) → CountedBounded VALUE_BYTES UNKNOWN_TYPE 0 (encoding lent)
unfolding encoding
to_bounded lent = by_room (ltb lent VALUE_BYTES)
  where
    by_room : (short : Bool) → CountedBounded VALUE_BYTES UNKNOWN_TYPE 0 (cond short (Err (unplaced SHORT_OUTPUT)) (Ok VALUE_BYTES))
    by_room true = record { some_number = omega arith; most_number = omega arith; most_place = omega arith }
    by_room false = omega arith

-- what an answer of decoding that was told comes to
pub from_of : (value : List ℕ) (lent : ℕ) {r s : Result ℤ Refusal} → converted r ≡ decoding value → r ≡ s → from_int96 value lent ≡ within lent (encode_effect (converted s))
unfolding from_int96
from_of value lent e told =
    ap (λ (o : Outcome ℤ). within lent (encode_effect o)) (sym e) ∙ ap (λ (x : Result ℤ Refusal). within lent (encode_effect (converted x))) told
