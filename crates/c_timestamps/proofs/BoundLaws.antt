-- Every refusal of a timestamp has a number of at most 20, and the place 0.
use mathlib.Core.Bool.{Bool, true, false, cond}
use mathlib.Core.List.{List}
use mathlib.Core.Option.{Option, none, some}
use native.Mathlib.Omega.{arith}
use lib.IntN.{ℤ}
use Rattle.refusal.specs.Numbers.{NO_DATE_TIME, NOT_REPRESENTABLE, UNKNOWN_TYPE}
use Rattle.refusal.specs.Outcome.{Outcome, given, refused, unplaced}
use Rattle.logical_type.specs.declared.types.TimeUnit.{TimeUnit}
use Rattle.timestamp.specs.Units.{ticks_per_second_of}
use Rattle.timestamp.specs.Count.{is_date_time, count_of}
use Rattle.timestamp.specs.Outcomes.{no_date_time, not_representable, Decodes, is_signed64, encoding_in}
use Rattle.timestamp.specs.declared.fields.Fields.{Fields}
use Rattle.refusal.specs.Bounds.{Bounded}
use Rattle.c_timestamps.specs.Timestamps.{are_fields, fields_of, encoding_of}

-- a refusal, if it is one, is within these
abbrev pub OutcomeBounded : {A : Type 0} → Outcome A → Type 0
OutcomeBounded (given a) = Unit {0}
OutcomeBounded (refused r) = Bounded UNKNOWN_TYPE 0 r

pub unknown_bounded : Bounded UNKNOWN_TYPE 0 (unplaced UNKNOWN_TYPE)
unknown_bounded = record { some_number = omega arith; most_number = omega arith; most_place = omega arith }

formless_bounded : Bounded UNKNOWN_TYPE 0 (unplaced NO_DATE_TIME)
formless_bounded = record { some_number = omega arith; most_number = omega arith; most_place = omega arith }

beyond_bounded : Bounded UNKNOWN_TYPE 0 (unplaced NOT_REPRESENTABLE)
beyond_bounded = record { some_number = omega arith; most_number = omega arith; most_place = omega arith }

pub decoded_bounded : (u : Option TimeUnit) (count : ℤ) (o : Outcome Fields) → Decodes u count o → OutcomeBounded o
decoded_bounded none count o d = rw d unknown_bounded
decoded_bounded (some unit) count o d = rw d.1 tt

tests_bounded : (are formed fits : Bool) (z : ℤ) → OutcomeBounded (cond are (cond formed (cond fits (given z) not_representable) no_date_time) no_date_time)
tests_bounded true true true z = tt
tests_bounded true true false z = beyond_bounded
tests_bounded true false fits z = formless_bounded
tests_bounded false formed fits z = formless_bounded

pub encoded_bounded : (u : Option TimeUnit) (numbers : List ℤ) → OutcomeBounded (encoding_of u numbers)
unfolding encoding_in
encoded_bounded none numbers = unknown_bounded
encoded_bounded (some unit) numbers =
    tests_bounded (are_fields numbers) (is_date_time (ticks_per_second_of unit) (fields_of numbers)) (is_signed64 (count_of (ticks_per_second_of unit) (fields_of numbers))) (count_of (ticks_per_second_of unit) (fields_of numbers))
