-- `c_timestamps::timestamps::fields_of` meets its contract: numbers that are each in range are read as their fields, and others form no
-- date or time.
use Prim.Native.Nat.{ℕ, ◌<◌, ◌≤◌}
use native.Mathlib.Omega.{arith}
use mathlib.Core.Path.{sym}
use borrow.Author.Rules.{sfits_of}
use mir.Syntax.{w64}
use mir.ValLaws.{to_z-of_z}
use Rattle.c_timestamps.specs.Timestamps.{fields_of}
use Rattle.c_timestamps.proofs.FieldLaws.{fields_enough, none_read, some_read, ranged_are, encoding_unformed, number_in, number_out, read_none}
use Rattle.c_timestamps.proofs.timestamps.fields_of.Goals as goal

pub returns-in_default : goal.returns-in_default
returns-in_default c = record { fields = tt; encoded = λ u. sym (encoding_unformed c.args.numbers.now (λ a r. short (fields_enough c.args.numbers.now a) c.in_default.len_below) u) }
  where
    short : {a b : ℕ} → a ≤ b → b < a → ⊥
    short h k = omega arith

pub returns-in_err-month : goal.returns-in_err-month
returns-in_err-month c =
    let numbers = c.args.numbers.now in
    record { fields = none_read numbers c.from_residual.ensures; encoded = read_none numbers c.from_residual.ensures (λ a r. number_out 1 1 12 numbers (search sfits_of) c.within.ensures c.in_err-month.was r.month_in) }

pub returns-in_err-day : goal.returns-in_err-day
returns-in_err-day c =
    let numbers = c.args.numbers.now in
    record { fields = none_read numbers c.from_residual-in_err-day.ensures; encoded = read_none numbers c.from_residual-in_err-day.ensures (λ a r. number_out 2 0 31 numbers (search sfits_of) c.within-2.ensures c.in_err-day.was r.day_in_lem) }

pub returns-in_err-hour : goal.returns-in_err-hour
returns-in_err-hour c =
    let numbers = c.args.numbers.now in
    record { fields = none_read numbers c.from_residual-in_err-hour.ensures; encoded = read_none numbers c.from_residual-in_err-hour.ensures (λ a r. number_out 3 0 23 numbers (search sfits_of) c.within-3.ensures c.in_err-hour.was r.hour_in) }

pub returns-in_err-minute : goal.returns-in_err-minute
returns-in_err-minute c =
    let numbers = c.args.numbers.now in
    record { fields = none_read numbers c.from_residual-in_err-minute.ensures; encoded = read_none numbers c.from_residual-in_err-minute.ensures (λ a r. number_out 4 0 59 numbers (search sfits_of) c.within-4.ensures c.in_err-minute.was r.minute_in) }

pub returns-in_err-second : goal.returns-in_err-second
returns-in_err-second c =
    let numbers = c.args.numbers.now in
    record { fields = none_read numbers c.from_residual-in_err-second.ensures; encoded = read_none numbers c.from_residual-in_err-second.ensures (λ a r. number_out 5 0 59 numbers (search sfits_of) c.within-5.ensures c.in_err-second.was r.second_in) }

pub returns-in_err-fraction : goal.returns-in_err-fraction
returns-in_err-fraction c =
    let numbers = c.args.numbers.now in
    record { fields = none_read numbers c.from_residual-in_err-fraction.ensures; encoded = read_none numbers c.from_residual-in_err-fraction.ensures (λ a r. number_out 6 0 999999999 numbers (search sfits_of) c.within-6.ensures c.in_err-fraction.was r.fraction_in) }

pub returns : goal.returns
unfolding fields_of
returns c =
    let numbers = c.args.numbers.now in
    let month = number_in 1 1 12 numbers (search sfits_of) c.within.ensures c.in_ok-month.was in
    let day = number_in 2 0 31 numbers (search sfits_of) c.within-2.ensures c.in_ok-day.was in
    let hour = number_in 3 0 23 numbers (search sfits_of) c.within-3.ensures c.in_ok-hour.was in
    let minute = number_in 4 0 59 numbers (search sfits_of) c.within-4.ensures c.in_ok-minute.was in
    let second = number_in 5 0 59 numbers (search sfits_of) c.within-5.ensures c.in_ok-second.was in
    let fraction = number_in 6 0 999999999 numbers (search sfits_of) c.within-6.ensures c.in_ok-fraction.was in
    let year = to_z-of_z w64 _ (search sfits_of) in
    let are =
    ranged_are numbers c.in-len7-up.len_at_least
    (record { month_in = month.0; day_in_lem = day.0; hour_in = hour.0; minute_in = minute.0; second_in = second.0; fraction_in = fraction.0 }) in
    let both =
    some_read numbers _ are
    (λ i. record { year = year i; month = month.1 i; day = day.1 i; hour = hour.1 i; minute = minute.1 i; second = second.1 i; fraction = fraction.1 i }) in
    record { fields = both.0; encoded = both.1 }
