-- `timestamp::decoding::decode_in` meets its contract: the date of the day and the time of the rest.
use Prim.Native.Nat.{ℕ}
use mathlib.Core.Path.{sym, ap, ap₂, ◌∙◌}
use borrow.Author.Rules.{sfits_of}
use lib.IntN.{ℤ}
use mir.Syntax.{w64}
use mir.ValLaws.{to_z-of_z}
use Rattle.timestamp.specs.Calendar.{is_date, day_number}
use Rattle.timestamp.specs.Clock.{is_time, tick_of_day}
use Rattle.timestamp.specs.Units.{ticks_per_second_of, ticks_per_day_of}
use Rattle.timestamp.specs.Count.{is_date_time, count_of}
use Rattle.timestamp.proofs.FloorLaws.{joined}
use Rattle.laws.proofs.BoolLaws.{both_and}
use Rattle.timestamp.proofs.decoding.decode_in.Goals as goal

pub returns : goal.returns
unfolding is_date_time count_of
returns g c =
    let date = c.date_of-date.result in
    let time = c.time_of-time.result in
    let ticks = c.TICKS_PER_SECOND.ensures ∙ g.U.Unit.second_ticks in
    let year = to_z-of_z w64 date.year (search sfits_of) in
    let day = to_z-of_z w64 c.divide-division.result.day (search sfits_of) in
    record {
      formed = both_and _ _ (ap (λ (y : ℤ). is_date y date.month date.day) year ∙ c.date_of-date.ensures.0) (ap (λ (t : ℕ). is_time t time.hour time.minute time.second time.fraction) (sym ticks) ∙ c.time_of-time.ensures.0);
      counted =
          ap₂ (λ (z : ℤ) (r : ℕ). joined z (ticks_per_day_of (ticks_per_second_of g.U.Unit.unit)) r) (ap (λ (y : ℤ). day_number y date.month date.day) year ∙ c.date_of-date.ensures.1 ∙ day) (ap (λ (t : ℕ). tick_of_day t time.hour time.minute time.second time.fraction) (sym ticks) ∙ c.time_of-time.ensures.1) ∙ sym c.divide-division.ensures.floor_division.exact ∙ to_z-of_z w64 c.args.count c.ranges.count;
    }
