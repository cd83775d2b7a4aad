-- What encoding answers, by the moment of the fields and their fraction, here t being the ticks in a second; and what joining a day and a
-- tick of it answers, t
-- being those in a day.
use Prim.Native.Nat.{ℕ, ◌+◌, ◌*◌, ◌<◌, ◌≤◌}
use mathlib.Core.Path.{◌≡◌, sym, ap, ap₂, ◌∙◌}
use mathlib.Core.Bool.{Bool, true, false, cond, ◌&&◌, false≢true}
use mathlib.Core.Option.{Option, none, some}
use borrow.Author.Tests.{lt-ltb}
use lib.Dec.{ltb}
use lib.IntN.{ℤ, pos, ◌+ℤ◌, ◌*ℤ◌}
use mir.Syntax.{w64}
use mir.Val.{SFits, to_z, of_z}
use mir.ValLaws.{to_z-of_z}
use Rattle.refusal.specs.Outcome.{Outcome}
use Rattle.timestamp.specs.declared.fields.Fields.{Fields}
use Rattle.timestamp.specs.declared.moment.Moment.{Moment}
use Rattle.timestamp.specs.Calendar.{is_date, day_number}
use Rattle.timestamp.specs.Clock.{minutes_per_hour, seconds_per_minute, seconds_per_day, is_time, tick_of_day}
use Rattle.timestamp.specs.Count.{is_date_time, count_of}
use Rattle.logical_type.specs.declared.types.TimeUnit.{TimeUnit}
use Rattle.timestamp.specs.Units.{ticks_per_second_of}
use Rattle.timestamp.specs.Outcomes.{no_date_time, not_representable, counting, encoding_in, encoding, joining}
use Rattle.timestamp.specs.Steps.{is_clock, is_formed, second_of, IsMoment, encoding_at, encoding_for}
use Rattle.laws.proofs.BoolLaws.{by_test, and_both, both_and}
use Rattle.timestamp.proofs.CountLaws.{date_time_parts, encoding_none, encoding_far}
use Rattle.timestamp.proofs.FloorLaws.{joined, joined_told, joined_twice}
use Rattle.timestamp.proofs.UnitLaws.{ticks_least}

-- the second of the fields, by what was told of the day number as the machine reads it back
pub second_told : {day z : ℤ} {n : ℕ} (f : Fields) → SFits w64 day → day ≡ day_number f.year f.month f.day → n ≡ (f.hour * minutes_per_hour + f.minute) * seconds_per_minute + f.second → z ≡ joined (to_z w64 (of_z w64 day)) seconds_per_day n → z ≡ second_of f
second_told {day} {z} {n} f h p q e = joined_told seconds_per_day n h e ∙ ap₂ (λ (d : ℤ) (s : ℕ). joined d seconds_per_day s) p q

module _ (t : ℕ) (f : Fields) where
  -- where the rest forms a date and time, the fraction decides
  formed_told : is_formed f ≡ true → is_date_time t f ≡ ltb f.fraction t
  unfolding is_date_time is_time
  formed_told e =
      let parts = and_both (is_date f.year f.month f.day) (is_clock f.hour f.minute f.second) e in
      ap₂ (λ (date clock : Bool). date && (clock && ltb f.fraction t)) parts.0 parts.1

  -- and where it does not, nothing does
  unformed_told : is_formed f ≡ false → is_date_time t f ≡ false
  unfolding is_time
  unformed_told e = by_test (is_date_time t f) (λ p. absurd (false≢true (sym e ∙ formed (date_time_parts t f p)))) (λ p. p)
    where
      formed : (is_date f.year f.month f.day ≡ true) × (is_time t f.hour f.minute f.second f.fraction ≡ true) → is_formed f ≡ true
      formed p = both_and _ _ p.0 (and_both (is_clock f.hour f.minute f.second) (ltb f.fraction t) p.1).0

  -- the count is that of the second and the fraction
  count_at : count_of t f ≡ second_of f *ℤ pos t +ℤ pos f.fraction
  unfolding count_of tick_of_day
  count_at = sym (joined_twice (day_number f.year f.month f.day) seconds_per_day ((f.hour * minutes_per_hour + f.minute) * seconds_per_minute + f.second) t f.fraction)

  pub moment_encoded : (m : Moment) → 1000 ≤ t → IsMoment f m → encoding_in t f ≡ encoding_at t m f.fraction
  unfolding encoding_in
  moment_encoded (Moment.Second s) h p =
      ap₂ (λ (b : Bool) (z : ℤ). cond b (counting z) no_date_time) (formed_told p.0) (count_at ∙ ap (λ (z : ℤ). z *ℤ pos t +ℤ pos f.fraction) (sym p.1))
  moment_encoded Moment.Far h p =
      by_test (ltb f.fraction t)
      (λ e. encoding_far t f (formed_told p.0 ∙ e) p.1 h ∙ sym (ap (λ (b : Bool). cond b not_representable no_date_time) e))
      (λ e. encoding_none t f (formed_told p.0 ∙ e) ∙ sym (ap (λ (b : Bool). cond b not_representable no_date_time) e))
  moment_encoded Moment.NoDateTime h p = encoding_none t f (unformed_told p)

-- and so in the unit that is named, if any
pub moment_for : (u : Option TimeUnit) (f : Fields) (m : Moment) (o : Outcome ℤ) → IsMoment f m → o ≡ encoding_for u m f.fraction → o ≡ encoding u f
moment_for none f m o p e = e
moment_for (some unit) f m o p e = e ∙ sym (moment_encoded (ticks_per_second_of unit) f m (ticks_least unit) p)

-- where the fraction is below a second, the count of the second and the fraction decides
pub fraction_within : (t : ℕ) (m : Moment) (s : ℤ) (fraction : ℕ) (o : Outcome ℤ) → fraction < t → m ≡ Moment.Second s → o ≡ counting (joined s t fraction) → o ≡ encoding_at t m fraction
fraction_within t m s fraction o h e p =
    p ∙ sym (ap (λ (k : Moment). encoding_at t k fraction) e ∙ ap (λ (b : Bool). cond b (counting (joined s t fraction)) no_date_time) (lt-ltb fraction t h))

-- what is answered of the second that the machine reads back is answered of the second
pub second_answered : (s : ℤ) (t fraction : ℕ) (o : Outcome ℤ) → SFits w64 s → o ≡ encoding_at t (Moment.Second (to_z w64 (of_z w64 s))) fraction → o ≡ encoding_at t (Moment.Second s) fraction
second_answered s t fraction o h p = p ∙ ap (λ (z : ℤ). encoding_at t (Moment.Second z) fraction) (to_z-of_z w64 s h)

-- ---- a day and a tick of it

-- they are joined as a second and a fraction of it are: of the day that the machine reads back as of the day
pub day_answered : (t : ℕ) (day : ℤ) (tick : ℕ) (o : Outcome ℤ) → SFits w64 day → o ≡ joining t (to_z w64 (of_z w64 day)) tick → o ≡ joining t day tick
day_answered t day tick o h p = second_answered day t tick o h p
