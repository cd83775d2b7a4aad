-- Times of a day and their ticks: within the day, and one time for each tick. Here t is the ticks in a second.
use Prim.Native.Nat.{ℕ, suc, ◌+◌, ◌*◌, ◌/◌, ◌%◌, ◌<◌, ◌≤◌}
use native.Mathlib.Omega.{arith}
use native.Mathlib.Nat.{mul-le-mul_right, mod-lt, div-add-mod', div-lt_iff_lt-mul}
use mathlib.Core.Path.{◌≡◌, ap, ◌∙◌}
use mathlib.Core.Bool.{true, ◌&&◌}
use borrow.Author.Tests.{ltb-true, lt-ltb}
use lib.Dec.{ltb}
use Rattle.timestamp.specs.Clock.{hours_per_day, minutes_per_hour, seconds_per_minute, is_time, tick_of_day}
use Rattle.timestamp.specs.Steps.{is_clock}
use Rattle.timestamp.specs.Units.{ticks_per_day_of}
use Rattle.timestamp.proofs.DivisionLaws.{steps_one, suc_times}
use Rattle.laws.proofs.BoolLaws.{and_both, both_and}

pub record Time (t h m s f : ℕ) : Type 0 where
  pub hour_below : h < 24
  pub minute_below : m < 60
  pub second_below : s < 60
  pub fraction_below : f < t

-- its hour, minute and second
pub clock_parts : (h m s : ℕ) → is_clock h m s ≡ true → (h < 24) × (m < 60) × (s < 60)
clock_parts h m s e =
    let second = and_both (ltb h hours_per_day && ltb m minutes_per_hour) (ltb s seconds_per_minute) e in
    let hour = and_both (ltb h hours_per_day) (ltb m minutes_per_hour) second.0 in
    (ltb-true h 24 hour.0, ltb-true m 60 hour.1, ltb-true s 60 second.1)

pub time_parts : (t h m s f : ℕ) → is_time t h m s f ≡ true → Time t h m s f
unfolding is_time
time_parts t h m s f e =
    let fraction = and_both (is_clock h m s) (ltb f t) e in
    let clock = clock_parts h m s fraction.0 in
    record { hour_below = clock.0; minute_below = clock.1; second_below = clock.2; fraction_below = ltb-true f t fraction.1 }

pub parts_time : (t h m s f : ℕ) → Time t h m s f → is_time t h m s f ≡ true
unfolding is_time
parts_time t h m s f p =
    both_and (ltb h hours_per_day && ltb m minutes_per_hour && ltb s seconds_per_minute) (ltb f t)
    (both_and (ltb h hours_per_day && ltb m minutes_per_hour) (ltb s seconds_per_minute)
    (both_and (ltb h hours_per_day) (ltb m minutes_per_hour) (lt-ltb h 24 p.hour_below) (lt-ltb m 60 p.minute_below))
    (lt-ltb s 60 p.second_below))
    (lt-ltb f t p.fraction_below)

-- the second of the day
abbrev second_of_day : ℕ → ℕ → ℕ → ℕ
second_of_day h m s = (h * minutes_per_hour + m) * seconds_per_minute + s

-- a tick of a day lies within the day
pub tick_below : (t h m s f : ℕ) → Time t h m s f → tick_of_day t h m s f < ticks_per_day_of t
unfolding tick_of_day
tick_below t h m s f p =
    let whole : suc (second_of_day h m s) * t ≤ 86400 * t = mul-le-mul_right t (omega (arith, p.hour_below, p.minute_below, p.second_below)) in
    omega (arith, whole, suc_times (second_of_day h m s) t, p.fraction_below)

-- and is one of one time
pub time_one : (t h m s f h' m' s' f' : ℕ) → Time t h m s f → Time t h' m' s' f' → tick_of_day t h m s f ≡ tick_of_day t h' m' s' f' → (h ≡ h') × ((m ≡ m') × ((s ≡ s') × (f ≡ f')))
unfolding tick_of_day
time_one t h m s f h' m' s' f' p q e = (hours, (minutes, (seconds, one.1)))
  where
    one : (second_of_day h m s ≡ second_of_day h' m' s') × (f ≡ f')
    one = steps_one (λ (n : ℕ). n * t) (λ (n : ℕ). t) (λ (n : ℕ). suc_times n t) (second_of_day h m s) (second_of_day h' m' s') f f' p.fraction_below q.fraction_below e

    hours : h ≡ h'
    hours = omega (arith, one.0, p.minute_below, p.second_below, q.minute_below, q.second_below)

    minutes : m ≡ m'
    minutes = omega (arith, one.0, p.minute_below, p.second_below, q.minute_below, q.second_below)

    seconds : s ≡ s'
    seconds = omega (arith, one.0, p.minute_below, p.second_below, q.minute_below, q.second_below)

-- the time at a tick, by quotients and rests
pub seconds_below : (t tick : ℕ) → 0 < t → tick < ticks_per_day_of t → tick / t < 86400
seconds_below t tick h k = (div-lt_iff_lt-mul h).1 (omega arith)

pub tick_time : (t tick : ℕ) → 0 < t → tick < ticks_per_day_of t → Time t (tick / t / 60 / 60) (tick / t / 60 % 60) (tick / t % 60) (tick % t)
tick_time t tick h k =
    let below : tick / t < 86400 = seconds_below t tick h k in
    record { hour_below = hour (tick / t) below; minute_below = mod-lt (tick / t / 60) (omega arith); second_below = mod-lt (tick / t) (omega arith); fraction_below = mod-lt tick h }
  where
    hour : (s : ℕ) → s < 86400 → s / 60 / 60 < 24
    hour s l = omega arith

pub tick_back : (t tick : ℕ) → tick_of_day t (tick / t / 60 / 60) (tick / t / 60 % 60) (tick / t % 60) (tick % t) ≡ tick
unfolding tick_of_day
tick_back t tick = ap (λ (n : ℕ). n * t + tick % t) (seconds (tick / t)) ∙ div-add-mod' tick t
  where
    seconds : (s : ℕ) → second_of_day (s / 60 / 60) (s / 60 % 60) (s % 60) ≡ s
    seconds s = omega arith
