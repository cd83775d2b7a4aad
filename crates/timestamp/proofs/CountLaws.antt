-- What is promised of decoding and encoding, over the ticks in a second, t, and so once for all units.
use Prim.Native.Nat.{ℕ, ◌/◌, ◌%◌, ◌<◌, ◌≤◌, ◌^◌}
use native.Mathlib.Nat.{mod-lt}
use native.Mathlib.Omega.{arith}
use mathlib.Core.Path.{◌≡◌, refl, sym, ap, ap₂, subst, ◌∙◌}
use mathlib.Core.Bool.{Bool, true, false, not, cond}
use mathlib.Core.Option.{Option, none, some}
use lib.IntN.{ℤ}
use lib.Signed.{mag, non_neg}
use Rattle.refusal.specs.declared.answers.Refusal.{Refusal}
use Rattle.refusal.specs.Numbers.{NO_DATE_TIME, NOT_REPRESENTABLE, UNKNOWN_TYPE}
use Rattle.refusal.specs.Outcome.{Outcome, given, refused, unplaced}
use Rattle.timestamp.specs.declared.fields.Fields.{Fields}
use Rattle.timestamp.specs.Calendar.{is_date, day_number}
use Rattle.timestamp.specs.Clock.{is_time, tick_of_day}
use Rattle.logical_type.specs.declared.types.TimeUnit.{TimeUnit}
use Rattle.timestamp.specs.Units.{ticks_per_second_of, ticks_per_day_of}
use Rattle.timestamp.specs.Count.{is_date_time, count_of, FieldsOf}
use Rattle.timestamp.specs.Outcomes.{no_date_time, not_representable, is_signed64, Decodes, encoding_in, encoding}
use Rattle.laws.proofs.BoolLaws.{and_both, both_and}
use Rattle.timestamp.proofs.CalendarLaws.{date_some}
use Rattle.timestamp.proofs.DateLaws.{date_one}
use Rattle.timestamp.proofs.ReachLaws.{count_far}
use Rattle.timestamp.proofs.ClockLaws.{time_parts, parts_time, tick_below, time_one, tick_time, tick_back}
use Rattle.timestamp.proofs.FloorLaws.{joined, joined_one, turned_of, turned_below, divided_signed, signed_fits, signed_beyond}
use Rattle.timestamp.proofs.SignedLaws.{signed_of, signed_is, signed_mag}

-- fields that form a date and time are of a date and of a time
pub date_time_parts : (t : ℕ) (f : Fields) → is_date_time t f ≡ true → (is_date f.year f.month f.day ≡ true) × (is_time t f.hour f.minute f.second f.fraction ≡ true)
unfolding is_date_time
date_time_parts t f e = and_both (is_date f.year f.month f.day) (is_time t f.hour f.minute f.second f.fraction) e

-- fields that have the same count are equal
pub count_one : (t : ℕ) (f g : Fields) → is_date_time t f ≡ true → is_date_time t g ≡ true → count_of t f ≡ count_of t g → f ≡ g
unfolding count_of
count_one t f g p q e =
    λ i. record { year = dates.0 i; month = dates.1.0 i; day = dates.1.1 i; hour = times.0 i; minute = times.1.0 i; second = times.1.1.0 i; fraction = times.1.1.1 i }
  where
    fp : (is_date f.year f.month f.day ≡ true) × (is_time t f.hour f.minute f.second f.fraction ≡ true)
    fp = date_time_parts t f p

    gp : (is_date g.year g.month g.day ≡ true) × (is_time t g.hour g.minute g.second g.fraction ≡ true)
    gp = date_time_parts t g q

    days : (day_number f.year f.month f.day ≡ day_number g.year g.month g.day) × (tick_of_day t f.hour f.minute f.second f.fraction ≡ tick_of_day t g.hour g.minute g.second g.fraction)
    days =
        joined_one (day_number f.year f.month f.day) (day_number g.year g.month g.day) (ticks_per_day_of t) (tick_of_day t f.hour f.minute f.second f.fraction) (tick_of_day t g.hour g.minute g.second g.fraction)
        (tick_below t f.hour f.minute f.second f.fraction (time_parts t f.hour f.minute f.second f.fraction fp.1))
        (tick_below t g.hour g.minute g.second g.fraction (time_parts t g.hour g.minute g.second g.fraction gp.1))
        e

    dates : (f.year ≡ g.year) × ((f.month ≡ g.month) × (f.day ≡ g.day))
    dates = date_one f.year f.month f.day g.year g.month g.day fp.0 gp.0 days.0

    times : (f.hour ≡ g.hour) × ((f.minute ≡ g.minute) × ((f.second ≡ g.second) × (f.fraction ≡ g.fraction)))
    times =
        time_one t f.hour f.minute f.second f.fraction g.hour g.minute g.second g.fraction
        (time_parts t f.hour f.minute f.second f.fraction fp.1)
        (time_parts t g.hour g.minute g.second g.fraction gp.1)
        days.1

-- a count stands for one set of fields
pub fields_one : {t : ℕ} {count : ℤ} {f g : Fields} → FieldsOf t count f → FieldsOf t count g → f ≡ g
fields_one {t} {count} {f} {g} p q = count_one t f g p.formed q.formed (p.counted ∙ sym q.counted)

-- and decoding has one answer
pub decodes_one : (u : Option TimeUnit) (count : ℤ) (o o' : Outcome Fields) → Decodes u count o → Decodes u count o' → o ≡ o'
decodes_one none count o o' p q = p ∙ sym q
decodes_one (some unit) count o o' p q = p.1 ∙ ap given (fields_one p.2 q.2) ∙ sym q.1

-- every count has fields: the date of its days, rounded down, and the time of its rest
pub fields_some : (t : ℕ) (count : ℤ) → 0 < t → (f : Fields) × FieldsOf t count f
unfolding is_date_time count_of
fields_some t count h = (f, record { formed = both_and _ _ date.3 (parts_time t _ _ _ _ (tick_time t rest h below)); counted = counted })
  where
    b : Bool
    b = not (non_neg count)

    positive : 0 < ticks_per_day_of t
    positive = omega arith

    rest : ℕ
    rest = turned_of b (mag count % ticks_per_day_of t) (ticks_per_day_of t)

    below : rest < ticks_per_day_of t
    below = turned_below b (mag count % ticks_per_day_of t) (ticks_per_day_of t) (mod-lt (mag count) positive)

    date : (y : ℤ) × (m : ℕ) × (d : ℕ) × (is_date y m d ≡ true) × (day_number y m d ≡ signed_of b (mag count / ticks_per_day_of t))
    date = date_some (signed_of b (mag count / ticks_per_day_of t))

    f : Fields
    f = record { year = date.0; month = date.1; day = date.2; hour = rest / t / 60 / 60; minute = rest / t / 60 % 60; second = rest / t % 60; fraction = rest % t }

    counted : count_of t f ≡ count
    counted =
        ap₂ (λ (z : ℤ) (r : ℕ). joined z (ticks_per_day_of t) r) date.4 (tick_back t rest) ∙ sym (divided_signed b (mag count) (ticks_per_day_of t) positive) ∙ sym (signed_is count)

-- so every count decodes
pub decodes_some : (unit : TimeUnit) (count : ℤ) → (f : Fields) × Decodes (some unit) count (given f)
decodes_some unit count = let some-fields = fields_some (ticks_per_second_of unit) count (positive unit) in (some-fields.0, (some-fields.0, refl, some-fields.1))
  where
    positive : (unit : TimeUnit) → 0 < ticks_per_second_of unit
    positive TimeUnit.Millis = omega arith
    positive TimeUnit.Micros = omega arith
    positive TimeUnit.Nanos = omega arith

-- ---- encoding, refusal by refusal

pub encoding_none : (t : ℕ) (f : Fields) → is_date_time t f ≡ false → encoding_in t f ≡ no_date_time
unfolding encoding_in
encoding_none t f e =
    ap (λ (b : Bool). cond b (cond (is_signed64 (count_of t f)) (given (count_of t f)) not_representable) no_date_time) e

pub encoding_formed : (t : ℕ) (f : Fields) → is_date_time t f ≡ true → encoding_in t f ≡ cond (is_signed64 (count_of t f)) (given (count_of t f)) not_representable
unfolding encoding_in
encoding_formed t f e =
    ap (λ (b : Bool). cond b (cond (is_signed64 (count_of t f)) (given (count_of t f)) not_representable) no_date_time) e

pub encoding_beyond : (t : ℕ) (f : Fields) → is_date_time t f ≡ true → is_signed64 (count_of t f) ≡ false → encoding_in t f ≡ not_representable
encoding_beyond t f p q = encoding_formed t f p ∙ ap (λ (b : Bool). cond b (given (count_of t f)) not_representable) q

pub encoding_far : (t : ℕ) (f : Fields) → is_date_time t f ≡ true → 300000000 ≤ mag f.year → 1000 ≤ t → encoding_in t f ≡ not_representable
unfolding count_of
encoding_far t f e h k =
    let parts = date_time_parts t f e in
    encoding_beyond t f e (count_far f.year f.month f.day t (tick_of_day t f.hour f.minute f.second f.fraction) parts.0 h k (tick_below t f.hour f.minute f.second f.fraction (time_parts t f.hour f.minute f.second f.fraction parts.1)))

-- encoding gives the count exactly where the fields are good and the count fits
pub encoding_good : (t : ℕ) (f : Fields) → is_date_time t f ≡ true → is_signed64 (count_of t f) ≡ true → encoding_in t f ≡ given (count_of t f)
encoding_good t f p q = encoding_formed t f p ∙ ap (λ (b : Bool). cond b (given (count_of t f)) not_representable) q

refused_given : {A : Type 0} (r : Refusal) (a : A) → refused r ≡ given a → ⊥
refused_given r a e = let z : ◌≡◌ {A = ℕ} 0 1 = cc in omega arith

given_inj : (a b : ℤ) → given a ≡ given b → a ≡ b
given_inj a b e = cc

pub encoding_given : (t : ℕ) (f : Fields) (count : ℤ) → encoding_in t f ≡ given count → FieldsOf t count f × (is_signed64 count ≡ true)
unfolding encoding_in
encoding_given t f count = by_tests_lem (is_date_time t f) (is_signed64 (count_of t f)) refl refl
  where
    by_tests_lem : (a b : Bool) → is_date_time t f ≡ a → is_signed64 (count_of t f) ≡ b → cond a (cond b (given (count_of t f)) not_representable) no_date_time ≡ given count → FieldsOf t count f × (is_signed64 count ≡ true)
    by_tests_lem true true p q e =
        let same : count_of t f ≡ count = given_inj (count_of t f) count e in
        (record { formed = p; counted = same }, ap is_signed64 (sym same) ∙ q)
    by_tests_lem true false p q e = absurd (refused_given (unplaced NOT_REPRESENTABLE) count e)
    by_tests_lem false b p q e = absurd (refused_given (unplaced NO_DATE_TIME) count e)

-- every decoded count is encoded again, and what is encoded decodes to the fields that it was encoded from
pub encoding_decoded : (unit : TimeUnit) (count : ℤ) (o : Outcome Fields) → is_signed64 count ≡ true → Decodes (some unit) count o → (f : Fields) × (o ≡ given f) × (encoding (some unit) f ≡ given count)
encoding_decoded unit count o h p =
    let same : count_of (ticks_per_second_of unit) p.0 ≡ count = p.2.counted in
    (p.0, p.1, encoding_good (ticks_per_second_of unit) p.0 p.2.formed (ap is_signed64 same ∙ h) ∙ ap given same)

pub decoding_encoded : (u : Option TimeUnit) (f : Fields) (count : ℤ) (o : Outcome Fields) → encoding u f ≡ given count → Decodes u count o → o ≡ given f
decoding_encoded none f count o e p = absurd (refused_given (unplaced UNKNOWN_TYPE) count e)
decoding_encoded (some unit) f count o e p = p.1 ∙ ap given (fields_one p.2 (encoding_given (ticks_per_second_of unit) f count e).0)

-- ---- a count by its sign and what it folds onto, where it is a number of 64 bits and where it is not

pub counted_fits : (z : ℤ) (b : Bool) (n : ℕ) → z ≡ signed_of b n → n < 2 ^ 63 → cond (is_signed64 z) (given z) not_representable ≡ given (signed_of b n)
counted_fits z b n e h =
    ap (λ (w : ℤ). cond (is_signed64 w) (given w) not_representable) e ∙ ap (λ (t : Bool). cond t (given (signed_of b n)) not_representable) (signed_fits (signed_of b n) (subst (λ (k : ℕ). k < 2 ^ 63) (sym (signed_mag b n)) h))

pub counted_beyond : (z : ℤ) (b : Bool) (n : ℕ) → z ≡ signed_of b n → 2 ^ 63 ≤ n → cond (is_signed64 z) (given z) not_representable ≡ not_representable
counted_beyond z b n e h =
    ap (λ (w : ℤ). cond (is_signed64 w) (given w) not_representable) e ∙ ap (λ (t : Bool). cond t (given (signed_of b n)) not_representable) (signed_beyond (signed_of b n) (subst (λ (k : ℕ). 2 ^ 63 ≤ k) (sym (signed_mag b n)) h))
