-- What document 02's R-10 asks of the converter.
use Prim.Native.Nat.{ℕ, ◌≤◌, ◌<◌}
use mathlib.Core.Path.{◌≡◌, refl, sym, ap, ◌∙◌}
use mathlib.Core.Bool.{true}
use mathlib.Core.List.{List}
use borrow.Author.Tests.{lt-ltb, le-ltb}
use lib.IntN.{ℤ, pos, ◌+ℤ◌, ◌-ℤ◌, ◌*ℤ◌}
use lib.ListN.{length, take, drop}
use lib.Seq.{take_at}
use Rattle.laws.specs.Bytes.{little}
use Rattle.refusal.specs.Outcome.{given, refusal}
use Rattle.std.specs.Prelude.{Ok, Err}
use Rattle.timestamp.specs.Calendar.{day_number}
use Rattle.timestamp.specs.Clock.{tick_of_day}
use Rattle.timestamp.specs.Units.{unit_of}
use Rattle.timestamp.specs.Count as fields
use Rattle.timestamp.specs.Count.{FieldsOf}
use Rattle.timestamp.specs.Outcomes.{is_signed64, Decodes}
use Rattle.timestamp.specs.declared.fields.Fields.{Fields}
use Rattle.timestamp.proofs.ClockLaws.{time_parts, tick_below}
use Rattle.timestamp.proofs.CountLaws.{date_time_parts}
use Rattle.timestamp.proofs.FloorLaws.{joined_one}
use Rattle.int96.specs.Value.{nanos_in, day_in, count_of, value_of}
use Rattle.int96.specs.Outcomes.{decoding, encoding, encoded}
use Rattle.int96.proofs.ValueLaws as value
use Rattle.int96.proofs.Examples as examples
use Rattle.demands.specs.Requests.{Conversion}

nanos_are : (v : List ℕ) → nanos_in v ≡ little (take 8 v)
unfolding nanos_in
nanos_are v = refl

day_is : (v : List ℕ) → day_in v ≡ little (drop 8 v)
unfolding day_in
day_is v = refl

count_is : (v : List ℕ) → count_of v ≡ (pos (day_in v) -ℤ pos 2440588) *ℤ pos 86400000000000 +ℤ pos (nanos_in v)
unfolding count_of
count_is v = refl

-- a count is of one day and one time of it
date_and_time : (v : List ℕ) (z : ℤ) (f : Fields) → decoding v ≡ given z → Decodes (unit_of 3) z (given f) → (day_number f.year f.month f.day ≡ pos (day_in v) -ℤ pos 2440588) × (tick_of_day 1000000000 f.hour f.minute f.second f.fraction ≡ nanos_in v)
unfolding count_of fields.count_of
date_and_time v z f e d =
    let p = (value.accepted v z).0 e in
    let of : FieldsOf 1000000000 z f = fields_of_lem d.0 f d.1 d.2 in
    joined_one (day_number f.year f.month f.day) (pos (day_in v) -ℤ pos 2440588) 86400000000000 (tick_of_day 1000000000 f.hour f.minute f.second f.fraction) (nanos_in v)
    (tick_below 1000000000 f.hour f.minute f.second f.fraction (time_parts 1000000000 f.hour f.minute f.second f.fraction (date_time_parts 1000000000 f of.formed).1))
    p.1
    (of.counted ∙ sym p.2)
  where
    fields_of_lem : (g f : Fields) → given f ≡ given g → FieldsOf 1000000000 z g → FieldsOf 1000000000 z f
    fields_of_lem g f same h = let q : g ≡ f = cc in rw (← q) h

written_returns : (z : ℤ) (lent : List ℕ) → is_signed64 z ≡ true → 12 ≤ length lent → decoding (take 12 (encoded z lent)) ≡ given z
unfolding encoded
written_returns z lent signed room =
    rw (le-ltb (length lent) 12 room)
    (ap decoding (take_at (value_of z) (drop 12 lent) 12 (value.length_value z)) ∙ value.count_returns z signed)

short : (lent : ℕ) → lent < 12 → encoding lent ≡ Err (refusal 14 0)
unfolding encoding
short lent h = rw (lt-ltb lent 12 h)

enough : (lent : ℕ) → 12 ≤ lent → encoding lent ≡ Ok 12
unfolding encoding
enough lent h = rw (le-ltb lent 12 h)

pub conversion : Conversion
conversion =
    record {
      nanos_are = nanos_are;
      day_is = day_is;
      count_is = count_is;
      wrong_length_lem = value.wrong_length_lem;
      full_day = value.beyond_day;
      not_fitting = value.not_fitting;
      accepted = value.accepted;
      date_and_time = date_and_time;
      value = value.value_of_lem;
      one_value = value.value_one;
      count_returns = value.count_returns;
      written_returns = written_returns;
      value_returns = value.value_returns;
      short = short;
      enough = enough;
      rest_stays = value.behind_unchanged;
      epoch = examples.epoch_count;
      before = examples.before_count;
      least = examples.least_count;
      below_least = examples.beyond_least;
      day_0 = examples.day_zero;
    }
