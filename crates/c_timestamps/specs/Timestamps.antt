-- What decoding a count and encoding fields answer.
use Rattle.std.specs.Prelude.{◌≡◌, ℕ, ◌^◌, Bool, cond, ◌&&◌, List, [], ◌∷◌, leb, ℤ, pos, nat_abs, length, get_or}
use Rattle.std.specs.Prelude as prelude
use Rattle.std.proofs.Math.Option.{Option, none, some}
use Rattle.std.specs.Int.Signed.{le_z, lt_z}
use Rattle.logical_type.specs.declared.types.TimeUnit.{TimeUnit}
use Rattle.timestamp.specs.Units.{ticks_per_second_of, unit_of}
use Rattle.refusal.specs.Outcome.{Outcome, given, refused}
use Rattle.timestamp.specs.Outcomes.{no_date_time, unknown_unit, Decodes, encoding_in}
use Rattle.timestamp.specs.Outcomes as timestamp
use Rattle.timestamp.specs.declared.fields.Fields.{Fields}
use Rattle.c_answer.specs.Answers.{Effect, listed, within, answer, left}

-- "year, month, day, hour, minute, second, fraction"
abbrev pub field_numbers : Fields → List ℤ
field_numbers f =
    f.year ∷ pos f.month ∷ pos f.day ∷ pos f.hour ∷ pos f.minute ∷ pos f.second ∷ pos f.fraction ∷ []

-- what each outcome of decoding comes to: its value is how many numbers are written, 7
abbrev pub decode_effect : Outcome Fields → Effect ℤ
decode_effect (refused r) = refused r
decode_effect (given f) = listed (field_numbers f)

-- what decoding answers and leaves: there is an outcome that it may have (`Decodes`), and both are those of every such outcome
pub record Decoding (unit : ℕ) (count : ℤ) (lent : List ℤ) (answered : ℕ) (held : List ℤ) : Type 0 where
  pub some_outcome : (o : Outcome Fields) × Decodes (unit_of unit) count o
  pub every_answer : (o : Outcome Fields) → Decodes (unit_of unit) count o → answered ≡ answer (within (length lent) (decode_effect o))
  pub every_left : (o : Outcome Fields) → Decodes (unit_of unit) count o → held ≡ left (within (length lent) (decode_effect o)) lent

-- how many fields there are
abbrev pub FIELDS : ℕ
FIELDS = 7

-- the number at an index of some fields
abbrev pub at : List ℤ → ℕ → ℤ
at numbers i = get_or numbers i (pos 0)

-- a number that a field other than the year can be: from 0 on, and of 32 bits
abbrev pub is_field : ℤ → Bool
is_field z = le_z (pos 0) z && lt_z z (pos (2 ^ 32))

-- numbers of which the first seven can be fields, the year any number
unfoldable pub are_fields : List ℤ → Bool
are_fields numbers =
    leb FIELDS (length numbers)
    && (is_field (at numbers 1)
    && (is_field (at numbers 2)
    && (is_field (at numbers 3)
    && (is_field (at numbers 4)
    && (is_field (at numbers 5)
    && is_field (at numbers 6))))))

-- those fields
unfoldable pub fields_of : List ℤ → Fields
fields_of numbers =
    record {
      year = at numbers 0;
      month = nat_abs (at numbers 1);
      day = nat_abs (at numbers 2);
      hour = nat_abs (at numbers 3);
      minute = nat_abs (at numbers 4);
      second = nat_abs (at numbers 5);
      fraction = nat_abs (at numbers 6);
    }

-- the outcome of encoding any numbers: "fewer than seven fields to encode are 18", and so are those of which one is no field
abbrev pub encoding_of : Option TimeUnit → List ℤ → Outcome ℤ
encoding_of none numbers = unknown_unit
encoding_of (some unit) numbers = cond (are_fields numbers) (encoding_in (ticks_per_second_of unit) (fields_of numbers)) no_date_time

-- and of numbers read as fields, or as none, which are encoded as no numbers are
abbrev pub encoding_read : Option TimeUnit → prelude.Option Fields → Outcome ℤ
encoding_read unit (prelude.Some f) = timestamp.encoding unit f
encoding_read unit prelude.None = encoding_of unit []

-- what each outcome of encoding comes to: its value is how many numbers are written, 1
abbrev pub encode_effect : Outcome ℤ → Effect ℤ
encode_effect (refused r) = refused r
encode_effect (given count) = listed (count ∷ [])

-- what encoding comes to for any unit, any numbers and any number of lent places
unfoldable pub encoding : ℕ → List ℤ → ℕ → Effect ℤ
encoding unit numbers lent = within lent (encode_effect (encoding_of (unit_of unit) numbers))
