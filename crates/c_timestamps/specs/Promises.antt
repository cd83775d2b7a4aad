-- What a C caller may rely on of calls on timestamps, beyond each call's contract.
use Rattle.std.specs.Prelude.{ℕ, ◌<◌, ◌≡◌, List, ℤ, length}
use Rattle.refusal.specs.Outcome.{Outcome}
use Rattle.timestamp.specs.Units.{unit_of}
use Rattle.timestamp.specs.Outcomes.{Decodes}
use Rattle.timestamp.specs.declared.fields.Fields.{Fields}
use Rattle.int96.specs.Outcomes as int96
use Rattle.c_answer.specs.Answers.{RESULT, number_in, counted_answer, within, answer, left}
use Rattle.c_answer.specs.Packing.{PacksCounted, PacksEffect}
use Rattle.c_timestamps.specs.Timestamps.{decode_effect, Decoding, encoding}
use Rattle.c_timestamps.specs.Int96.{from_int96}

pub record Promises : Type 0 where
  -- every answer can be taken apart again
  pub decode_packs : (unit : ℕ) (count : ℤ) (lent : ℕ) (o : Outcome Fields) → Decodes (unit_of unit) count o → PacksEffect (within lent (decode_effect o))
  pub encode_packs : (unit : ℕ) (numbers : List ℤ) (lent : ℕ) → PacksEffect (encoding unit numbers lent)
  pub from_int96_packs : (value : List ℕ) (lent : ℕ) → PacksEffect (from_int96 value lent)
  pub to_int96_packs : (lent : ℕ) → PacksCounted (int96.encoding lent)
  -- decoding has one answer, and leaves one thing
  pub decode_one : (unit : ℕ) (count : ℤ) (lent : List ℤ) (r s : ℕ) (k l : List ℤ) → Decoding unit count lent r k → Decoding unit count lent s l → (r ≡ s) × (k ≡ l)
  -- where an answer of either INT96 call has a number, the output is as it was
  pub from_int96_unchanged : (value : List ℕ) (lent : List ℤ) → RESULT < number_in (answer (from_int96 value (length lent))) → left (from_int96 value (length lent)) lent ≡ lent
  pub to_int96_unchanged : (count : ℤ) (lent : List ℕ) → RESULT < number_in (counted_answer (int96.encoding (length lent))) → int96.encoded count lent ≡ lent
