-- What conversion answers: document 02's refusals by number and place, or the value; and what it leaves in lent memory.
use Rattle.std.specs.Prelude.{Result, Ok, Err, ℕ, cond, List, ◌++◌, eqb, ltb, ℤ, length, drop}
use Rattle.refusal.specs.Numbers.{WRONG_LENGTH, BREAKS_ANNOTATION}
use Rattle.refusal.specs.Outcome.{Outcome, given, refused, unplaced, short_output}
use Rattle.refusal.specs.declared.answers.Refusal.{Refusal}
use Rattle.refusal.specs.Outcome.{Counted}
use Rattle.timestamp.specs.Outcomes.{counting}
use Rattle.int96.specs.Value.{VALUE_BYTES, NANOS_PER_DAY, nanos_in, count_of, value_of}

-- what each answer of decode stands for
abbrev pub converted : Result ℤ Refusal → Outcome ℤ
converted (Ok z) = given z
converted (Err r) = refused r

-- "15 for a length other than 12, 16 for a full day of nanoseconds or more, 19 where the count doesn't fit" (`counting`), else the count
unfoldable pub decoding : List ℕ → Outcome ℤ
decoding value =
    cond (eqb (length value) VALUE_BYTES)
    (cond (ltb (nanos_in value) NANOS_PER_DAY) (counting (count_of value)) (refused (unplaced BREAKS_ANNOTATION)))
    (refused (unplaced WRONG_LENGTH))

-- what encode answers of an output of so many bytes: 14, else the number of bytes written
unfoldable pub encoding : ℕ → Counted
encoding lent = cond (ltb lent VALUE_BYTES) (Err short_output) (Ok VALUE_BYTES)

-- and what the output holds afterwards: the value and what stood past it, or what it held where it is too short
unfoldable pub encoded : ℤ → List ℕ → List ℕ
encoded count lent = cond (ltb (length lent) VALUE_BYTES) lent (value_of count ++ drop VALUE_BYTES lent)
