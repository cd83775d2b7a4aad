-- What a C caller may rely on beyond each entry's contract, in any edition.
use Rattle.std.specs.Prelude.{ℕ, ◌<◌, ◌≡◌, List}
use Rattle.c_answer.specs.Answers.{RESULT, number_in, Effect, answer, left}
use Rattle.c_answer.specs.Packing.{PacksEffect}
use Rattle.c_sheets.specs.Promises as sheets
use Rattle.c_values.specs.Promises as values
use Rattle.c_timestamps.specs.Promises as timestamps
use Rattle.c_boxes.specs.Promises as boxes

pub record Promises : Type 1 where
  pub of_sheets : (edition : ℕ) → sheets.Promises edition
  pub of_values : (edition : ℕ) → values.Promises edition
  pub of_timestamps : timestamps.Promises
  pub of_boxes : boxes.Promises
  -- where an answer has a number, the output of reading, decoding and encoding is as it was
  pub unchanged : {A : Type 0} (e : Effect A) (lent : List A) → PacksEffect e → RESULT < number_in (answer e) → left e lent ≡ lent
