-- What turning an INT96 value into a count comes to.
use Rattle.std.specs.Prelude.{ℕ, List, ℤ}
use Rattle.int96.specs.Outcomes.{decoding}
use Rattle.c_answer.specs.Answers.{Effect, within}
use Rattle.c_timestamps.specs.Timestamps.{encode_effect}

-- of any bytes and any number of lent places: as of encoding fields, the value of a result is 1
unfoldable pub from_int96 : List ℕ → ℕ → Effect ℤ
from_int96 value lent = within lent (encode_effect (decoding value))
