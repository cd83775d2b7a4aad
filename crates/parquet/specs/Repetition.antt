-- Codes of the repetitions ("1 repetition (required 0, optional 1, repeated 2, none 255)").
use Rattle.std.specs.Prelude.{ℕ}

abbrev pub REQUIRED : ℕ
REQUIRED = 0

abbrev pub OPTIONAL : ℕ
OPTIONAL = 1

abbrev pub REPEATED : ℕ
REPEATED = 2

-- no repetition, which the root alone has
abbrev pub NONE : ℕ
NONE = 255
