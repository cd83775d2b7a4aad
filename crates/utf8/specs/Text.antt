-- UTF-8 text: UTF8-octets = *( UTF8-char ), a run of well-formed sequences.
use Rattle.std.specs.Prelude.{ℕ, List, [], ◌++◌, T}
use Rattle.utf8.specs.Sequence.{sequence}

-- no octets are a text, and so are a sequence and a text after it
pub data Text : List ℕ → Type 0 where
  none : Text []
  next : (s : List ℕ) {t : List ℕ} → T (sequence s) → Text t → Text (s ++ t)
