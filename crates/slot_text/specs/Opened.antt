-- What opening a sheet answers, as text: `refused N at P`, and of an opened sheet nothing.
use Rattle.std.specs.Prelude.{ℕ, List, [], ◌∷◌}
use Rattle.text.specs.Lines.{line_of}
use Rattle.text.specs.Refusals.{refusal_text}
use Rattle.refusal.specs.Outcome.{Outcome, given, refused}
use Rattle.sheet.specs.Opening.{Nodes}
use Rattle.refusal.specs.Outcome.{Counted}
use Rattle.std.specs.Prelude.{Ok, Err}

-- a text as a line, and of no text nothing
unfoldable pub line_of_some : List ℕ → List ℕ
line_of_some [] = []
line_of_some (byte ∷ bytes) = line_of (byte ∷ bytes)

-- an outcome
unfoldable pub outcome_text : Outcome Nodes → List ℕ
outcome_text (given nodes) = []
outcome_text (refused r) = refusal_text r

-- each answer of opening
unfoldable pub opened_text : Counted → List ℕ
opened_text (Ok total) = []
opened_text (Err r) = refusal_text r

-- a refusal as a line
unfoldable pub refusal_line : Counted → List ℕ
refusal_line opened = line_of_some (opened_text opened)
