-- A numbered refusal as text: `refused N at P`.
use Rattle.std.specs.Prelude.{ℕ, List, ◌++◌}
use Rattle.refusal.specs.declared.answers.Refusal.{Refusal}
use Rattle.text.specs.Characters.{ascii}
use Rattle.text.specs.Numbers.{decimal_text}

-- a refusal by its number and its place
unfoldable pub refusal_text : Refusal → List ℕ
refusal_text r = ascii "refused " ++ decimal_text r.number ++ ascii " at " ++ decimal_text r.place

-- the most bytes that it takes: a number of 8 bits and one of 64, and the words before them
abbrev pub most_refusal : ℕ
most_refusal = 35
