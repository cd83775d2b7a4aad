-- What the steps of storing a line answer, which the contracts of private functions cite. Nothing here is a promise to a caller.
use Rattle.std.specs.Prelude.{ℕ, zero, suc, List, ◌∷◌}
use Rattle.text.specs.Characters.{SPACE}
use Rattle.text.specs.Numbers.{decimal_text}

-- the number at an index of a line: a space stands before each but the first
unfoldable pub item : ℕ → ℕ → List ℕ
item zero n = decimal_text n
item (suc i) n = SPACE ∷ decimal_text n
