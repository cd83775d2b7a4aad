-- Lines of text: "Each line ends with LF", and numbers on one are separated by single spaces.
use Rattle.std.specs.Prelude.{ℕ, List, [], ◌∷◌, ◌++◌, map}
use Rattle.text.specs.Characters.{SPACE, LF}
use Rattle.text.specs.Numbers.{decimal_text}

-- texts with a space between each two
unfoldable pub spaced : List (List ℕ) → List ℕ
spaced [] = []
spaced (t ∷ []) = t
spaced (t ∷ u ∷ ts) = t ++ SPACE ∷ spaced (u ∷ ts)

-- a text as a line
abbrev pub line_of : List ℕ → List ℕ
line_of text = text ++ LF ∷ []

-- a line of numbers
unfoldable pub numbers_line : List ℕ → List ℕ
numbers_line ns = line_of (spaced (map decimal_text ns))
