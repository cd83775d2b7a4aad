-- Characters as bytes: a text is the list of the codes of its characters.
use Rattle.std.specs.Prelude.{ℕ, List, [], ◌∷◌}
use Prim.Native.Char.{code}
use Prim.Native.String.{String, [] as no_more, ◌∷◌ as ◌then◌}

-- the codes of quoted characters, each of ASCII
abbrev pub ascii : String → List ℕ
ascii no_more = []
ascii (c then s) = code c ∷ ascii s

-- the byte between two numbers of a line
abbrev pub SPACE : ℕ
SPACE = 32

-- the byte that ends a line
abbrev pub LF : ℕ
LF = 10

-- the sign of a number below 0
abbrev pub MINUS : ℕ
MINUS = 45
