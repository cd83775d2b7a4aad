-- A text stored in lent bytes from a position on, where it fits.
use Rattle.std.specs.Prelude.{ℕ, suc, ◌+◌, Bool, cond, List, leb, length}
use Rattle.laws.specs.Stretches.{stretched}

-- so many bytes fit from a position on into a room of so many
abbrev pub fits : ℕ → ℕ → ℕ → Bool
fits room at count = leb (at + count) room

-- the position past them, and one past the room's end where they do not fit
unfoldable pub position_past : ℕ → ℕ → ℕ → ℕ
position_past room at count = cond (fits room at count) (at + count) (suc room)

-- the position after a text
abbrev pub position_after : ℕ → ℕ → List ℕ → ℕ
position_after room at text = position_past room at (length text)

-- what lent bytes hold once a text was to be stored: nothing is written where it does not fit
unfoldable pub placed_text : List ℕ → ℕ → List ℕ → List ℕ
placed_text lent at text = cond (fits (length lent) at (length text)) (stretched lent at text) lent
