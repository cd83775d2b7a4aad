-- A list with others in a stretch of it.
use Rattle.std.specs.Prelude.{ℕ, ◌+◌, List, ◌++◌, length, take, drop}

-- others in place of its own from a start on: what stands before and behind them stays
unfoldable pub stretched : List ℕ → ℕ → List ℕ → List ℕ
stretched list start others = take start list ++ others ++ drop (start + length others) list
