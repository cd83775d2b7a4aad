-- Signed numbers as naturals.
use Rattle.std.specs.Prelude.{ℕ, ℤ, pos, negsuc}

-- the number itself, and 0 where it is negative
unfoldable pub natural : ℤ → ℕ
natural (pos n) = n
natural (negsuc n) = 0
