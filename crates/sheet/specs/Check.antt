-- The checks of a sheet's blocks: whether they are right, and a sheet that stores them.
use Rattle.std.specs.Prelude.{ℕ, zero, suc, ◌+◌, ◌*◌, Bool, List, eqb, set}
use Rattle.block_check.specs.Check.{check}
use Rattle.sheet.specs.Number.{low_byte, high_byte}
use Rattle.sheet.specs.Block.{block_size, check_at, stored_check, block_count, block_at}

-- block i's stored check is its check; the stored number is not reduced
unfoldable pub check_right : List ℕ → ℕ → Bool
check_right sheet i = eqb (stored_check (block_at sheet i)) (check (block_at sheet i))

-- a sheet that stores the check of its block i, all other bytes as they are
unfoldable pub with_check : List ℕ → ℕ → List ℕ
with_check sheet i =
    let c = check (block_at sheet i) in
    set (set sheet (block_size * i + check_at) (low_byte c)) (block_size * i + check_at + 1) (high_byte c)

-- the same for its first n blocks
unfoldable pub with_checks : List ℕ → ℕ → List ℕ
with_checks sheet zero = sheet
with_checks sheet (suc n) = with_check (with_checks sheet n) n

-- a sheet that stores the check of every block
unfoldable pub renewed : List ℕ → List ℕ
renewed sheet = with_checks sheet (block_count sheet)
