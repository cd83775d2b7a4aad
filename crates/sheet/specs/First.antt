-- The first number at which a test fails.
use Rattle.std.specs.Prelude.{ℕ, zero, suc, Bool, cond}

-- the first of the n numbers from k on at which the test fails, or k + n where it fails at none
unfoldable pub first_wrong_from : (ℕ → Bool) → ℕ → ℕ → ℕ
first_wrong_from right k zero = k
first_wrong_from right k (suc n) = cond (right k) (first_wrong_from right (suc k) n) k

-- the first number below n at which the test fails, or n where it fails at none
unfoldable pub first_wrong : (ℕ → Bool) → ℕ → ℕ
first_wrong right n = first_wrong_from right 0 n
