-- The greatest decimal precision by byte length: rule 11 of document 01, for FIXED n.
use Rattle.std.specs.Prelude.{ℕ, zero, suc, ◌*◌, ◌-◌, ◌^◌, Bool, cond, ◌&&◌, leb}

-- the greatest byte length of a decimal (house)
abbrev pub greatest_length : ℕ
greatest_length = 256

-- a byte length that a decimal can have: 1 to 256
abbrev pub is_length : ℕ → Bool
is_length n = leb 1 n && leb n greatest_length

-- the greatest number of n bytes: 2^(8n-1) - 1
abbrev pub greatest_number : ℕ → ℕ
greatest_number n = 2 ^ (8 * n - 1) - 1

-- the greatest number up to a limit that passes a test, 0 where none does
unfoldable pub greatest : (ℕ → Bool) → ℕ → ℕ
greatest test zero = zero
greatest test (suc d) = let lower = greatest test d in cond (test (suc d)) (suc d) lower

-- the greatest d with 10^d ≤ 2^(8n-1) - 1; 0 for an n that is no length. No d above 8n comes into question
unfoldable pub greatest_precision : ℕ → ℕ
greatest_precision n = cond (is_length n) (greatest (λ d. leb (10 ^ d) (greatest_number n)) (8 * n)) 0
