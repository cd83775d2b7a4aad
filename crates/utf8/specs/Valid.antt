-- Where whole sequences, read from the start of any octets, stop.
use Rattle.std.specs.Prelude.{ℕ, zero, suc, ◌+◌, ◌≤◌, ◌<◌, cond, List, [], ◌∷◌, length, take, drop}
use Rattle.utf8.specs.Sequence.{Rule, spells, utf8_char}
use Rattle.utf8.specs.Text.{Text}

-- how many octets the first alternative of a rule that octets begin with has; 0 where they begin with none
unfoldable pub matched : Rule → List ℕ → ℕ
matched [] s = 0
matched (ranges ∷ rule) s = cond (spells ranges (take (length ranges) s)) (length ranges) (matched rule s)

-- how many octets the sequence that octets begin with has; 0 where they begin with none
unfoldable pub leading : List ℕ → ℕ
leading s = matched utf8_char s

-- how many octets the first n sequences have, read one after the other from the start; a sequence that is not there has 0
unfoldable pub reading : ℕ → List ℕ → ℕ
reading zero s = 0
reading (suc n) s = leading s + reading n (drop (leading s) s)

-- where whole sequences, read from the start, stop: at the end of them all, and there are no more of them than octets
unfoldable pub valid_up_to : List ℕ → ℕ
valid_up_to s = reading (length s) s

-- whole sequences, read from the start of s, stop at r: what stands before r is whole sequences, and no longer beginning of s is
pub record Stops (s : List ℕ) (r : ℕ) : Type 0 where
  pub within : r ≤ length s
  pub whole : Text (take r s)
  pub longest : (n : ℕ) → r < n → n ≤ length s → Text (take n s) → ⊥
