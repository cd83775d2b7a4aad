-- A row's eleven numbers, set one after the other.
use Prim.Native.Nat.{ℕ, suc, ◌+◌, ◌≤◌}
use mathlib.Core.Path.{◌≡◌, ap, ◌∙◌}
use mathlib.Core.List.{List, [], ◌∷◌}
use native.Mathlib.Nat.{add-suc}
use native.Mathlib.Numerals.{add-one, add-two, add-three, add-four, add_five, add_six, add_seven, add_eight}
use lib.ListN.{length, set}
use Rattle.laws.specs.Stretches.{stretched}
use Rattle.laws.proofs.StretchLaws.{sets_stretched}

add_nine : (n : ℕ) → n + 9 ≡ suc (suc (suc (suc (suc (suc (suc (suc (suc n))))))))
add_nine n = add-suc n 8 ∙ ap suc (add_eight n)

add_ten : (n : ℕ) → n + 10 ≡ suc (suc (suc (suc (suc (suc (suc (suc (suc (suc n)))))))))
add_ten n = add-suc n 9 ∙ ap suc (add_nine n)

pub eleven_stretched : (l : List ℕ) (i a b c d e f g h j m n : ℕ) → i + 11 ≤ length l
    → set (set (set (set (set (set (set (set (set (set (set l i a) (i + 1) b) (i + 2) c) (i + 3) d) (i + 4) e) (i + 5) f) (i + 6) g) (i + 7) h) (i + 8) j) (i + 9) m) (i + 10) n
    ≡ stretched l i (a ∷ b ∷ c ∷ d ∷ e ∷ f ∷ g ∷ h ∷ j ∷ m ∷ n ∷ [])
eleven_stretched l i a b c d e f g h j m n k =
    rw (add-one, add-two, add-three, add-four, add_five, add_six, add_seven, add_eight, add_nine, add_ten)
    (sets_stretched (a ∷ b ∷ c ∷ d ∷ e ∷ f ∷ g ∷ h ∷ j ∷ m ∷ n ∷ []) l i k)
