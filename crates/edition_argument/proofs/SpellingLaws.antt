-- A known edition is spelt by one digit.
-- Assumes nothing.
use Prim.Native.Nat.{ℕ, ◌+◌}
use mathlib.Core.Path.{◌≡◌, refl, sym, ap, ◌∙◌}
use mathlib.Core.Bool.{true, true≢false}
use mathlib.Core.List.{List, [], ◌∷◌}
use native.Mathlib.Omega.{arith}
use lib.ListN.{length, get_or}
use Rattle.edition.specs.Editions.{is_known}
use Rattle.edition.proofs.EditionLaws.{each_edition}
use Rattle.text.specs.Numbers.{enough_digits, digit_count, decimal_text}

-- the character 0
abbrev ZERO : ℕ
ZERO = 48

digit_text : (e : ℕ) → is_known e ≡ true → decimal_text e ≡ (ZERO + e) ∷ []
unfolding decimal_text digit_count enough_digits
digit_text = each_edition _ refl refl refl

single : (text : List ℕ) → length text ≡ 1 → get_or text 0 0 ∷ [] ≡ text
single [] e = absurd (omega arith)
single (b ∷ []) e = refl
single (b ∷ c ∷ bs) e = absurd (omega arith)

-- so one byte that is its digit spells it
pub spells : (text : List ℕ) (e : ℕ) → length text ≡ 1 → ZERO + e ≡ get_or text 0 0 → is_known e ≡ true → decimal_text e ≡ text
spells text e one byte known = digit_text e known ∙ ap (λ (b : ℕ). b ∷ []) byte ∙ single text one

-- and nothing else does
pub spelt : (text : List ℕ) (e : ℕ) → is_known e ≡ true → decimal_text e ≡ text → (length text ≡ 1) × (get_or text 0 0 ≡ ZERO + e)
spelt text e known is =
    let one = sym is ∙ digit_text e known in
    (ap length one, ap (λ (t : List ℕ). get_or t 0 0) one)

-- 0 is no edition
pub none_unknown : is_known 0 ≡ true → ⊥
unfolding is_known
none_unknown e = true≢false (sym e)
