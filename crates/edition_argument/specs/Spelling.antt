-- Which edition a text spells, and which a program is given.
use Rattle.std.specs.Prelude.{ℕ, ◌≤◌, ◌<◌, ◌≡◌, true, List}
use Rattle.edition.specs.Editions.{FIRST, is_known}
use Rattle.text.specs.Numbers.{decimal_text}

-- an answer for a text: the known edition whose decimal digits it is, or no edition where it is none's
pub record Spelled (text : List ℕ) (answer : ℕ) : Type 0 where
  pub no_other : is_known answer ≡ true → decimal_text answer ≡ text
  pub each_known : (e : ℕ) → is_known e ≡ true → decimal_text e ≡ text → answer ≡ e

-- an answer for a program that is run with so many words, its name the first of them, and this text as the second
pub record Given (words : ℕ) (text : List ℕ) (answer : ℕ) : Type 0 where
  -- "or 1 without one"
  pub without : words ≤ 1 → answer ≡ FIRST
  pub with_one : words ≡ 2 → Spelled text answer
  -- more than one argument is no edition
  pub with_more : 2 < words → answer ≡ 0
