-- Floats as text, by whether they are the NaN, and texts made in a room.
-- Assumes nothing.
use Prim.Native.Nat.{ℕ, ◌≤◌}
use mathlib.Core.Bool.{true, false}
use mathlib.Core.List.{List}
use mathlib.Core.Path.{◌≡◌, ◌∙◌}
use native.Mathlib.Omega.{arith}
use lib.Ieee.{Float, Format, is_nan, to_bits}
use lib.ListN.{length, take}
use Rattle.text.specs.Characters.{ascii}
use Rattle.text.specs.Numbers.{hex_text}
use Rattle.text.proofs.PlacingLaws.{Holds, holds_made}
use Rattle.column_text.specs.Values.{hex_digits, float_text, most_value_bytes}

-- what making a text in a room for a value promises
pub record Made (held : List ℕ) (next : ℕ) (text : List ℕ) : Type 0 where
  pub counted : (next ≤ length held) × (next ≡ length (take next held))
  pub front : take next held ≡ text
  pub short : next ≤ most_value_bytes

pub made : {lent held : List ℕ} {next : ℕ} {text text' : List ℕ} → Holds lent held 0 next text → text ≡ text' → length text ≤ most_value_bytes → Made held next text'
made holds e short =
    let whole = holds_made holds in
    record { counted = whole.0; front = whole.1 ∙ e; short = omega (arith, holds.end) }

module _ (f : Format) (x : Float) where
  pub nan_text : is_nan x ≡ true → ascii "NaN" ≡ float_text f x
  unfolding float_text
  nan_text e = rw e

  pub number_text : is_nan x ≡ false → hex_text (hex_digits f) (to_bits f x) ≡ float_text f x
  unfolding float_text
  number_text e = rw e
