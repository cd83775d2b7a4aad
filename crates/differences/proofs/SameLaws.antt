-- Slices are equal exactly where they hold the same bytes.
use mathlib.Core.Path.{◌≡◌, sym, ◌∙◌}
use mathlib.Core.Bool.{Bool}
use mathlib.Core.List.{List}
use Prim.Native.Nat.{ℕ}
use lib.Dec.{eqb}
use lib.Pointwise.{pointwise}
use Rattle.sheet.specs.Name.{same_bytes}
use Rattle.sheet.proofs.NameLaws.{same_bytes_pointwise}

-- what a comparison of two answers
pub equal_same : (a b : List ℕ) {r t : Bool} → r ≡ pointwise eqb a b → r ≡ t → same_bytes a b ≡ t
equal_same a b e d = sym (same_bytes_pointwise a b) ∙ sym e ∙ d
