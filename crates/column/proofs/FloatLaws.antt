-- Which floats have bits. Assumes nothing.
use mathlib.Core.Path.{◌≡◌, sym, ◌∙◌}
use mathlib.Core.Bool.{false, not}
use Prim.Native.Nat.{ℕ}
use native.Mathlib.Omega.{arith}
use lib.Dec.{T}
use lib.Ieee.{Float, nan, inf, fin, is_nan, ne}
use lib.Ieee.Compare.{nan_differs, differs_from_itself}
use Rattle.laws.proofs.BoolLaws.{T_false}

-- a float differs from itself exactly where it is a NaN
pub differs_nan : (x : Float) → ne x x ≡ is_nan x
unfolding is_nan
differs_nan nan = nan_differs
differs_nan (inf s) = T_false (ne (inf s) (inf s)) (λ t. let e : inf s ≡ nan = differs_from_itself (inf s) t in let z : ◌≡◌ {A = ℕ} 0 1 = cc in omega arith)
differs_nan (fin s m d) = T_false (ne (fin s m d) (fin s m d)) (λ t. let e : fin s m d ≡ nan = differs_from_itself (fin s m d) t in let z : ◌≡◌ {A = ℕ} 0 1 = cc in omega arith)

-- one that does not has bits
pub has_bits : (x : Float) → ne x x ≡ false → T (not (is_nan x))
has_bits x e = rw (sym (differs_nan x) ∙ e) tt
