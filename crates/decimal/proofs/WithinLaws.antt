-- Laws of the order of two decimals that are held to a precision. Assumes nothing.
use mathlib.Core.Path.{◌≡◌, refl, ap₂, ◌∙◌}
use mathlib.Core.Bool.{Bool, true, false, cond, ◌&&◌}
use mathlib.Core.List.{List}
use Prim.Native.Nat.{ℕ, ◌^◌}
use lib.Dec.{ltb}
use lib.IntN.{nat_abs}
use lib.ListN.{length}
use Rattle.std.specs.Prelude.{Result, Ok, Err}
use Rattle.decimal_bytes.specs.declared.precision.WrongLength.{WrongLength}
use Rattle.decimal.specs.declared.within.Unfit.{Unfit}
use Rattle.decimal_bytes.specs.Precision.{is_length}
use Rattle.decimal_bytes.specs.Number.{number}
use Rattle.decimal_bytes.specs.Order.{order, order_of}
use Rattle.decimal.specs.Within.{unless_refused, as_compared, order_within}
use Rattle.decimal_bytes.proofs.FitLaws.{held, fit_of_test}
use Rattle.decimal_bytes.proofs.OrderLaws.{order_of_order}

-- numbers of right lengths are beyond where not both are within, and else in their order
pub within_both : (a b : List ℕ) (p : ℕ) → is_length (length a) ≡ true → is_length (length b) ≡ true
    → order_within a b p ≡ cond (ltb (nat_abs (number a)) (10 ^ p) && ltb (nat_abs (number b)) (10 ^ p)) (Ok (order (number a) (number b))) (Err Unfit.Beyond)
unfolding order_within
within_both a b p e f =
    ap₂ (λ (x y : Result Bool WrongLength). unless_refused x (unless_refused y (as_compared (order_of a b)))) (fit_of_test a p e) (fit_of_test b p f)
    ∙ rw (order_of_order a b e f) (go (ltb (nat_abs (number a)) (10 ^ p)) (ltb (nat_abs (number b)) (10 ^ p)))
  where
    go : (t u : Bool) → unless_refused (held t) (unless_refused (held u) (Ok (order (number a) (number b))))
        ≡ cond (t && u) (Ok (order (number a) (number b))) (Err Unfit.Beyond)
    go true true = refl
    go true false = refl
    go false u = refl
