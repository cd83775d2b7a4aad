-- Lists of numbers that are at most a bound.
use Prim.Native.Nat.{ℕ, zero, suc, ◌≤◌}
use mathlib.Core.Path.{◌≡◌}
use mathlib.Core.Bool.{Bool, true, false, cond, ◌&&◌}
use mathlib.Core.List.{List, [], ◌∷◌, ◌++◌, map}
use native.Mathlib.Omega.{arith}
use borrow.Author.Tests.{leb-true}
use lib.Dec.{leb}
use lib.ListN.{get_or}
use Rattle.laws.proofs.BoolLaws.{and_left, and_right}

-- each number of a list is at most n
abbrev pub AtMost : ℕ → List ℕ → Type 0
AtMost n [] = Unit {0}
AtMost n (x ∷ xs) = (x ≤ n) × AtMost n xs

-- the same by a test, which computes on a list that is written out
abbrev pub are_at_most : ℕ → List ℕ → Bool
are_at_most n [] = true
are_at_most n (x ∷ xs) = leb x n && are_at_most n xs

pub at_most_test : (n : ℕ) (xs : List ℕ) → are_at_most n xs ≡ true → AtMost n xs
at_most_test n [] e = tt
at_most_test n (x ∷ xs) e = (leb-true x n (and_left (leb x n) (are_at_most n xs) e), at_most_test n xs (and_right (leb x n) (are_at_most n xs) e))

pub at_most_append : (n : ℕ) (xs ys : List ℕ) → AtMost n xs → AtMost n ys → AtMost n (xs ++ ys)
at_most_append n [] ys a b = b
at_most_append n (x ∷ xs) ys a b = (a.0, at_most_append n xs ys a.1 b)

pub at_most_map : (n : ℕ) (f : ℕ → ℕ) (xs : List ℕ) → ((x : ℕ) → f x ≤ n) → AtMost n (map f xs)
at_most_map n f [] h = tt
at_most_map n f (x ∷ xs) h = (h x, at_most_map n f xs h)

pub at_most_get_d : (n : ℕ) (xs : List ℕ) (i : ℕ) → AtMost n xs → get_or xs i 0 ≤ n
at_most_get_d n [] i a = omega arith
at_most_get_d n (x ∷ xs) zero a = a.0
at_most_get_d n (x ∷ xs) (suc i) a = at_most_get_d n xs i a.1

-- one of two numbers, each at most n
pub cond_most : (n : ℕ) (b : Bool) (x y : ℕ) → x ≤ n → y ≤ n → cond b x y ≤ n
cond_most n true x y p q = p
cond_most n false x y p q = q
