-- The order of bytes: from a place on, and as a total order. Assumes nothing.
use mathlib.Core.Path.{◌≡◌, refl, ap, ◌∙◌}
use mathlib.Core.Bool.{Bool, true, false, cond, ◌||◌}
use mathlib.Core.Logic.{◌⊎◌, inl, inr}
use mathlib.Core.List.{List, [], ◌∷◌}
use Prim.Native.Nat.{ℕ, ◌<◌}
use native.Mathlib.Nat.{le_refl, le_antisymm}
use native.Mathlib.Omega.{arith}
use lib.Dec.{ltb}
use borrow.Author.Tests.{lt-ltb, le-ltb, ltb-true, ltb-false}
use Rattle.std.specs.Prelude.{Some}
use Rattle.std.specs.Cmp.Lexicographic.{slice_cmp}
use Rattle.std.specs.Ordering.{nat_cmp, ordering_then, ordering_reverse}
use Rattle.std.specs.declared.cmp.Ordering.{Ordering}
use Rattle.float_order.specs.Keys.{whole_order}
use Rattle.column_order.specs.Keys.{byte_order}
use Rattle.column_order.proofs.WholeLaws.{nat_cmp_is}
use Rattle.float_order.specs.Floats.{less_or_equal}
use Rattle.std.specs.declared.cmp.Ordering.TheVariants.{Less, Equal, Greater}
use Rattle.column_order.specs.Comparison.{reversed}

-- ---- what the library's comparison of slices answers

pub slice_cmp_is : (a b : List ℕ) → slice_cmp nat_cmp a b ≡ byte_order a b
unfolding byte_order whole_order
slice_cmp_is [] [] = refl
slice_cmp_is [] (y ∷ ys) = refl
slice_cmp_is (x ∷ xs) [] = refl
slice_cmp_is (x ∷ xs) (y ∷ ys) =
    ap (λ (o : Ordering). ordering_then o (slice_cmp nat_cmp xs ys)) (nat_cmp_is x y) ∙ go (ltb x y) (ltb y x) (slice_cmp_is xs ys)
  where
    go : (t u : Bool) → slice_cmp nat_cmp xs ys ≡ byte_order xs ys
        → ordering_then (cond t Less (cond u Greater Equal)) (slice_cmp nat_cmp xs ys) ≡ cond t Less (cond u Greater (byte_order xs ys))
    go true u rest = refl
    go false true rest = refl
    go false false rest = rest

-- ---- the order of bytes is a total order

pub byte_refl : (a : List ℕ) → byte_order a a ≡ Equal
unfolding byte_order
byte_refl [] = refl
byte_refl (x ∷ xs) = rw (le-ltb x x (le_refl x)) (byte_refl xs)

pub byte_turned : (a b : List ℕ) → byte_order b a ≡ ordering_reverse (byte_order a b)
unfolding byte_order
byte_turned [] [] = refl
byte_turned [] (y ∷ ys) = refl
byte_turned (x ∷ xs) [] = refl
byte_turned (x ∷ xs) (y ∷ ys) = go (ltb x y) refl (ltb y x) refl (byte_turned xs ys)
  where
    go : (t : Bool) → ltb x y ≡ t → (u : Bool) → ltb y x ≡ u → byte_order ys xs ≡ ordering_reverse (byte_order xs ys)
        → cond u Less (cond t Greater (byte_order ys xs)) ≡ ordering_reverse (cond t Less (cond u Greater (byte_order xs ys)))
    go true p true q rest = absurd (let h = ltb-true x y p in let k = ltb-true y x q in omega arith)
    go true p false q rest = refl
    go false p true q rest = refl
    go false p false q rest = rest

-- the first bytes decide, or are the same
heads : (x y : ℕ) (xs ys : List ℕ) → less_or_equal (Some (byte_order (x ∷ xs) (y ∷ ys))) ≡ true → (x < y) ⊎ ((x ≡ y) × (less_or_equal (Some (byte_order xs ys)) ≡ true))
unfolding byte_order
heads x y xs ys e = go (ltb x y) refl (ltb y x) refl e
  where
    go : (t : Bool) → ltb x y ≡ t → (u : Bool) → ltb y x ≡ u → less_or_equal (Some (cond t Less (cond u Greater (byte_order xs ys)))) ≡ true
        → (x < y) ⊎ ((x ≡ y) × (less_or_equal (Some (byte_order xs ys)) ≡ true))
    go true p u q r = inl (ltb-true x y p)
    go false p true q r = absurd (let z : ◌≡◌ {A = ℕ} 0 1 = cc in omega arith)
    go false p false q r = inr (le_antisymm (ltb-false y x q) (ltb-false x y p), r)

head-< : (x y : ℕ) (xs ys : List ℕ) → x < y → less_or_equal (Some (byte_order (x ∷ xs) (y ∷ ys))) ≡ true
unfolding byte_order
head-< x y xs ys h = rw (lt-ltb x y h)

head-≡ : (x y : ℕ) (xs ys : List ℕ) → x ≡ y → less_or_equal (Some (byte_order xs ys)) ≡ true → less_or_equal (Some (byte_order (x ∷ xs) (y ∷ ys))) ≡ true
unfolding byte_order
head-≡ x y xs ys e h = rw (e, le-ltb y y (le_refl y)) h

pub byte_trans : (a b c : List ℕ) → less_or_equal (Some (byte_order a b)) ≡ true → less_or_equal (Some (byte_order b c)) ≡ true → less_or_equal (Some (byte_order a c)) ≡ true
unfolding byte_order
byte_trans [] b [] p q = refl
byte_trans [] b (z ∷ zs) p q = refl
byte_trans (x ∷ xs) [] c p q = cc
byte_trans (x ∷ xs) (y ∷ ys) [] p q = cc
byte_trans (x ∷ xs) (y ∷ ys) (z ∷ zs) p q = go (heads x y xs ys p) (heads y z ys zs q) (byte_trans xs ys zs)
  where
    go : (x < y) ⊎ ((x ≡ y) × (less_or_equal (Some (byte_order xs ys)) ≡ true)) → (y < z) ⊎ ((y ≡ z) × (less_or_equal (Some (byte_order ys zs)) ≡ true))
        → (less_or_equal (Some (byte_order xs ys)) ≡ true → less_or_equal (Some (byte_order ys zs)) ≡ true → less_or_equal (Some (byte_order xs zs)) ≡ true)
        → less_or_equal (Some (byte_order (x ∷ xs) (z ∷ zs))) ≡ true
    go (inl h) (inl k) rest = head-< x z xs zs (omega arith)
    go (inl h) (inr k) rest = head-< x z xs zs (let e = k.0 in omega arith)
    go (inr h) (inl k) rest = head-< x z xs zs (let e = h.0 in omega arith)
    go (inr h) (inr k) rest = head-≡ x z xs zs (h.0 ∙ k.0) (rest h.1 k.1)

pub byte_total : (a b : List ℕ) → (less_or_equal (Some (byte_order a b)) || less_or_equal (reversed (Some (byte_order a b)))) ≡ true
unfolding byte_order
byte_total [] [] = refl
byte_total [] (y ∷ ys) = refl
byte_total (x ∷ xs) [] = refl
byte_total (x ∷ xs) (y ∷ ys) = go (ltb x y) (ltb y x) (byte_total xs ys)
  where
    go : (t u : Bool) → (less_or_equal (Some (byte_order xs ys)) || less_or_equal (reversed (Some (byte_order xs ys)))) ≡ true
        → (less_or_equal (Some (cond t Less (cond u Greater (byte_order xs ys)))) || less_or_equal (reversed (Some (cond t Less (cond u Greater (byte_order xs ys)))))) ≡ true
    go true u rest = refl
    go false true rest = refl
    go false false rest = rest
