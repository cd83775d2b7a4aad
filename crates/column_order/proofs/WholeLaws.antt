-- Laws of the order of whole numbers, and of decimals as those numbers. Assumes nothing.
use mathlib.Core.Path.{◌≡◌, refl, sym, subst, ◌∙◌}
use mathlib.Core.Bool.{Bool, true, false, not, cond, ◌||◌}
use mathlib.Core.Logic.{◌↔◌}
use Prim.Native.Nat.{ℕ}
use native.Mathlib.Omega.{arith}
use lib.Dec.{T, ltb}
use lib.IntN.{ℤ, pos}
use lib.Signed.{lt_z, ◌<ℤ◌, lt_z_yes, lt_z_no, <ℤ-≤ℤ_trans, clash_ℤ}
use Rattle.decimal_bytes.proofs.OrderLaws.{order_less, order_equal, order_greater}
use Rattle.float_order.specs.Floats.{less_or_equal}
use Rattle.float_order.specs.Keys.{whole_order}
use Rattle.std.specs.Prelude.{Some}
use Rattle.std.specs.declared.cmp.Ordering.TheVariants.{Less, Equal, Greater}
use Rattle.std.specs.Ordering.{int_cmp, nat_cmp, bool_cmp, ordering_reverse}
use borrow.Author.Tests.{eq-eqb, ne_eqb, ltb-true, ltb-false}
use Rattle.column_order.specs.Values.{flag}
use Rattle.column_order.specs.Comparison.{reversed}

-- ---- each answer exactly where the numbers are so

pub whole_less : (x y : ℤ) → (whole_order x y ≡ Less) ↔ (x <ℤ y)
unfolding whole_order
whole_less x y = order_less x y

pub whole_equal : (x y : ℤ) → (whole_order x y ≡ Equal) ↔ (x ≡ y)
unfolding whole_order
whole_equal x y = order_equal x y

pub whole_greater : (x y : ℤ) → (whole_order x y ≡ Greater) ↔ (y <ℤ x)
unfolding whole_order
whole_greater x y = order_greater x y

-- ---- what the library's comparisons answer

pub int_cmp_is : (x y : ℤ) → int_cmp x y ≡ whole_order x y
unfolding whole_order
int_cmp_is x y = refl

pub nat_cmp_is : (m n : ℕ) → nat_cmp m n ≡ whole_order (pos m) (pos n)
unfolding whole_order
nat_cmp_is m n = go (ltb m n) refl (ltb n m) refl
  where
    go : (t : Bool) → ltb m n ≡ t → (u : Bool) → ltb n m ≡ u → nat_cmp m n ≡ cond (ltb m n) Less (cond (ltb n m) Greater Equal)
    go true p u q = rw p
    go false p true q = let h = ltb-true n m q in rw (p, q, ne_eqb m n (λ (e : m ≡ n). omega arith))
    go false p false q = let h = ltb-false m n p in let k = ltb-false n m q in rw (p, q, eq-eqb m n (omega arith))

pub bool_cmp_is : (p q : Bool) → bool_cmp p q ≡ whole_order (pos (flag p)) (pos (flag q))
unfolding whole_order
bool_cmp_is true true = refl
bool_cmp_is true false = refl
bool_cmp_is false true = refl
bool_cmp_is false false = refl

-- ---- the order of whole numbers is a total order

holds : {t : Bool} → t ≡ true → T t
holds e = subst T (sym e) tt

lt_z_asym : (x y : ℤ) → lt_z x y ≡ true → lt_z y x ≡ true → ⊥
lt_z_asym x y p q =
    let l = (whole_less x y).1 (lt_z_yes (holds p)) in
    let g = (whole_greater x y).1 (lt_z_yes (holds q)) in
    let z : ◌≡◌ {A = ℕ} 0 1 = cc in
    omega arith

pub whole_turned : (x y : ℤ) → whole_order y x ≡ ordering_reverse (whole_order x y)
unfolding whole_order
whole_turned x y = go (lt_z x y) refl (lt_z y x) refl
  where
    go : (t : Bool) → lt_z x y ≡ t → (u : Bool) → lt_z y x ≡ u → cond u Less (cond t Greater Equal) ≡ ordering_reverse (cond t Less (cond u Greater Equal))
    go true p true q = absurd (lt_z_asym x y p q)
    go true p false q = refl
    go false p true q = refl
    go false p false q = refl

-- at most is not above
whole_at_most : (x y : ℤ) → less_or_equal (Some (whole_order x y)) ≡ not (lt_z y x)
unfolding whole_order
whole_at_most x y = go (lt_z x y) refl (lt_z y x) refl
  where
    go : (t : Bool) → lt_z x y ≡ t → (u : Bool) → lt_z y x ≡ u → less_or_equal (Some (cond t Less (cond u Greater Equal))) ≡ not u
    go true p true q = absurd (lt_z_asym x y p q)
    go true p false q = refl
    go false p true q = refl
    go false p false q = refl

pub whole_trans : (x y z : ℤ) → less_or_equal (Some (whole_order x y)) ≡ true → less_or_equal (Some (whole_order y z)) ≡ true → less_or_equal (Some (whole_order x z)) ≡ true
whole_trans x y z p q = whole_at_most x z ∙ go (lt_z z x) refl
  where
    go : (t : Bool) → lt_z z x ≡ t → not t ≡ true
    go true e = clash_ℤ (<ℤ-≤ℤ_trans (lt_z_yes (holds e)) (lt_z_no {a = y} {b = x} (holds (sym (whole_at_most x y) ∙ p)))) (lt_z_no {a = z} {b = y} (holds (sym (whole_at_most y z) ∙ q)))
    go false e = refl

pub whole_total : (x y : ℤ) → (less_or_equal (Some (whole_order x y)) || less_or_equal (reversed (Some (whole_order x y)))) ≡ true
unfolding whole_order
whole_total x y = go (lt_z x y) (lt_z y x)
  where
    go : (t u : Bool) → (less_or_equal (Some (cond t Less (cond u Greater Equal))) || less_or_equal (reversed (Some (cond t Less (cond u Greater Equal))))) ≡ true
    go true u = refl
    go false true = refl
    go false false = refl
