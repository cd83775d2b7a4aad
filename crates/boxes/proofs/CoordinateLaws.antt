-- How two coordinates compare, by the tests of floats; and the degrees of GEOGRAPHY.
use Prim.Native.Nat.{ℕ}
use mathlib.Core.Path.{◌≡◌, refl, sym, ap, ◌∙◌}
use mathlib.Core.Bool.{Bool, true, false, not, cond, ◌||◌}
use borrow.Author.Tests.{not-true, eq-eqb, ne_eqb}
use lib.Dec.{eqb}
use lib.IntN.{pos, neg_ℤ}
use lib.Ieee.{Float, nan, inf, fin, binary64, lt, eq, le, ne, is_nan, of_int}
use Rattle.laws.proofs.BoolLaws.{is_false}
use Rattle.parquet.specs.Logical as logical
use Rattle.float_order.specs.Floats.{float_order, less_or_equal}
use Rattle.std.specs.Prelude.{Some, None}
use Rattle.std.specs.declared.cmp.Ordering.TheVariants.{Less, Equal, Greater}
use Rattle.float_order.proofs.OrderLaws as order
use Rattle.float_order.proofs.OrderLaws.{not_both}
use Rattle.boxes.specs.Coordinates.{is_greater, at_most, is_above, Same, X, most_degree, in_range, is_allowed}

-- ---- the tests

pub at_most_le : (v w : Float) → at_most v w ≡ le v w
unfolding at_most float_order le
at_most_le v w = go (lt v w) (lt w v) (eq v w) (λ m. is_false (eq v w) (λ e. not_both (sym (order.eq_not_lt w v (order.eq_sym v w e)) ∙ m)))
  where
    go : (l m e : Bool) → (m ≡ true → e ≡ false) → less_or_equal (cond l (Some Less) (cond m (Some Greater) (cond e (Some Equal) None))) ≡ (l || e)
    go true m e h = refl
    go false true e h = sym (h refl)
    go false false true h = refl
    go false false false h = refl

pub is_above_lt : (v w : Float) → is_above v w ≡ lt w v
unfolding is_above float_order
is_above_lt v w = go (lt v w) (lt w v) (eq v w) (order.lt_asym v w)
  where
    go : (l m e : Bool) → (l ≡ true → m ≡ false) → is_greater (cond l (Some Less) (cond m (Some Greater) (cond e (Some Equal) None))) ≡ m
    go true m e h = sym (h refl)
    go false true e h = refl
    go false false true h = refl
    go false false false h = refl

-- only a NaN differs from itself
pub ne_nan : (v : Float) → ne v v ≡ is_nan v
unfolding ne is_nan
ne_nan nan = unfold eq in refl
ne_nan (inf s) = ap not (order.eq_refl (inf s) refl)
ne_nan (fin s m e) = ap not (order.eq_refl (fin s m e) refl)

-- ---- the order

-- where one is at most another, both are numbers
pub at_most_numbers : (v w : Float) → at_most v w ≡ true → (is_nan v ≡ false) × (is_nan w ≡ false)
at_most_numbers v w h = order.le_numbers v w (sym (at_most_le v w) ∙ h)

pub at_most_trans : (u v w : Float) → at_most u v ≡ true → at_most v w ≡ true → at_most u w ≡ true
at_most_trans u v w g h = at_most_le u w ∙ order.le_trans u v w (sym (at_most_le u v) ∙ g) (sym (at_most_le v w) ∙ h)

pub at_most_antisym : (v w : Float) → at_most v w ≡ true → at_most w v ≡ true → Same v w
at_most_antisym v w g h = order.order_equal v w (order.le_antisym v w (sym (at_most_le v w) ∙ g) (sym (at_most_le w v) ∙ h))

-- of two numbers one is at most the other exactly where it is not above it
pub at_most_not : (v w : Float) → is_nan v ≡ false → is_nan w ≡ false → at_most v w ≡ not (is_above v w)
at_most_not v w n m = at_most_le v w ∙ order.le_not_lt v w n m ∙ ap not (sym (is_above_lt v w))

-- and where it is at most the other, it is not above it
pub at_most_below : (v w : Float) → at_most v w ≡ true → is_above v w ≡ false
at_most_below v w h = let n = at_most_numbers v w h in not-true (is_above v w) (sym (at_most_not v w n.0 n.1) ∙ h)

-- ---- equal numbers

pub same_refl : (v : Float) → is_nan v ≡ false → Same v v
same_refl v n = order.order_equal v v (order.eq_refl v n)

pub same_sym : (v w : Float) → Same v w → Same w v
same_sym v w e = order.order_equal w v (order.eq_sym v w (order.equal_order v w e))

pub same_numbers : (v w : Float) → Same v w → (is_nan v ≡ false) × (is_nan w ≡ false)
same_numbers v w e = order.eq_numbers v w (order.equal_order v w e)

pub same_at_most : (v w : Float) → Same v w → at_most v w ≡ true
unfolding at_most
same_at_most v w e = ap less_or_equal e

-- ---- the degrees of GEOGRAPHY

-- the least and the greatest degree of an axis
abbrev pub least : ℕ → Float
least axis = of_int binary64 (neg_ℤ (pos (most_degree axis)))

abbrev pub greatest : ℕ → Float
greatest axis = of_int binary64 (pos (most_degree axis))

-- are numbers
pub least_number : (axis : ℕ) → is_nan (least axis) ≡ false
unfolding is_nan of_int
least_number axis = go (eqb axis X)
  where
    go : (x : Bool) → is_nan (of_int binary64 (neg_ℤ (pos (cond x 180 90)))) ≡ false
    go true = refl
    go false = refl

pub greatest_number_lem : (axis : ℕ) → is_nan (greatest axis) ≡ false
unfolding is_nan of_int
greatest_number_lem axis = go (eqb axis X)
  where
    go : (x : Bool) → is_nan (of_int binary64 (pos (cond x 180 90))) ≡ false
    go true = refl
    go false = refl

-- another kind allows every coordinate
pub allowed_any : (kind axis : ℕ) (v : Float) → (kind ≡ logical.GEOGRAPHY → ⊥) → is_allowed kind axis v ≡ true
unfolding is_allowed
allowed_any kind axis v h = ap (λ (t : Bool). cond t (is_nan v || in_range axis v) true) (ne_eqb kind logical.GEOGRAPHY h)

-- and GEOGRAPHY a NaN, and its degrees
pub allowed_degrees : (kind axis : ℕ) (v : Float) → kind ≡ logical.GEOGRAPHY → is_allowed kind axis v ≡ (is_nan v || in_range axis v)
unfolding is_allowed
allowed_degrees kind axis v e = ap (λ (t : Bool). cond t (is_nan v || in_range axis v) true) (eq-eqb kind logical.GEOGRAPHY e)
