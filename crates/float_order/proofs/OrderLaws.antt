-- The order of floats is total without NaN: floats compare as natural numbers do.
--
-- Any three floats that are no NaN have a common denominator l, and so whole magnitudes, all below some i; an infinity has the magnitude i.
-- The rank of a float is its magnitude counted from i up, or down where its sign is set, and floats compare as their ranks. So each law of the
-- order of three numbers is one of floats. A NaN stands in no relation. Assumes nothing.
use Prim.Native.Nat.{ℕ, suc, ◌+◌, ◌-◌, ◌*◌, ◌≤◌, ◌<◌}
use mathlib.Core.Path.{◌≡◌, refl, sym, ap, ap₂, ◌∙◌}
use mathlib.Core.Bool.{Bool, true, false, not, cond, ◌||◌, beq}
use mathlib.Core.Logic.{◌⊎◌, inl, inr}
use native.Mathlib.Nat.{mul_comm, mul_assoc, mul_left_comm, mul-pos}
use native.Mathlib.Omega.{arith}
use borrow.Author.Tests.{not-true, lt-ltb, le-ltb, ltb-true, ltb-false, eq-eqb, ne_eqb, eqb-true}
use lib.Dec.{ltb, eqb}
use lib.Ieee.{Float, nan, inf, fin, up, down, below, level, lt, eq, le, is_nan}
use lib.Ieee.Exact.{HasValue}
use lib.Ieee.Fits.{down_pos}
use Rattle.laws.proofs.BoolLaws.{and_both, both_and, same_test, by_test, is_false}
use Rattle.laws.proofs.DifferenceLaws.{below?, ltb_same}
use Rattle.float_order.specs.Floats.{float_order}
use Rattle.std.specs.Prelude.{Option, Some, None}
use Rattle.std.specs.Ordering.{float_partial_cmp}
use Rattle.std.specs.declared.cmp.Ordering.{Ordering}
use Rattle.std.specs.declared.cmp.Ordering.TheVariants.{Less, Equal, Greater}
use Rattle.float_order.proofs.FloatLaws.{Compares, finite_finite, inf_finite, finite_inf, inf_inf}

-- ---- signed magnitudes up to i compare as numbers from 0 on

abbrev rank_of : ℕ → Bool → ℕ → ℕ
rank_of i s a = cond s (i - a) (i + a)

rank_below : (i : ℕ) (s t : Bool) (a b : ℕ) → a ≤ i → b ≤ i → below s a t b ≡ ltb (rank_of i s a) (rank_of i t b)
rank_below i false false a b h k = ltb_same a b (i + a) (i + b) (λ l. omega arith) (λ l. omega arith)
rank_below i false true a b h k = sym (le-ltb (i + a) (i - b) (omega arith))
rank_below i true false a b h k = ltb_same 0 (a + b) (i - a) (i + b) (λ l. omega arith) (λ l. omega arith)
rank_below i true true a b h k = ltb_same b a (i - a) (i - b) (λ l. omega arith) (λ l. omega arith)

level_when : (s t : Bool) (a b : ℕ) → (a ≡ b) → (beq s t || eqb a 0) ≡ true → level s a t b ≡ true
level_when s t a b e z = both_and (eqb a b) (beq s t || eqb a 0) (eq-eqb a b e) z

level_equal : (s t : Bool) (a b : ℕ) → level s a t b ≡ true → a ≡ b
level_equal s t a b e = eqb-true a b (and_both (eqb a b) (beq s t || eqb a 0) e).0

rank_level : (i : ℕ) (s t : Bool) (a b : ℕ) → a ≤ i → b ≤ i → level s a t b ≡ eqb (rank_of i s a) (rank_of i t b)
rank_level i false false a b h k =
    same_test _ _
    (λ e. let f = level_equal false false a b e in eq-eqb (i + a) (i + b) (omega arith))
    (λ e. let f = eqb-true (i + a) (i + b) e in level_when false false a b (omega arith) refl)
rank_level i false true a b h k =
    same_test _ _
    (λ e. let f = level_equal false true a b e in let z = eqb-true a 0 (and_both (eqb a b) (eqb a 0) e).1 in eq-eqb (i + a) (i - b) (omega arith))
    (λ e. let f = eqb-true (i + a) (i - b) e in level_when false true a b (omega arith) (eq-eqb a 0 (omega arith)))
rank_level i true false a b h k =
    same_test _ _
    (λ e. let f = level_equal true false a b e in let z = eqb-true a 0 (and_both (eqb a b) (eqb a 0) e).1 in eq-eqb (i - a) (i + b) (omega arith))
    (λ e. let f = eqb-true (i - a) (i + b) e in level_when true false a b (omega arith) (eq-eqb a 0 (omega arith)))
rank_level i true true a b h k =
    same_test _ _
    (λ e. let f = level_equal true true a b e in eq-eqb (i - a) (i - b) (omega arith))
    (λ e. let f = eqb-true (i - a) (i - b) e in level_when true true a b (omega arith) refl)

-- ---- the ranks of floats

-- floats that compare as numbers do
pub record Ranked (x y : Float) (p q : ℕ) : Type 0 where
  pub less : lt x y ≡ ltb p q
  pub same : eq x y ≡ eqb p q

-- x has the sign s and the magnitude a: a / l, or an infinity where a is i
abbrev Measured : ℕ → ℕ → Float → Bool → ℕ → Type 0
Measured l i x s a = (HasValue x s a l × (a < i)) ⊎ ((x ≡ inf s) × (a ≡ i))

module _ (l i : ℕ) (L : 0 < l) (I : 0 < i) where
  compares : (x y : Float) (s t : Bool) (a b : ℕ) → Measured l i x s a → Measured l i y t b → Compares x y s a t b
  compares x y s t a b (inl p) (inl q) = finite_finite x y s t a b l L p.0 q.0
  compares x y s t a b (inl p) (inr q) = rw (q.1, q.0) (finite_inf x t s i a a l p.1 p.0)
  compares x y s t a b (inr p) (inl q) = rw (p.1, p.0) (inf_finite y s t i b b l q.1 q.0)
  compares x y s t a b (inr p) (inr q) = rw (p.1, p.0, q.1, q.0) (inf_inf s t i I)

  most : (x : Float) (s : Bool) (a : ℕ) → Measured l i x s a → a ≤ i
  most x s a (inl p) = omega arith
  most x s a (inr p) = omega arith

  ranked : (x y : Float) (s t : Bool) (a b : ℕ) → Measured l i x s a → Measured l i y t b → Ranked x y (rank_of i s a) (rank_of i t b)
  ranked x y s t a b p q =
      let c = compares x y s t a b p q in
      let h = most x s a p in
      let k = most y t b q in
      record { less = c.less ∙ rank_below i s t a b h k; same = c.same ∙ rank_level i s t a b h k }

-- a float by its sign, its denominator and its magnitude over k denominators
abbrev sign_of : Float → Bool
sign_of nan = false
sign_of (inf s) = s
sign_of (fin s m e) = s

abbrev denominator : Float → ℕ
denominator nan = 1
denominator (inf s) = 1
denominator (fin s m e) = down e

denominator_pos : (x : Float) → 0 < denominator x
denominator_pos nan = omega arith
denominator_pos (inf s) = omega arith
denominator_pos (fin s m e) = down_pos e

abbrev finite_size : Float → ℕ → ℕ
finite_size nan k = 0
finite_size (inf s) k = 0
finite_size (fin s m e) k = m * up e * k

abbrev size_of : Float → ℕ → ℕ → ℕ
size_of nan k i = 0
size_of (inf s) k i = i
size_of (fin s m e) k i = m * up e * k

measured : (x : Float) (l i k : ℕ) → is_nan x ≡ false → l ≡ denominator x * k → finite_size x k < i → Measured l i x (sign_of x) (size_of x k i)
unfolding is_nan
measured nan l i k n e h = let z : ◌≡◌ {A = ℕ} 0 1 = cc in absurd (omega arith)
measured (inf s) l i k n e h = inr (refl, refl)
measured (fin s m d) l i k n e h =
    inl ((refl, ap (λ (j : ℕ). m * up d * j) (e ∙ mul_comm (down d) k) ∙ sym (mul_assoc (m * up d) k (down d))), h)

-- three floats that compare as three numbers do
pub record Ranks (x y z : Float) : Type 0 where
  pub p : ℕ
  pub q : ℕ
  pub r : ℕ
  pub xy : Ranked x y p q
  pub yx : Ranked y x q p
  pub yz : Ranked y z q r
  pub zy : Ranked z y r q
  pub xz : Ranked x z p r
  pub zx : Ranked z x r p

-- any three that are no NaN do
pub ranks : (x y z : Float) → is_nan x ≡ false → is_nan y ≡ false → is_nan z ≡ false → Ranks x y z
ranks x y z nx ny nz =
    let a = denominator x in
    let b = denominator y in
    let c = denominator z in
    let l = a * (b * c) in
    let i = suc (finite_size x (b * c) + finite_size y (a * c) + finite_size z (a * b)) in
    let L : 0 < l = mul-pos (denominator_pos x) (mul-pos (denominator_pos y) (denominator_pos z)) in
    let I : 0 < i = omega arith in
    let at_x = measured x l i (b * c) nx refl (omega arith) in
    let at_y = measured y l i (a * c) ny (mul_left_comm a b c) (omega arith) in
    let at-z = measured z l i (a * b) nz (sym (mul_assoc a b c) ∙ mul_comm (a * b) c) (omega arith) in
    record {
      p = rank_of i (sign_of x) (size_of x (b * c) i);
      q = rank_of i (sign_of y) (size_of y (a * c) i);
      r = rank_of i (sign_of z) (size_of z (a * b) i);
      xy = ranked l i L I x y _ _ _ _ at_x at_y;
      yx = ranked l i L I y x _ _ _ _ at_y at_x;
      yz = ranked l i L I y z _ _ _ _ at_y at-z;
      zy = ranked l i L I z y _ _ _ _ at-z at_y;
      xz = ranked l i L I x z _ _ _ _ at_x at-z;
      zx = ranked l i L I z x _ _ _ _ at-z at_x;
    }

-- ---- tests and ranks

-- each test of ranked floats is one of their ranks
module _ {x y : Float} {p q : ℕ} (k : Ranked x y p q) where
  pub less_is : lt x y ≡ true → p < q
  less_is e = ltb-true p q (sym k.less ∙ e)

  pub less_not : lt x y ≡ false → q ≤ p
  less_not e = ltb-false p q (sym k.less ∙ e)

  pub same_is : eq x y ≡ true → p ≡ q
  same_is e = eqb-true p q (sym k.same ∙ e)

  pub is_less : p < q → lt x y ≡ true
  is_less h = k.less ∙ lt-ltb p q h

  pub not_less : q ≤ p → lt x y ≡ false
  not_less h = k.less ∙ le-ltb p q h

  pub is_same : p ≡ q → eq x y ≡ true
  is_same e = k.same ∙ eq-eqb p q e

  pub not_same : (p ≡ q → ⊥) → eq x y ≡ false
  not_same h = k.same ∙ ne_eqb p q h

-- ---- a NaN stands in no relation

abbrev Numbers : Float → Float → Type 0
Numbers x y = (is_nan x ≡ false) × (is_nan y ≡ false)

-- no test is both false and true
pub not_both : {X : Type 0} → false ≡ true → X
not_both e = let z : ◌≡◌ {A = ℕ} 0 1 = cc in absurd (omega arith)

-- where one float is less than another, both are numbers
pub lt_numbers : (x y : Float) → lt x y ≡ true → Numbers x y
unfolding lt is_nan
lt_numbers nan y e = not_both e
lt_numbers (inf s) nan e = not_both e
lt_numbers (inf s) (inf t) e = (refl, refl)
lt_numbers (inf s) (fin t n d) e = (refl, refl)
lt_numbers (fin s m c) nan e = not_both e
lt_numbers (fin s m c) (inf t) e = (refl, refl)
lt_numbers (fin s m c) (fin t n d) e = (refl, refl)

-- and so where they are equal
pub eq_numbers : (x y : Float) → eq x y ≡ true → Numbers x y
unfolding eq is_nan
eq_numbers nan y e = not_both e
eq_numbers (inf s) nan e = not_both e
eq_numbers (inf s) (inf t) e = (refl, refl)
eq_numbers (inf s) (fin t n d) e = not_both e
eq_numbers (fin s m c) nan e = not_both e
eq_numbers (fin s m c) (inf t) e = not_both e
eq_numbers (fin s m c) (fin t n d) e = (refl, refl)

-- ---- less

-- where one float is less, the other is not
pub lt_asym : (x y : Float) → lt x y ≡ true → lt y x ≡ false
lt_asym x y e =
    let n = lt_numbers x y e in
    let k = ranks x y y n.0 n.1 n.1 in
    let h = less_is k.xy e in
    not_less k.yx (omega arith)

-- none is less than itself
pub lt_irreflexive : (x : Float) → lt x x ≡ false
lt_irreflexive x = is_false (lt x x) (λ e. not_both (sym (lt_asym x x e) ∙ e))

-- a less of a less is less
pub lt_trans : (x y z : Float) → lt x y ≡ true → lt y z ≡ true → lt x z ≡ true
lt_trans x y z e f =
    let k = ranks x y z (lt_numbers x y e).0 (lt_numbers x y e).1 (lt_numbers y z f).1 in
    let g = less_is k.xy e in
    let h = less_is k.yz f in
    is_less k.xz (omega arith)

-- and so is what equals the greater of two, or the lesser
pub lt_eq_trans : (x y z : Float) → lt x y ≡ true → eq y z ≡ true → lt x z ≡ true
lt_eq_trans x y z e f =
    let k = ranks x y z (lt_numbers x y e).0 (lt_numbers x y e).1 (eq_numbers y z f).1 in
    let g = less_is k.xy e in
    let h = same_is k.yz f in
    is_less k.xz (omega arith)

pub eq_lt_trans : (x y z : Float) → eq x y ≡ true → lt y z ≡ true → lt x z ≡ true
eq_lt_trans x y z e f =
    let k = ranks x y z (eq_numbers x y e).0 (eq_numbers x y e).1 (lt_numbers y z f).1 in
    let g = same_is k.xy e in
    let h = less_is k.yz f in
    is_less k.xz (omega arith)

-- ---- equal: an equivalence on what is no NaN

-- each number equals itself
pub eq_refl : (x : Float) → is_nan x ≡ false → eq x x ≡ true
eq_refl x n =
    let k = ranks x x x n n n in
    let g = less_not k.xy (lt_irreflexive x) in
    let h = less_not k.yx (lt_irreflexive x) in
    is_same k.xy (omega arith)

-- it equals what equals it
pub eq_sym : (x y : Float) → eq x y ≡ true → eq y x ≡ true
eq_sym x y e =
    let n = eq_numbers x y e in
    let k = ranks x y y n.0 n.1 n.1 in
    let h = same_is k.xy e in
    is_same k.yx (omega arith)

-- and what equals that
pub eq_trans : (x y z : Float) → eq x y ≡ true → eq y z ≡ true → eq x z ≡ true
eq_trans x y z e f =
    let k = ranks x y z (eq_numbers x y e).0 (eq_numbers x y e).1 (eq_numbers y z f).1 in
    let g = same_is k.xy e in
    let h = same_is k.yz f in
    is_same k.xz (omega arith)

-- ---- of two floats that are no NaN exactly one is less, or they are equal

-- what the three tests find
pub record Tests (x y : Float) (less same more : Bool) : Type 0 where
  pub less_is : lt x y ≡ less
  pub same_is : eq x y ≡ same
  pub more_is : lt y x ≡ more

-- one of three ways
pub trichotomy : (x y : Float) → is_nan x ≡ false → is_nan y ≡ false → Tests x y true false false ⊎ (Tests x y false true false ⊎ Tests x y false false true)
trichotomy x y n m =
    let k = ranks x y y n m m in
    below? k.p k.q
    (λ h. inl (record { less_is = is_less k.xy h; same_is = not_same k.xy (λ e. omega arith); more_is = not_less k.yx (omega arith) }))
    (λ h. below? k.q k.p
    (λ j. inr (inr (record { less_is = not_less k.xy h; same_is = not_same k.xy (λ e. omega arith); more_is = is_less k.yx j })))
    (λ j. inr (inl (record { less_is = not_less k.xy h; same_is = is_same k.xy (omega arith); more_is = not_less k.yx j }))))

-- where two are equal, neither is less
pub eq_not_lt : (x y : Float) → eq x y ≡ true → lt x y ≡ false
eq_not_lt x y e =
    let n = eq_numbers x y e in
    let k = ranks x y y n.0 n.1 n.1 in
    let h = same_is k.xy e in
    not_less k.xy (omega arith)

-- ---- at most

-- less, or equal
pub le_is : (x y : Float) → le x y ≡ (lt x y || eq x y)
unfolding le
le_is x y = refl

-- of two that are no NaN, one is at most the other where that is not less
pub le_not_lt : (x y : Float) → is_nan x ≡ false → is_nan y ≡ false → le x y ≡ not (lt y x)
unfolding le
le_not_lt x y n m = by_tests_lem (trichotomy x y n m)
  where
    by_tests_lem : Tests x y true false false ⊎ (Tests x y false true false ⊎ Tests x y false false true) → (lt x y || eq x y) ≡ not (lt y x)
    by_tests_lem (inl t) = rw (t.less_is, t.more_is)
    by_tests_lem (inr (inl t)) = rw (t.less_is, t.same_is, t.more_is)
    by_tests_lem (inr (inr t)) = rw (t.less_is, t.same_is, t.more_is)

-- where one is at most another, both are numbers
pub le_numbers : (x y : Float) → le x y ≡ true → Numbers x y
unfolding le
le_numbers x y e = by_test (lt x y) (lt_numbers x y) (λ l. eq_numbers x y (sym (ap (λ (t : Bool). t || eq x y) l) ∙ e))

-- two of which each is at most the other are equal
pub le_antisym : (x y : Float) → le x y ≡ true → le y x ≡ true → eq x y ≡ true
le_antisym x y e f =
    let n = le_numbers x y e in
    let k = ranks x y y n.0 n.1 n.1 in
    let g = less_not k.yx (not-true (lt y x) (sym (le_not_lt x y n.0 n.1) ∙ e)) in
    let h = less_not k.xy (not-true (lt x y) (sym (le_not_lt y x n.1 n.0) ∙ f)) in
    is_same k.xy (omega arith)

-- at most what is at most
pub le_trans : (x y z : Float) → le x y ≡ true → le y z ≡ true → le x z ≡ true
le_trans x y z e f =
    let n = le_numbers x y e in
    let m = le_numbers y z f in
    let k = ranks x y z n.0 n.1 m.1 in
    let g = less_not k.yx (not-true (lt y x) (sym (le_not_lt x y n.0 n.1) ∙ e)) in
    let h = less_not k.zy (not-true (lt z y) (sym (le_not_lt y z m.0 m.1) ∙ f)) in
    le_not_lt x z n.0 m.1 ∙ ap not (not_less k.zx (omega arith))

-- ---- `float_order`, by the tests

-- less
pub order_less : (x y : Float) → lt x y ≡ true → float_order x y ≡ Some Less
unfolding float_order
order_less x y e = rw e

-- greater
pub order_greater : (x y : Float) → lt y x ≡ true → float_order x y ≡ Some Greater
unfolding float_order
order_greater x y e = rw (lt_asym y x e, e)

-- equal
pub order_equal : (x y : Float) → eq x y ≡ true → float_order x y ≡ Some Equal
unfolding float_order
order_equal x y e = rw (eq_not_lt x y e, eq_not_lt y x (eq_sym x y e), e)

-- unordered where one of them is a NaN
pub order_unordered : (x y : Float) → (is_nan x || is_nan y) ≡ true → float_order x y ≡ None
unfolding float_order
order_unordered x y e =
    rw (is_false (lt x y) (λ l. no_numbers (lt_numbers x y l)), is_false (lt y x) (λ l. no_numbers ((lt_numbers y x l).1, (lt_numbers y x l).0)), is_false (eq x y) (λ l. no_numbers (eq_numbers x y l)))
  where
    no_numbers : Numbers x y → ⊥
    no_numbers n = not_both (sym (ap₂ (λ (t u : Bool). t || u) n.0 n.1) ∙ e)

-- each relation tells its test
abbrev by_tests : Bool → Bool → Bool → Option Ordering
by_tests less more same = cond less (Some Less) (cond more (Some Greater) (cond same (Some Equal) None))

pub less_order : (x y : Float) → float_order x y ≡ Some Less → lt x y ≡ true
unfolding float_order
less_order x y = go (lt x y) (lt y x) (eq x y)
  where
    go : (l m e : Bool) → by_tests l m e ≡ Some Less → l ≡ true
    go true m e h = refl
    go false true e h = let z : ◌≡◌ {A = ℕ} 0 1 = cc in absurd (omega arith)
    go false false true h = let z : ◌≡◌ {A = ℕ} 0 1 = cc in absurd (omega arith)
    go false false false h = let z : ◌≡◌ {A = ℕ} 0 1 = cc in absurd (omega arith)

pub greater_order : (x y : Float) → float_order x y ≡ Some Greater → lt y x ≡ true
unfolding float_order
greater_order x y = go (lt x y) (lt y x) (eq x y)
  where
    go : (l m e : Bool) → by_tests l m e ≡ Some Greater → m ≡ true
    go true m e h = let z : ◌≡◌ {A = ℕ} 0 1 = cc in absurd (omega arith)
    go false true e h = refl
    go false false true h = let z : ◌≡◌ {A = ℕ} 0 1 = cc in absurd (omega arith)
    go false false false h = let z : ◌≡◌ {A = ℕ} 0 1 = cc in absurd (omega arith)

pub equal_order : (x y : Float) → float_order x y ≡ Some Equal → eq x y ≡ true
unfolding float_order
equal_order x y = go (lt x y) (lt y x) (eq x y)
  where
    go : (l m e : Bool) → by_tests l m e ≡ Some Equal → e ≡ true
    go true m e h = let z : ◌≡◌ {A = ℕ} 0 1 = cc in absurd (omega arith)
    go false true e h = let z : ◌≡◌ {A = ℕ} 0 1 = cc in absurd (omega arith)
    go false false true h = refl
    go false false false h = let z : ◌≡◌ {A = ℕ} 0 1 = cc in absurd (omega arith)

-- two that are no NaN are ordered
pub ordered : (x y : Float) → is_nan x ≡ false → is_nan y ≡ false → float_order x y ≡ None → ⊥
ordered x y n m u = by_tests_lem (trichotomy x y n m)
  where
    by_tests_lem : Tests x y true false false ⊎ (Tests x y false true false ⊎ Tests x y false false true) → ⊥
    by_tests_lem (inl t) = let e = order_less x y t.less_is in let z : ◌≡◌ {A = ℕ} 0 1 = cc in omega arith
    by_tests_lem (inr (inl t)) = let e = order_equal x y t.same_is in let z : ◌≡◌ {A = ℕ} 0 1 = cc in omega arith
    by_tests_lem (inr (inr t)) = let e = order_greater x y t.more_is in let z : ◌≡◌ {A = ℕ} 0 1 = cc in omega arith

-- what the library answers for two floats, which tries whether they are equal before whether the second is less
pub partial_cmp_is : (x y : Float) → float_partial_cmp x y ≡ float_order x y
unfolding float_order
partial_cmp_is x y = go (eq x y) refl
  where
    go : (e : Bool) → eq x y ≡ e → float_partial_cmp x y ≡ float_order x y
    go true p = rw (eq_not_lt x y p, eq_not_lt y x (eq_sym x y p), p) refl
    go false p = rw p refl
