-- The bounds of an axis, found by a walk over its points: one law for the least and for the greatest. Assumes nothing.
use Prim.Native.Nat.{ℕ, zero, suc, ◌+◌, ◌≤◌, ◌<◌}
use mathlib.Core.Path.{◌≡◌, refl, sym, ap, subst, ◌∙◌}
use mathlib.Core.Bool.{Bool, true, false, not, cond}
use mathlib.Core.List.{List}
use mathlib.Core.Logic.{◌⊎◌, inl, inr}
use native.Mathlib.Omega.{arith}
use lib.Ieee.{Float, nan, inf, fin, lt, is_nan}
use Rattle.laws.proofs.BoolLaws.{by_test}
use Rattle.laws.proofs.DifferenceLaws.{below?}
use Rattle.float_order.specs.Floats.{float_order}
use Rattle.float_order.proofs.OrderLaws as order
use Rattle.float_order.proofs.OrderLaws.{not_both}
use Rattle.boxes.specs.Coordinates.{at_most, Same}
use Rattle.boxes.specs.Points.{points_in, coordinate_of, Counted, Met}
use Rattle.boxes.specs.Steps.{Found}
use Rattle.boxes.proofs.CoordinateLaws.{is_above_lt, at_most_numbers, at_most_trans, at_most_antisym, at_most_not, same_refl}

-- ---- a side of an axis

-- which of two numbers is further out, which reaches which, and what every number is further out than
pub record Side : Type 0 where
  pub further : Float → Float → Bool
  pub reaches : Float → Float → Bool
  pub start : Float
  pub start_number : is_nan start ≡ false
  pub start_reaches : (v : Float) → reaches start v ≡ true → Same start v
  pub further_number : (u v : Float) → further u v ≡ true → is_nan u ≡ false
  pub further_reaches : (u v w : Float) → further u v ≡ true → reaches v w ≡ true → reaches u w ≡ true
  pub not_further : (u v : Float) → is_nan u ≡ false → is_nan v ≡ false → further u v ≡ false → reaches v u ≡ true
  pub reaches_self : (v : Float) → is_nan v ≡ false → reaches v v ≡ true

self : (v : Float) → is_nan v ≡ false → at_most v v ≡ true
self v n = at_most_not v v n n ∙ ap not (is_above_lt v v ∙ order.lt_irreflexive v)

less_at_most : (u v : Float) → lt u v ≡ true → at_most u v ≡ true
less_at_most u v l = let n = order.lt_numbers u v l in at_most_not u v n.0 n.1 ∙ ap not (is_above_lt u v ∙ order.lt_asym u v l)

not_less : (u v : Float) → is_nan u ≡ false → is_nan v ≡ false → lt u v ≡ false → at_most v u ≡ true
not_less u v n m l = at_most_not v u m n ∙ ap not (is_above_lt v u ∙ l)

infinite_number : (s : Bool) → is_nan (inf s) ≡ false
unfolding is_nan
infinite_number s = refl

none_above : (v : Float) → lt (inf false) v ≡ false
unfolding lt
none_above nan = refl
none_above (inf s) = refl
none_above (fin s m e) = refl

none_below : (v : Float) → lt v (inf true) ≡ false
unfolding lt
none_below nan = refl
none_below (inf true) = refl
none_below (inf false) = refl
none_below (fin s m e) = refl

-- the least: what is less is further out
pub low_side : Side
low_side =
    record {
      further = lt;
      reaches = at_most;
      start = inf false;
      start_number = infinite_number false;
      start_reaches = λ v h. at_most_antisym (inf false) v h (not_less (inf false) v (infinite_number false) (at_most_numbers (inf false) v h).1 (none_above v));
      further_number = λ u v l. (order.lt_numbers u v l).0;
      further_reaches = λ u v w l h. at_most_trans u v w (less_at_most u v l) h;
      not_further = not_less;
      reaches_self = self;
    }

-- the greatest: what is greater is
pub high_side : Side
high_side =
    record {
      further = λ u v. lt v u;
      reaches = λ u v. at_most v u;
      start = inf true;
      start_number = infinite_number true;
      start_reaches = λ v h. at_most_antisym (inf true) v (not_less v (inf true) (at_most_numbers v (inf true) h).0 (infinite_number true) (none_below v)) h;
      further_number = λ u v l. (order.lt_numbers v u l).1;
      further_reaches = λ u v w l h. at_most_trans w v u h (less_at_most v u l);
      not_further = λ u v n m l. not_less v u m n l;
      reaches_self = self;
    }

-- ---- a walk

-- m is the furthest of the first k numbers of f: it reaches each, and it is one of them or the start
pub record Furthest (side : Side) (f : ℕ → Float) (k : ℕ) (m : Float) : Type 0 where
  pub reaches_each : (p : ℕ) → p < k → is_nan (f p) ≡ false → side.reaches m (f p) ≡ true
  pub one_of : (m ≡ side.start) ⊎ ((p : ℕ) × (p < k) × (f p ≡ m) × (is_nan m ≡ false))

module _ (side : Side) (f : ℕ → Float) where
  pub furthest_none : Furthest side f 0 side.start
  furthest_none = record { reaches_each = λ p h. absurd (omega arith); one_of = inl refl }

  furthest_number : (k : ℕ) (m : Float) → Furthest side f k m → is_nan m ≡ false
  furthest_number k m w = go w.one_of
    where
      go : (m ≡ side.start) ⊎ ((p : ℕ) × (p < k) × (f p ≡ m) × (is_nan m ≡ false)) → is_nan m ≡ false
      go (inl e) = ap is_nan e ∙ side.start_number
      go (inr q) = q.3

  -- one number more: it is the furthest where it is further out, and a NaN never is
  pub furthest_more : (k : ℕ) (m : Float) → Furthest side f k m → Furthest side f (k + 1) (cond (side.further (f k) m) (f k) m)
  furthest_more k m w = by_test (side.further (f k) m) (λ e. rw e (further e)) (λ e. rw e (nearer e))
    where
      split : (C : ℕ → Type 0) → ((p : ℕ) → p < k → C p) → C k → (p : ℕ) → p < k + 1 → C p
      split C g h p l = below? p k (g p) (λ n. subst C (the_last p l n) h)
        where
          the_last : (p : ℕ) → p < k + 1 → k ≤ p → k ≡ p
          the_last p l n = omega arith

      further : side.further (f k) m ≡ true → Furthest side f (k + 1) (f k)
      further e =
          record {
            reaches_each =
                split (λ p. is_nan (f p) ≡ false → side.reaches (f k) (f p) ≡ true)
                (λ p l n. side.further_reaches (f k) m (f p) e (w.reaches_each p l n))
                (side.reaches_self (f k));
            one_of = inr (k, omega arith, refl, side.further_number (f k) m e);
          }

      kept : (m ≡ side.start) ⊎ ((p : ℕ) × (p < k) × (f p ≡ m) × (is_nan m ≡ false)) → (m ≡ side.start) ⊎ ((p : ℕ) × (p < k + 1) × (f p ≡ m) × (is_nan m ≡ false))
      kept (inl e) = inl e
      kept (inr q) = inr (q.0, within q.0 q.1, q.2, q.3)
        where
          within : (p : ℕ) → p < k → p < k + 1
          within p l = omega arith

      nearer : side.further (f k) m ≡ false → Furthest side f (k + 1) m
      nearer e =
          record {
            reaches_each =
                split (λ p. is_nan (f p) ≡ false → side.reaches m (f p) ≡ true)
                w.reaches_each
                (λ n. side.not_further (f k) m n (furthest_number k m w) e);
            one_of = kept w.one_of;
          }

-- the code's steps on either side
module _ (f : ℕ → Float) where
  pub low_none : {m : Float} → m ≡ inf false → Furthest low_side f 0 m
  unfolding low_side
  low_none e = subst (Furthest low_side f 0) (sym e) (furthest_none low_side f)

  pub high_none : {m : Float} → m ≡ inf true → Furthest high_side f 0 m
  unfolding high_side
  high_none e = subst (Furthest high_side f 0) (sym e) (furthest_none high_side f)

  pub low_more : (k : ℕ) {m v n : Float} → f k ≡ v → n ≡ cond (lt v m) v m → Furthest low_side f k m → Furthest low_side f (k + 1) n
  unfolding low_side
  low_more k {m} e g w = subst (Furthest low_side f (k + 1)) (ap (λ (u : Float). cond (lt u m) u m) e ∙ sym g) (furthest_more low_side f k m w)

  pub high_more : (k : ℕ) {m v n : Float} → f k ≡ v → n ≡ cond (lt m v) v m → Furthest high_side f k m → Furthest high_side f (k + 1) n
  unfolding high_side
  high_more k {m} e g w = subst (Furthest high_side f (k + 1)) (ap (λ (u : Float). cond (lt m u) u m) e ∙ sym g) (furthest_more high_side f k m w)

-- ---- what is found of an axis

-- some number of the first k is no NaN, or none is
some_number : (f : ℕ → Float) (k : ℕ) → ((p : ℕ) → p < k → is_nan (f p) ≡ true) ⊎ ((p : ℕ) × (p < k) × (is_nan (f p) ≡ false))
some_number f zero = inl (λ p h. absurd (omega arith))
some_number f (suc k) = by_test (is_nan (f k)) (λ e. go e (some_number f k)) (λ e. inr (k, omega arith, e))
  where
    go : is_nan (f k) ≡ true → ((p : ℕ) → p < k → is_nan (f p) ≡ true) ⊎ ((p : ℕ) × (p < k) × (is_nan (f p) ≡ false))
        → ((p : ℕ) → p < suc k → is_nan (f p) ≡ true) ⊎ ((p : ℕ) × (p < suc k) × (is_nan (f p) ≡ false))
    go e (inl h) = inl (λ p l. below? p k (h p) (λ n. last p l n))
      where
        last : (p : ℕ) → p < suc k → k ≤ p → is_nan (f p) ≡ true
        last p l n = let q : k ≡ p = omega arith in ap (λ (j : ℕ). is_nan (f j)) (sym q) ∙ e
    go e (inr q) = inr (q.0, within q.0 q.1, q.2)
      where
        within : (p : ℕ) → p < k → p < suc k
        within p l = omega arith

module _ (axis : ℕ) (coordinates : List Float) where
  abbrev at : ℕ → Float
  at = coordinate_of coordinates axis

  counted : (p : ℕ) → p < points_in coordinates → is_nan (at p) ≡ false → Counted axis coordinates (at p)
  counted p h n = record { point = p; below = h; there = refl; number = n }

  -- what a walk over all points reaches is each counted coordinate
  reached : (side : Side) (m : Float) → Furthest side at (points_in coordinates) m → (v : Float) → Counted axis coordinates v → side.reaches m v ≡ true
  reached side m w v c =
      ap (side.reaches m) (sym c.there) ∙ w.reaches_each c.point c.below (ap is_nan c.there ∙ c.number)

  -- and where one is counted, it ends at one
  met : (side : Side) (m : Float) → Furthest side at (points_in coordinates) m → (p : ℕ) → p < points_in coordinates → is_nan (at p) ≡ false → Met axis coordinates m
  met side m w p h n = go w.one_of
    where
      go : (m ≡ side.start) ⊎ ((q : ℕ) × (q < points_in coordinates) × (at q ≡ m) × (is_nan m ≡ false)) → Met axis coordinates m
      go (inl e) = (at p, counted p h n, ap (λ (v : Float). float_order v (at p)) e ∙ side.start_reaches (at p) (ap (λ (v : Float). side.reaches v (at p)) (sym e) ∙ w.reaches_each p h n))
      go (inr q) = (m, record { point = q.0; below = q.1; there = q.2; number = q.3 }, same_refl m q.3)

  -- and where none is, at the start
  started : (side : Side) (m : Float) → Furthest side at (points_in coordinates) m → ((p : ℕ) → p < points_in coordinates → is_nan (at p) ≡ true) → m ≡ side.start
  started side m w h = go w.one_of
    where
      go : (m ≡ side.start) ⊎ ((q : ℕ) × (q < points_in coordinates) × (at q ≡ m) × (is_nan m ≡ false)) → m ≡ side.start
      go (inl e) = e
      go (inr q) = not_both (sym (ap is_nan q.2 ∙ q.3) ∙ h q.0 q.1)

  -- the least and the greatest that a walk over all points ends at are what is found
  pub found : (low high : Float) → Furthest low_side at (points_in coordinates) low → Furthest high_side at (points_in coordinates) high → Found axis coordinates low high
  unfolding low_side high_side
  found low high w z = go (some_number at (points_in coordinates))
    where
      go : ((p : ℕ) → p < points_in coordinates → is_nan (at p) ≡ true) ⊎ ((p : ℕ) × (p < points_in coordinates) × (is_nan (at p) ≡ false)) → Found axis coordinates low high
      go (inl h) =
          inl (record {
            none = λ v c. not_both (sym (ap is_nan c.there ∙ c.number) ∙ h c.point c.below);
            least_is = started low_side low w h;
            greatest_is = started high_side high z h;
          })
      go (inr q) =
          inr (record {
            from_least = reached low_side low w;
            to_greatest = reached high_side high z;
            least_met = met low_side low w q.0 q.1 q.2;
            greatest_met = met high_side high z q.0 q.1 q.2;
          })
