-- Boxes, as document 02's R-11 asks: what is refused of a list of points and of a test, and what a test answers.
use Prim.Native.Nat.{ℕ, zero, suc, ◌+◌, ◌*◌, ◌%◌, ◌<◌}
use mathlib.Core.Path.{◌≡◌, refl, sym, ap, ◌∙◌}
use mathlib.Core.Bool.{Bool, true, false, true≢false, not, cond, ◌&&◌, ◌||◌}
use mathlib.Core.Logic.{◌↔◌, ◌⊎◌, inl, inr, ⊎_elim}
use mathlib.Core.List.{List, [], ◌∷◌}
use native.Mathlib.Omega.{arith}
use lib.Dec.{eqb}
use lib.IntN.{pos, neg_ℤ}
use lib.ListN.{length, get_or}
use lib.Ieee.{Float, nan, inf, fin, binary64, is_nan, of_int}
use borrow.Author.Tests.{eqb-true, eqb-false, not-true}
use Rattle.laws.proofs.BoolLaws.{and_left, and_both, both_and, or_cases, or_neither, is_false, by_test}
use Rattle.refusal.specs.Outcome as outcome
use Rattle.refusal.specs.Outcome.{Outcome, given, refused, refusal}
use Rattle.refusal.specs.declared.answers.Refusal.{Refusal}
use Rattle.refusal.specs.Outcome.{Verdict}
use Rattle.std.specs.Prelude.{Ok, Err}
use Rattle.parquet.specs.Logical.{GEOMETRY, GEOGRAPHY, is_geospatial}
use Rattle.float_order.specs.Floats.{float_order, less_or_equal}
use Rattle.std.specs.Prelude.{Option, Some, None}
use Rattle.std.specs.declared.cmp.Ordering.{Ordering}
use Rattle.std.specs.declared.cmp.Ordering.TheVariants.{Less, Equal, Greater}
use Rattle.boxes.specs.Coordinates.{is_greater, at_most, is_above, is_between, X, Y, in_range, is_allowed}
use Rattle.boxes.specs.Points.{Boxed, points_in, coordinate_of, Counted, NoneCounted, allows_points, judgement, Answers}
use Rattle.boxes.specs.Membership.{inside_x, inside_y, has_nan, allows_bounds, is_box, allows_point, membership}
use Rattle.boxes.specs.declared.bounding_box.BoundingBox.{BoundingBox}
use Rattle.boxes.proofs.CoordinateLaws.{at_most_numbers, allowed_any, allowed_degrees}
use Rattle.boxes.proofs.RangeLaws.{each_allowed}
use Rattle.boxes.proofs.PromiseLaws.{promised}
use Rattle.c_answer.specs.Answers.{within}
use Rattle.c_boxes.specs.Boxes.{box_effect}
use Rattle.demands.specs.Refusals.{Ground, ground, first, box_grounds, box_verdict, box_numbers, test_grounds, short_for, c_box_grounds}
use Rattle.demands.specs.Requests.{Outside, Boxes}
use Rattle.demands.proofs.ValueRefusalLaws.{within_first}

-- truth values -------------------------------------------------------------------------------------------------------------

-- both hold exactly where their conjunction does
both : (a b : Bool) → ((a && b) ≡ true) ↔ ((a ≡ true) × (b ≡ true))
both a b = ((λ e. and_both a b e), λ h. both_and a b h.0 h.1)

or-true : (a b : Bool) → ((a || b) ≡ true) ↔ ((a ≡ true) ⊎ (b ≡ true))
or-true a b = (or_cases a b, λ h. ⊎_elim (λ e. rw e) (λ e. rw e (right a)) h)
  where
    right : (t : Bool) → (t || true) ≡ true
    right true = refl
    right false = refl

-- one coordinate -----------------------------------------------------------------------------------------------------------

at_most_lem : (v w : Float) → (at_most v w ≡ true) ↔ ((float_order v w ≡ Some Less) ⊎ (float_order v w ≡ Some Equal))
unfolding at_most
at_most_lem v w = (to (float_order v w), ⊎_elim (λ e. rw e) (λ e. rw e))
  where
    to : (r : Option Ordering) → less_or_equal r ≡ true → (r ≡ Some Less) ⊎ (r ≡ Some Equal)
    to (Some Less) e = inl refl
    to (Some Equal) e = inr refl
    to (Some Greater) e = absurd (true≢false (sym e))
    to None e = absurd (true≢false (sym e))

above : (v w : Float) → (is_above v w ≡ true) ↔ (float_order v w ≡ Some Greater)
unfolding is_above
above v w = (to (float_order v w), λ e. rw e)
  where
    to : (r : Option Ordering) → is_greater r ≡ true → r ≡ Some Greater
    to (Some Less) e = absurd (true≢false (sym e))
    to (Some Equal) e = absurd (true≢false (sym e))
    to (Some Greater) e = refl
    to None e = absurd (true≢false (sym e))

between : (least greatest v : Float) → (is_between least greatest v ≡ true) ↔ ((at_most least v ≡ true) × (at_most v greatest ≡ true))
unfolding is_between
between least greatest v = both (at_most least v) (at_most v greatest)

x_range : (v : Float) → (in_range 0 v ≡ true) ↔ ((at_most (of_int binary64 (neg_ℤ (pos 180))) v ≡ true) × (at_most v (of_int binary64 (pos 180)) ≡ true))
unfolding in_range
x_range v = between _ _ v

y_range : (v : Float) → (in_range 1 v ≡ true) ↔ ((at_most (of_int binary64 (neg_ℤ (pos 90))) v ≡ true) × (at_most v (of_int binary64 (pos 90)) ≡ true))
unfolding in_range
y_range v = between _ _ v

-- a NaN is told
nan_is : (v : Float) → (is_nan v ≡ true) ↔ (v ≡ nan)
unfolding is_nan
nan_is v = (to v, λ e. rw e)
  where
    to : (w : Float) → is_nan w ≡ true → w ≡ nan
    to nan e = refl
    to (inf s) e = absurd (true≢false (sym e))
    to (fin s m e) q = absurd (true≢false (sym q))

-- what counts
counted : (coordinates : List Float) (axis : ℕ) (v : Float) → Counted axis coordinates v ↔ ((p : ℕ) × (2 * p + 1 < length coordinates) × (get_or coordinates (2 * p + axis) nan ≡ v) × (v ≡ nan → ⊥))
unfolding points_in coordinate_of
counted coordinates axis v = (
  (λ c. (c.point, omega (arith, c.below), c.there, λ e. true≢false (sym ((nan_is v).1 e) ∙ c.number))),
  λ h. record { point = h.0; below = omega (arith, h.1); there = h.2; number = is_false _ (λ t. h.3 ((nan_is v).0 t)) },
)

-- which kinds ---------------------------------------------------------------------------------------------------------------

kind_is : (kind : ℕ) → (is_geospatial kind ≡ true) ↔ ((kind ≡ 17) ⊎ (kind ≡ 18))
kind_is kind = (
  (λ e. ⊎_elim (λ t. inl (eqb-true _ _ t)) (λ t. inr (eqb-true _ _ t)) ((or-true (eqb kind GEOMETRY) (eqb kind GEOGRAPHY)).0 e)),
  ⊎_elim (λ e. rw e) (λ e. rw e),
)

kind_other : (kind : ℕ) → (is_geospatial kind ≡ false) ↔ ((kind ≡ 17 → ⊥) × (kind ≡ 18 → ⊥))
kind_other kind = (
  (λ e. ((λ q. true≢false (sym ((kind_is kind).1 (inl q)) ∙ e)), λ q. true≢false (sym ((kind_is kind).1 (inr q)) ∙ e))),
  λ h. is_false _ (λ e. ⊎_elim h.0 h.1 ((kind_is kind).0 e)),
)

-- a list of points -----------------------------------------------------------------------------------------------------------

number : Verdict → ℕ
number (Ok _) = 0
number (Err r) = r.number

module _ (kind : ℕ) (coordinates : List Float) where
  even : Bool
  even = eqb (length coordinates % 2) 0

  allowed : Bool
  allowed = allows_points kind coordinates (points_in coordinates)

  -- the three tests in their order
  shape : Bool → Bool → Bool → Verdict
  shape g e a = cond g (cond e (cond a (Ok tt) (Err (refusal 16 0))) (Err (refusal 15 0))) (Err (refusal 20 0))

  judged : judgement kind coordinates ≡ shape (is_geospatial kind) even allowed
  unfolding judgement shape even allowed
  judged = refl

  -- what each number tells of them
  twenty : (g e a : Bool) → number (shape g e a) ≡ 20 → g ≡ false
  unfolding shape number
  twenty false e a q = refl
  twenty true false a q = absurd (omega (arith, q))
  twenty true true false q = absurd (omega (arith, q))
  twenty true true true q = absurd (omega (arith, q))

  fifteen : (g e a : Bool) → number (shape g e a) ≡ 15 → (g ≡ true) × (e ≡ false)
  unfolding shape number
  fifteen false e a q = absurd (omega (arith, q))
  fifteen true false a q = (refl, refl)
  fifteen true true false q = absurd (omega (arith, q))
  fifteen true true true q = absurd (omega (arith, q))

  sixteen : (g e a : Bool) → number (shape g e a) ≡ 16 → (g ≡ true) × (e ≡ true) × (a ≡ false)
  unfolding shape number
  sixteen false e a q = absurd (omega (arith, q))
  sixteen true false a q = absurd (omega (arith, q))
  sixteen true true false q = (refl, refl, refl)
  sixteen true true true q = absurd (omega (arith, q))

  numbered : (n : ℕ) → judgement kind coordinates ≡ Err (refusal n 0) → number (shape (is_geospatial kind) even allowed) ≡ n
  unfolding number
  numbered n e = ap number (sym judged ∙ e)

  unknown_kind : (judgement kind coordinates ≡ Err (refusal 20 0)) ↔ ((kind ≡ 17 → ⊥) × (kind ≡ 18 → ⊥))
  unfolding shape
  unknown_kind = ((λ e. (kind_other kind).0 (twenty (is_geospatial kind) even allowed (numbered 20 e))), λ h. judged ∙ rw ((kind_other kind).1 h))

  odd_run : (judgement kind coordinates ≡ Err (refusal 15 0)) ↔ (((kind ≡ 17) ⊎ (kind ≡ 18)) × (length coordinates % 2 ≡ 1))
  unfolding shape even
  odd_run = (
    (λ e. let h = fifteen (is_geospatial kind) even allowed (numbered 15 e) in let odd : (length coordinates % 2 ≡ 0 → ⊥) = eqb-false (length coordinates % 2) 0 h.1 in ((kind_is kind).0 h.0, omega (arith, odd))),
    λ h. judged ∙ rw ((kind_is kind).1 h.0, h.1),
  )

  -- where some point is not allowed, one of its coordinates lies beyond the degrees
  beyond : kind ≡ 18 → (axis : ℕ) → (axis ≡ 0) ⊎ (axis ≡ 1) → (p : ℕ) → p < points_in coordinates → is_allowed kind axis (coordinate_of coordinates axis p) ≡ false → Outside coordinates
  beyond k axis is_axis p low f =
      let v = coordinate_of coordinates axis p in
      let out : (is_nan v || in_range axis v) ≡ false = sym (allowed_degrees kind axis v k) ∙ f in
      let parts = or_neither (is_nan v) (in_range axis v) out in
      record { axis = axis; is_axis = is_axis; value = v; counted = record { point = p; below = low; there = refl; number = parts.0 }; beyond = parts.1 }

  some_beyond : kind ≡ 18 → (n : ℕ) → ((p : ℕ) → p < n → p < points_in coordinates) → allows_points kind coordinates n ≡ false → Outside coordinates
  unfolding allows_points
  some_beyond k zero low f = absurd (true≢false f)
  some_beyond k (suc n) low f =
      by_test (allows_points kind coordinates n)
      (λ t. by_test (is_allowed kind X (coordinate_of coordinates X n)) (λ x. beyond k 1 (inr refl) n (low n (omega arith)) (rw (t, x) at f)) (λ x. beyond k 0 (inl refl) n (low n (omega arith)) x))
      (λ g. some_beyond k n (λ p h. low p (omega (arith, h))) g)

  -- where the kind is not GEOGRAPHY, every point is allowed
  every_point : (kind ≡ 18 → ⊥) → (n : ℕ) → allows_points kind coordinates n ≡ true
  unfolding allows_points
  every_point other zero = refl
  every_point other (suc n) = rw (every_point other n, allowed_any kind X (coordinate_of coordinates X n) other, allowed_any kind Y (coordinate_of coordinates Y n) other)

  -- and a coordinate beyond them is not allowed
  not_allowed : kind ≡ 18 → Outside coordinates → allowed ≡ false
  unfolding allowed
  not_allowed k o =
      is_false _ (λ t.
      let point = and_both _ _ (each_allowed kind coordinates (points_in coordinates) t o.counted.point o.counted.below) in
      ⊎_elim (λ e. clash 0 e point.0) (λ e. clash 1 e point.1) o.is_axis)
    where
      out : is_allowed kind o.axis o.value ≡ false
      out = allowed_degrees kind o.axis o.value k ∙ rw (o.counted.number, o.beyond)

      clash : (axis : ℕ) → o.axis ≡ axis → is_allowed kind axis (coordinate_of coordinates axis o.counted.point) ≡ true → ⊥
      clash axis e t = true≢false (sym t ∙ ap (λ (i : ℕ). is_allowed kind i (coordinate_of coordinates i o.counted.point)) (sym e) ∙ ap (is_allowed kind o.axis) o.counted.there ∙ out)

  out_of_range : (judgement kind coordinates ≡ Err (refusal 16 0)) ↔ ((kind ≡ 18) × (length coordinates % 2 ≡ 0) × Outside coordinates)
  unfolding shape even allowed
  out_of_range = (
    (λ e.
        let h = sixteen (is_geospatial kind) even allowed (numbered 16 e) in
        by_test (eqb kind 18)
        (λ t. let k = eqb-true kind 18 t in (k, eqb-true _ _ h.1, some_beyond k (points_in coordinates) (λ p low. low) h.2))
        (λ f. absurd (true≢false (sym (every_point (eqb-false kind 18 f) (points_in coordinates)) ∙ h.2)))),
    λ h. judged ∙ rw ((kind_is kind).1 (inr h.0), h.1, not_allowed h.0 h.2),
  )

  refused_only : (r : Refusal) → judgement kind coordinates ≡ Err r → (r.place ≡ 0) × ((r.number ≡ 20) ⊎ ((r.number ≡ 15) ⊎ (r.number ≡ 16)))
  unfolding shape
  refused_only r e = on (is_geospatial kind) even allowed (sym judged ∙ e)
    where
      parts : (n : ℕ) → ◌≡◌ {A = Verdict} (Err (refusal n 0)) (Err r) → (r.place ≡ 0) × (r.number ≡ n)
      parts n q = let s : refusal n 0 ≡ r = cc in (sym (ap (λ (x : Refusal). x.place) s), sym (ap (λ (x : Refusal). x.number) s))

      on : (g v a : Bool) → shape g v a ≡ Err r → (r.place ≡ 0) × ((r.number ≡ 20) ⊎ ((r.number ≡ 15) ⊎ (r.number ≡ 16)))
      on false v a q = let p = parts 20 q in (p.0, inl p.1)
      on true false a q = let p = parts 15 q in (p.0, inr (inl p.1))
      on true true false q = let p = parts 16 q in (p.0, inr (inr p.1))
      on true true true q = absurd (lawful_not q)
        where
          lawful_not : ◌≡◌ {A = Verdict} (Ok tt) (Err r) → ⊥
          lawful_not d = let z : ◌≡◌ {A = ℕ} 0 1 = cc in omega arith

  none_or_box : (a : Boxed) → Answers kind coordinates a → judgement kind coordinates ≡ Ok tt → (a ≡ Ok None) ↔ (NoneCounted 0 coordinates ⊎ NoneCounted 1 coordinates)
  none_or_box (Ok (Some b)) h lawful = (
    (λ e. absurd (let z : ◌≡◌ {A = ℕ} 0 1 = cc in omega arith)),
    ⊎_elim (λ none. absurd (none _ h.1.x.least_met.1)) (λ none. absurd (none _ h.1.y.least_met.1)),
  )
  none_or_box (Ok None) h lawful = ((λ e. h.1), λ n. refl)
  none_or_box (Err r) h lawful = absurd (let d = sym h ∙ lawful in let z : ◌≡◌ {A = ℕ} 0 1 = cc in omega arith)

-- a test ---------------------------------------------------------------------------------------------------------------------

answered : (kind : ℕ) (b : BoundingBox) (x y : Float) (inside : Bool) → (membership kind b x y ≡ given inside) ↔ (((kind ≡ 17) ⊎ (kind ≡ 18)) × (is_box kind b ≡ true) × (allows_point kind x y ≡ true) × ((inside_x b x && inside_y b y) ≡ inside))
unfolding membership
answered kind b x y inside = (
  (λ e. let h = to (is_geospatial kind) (is_box kind b) (allows_point kind x y) e in ((kind_is kind).0 h.0, h.1, h.2, h.3)),
  λ h. rw ((kind_is kind).1 h.0, h.1, h.2) (ap given h.3),
)
  where
    to : (g i a : Bool) → cond g (cond (i && a) (given (inside_x b x && inside_y b y)) (refused (refusal 16 0))) (refused (refusal 20 0)) ≡ given inside → (g ≡ true) × (i ≡ true) × (a ≡ true) × ((inside_x b x && inside_y b y) ≡ inside)
    to true true true e = (refl, refl, refl, (cc))
    to true true false e = absurd (let z : ◌≡◌ {A = ℕ} 0 1 = cc in omega arith)
    to true false a e = absurd (let z : ◌≡◌ {A = ℕ} 0 1 = cc in omega arith)
    to false i a e = absurd (let z : ◌≡◌ {A = ℕ} 0 1 = cc in omega arith)

module _ (b : BoundingBox) where
  around : (x : Float) → is_above b.xmin b.xmax ≡ true → (inside_x b x ≡ true) ↔ ((at_most b.xmin x ≡ true) ⊎ (at_most x b.xmax ≡ true))
  unfolding inside_x
  around x t = rw t (or-true (at_most b.xmin x) (at_most x b.xmax))

  between_x : (x : Float) → is_above b.xmin b.xmax ≡ false → (inside_x b x ≡ true) ↔ ((at_most b.xmin x ≡ true) × (at_most x b.xmax ≡ true))
  unfolding inside_x
  between_x x f = rw f (between b.xmin b.xmax x)

  between_y : (y : Float) → (inside_y b y ≡ true) ↔ ((at_most b.ymin y ≡ true) × (at_most y b.ymax ≡ true))
  unfolding inside_y
  between_y y = between b.ymin b.ymax y

  nan_x : inside_x b nan ≡ false
  unfolding is_nan
  nan_x =
      is_false _ (λ t. by_test (is_above b.xmin b.xmax)
      (λ r. ⊎_elim (λ e. true≢false (at_most_numbers b.xmin nan e).1) (λ e. true≢false (at_most_numbers nan b.xmax e).0) ((around nan r).0 t))
      (λ f. true≢false (at_most_numbers b.xmin nan ((between_x nan f).0 t).0).1))

  nan_y : inside_y b nan ≡ false
  unfolding is_nan
  nan_y = is_false _ (λ t. true≢false (at_most_numbers b.ymin nan ((between_y nan).0 t).0).1)

  geometry_box : (is_box 17 b ≡ true) ↔ ((has_nan b ≡ false) × (is_above b.ymin b.ymax ≡ false))
  unfolding is_box allows_bounds is_allowed
  geometry_box = (
    (λ e. let h = and_both (not (has_nan b)) (not (is_above b.ymin b.ymax)) (and_left (not (has_nan b) && not (is_above b.ymin b.ymax)) true e) in (not-true _ h.0, not-true _ h.1)),
    λ h. rw (h.0, h.1),
  )

  has_nan_lem : (has_nan b ≡ true) ↔ ((b.xmin ≡ nan) ⊎ ((b.xmax ≡ nan) ⊎ ((b.ymin ≡ nan) ⊎ (b.ymax ≡ nan))))
  unfolding has_nan
  has_nan_lem = (
    (λ e. ⊎_elim (λ abc. ⊎_elim (λ ab. ⊎_elim (λ a. inl ((nan_is b.xmin).0 a)) (λ a. inr (inl ((nan_is b.xmax).0 a))) ((or-true (is_nan b.xmin) (is_nan b.xmax)).0 ab)) (λ c. inr (inr (inl ((nan_is b.ymin).0 c)))) ((or-true (is_nan b.xmin || is_nan b.xmax) (is_nan b.ymin)).0 abc)) (λ d. inr (inr (inr ((nan_is b.ymax).0 d)))) ((or-true (is_nan b.xmin || is_nan b.xmax || is_nan b.ymin) (is_nan b.ymax)).0 e)),
    λ h.
        (or-true (is_nan b.xmin || is_nan b.xmax || is_nan b.ymin) (is_nan b.ymax)).1
        (⊎_elim (λ a. inl (first_three (inl a)))
        (⊎_elim (λ a. inl (first_three (inr (inl a))))
        (⊎_elim (λ a. inl (first_three (inr (inr a)))) (λ d. inr ((nan_is b.ymax).1 d)))) h),
  )
    where
      first_three : (b.xmin ≡ nan) ⊎ ((b.xmax ≡ nan) ⊎ (b.ymin ≡ nan)) → (is_nan b.xmin || is_nan b.xmax || is_nan b.ymin) ≡ true
      first_three (inl e) = (or-true (is_nan b.xmin || is_nan b.xmax) (is_nan b.ymin)).1 (inl ((or-true (is_nan b.xmin) (is_nan b.xmax)).1 (inl ((nan_is b.xmin).1 e))))
      first_three (inr (inl e)) = (or-true (is_nan b.xmin || is_nan b.xmax) (is_nan b.ymin)).1 (inl ((or-true (is_nan b.xmin) (is_nan b.xmax)).1 (inr ((nan_is b.xmax).1 e))))
      first_three (inr (inr e)) = (or-true (is_nan b.xmin || is_nan b.xmax) (is_nan b.ymin)).1 (inr ((nan_is b.ymin).1 e))

  geography_box : (is_box 18 b ≡ true) ↔ ((has_nan b ≡ false) × (is_above b.ymin b.ymax ≡ false) × (in_range 0 b.xmin ≡ true) × (in_range 0 b.xmax ≡ true) × (in_range 1 b.ymin ≡ true) × (in_range 1 b.ymax ≡ true))
  unfolding is_box allows_bounds is_allowed has_nan
  geography_box = (
    (λ e.
        let h = and_both (not (has_nan b) && not (is_above b.ymin b.ymax)) (allows_bounds 18 b) e in
        let own = and_both (not (has_nan b)) (not (is_above b.ymin b.ymax)) h.0 in
        let three = and_both (allows 0 b.xmin && allows 0 b.xmax && allows 1 b.ymin) (allows 1 b.ymax) h.1 in
        let two = and_both (allows 0 b.xmin && allows 0 b.xmax) (allows 1 b.ymin) three.0 in
        let one = and_both (allows 0 b.xmin) (allows 0 b.xmax) two.0 in
        let none = not-true (has_nan b) own.0 in
        let last = or_neither (is_nan b.xmin || is_nan b.xmax || is_nan b.ymin) (is_nan b.ymax) none in
        let third = or_neither (is_nan b.xmin || is_nan b.xmax) (is_nan b.ymin) last.0 in
        let second = or_neither (is_nan b.xmin) (is_nan b.xmax) third.0 in
        (none, not-true _ own.1, (rw second.0 at one.0), (rw second.1 at one.1), (rw third.1 at two.1), (rw last.1 at three.1))),
    λ h.
        both_and (not (has_nan b) && not (is_above b.ymin b.ymax)) (allows_bounds 18 b) (both_and _ _ (ap not h.0) (ap not h.1))
        (both_and _ _ (both_and _ _ (both_and _ _ (right (is_nan b.xmin) h.2) (right (is_nan b.xmax) h.3)) (right (is_nan b.ymin) h.4)) (right (is_nan b.ymax) h.5)),
  )
    where
      allows : ℕ → Float → Bool
      allows axis v = is_nan v || in_range axis v

      right : (a : Bool) {c : Bool} → c ≡ true → (a || c) ≡ true
      right true e = refl
      right false e = e

geometry_point : (x y : Float) → allows_point 17 x y ≡ true
unfolding allows_point is_allowed
geometry_point x y = refl

geography_point : (x y : Float) → (allows_point 18 x y ≡ true) ↔ (((x ≡ nan) ⊎ (in_range 0 x ≡ true)) × ((y ≡ nan) ⊎ (in_range 1 y ≡ true)))
unfolding allows_point is_allowed
geography_point x y = (
  (λ e. let h = and_both _ (is_nan y || in_range 1 y) e in ((told 0 x).0 h.0, (told 1 y).0 h.1)),
  λ h. both_and _ _ ((told 0 x).1 h.0) ((told 1 y).1 h.1),
)
  where
    told : (axis : ℕ) (v : Float) → ((is_nan v || in_range axis v) ≡ true) ↔ ((v ≡ nan) ⊎ (in_range axis v ≡ true))
    told axis v = (
      (λ e. ⊎_elim (λ t. inl ((nan_is v).0 t)) inr ((or-true (is_nan v) (in_range axis v)).0 e)),
      λ h. (or-true (is_nan v) (in_range axis v)).1 (⊎_elim (λ e. inl ((nan_is v).1 e)) inr h),
    )

-- chosen in their order ------------------------------------------------------------------------------------------------------

-- what follows where nothing is refused
unless : {A : Type 0} → Verdict → Outcome A → Outcome A
unless (Ok _) next = next
unless (Err r) next = refused r

module _ (kind : ℕ) (coordinates : List Float) where
  tested_first : {A : Type 0} (g e a : Bool) (rest : List Ground) (x : A) → unless (shape kind coordinates g e a) (first rest x) ≡ first (ground 20 0 (not g) ∷ ground 15 0 (not e) ∷ ground 16 0 (not a) ∷ rest) x
  unfolding unless shape first
  tested_first false e a rest x = refl
  tested_first true false a rest x = refl
  tested_first true true false rest x = refl
  tested_first true true true rest x = refl

  verdict_is : (a : Boxed) → Answers kind coordinates a → box_verdict a ≡ shape kind coordinates (is_geospatial kind) (even kind coordinates) (allowed kind coordinates)
  verdict_is (Ok (Some b)) h = sym h.0 ∙ judged kind coordinates
  verdict_is (Ok None) h = sym h.0 ∙ judged kind coordinates
  verdict_is (Err r) h = sym h ∙ judged kind coordinates

  answer_first : {A : Type 0} (a : Boxed) → Answers kind coordinates a → (rest : List Ground) (x : A) → unless (box_verdict a) (first rest x) ≡ first (ground 20 0 (not (is_geospatial kind)) ∷ ground 15 0 (not (eqb (length coordinates % 2) 0)) ∷ ground 16 0 (not (allows_points kind coordinates (points_in coordinates))) ∷ rest) x
  unfolding even allowed
  answer_first a h rest x = ap (λ (v : Verdict). unless v (first rest x)) (verdict_is a h) ∙ tested_first (is_geospatial kind) (even kind coordinates) (allowed kind coordinates) rest x

  pub boxing_first : (a : Boxed) → Answers kind coordinates a → outcome.judged (box_verdict a) ≡ first (box_grounds kind coordinates) tt
  unfolding first unless
  boxing_first a h = on (box_verdict a) ∙ answer_first a h [] tt
    where
      on : (v : Verdict) → outcome.judged v ≡ unless v (given tt)
      on (Ok _) = refl
      on (Err r) = refl

  pub c_boxing_first : (lent : ℕ) (a : Boxed) → Answers kind coordinates a → within lent (box_effect a) ≡ first (c_box_grounds kind coordinates a lent) (record { value = length (box_numbers a); numbers = box_numbers a })
  unfolding unless
  c_boxing_first lent a h = on a ∙ answer_first a h (short_for (length (box_numbers a)) lent ∷ []) (record { value = length (box_numbers a); numbers = box_numbers a })
    where
      on : (b : Boxed) → within lent (box_effect b) ≡ unless (box_verdict b) (first (short_for (length (box_numbers b)) lent ∷ []) (record { value = length (box_numbers b); numbers = box_numbers b }))
      on (Ok (Some b)) = within_first lent 4 (box_numbers (Ok (Some b)))
      on (Ok None) = within_first lent 0 []
      on (Err r) = refl

pub testing_first : (kind : ℕ) (b : BoundingBox) (x y : Float) → membership kind b x y ≡ first (test_grounds kind b x y) (inside_x b x && inside_y b y)
unfolding membership first
testing_first kind b x y = on (is_geospatial kind) (is_box kind b) (allows_point kind x y)
  where
    on : (g i a : Bool) → cond g (cond (i && a) (given (inside_x b x && inside_y b y)) (refused (refusal 16 0))) (refused (refusal 20 0)) ≡ cond (not g) (refused (refusal 20 0)) (cond (not i) (refused (refusal 16 0)) (cond (not a) (refused (refusal 16 0)) (given (inside_x b x && inside_y b y))))
    on false i a = refl
    on true false a = refl
    on true true false = refl
    on true true true = refl

pub boxes : Boxes
boxes =
    record {
      at_most_lem = at_most_lem;
      above = above;
      x_range = x_range;
      y_range = y_range;
      counted = counted;
      unknown_kind = unknown_kind;
      odd_run = odd_run;
      out_of_range = out_of_range;
      refused_only = refused_only;
      none_or_box = none_or_box;
      from_min_to_max = λ kind coordinates b v h. ((λ c. (h.1.x.from_least v c, h.1.x.to_greatest v c)), λ c. (h.1.y.from_least v c, h.1.y.to_greatest v c));
      each_met = λ kind coordinates b h. (h.1.x.least_met, h.1.x.greatest_met, h.1.y.least_met, h.1.y.greatest_met);
      promised = promised;
      answered = answered;
      around = around;
      between_x = between_x;
      between_y = between_y;
      nan_x = nan_x;
      nan_y = nan_y;
      geometry_box = geometry_box;
      geography_box = geography_box;
      has_nan_lem = has_nan_lem;
      geometry_point = geometry_point;
      geography_point = geography_point;
    }
