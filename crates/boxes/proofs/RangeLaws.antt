-- The bounds of an axis are within the degrees of GEOGRAPHY exactly where each of its coordinates is.
use Prim.Native.Nat.{ℕ, zero, suc, ◌≤◌, ◌<◌}
use mathlib.Core.Path.{◌≡◌, refl, sym, ap, ap₂, ◌∙◌}
use mathlib.Core.Bool.{Bool, true, false, not, cond, ◌&&◌, ◌||◌}
use mathlib.Core.List.{List}
use mathlib.Core.Logic.{◌⊎◌, inl, inr}
use native.Mathlib.Omega.{arith}
use borrow.Author.Tests.{eq-eqb, ne_eqb, eqb-true, eqb-false}
use lib.Dec.{eqb}
use lib.IntN.{pos, neg_ℤ}
use lib.Ieee.{Float, inf, binary64, lt, is_nan, of_int}
use Rattle.laws.proofs.BoolLaws.{both_and, or_cases, or_neither, by_test, is_false}
use Rattle.laws.proofs.DifferenceLaws.{below?}
use Rattle.parquet.specs.Logical as logical
use Rattle.float_order.proofs.OrderLaws.{not_both}
use Rattle.boxes.specs.Coordinates.{at_most, is_above, is_between, X, Y, in_range, is_allowed}
use Rattle.boxes.specs.Points.{points_in, coordinate_of, Counted, allows_points}
use Rattle.boxes.specs.Steps.{Found, BoundsFound, is_beyond, beyond_degrees}
use Rattle.boxes.specs.declared.bounding_box.BoundingBox.{BoundingBox}
use Rattle.boxes.proofs.CoordinateLaws.{least, greatest, least_number, greatest_number_lem, is_above_lt, at_most_numbers, at_most_trans, at_most_not, at_most_below, same_at_most, same_sym, allowed_any, allowed_degrees}

-- ---- of a box

module _ (kind : ℕ) (b : BoundingBox) where
  pub beyond_other : (kind ≡ logical.GEOGRAPHY → ⊥) → beyond_degrees kind b ≡ false
  unfolding beyond_degrees
  beyond_other h = ap (λ (t : Bool). cond t (is_beyond X b.xmin b.xmax || is_beyond Y b.ymin b.ymax) false) (ne_eqb kind logical.GEOGRAPHY h)

  pub beyond_degrees_lem : kind ≡ logical.GEOGRAPHY → beyond_degrees kind b ≡ (is_beyond X b.xmin b.xmax || is_beyond Y b.ymin b.ymax)
  unfolding beyond_degrees
  beyond_degrees_lem e = ap (λ (t : Bool). cond t (is_beyond X b.xmin b.xmax || is_beyond Y b.ymin b.ymax) false) (eq-eqb kind logical.GEOGRAPHY e)

-- ---- of an axis

-- where nothing counts, nothing is beyond
unmet_within : (axis : ℕ) → is_beyond axis (inf false) (inf true) ≡ false
unfolding is_beyond of_int
unmet_within axis = simp is_above_lt (go (eqb axis X))
  where
    go : (x : Bool) → (lt (inf false) (of_int binary64 (neg_ℤ (pos (cond x 180 90)))) || lt (of_int binary64 (pos (cond x 180 90))) (inf true)) ≡ false
    go true = unfold lt in refl
    go false = unfold lt in refl

and_first : (s t : Bool) → s ≡ false → (s && t) ≡ false
and_first s t e = ap (λ (u : Bool). u && t) e

and_second : (s t : Bool) → t ≡ false → (s && t) ≡ false
and_second true t e = e
and_second false t e = refl

module _ (axis : ℕ) (coordinates : List Float) (low high : Float) where
  abbrev at : ℕ → Float
  at = coordinate_of coordinates axis

  -- bounds within the degrees: each coordinate is a NaN or within
  each_within : Found axis coordinates low high → is_beyond axis low high ≡ false → (p : ℕ) → p < points_in coordinates → (is_nan (at p) || in_range axis (at p)) ≡ true
  unfolding is_beyond in_range is_between
  each_within found e p h = by_test (is_nan (at p)) (λ n. rw n) (λ n. rw n (go found n))
    where
      counted : is_nan (at p) ≡ false → Counted axis coordinates (at p)
      counted n = record { point = p; below = h; there = refl; number = n }

      go : Found axis coordinates low high → is_nan (at p) ≡ false → (at_most (least axis) (at p) && at_most (at p) (greatest axis)) ≡ true
      go (inl u) n = absurd (u.none (at p) (counted n))
      go (inr b) n =
          let from = b.from_least (at p) (counted n) in
          let to = b.to_greatest (at p) (counted n) in
          let none = or_neither (is_above (least axis) low) (is_above high (greatest axis)) e in
          both_and _ _
          (at_most_trans (least axis) low (at p) (at_most_not (least axis) low (least_number axis) (at_most_numbers low (at p) from).0 ∙ ap not none.0) from)
          (at_most_trans (at p) high (greatest axis) to (at_most_not high (greatest axis) (at_most_numbers (at p) high to).1 (greatest_number_lem axis) ∙ ap not none.1))

  -- a bound beyond them: a coordinate is
  one_beyond : Found axis coordinates low high → is_beyond axis low high ≡ true → (p : ℕ) × (p < points_in coordinates) × ((is_nan (at p) || in_range axis (at p)) ≡ false)
  unfolding is_beyond in_range is_between
  one_beyond (inl u) e = not_both (sym (ap₂ (is_beyond axis) u.least_is u.greatest_is ∙ unmet_within axis) ∙ e)
  one_beyond (inr b) e = go (or_cases (is_above (least axis) low) (is_above high (greatest axis)) e)
    where
      outside : (v : Float) → Counted axis coordinates v → (at_most (least axis) v && at_most v (greatest axis)) ≡ false
          → (p : ℕ) × (p < points_in coordinates) × ((is_nan (at p) || (at_most (least axis) (at p) && at_most (at p) (greatest axis))) ≡ false)
      outside v c f = (c.point, c.below, ap (λ (u : Float). is_nan u || (at_most (least axis) u && at_most u (greatest axis))) c.there ∙ rw (c.number, f))

      go : (is_above (least axis) low ≡ true) ⊎ (is_above high (greatest axis) ≡ true)
          → (p : ℕ) × (p < points_in coordinates) × ((is_nan (at p) || (at_most (least axis) (at p) && at_most (at p) (greatest axis))) ≡ false)
      go (inl a) =
          let m = b.least_met in
          outside m.0 m.1 (and_first (at_most (least axis) m.0) (at_most m.0 (greatest axis))
          (is_false (at_most (least axis) m.0) (λ h. not_both (sym (at_most_below (least axis) low (at_most_trans (least axis) m.0 low h (same_at_most m.0 low (same_sym low m.0 m.2)))) ∙ a))))
      go (inr a) =
          let m = b.greatest_met in
          outside m.0 m.1 (and_second (at_most (least axis) m.0) (at_most m.0 (greatest axis))
          (is_false (at_most m.0 (greatest axis)) (λ h. not_both (sym (at_most_below high (greatest axis) (at_most_trans high m.0 (greatest axis) (same_at_most high m.0 m.2) h)) ∙ a))))

-- ---- of a list of points

module _ (kind : ℕ) (coordinates : List Float) where
  abbrev allows : ℕ → Bool
  allows p = is_allowed kind X (coordinate_of coordinates X p) && is_allowed kind Y (coordinate_of coordinates Y p)

  all_allowed : (k : ℕ) → ((p : ℕ) → p < k → allows p ≡ true) → allows_points kind coordinates k ≡ true
  unfolding allows_points
  all_allowed zero h = refl
  all_allowed (suc k) h = both_and (allows_points kind coordinates k) (allows k) (all_allowed k (λ p l. h p (omega arith))) (h k (omega arith))

  one_refused : (k p : ℕ) → p < k → allows p ≡ false → allows_points kind coordinates k ≡ false
  unfolding allows_points
  one_refused zero p l e = absurd (omega arith)
  one_refused (suc k) p l e = below? p k (λ h. and_first (allows_points kind coordinates k) (allows k) (one_refused k p h e)) (λ h. last h)
    where
      last : k ≤ p → (allows_points kind coordinates k && allows k) ≡ false
      last h = let q : k ≡ p = omega arith in and_second (allows_points kind coordinates k) (allows k) (ap allows q ∙ e)

  -- the kind allows each point of those that it allows
  pub each_allowed : (k : ℕ) → allows_points kind coordinates k ≡ true → (p : ℕ) → p < k → allows p ≡ true
  each_allowed k e p l = by_test (allows p) (λ a. a) (λ a. not_both (sym (one_refused k p l a) ∙ e))

  -- the kind allows the points where it allows the bounds that were found
  module _ (b : BoundingBox) (found : BoundsFound coordinates b) where
    pub found_allowed : beyond_degrees kind b ≡ false → allows_points kind coordinates (points_in coordinates) ≡ true
    found_allowed e = by_test (eqb kind logical.GEOGRAPHY) degrees other
      where
        other : eqb kind logical.GEOGRAPHY ≡ false → allows_points kind coordinates (points_in coordinates) ≡ true
        other f =
            let h = eqb-false kind logical.GEOGRAPHY f in
            all_allowed (points_in coordinates) (λ p l. both_and _ _ (allowed_any kind X (coordinate_of coordinates X p) h) (allowed_any kind Y (coordinate_of coordinates Y p) h))

        degrees : eqb kind logical.GEOGRAPHY ≡ true → allows_points kind coordinates (points_in coordinates) ≡ true
        degrees f =
            let g = eqb-true kind logical.GEOGRAPHY f in
            let none = or_neither (is_beyond X b.xmin b.xmax) (is_beyond Y b.ymin b.ymax) (sym (beyond_degrees_lem kind b g) ∙ e) in
            all_allowed (points_in coordinates)
            (λ p l. both_and _ _
            (allowed_degrees kind X (coordinate_of coordinates X p) g ∙ each_within X coordinates b.xmin b.xmax found.x none.0 p l)
            (allowed_degrees kind Y (coordinate_of coordinates Y p) g ∙ each_within Y coordinates b.ymin b.ymax found.y none.1 p l))

    -- and only there
    pub found_refused : beyond_degrees kind b ≡ true → allows_points kind coordinates (points_in coordinates) ≡ false
    found_refused e = by_test (eqb kind logical.GEOGRAPHY) degrees (λ f. not_both (sym (beyond_other kind b (eqb-false kind logical.GEOGRAPHY f)) ∙ e))
      where
        degrees : eqb kind logical.GEOGRAPHY ≡ true → allows_points kind coordinates (points_in coordinates) ≡ false
        degrees f = go (or_cases (is_beyond X b.xmin b.xmax) (is_beyond Y b.ymin b.ymax) (sym (beyond_degrees_lem kind b g) ∙ e))
          where
            g : kind ≡ logical.GEOGRAPHY
            g = eqb-true kind logical.GEOGRAPHY f

            go : (is_beyond X b.xmin b.xmax ≡ true) ⊎ (is_beyond Y b.ymin b.ymax ≡ true) → allows_points kind coordinates (points_in coordinates) ≡ false
            go (inl h) =
                let one = one_beyond X coordinates b.xmin b.xmax found.x h in
                one_refused (points_in coordinates) one.0 one.1
                (and_first (is_allowed kind X (coordinate_of coordinates X one.0)) (is_allowed kind Y (coordinate_of coordinates Y one.0))
                (allowed_degrees kind X (coordinate_of coordinates X one.0) g ∙ one.2))
            go (inr h) =
                let one = one_beyond Y coordinates b.ymin b.ymax found.y h in
                one_refused (points_in coordinates) one.0 one.1
                (and_second (is_allowed kind X (coordinate_of coordinates X one.0)) (is_allowed kind Y (coordinate_of coordinates Y one.0))
                (allowed_degrees kind Y (coordinate_of coordinates Y one.0) g ∙ one.2))
