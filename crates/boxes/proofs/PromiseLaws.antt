-- The promises of boxes hold.
use Prim.Native.Nat.{ℕ, ◌<◌}
use mathlib.Core.Path.{◌≡◌, refl, sym, ap, ◌∙◌}
use mathlib.Core.Bool.{Bool, true, false, ◌&&◌, ◌||◌}
use mathlib.Core.List.{List}
use mathlib.Core.Logic.{◌⊎◌, inl, inr}
use native.Mathlib.Omega.{arith}
use borrow.Author.Tests.{eqb-true, eqb-false}
use lib.Dec.{eqb}
use lib.Ieee.{Float, is_nan}
use Rattle.laws.proofs.BoolLaws.{and_both, both_and, by_test}
use Rattle.refusal.specs.Outcome.{given}
use Rattle.refusal.specs.declared.answers.Refusal.{Refusal}
use Rattle.refusal.specs.Outcome.{Verdict}
use Rattle.std.specs.Prelude.{Ok, Err}
use Rattle.parquet.specs.Logical as logical
use Rattle.boxes.specs.Coordinates.{at_most, Same, is_between, X, Y, in_range, is_allowed}
use Rattle.boxes.specs.Points.{Boxed, points_in, coordinate_of, Counted, NoneCounted, Met, Bounds, BoxOf, Answers}
use Rattle.boxes.specs.Membership.{inside_x, inside_y, has_nan, is_box, allows_point, membership}
use Rattle.boxes.specs.Promises.{SameBox, SameAnswer, Promises}
use Rattle.boxes.specs.declared.bounding_box.BoundingBox.{BoundingBox}
use Rattle.std.specs.Prelude.{Some, None}
use Rattle.boxes.proofs.CoordinateLaws.{least, greatest, at_most_trans, at_most_antisym, same_at_most, same_sym, same_numbers, allowed_any, allowed_degrees}
use Rattle.boxes.proofs.RangeLaws.{each_allowed}
use Rattle.boxes.proofs.PointLaws.{lawful, bounds_below}
use Rattle.boxes.proofs.MembershipLaws.{box_corners, membership_given}

-- ---- one box

module _ (axis : ℕ) (coordinates : List Float) {low high low' high' : Float} (b : Bounds axis coordinates low high) (c : Bounds axis coordinates low' high') where
  -- the least of one is at most that of the other, which a counted coordinate equals
  least_below : at_most low low' ≡ true
  least_below = let m = c.least_met in at_most_trans low m.0 low' (b.from_least m.0 m.1) (same_at_most m.0 low' (same_sym low' m.0 m.2))

  -- and the greatest at least
  greatest_above : at_most high' high ≡ true
  greatest_above = let m = c.greatest_met in at_most_trans high' m.0 high (same_at_most high' m.0 m.2) (b.to_greatest m.0 m.1)

module _ (axis : ℕ) (coordinates : List Float) {low high low' high' : Float} (b : Bounds axis coordinates low high) (c : Bounds axis coordinates low' high') where
  one_least : Same low low'
  one_least = at_most_antisym low low' (least_below axis coordinates b c) (least_below axis coordinates c b)

  one_greatest : Same high high'
  one_greatest = at_most_antisym high high' (greatest_above axis coordinates c b) (greatest_above axis coordinates b c)

one_box : (coordinates : List Float) (b c : BoundingBox) → BoxOf coordinates b → BoxOf coordinates c → SameBox b c
one_box coordinates b c p q =
    record {
      xmin = one_least X coordinates p.x q.x;
      xmax = one_greatest X coordinates p.x q.x;
      ymin = one_least Y coordinates p.y q.y;
      ymax = one_greatest Y coordinates p.y q.y;
    }

-- ---- one answer

-- where there is a box, both axes have a counted coordinate
box_counts : (coordinates : List Float) (b : BoundingBox) → BoxOf coordinates b → NoneCounted X coordinates ⊎ NoneCounted Y coordinates → ⊥
box_counts coordinates b p (inl n) = let m = p.x.least_met in n m.0 m.1
box_counts coordinates b p (inr n) = let m = p.y.least_met in n m.0 m.1

lawful_refused : {A : Type 0} {v : Verdict} {r : Refusal} → v ≡ Ok tt → v ≡ Err r → A
lawful_refused p q = let z : ◌≡◌ {A = ℕ} 0 1 = cc in absurd (omega arith)

refused_one : {v : Verdict} {q r : Refusal} → v ≡ Err q → v ≡ Err r → q ≡ r
refused_one p q = cc

one_answer : (kind : ℕ) (coordinates : List Float) (a b : Boxed) → Answers kind coordinates a → Answers kind coordinates b → SameAnswer a b
one_answer kind coordinates (Ok (Some b)) (Ok (Some c)) p q = one_box coordinates b c p.1 q.1
one_answer kind coordinates (Ok (Some b)) (Ok None) p q = box_counts coordinates b p.1 q.1
one_answer kind coordinates (Ok (Some b)) (Err r) p q = lawful_refused p.0 q
one_answer kind coordinates (Ok None) (Ok (Some c)) p q = box_counts coordinates c q.1 p.1
one_answer kind coordinates (Ok None) (Ok None) p q = tt
one_answer kind coordinates (Ok None) (Err r) p q = lawful_refused p.0 q
one_answer kind coordinates (Err s) (Ok (Some c)) p q = lawful_refused q.0 p
one_answer kind coordinates (Err s) (Ok None) p q = lawful_refused q.0 p
one_answer kind coordinates (Err s) (Err r) p q = refused_one p q

-- ---- the box of points is one, and its points are inside

-- a kind allows what equals an allowed coordinate
same_allowed : (kind axis : ℕ) (v w : Float) → Same v w → is_allowed kind axis w ≡ true → is_allowed kind axis v ≡ true
unfolding in_range is_between
same_allowed kind axis v w s a = by_test (eqb kind logical.GEOGRAPHY) degrees (λ e. allowed_any kind axis v (eqb-false kind logical.GEOGRAPHY e))
  where
    degrees : eqb kind logical.GEOGRAPHY ≡ true → is_allowed kind axis v ≡ true
    degrees e =
        let g = eqb-true kind logical.GEOGRAPHY e in
        let n = same_numbers v w s in
        let within = and_both (at_most (least axis) w) (at_most w (greatest axis))
        (sym (ap (λ (t : Bool). t || (at_most (least axis) w && at_most w (greatest axis))) n.1) ∙ sym (allowed_degrees kind axis w g) ∙ a) in
        allowed_degrees kind axis v g
        ∙ ap (λ (t : Bool). t || (at_most (least axis) v && at_most v (greatest axis))) n.0
        ∙ both_and (at_most (least axis) v) (at_most v (greatest axis))
        (at_most_trans (least axis) w v within.0 (same_at_most w v (same_sym v w s)))
        (at_most_trans v w (greatest axis) (same_at_most v w s) within.1)

module _ (kind axis : ℕ) (coordinates : List Float) (each : (p : ℕ) → p < points_in coordinates → is_allowed kind axis (coordinate_of coordinates axis p) ≡ true) where
  -- and so a bound
  met_allowed : (v : Float) → Met axis coordinates v → is_allowed kind axis v ≡ true
  met_allowed v m =
      same_allowed kind axis v m.0 m.2 (ap (is_allowed kind axis) (sym m.1.there) ∙ each m.1.point m.1.below)

met_number : (axis : ℕ) (coordinates : List Float) (v : Float) → Met axis coordinates v → is_nan v ≡ false
met_number axis coordinates v m = (same_numbers v m.0 m.2).0

module _ (kind : ℕ) (coordinates : List Float) (b : BoundingBox) (a : Answers kind coordinates (Ok (Some b))) where
  allowed : (p : ℕ) → p < points_in coordinates → (is_allowed kind X (coordinate_of coordinates X p) && is_allowed kind Y (coordinate_of coordinates Y p)) ≡ true
  allowed = each_allowed kind coordinates (points_in coordinates) (lawful kind coordinates a.0).1

  allowed_x : (p : ℕ) → p < points_in coordinates → is_allowed kind X (coordinate_of coordinates X p) ≡ true
  allowed_x p h = (and_both (is_allowed kind X (coordinate_of coordinates X p)) (is_allowed kind Y (coordinate_of coordinates Y p)) (allowed p h)).0

  allowed_y : (p : ℕ) → p < points_in coordinates → is_allowed kind Y (coordinate_of coordinates Y p) ≡ true
  allowed_y p h = (and_both (is_allowed kind X (coordinate_of coordinates X p)) (is_allowed kind Y (coordinate_of coordinates Y p)) (allowed p h)).1

  numbers : has_nan b ≡ false
  unfolding has_nan
  numbers =
      rw (
        met_number X coordinates b.xmin a.1.x.least_met,
        met_number X coordinates b.xmax a.1.x.greatest_met,
        met_number Y coordinates b.ymin a.1.y.least_met,
        met_number Y coordinates b.ymax a.1.y.greatest_met,
      )

  is_box_lem : is_box kind b ≡ true
  unfolding allows_point
  is_box_lem =
      box_corners kind b numbers (bounds_below Y coordinates b.ymin b.ymax a.1.y)
      ∙ rw (
        met_allowed kind X coordinates allowed_x b.xmin a.1.x.least_met,
        met_allowed kind X coordinates allowed_x b.xmax a.1.x.greatest_met,
        met_allowed kind Y coordinates allowed_y b.ymin a.1.y.least_met,
        met_allowed kind Y coordinates allowed_y b.ymax a.1.y.greatest_met,
      )

  module _ (p : ℕ) (h : p < points_in coordinates) where
    -- each coordinate that is no NaN lies between the bounds of its axis
    between : (axis : ℕ) (low high : Float) → Bounds axis coordinates low high → is_nan (coordinate_of coordinates axis p) ≡ false → is_between low high (coordinate_of coordinates axis p) ≡ true
    unfolding is_between
    between axis low high bounds n =
        let c : Counted axis coordinates (coordinate_of coordinates axis p) = record { point = p; below = h; there = refl; number = n } in
        both_and (at_most low (coordinate_of coordinates axis p)) (at_most (coordinate_of coordinates axis p) high) (bounds.from_least _ c) (bounds.to_greatest _ c)

    contained : is_nan (coordinate_of coordinates X p) ≡ false → is_nan (coordinate_of coordinates Y p) ≡ false → membership kind b (coordinate_of coordinates X p) (coordinate_of coordinates Y p) ≡ given true
    unfolding allows_point inside_x inside_y
    contained nx ny =
        membership_given kind b (coordinate_of coordinates X p) (coordinate_of coordinates Y p) (lawful kind coordinates a.0).0 is_box_lem (allowed p h)
        ∙ rw (bounds_below X coordinates b.xmin b.xmax a.1.x, between X b.xmin b.xmax a.1.x nx, between Y b.ymin b.ymax a.1.y ny)

pub promised : Promises
promised = record { one_box = one_box; one_answer = one_answer; contains = λ kind coordinates b p a h. contained kind coordinates b a p h }
