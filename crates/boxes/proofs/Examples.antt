-- Boxes and points written out, and what a test and the judgement of a list of points answer of them.
use Prim.Native.Nat.{ℕ}
use mathlib.Core.Path.{◌≡◌, refl}
use mathlib.Core.Bool.{true, false}
use mathlib.Core.List.{[], ◌∷◌}
use lib.IntN.{pos, neg_ℤ}
use lib.Ieee.{Float, nan, inf, fin, binary64, lt, eq, is_nan, of_int}
use Rattle.refusal.specs.Outcome.{given, refused, unplaced}
use Rattle.std.specs.Prelude.{Ok, Err}
use Rattle.float_order.specs.Floats.{float_order}
use Rattle.boxes.specs.Coordinates.{at_most, is_above, is_between, in_range, is_allowed}
use Rattle.boxes.specs.Points.{points_in, coordinate_of, allows_points, judgement}
use Rattle.boxes.specs.Membership.{inside_x, inside_y, has_nan, allows_bounds, is_box, allows_point, membership}
use Rattle.boxes.specs.declared.bounding_box.BoundingBox.{BoundingBox}

-- whole numbers as doubles
abbrev plus : ℕ → Float
plus n = of_int binary64 (pos n)

abbrev minus : ℕ → Float
minus n = of_int binary64 (neg_ℤ (pos n))

-- ---- a box from 10 to 20 in x and from -5 to 5 in y

abbrev pub plain : BoundingBox
plain = record { xmin = plus 10; xmax = plus 20; ymin = minus 5; ymax = plus 5 }

-- on the least bounds, and on the greatest
pub on_least : membership 17 plain (plus 10) (minus 5) ≡ given true
unfolding membership is_box has_nan allows_bounds allows_point is_allowed in_range is_between at_most is_above inside_x inside_y float_order lt eq is_nan of_int
on_least = refl

pub on_greatest : membership 17 plain (plus 20) (plus 5) ≡ given true
unfolding membership is_box has_nan allows_bounds allows_point is_allowed in_range is_between at_most is_above inside_x inside_y float_order lt eq is_nan of_int
on_greatest = refl

-- one past a bound of x, and of y
pub past_x : membership 17 plain (plus 21) (plus 5) ≡ given false
unfolding membership is_box has_nan allows_bounds allows_point is_allowed in_range is_between at_most is_above inside_x inside_y float_order lt eq is_nan of_int
past_x = refl

pub past_y : membership 17 plain (plus 20) (minus 6) ≡ given false
unfolding membership is_box has_nan allows_bounds allows_point is_allowed in_range is_between at_most is_above inside_x inside_y float_order lt eq is_nan of_int
past_y = refl

-- a NaN is inside nothing
pub nan_point : membership 18 plain (plus 15) nan ≡ given false
unfolding membership is_box has_nan allows_bounds allows_point is_allowed in_range is_between at_most is_above inside_x inside_y float_order lt eq is_nan of_int
nan_point = refl

-- 20 comes first
pub no_kind : membership 16 (record { xmin = nan; xmax = plus 20; ymin = minus 5; ymax = plus 5 }) (plus 15) (plus 0) ≡ refused (unplaced 20)
unfolding membership
no_kind = refl

-- ---- a box that goes round: xmin is above xmax

abbrev pub round_the_back : BoundingBox
round_the_back = record { xmin = plus 170; xmax = minus 170; ymin = minus 5; ymax = plus 5 }

pub round_inside : membership 18 round_the_back (plus 175) (plus 0) ≡ given true
unfolding membership is_box has_nan allows_bounds allows_point is_allowed in_range is_between at_most is_above inside_x inside_y float_order lt eq is_nan of_int
round_inside = refl

pub round_bound : membership 18 round_the_back (minus 170) (plus 0) ≡ given true
unfolding membership is_box has_nan allows_bounds allows_point is_allowed in_range is_between at_most is_above inside_x inside_y float_order lt eq is_nan of_int
round_bound = refl

pub round_outside : membership 18 round_the_back (plus 0) (plus 0) ≡ given false
unfolding membership is_box has_nan allows_bounds allows_point is_allowed in_range is_between at_most is_above inside_x inside_y float_order lt eq is_nan of_int
round_outside = refl

-- ---- boxes that are none

pub nan_box : membership 17 (record { xmin = plus 10; xmax = nan; ymin = minus 5; ymax = plus 5 }) (plus 15) (plus 0) ≡ refused (unplaced 16)
unfolding membership is_box has_nan is_nan of_int
nan_box = refl

-- y does not go round
pub y_above : membership 17 (record { xmin = plus 10; xmax = plus 20; ymin = plus 5; ymax = minus 5 }) (plus 15) (plus 0) ≡ refused (unplaced 16)
unfolding membership is_box has_nan is_above float_order lt eq is_nan of_int
y_above = refl

-- ---- the whole of GEOGRAPHY, and beyond

abbrev pub whole : BoundingBox
whole = record { xmin = minus 180; xmax = plus 180; ymin = minus 90; ymax = plus 90 }

pub whole_corner : membership 18 whole (plus 180) (minus 90) ≡ given true
unfolding membership is_box has_nan allows_bounds allows_point is_allowed in_range is_between at_most is_above inside_x inside_y float_order lt eq is_nan of_int
whole_corner = refl

-- the next double after 180 is 6,333,186,975,989,761 / 2^45
pub beyond_point : membership 18 whole (fin false 6333186975989761 (neg_ℤ (pos 45))) (plus 0) ≡ refused (unplaced 16)
unfolding membership is_box has_nan allows_bounds allows_point is_allowed in_range is_between at_most is_above inside_x inside_y float_order lt eq is_nan of_int
beyond_point = refl

pub beyond_box : membership 18 (record { xmin = minus 180; xmax = plus 180; ymin = minus 91; ymax = plus 90 }) (plus 0) (plus 0) ≡ refused (unplaced 16)
unfolding membership is_box has_nan allows_bounds allows_point is_allowed in_range is_between at_most is_above inside_x inside_y float_order lt eq is_nan of_int
beyond_box = refl

-- for GEOMETRY it is a point like others, and so is an infinity
pub no_degrees : membership 17 whole (inf false) (plus 0) ≡ given false
unfolding membership is_box has_nan allows_bounds allows_point is_allowed in_range is_between at_most is_above inside_x inside_y float_order lt eq is_nan of_int
no_degrees = refl

-- ---- lists of points

-- 20 comes before 15, and 15 before 16
pub odd_no_kind : judgement 16 (plus 0 ∷ []) ≡ Err (unplaced 20)
unfolding judgement
odd_no_kind = refl

pub odd_beyond : judgement 18 (plus 0 ∷ plus 91 ∷ plus 0 ∷ []) ≡ Err (unplaced 15)
unfolding judgement
odd_beyond = refl

pub even_beyond : judgement 18 (plus 0 ∷ plus 91 ∷ []) ≡ Err (unplaced 16)
unfolding judgement points_in allows_points coordinate_of is_allowed in_range is_between at_most float_order lt eq is_nan of_int
even_beyond = refl

-- x may be 91, and a NaN anywhere
pub even_within : judgement 18 (plus 91 ∷ plus 90 ∷ nan ∷ minus 90 ∷ []) ≡ Ok tt
unfolding judgement points_in allows_points coordinate_of is_allowed in_range is_between at_most float_order lt eq is_nan of_int
even_within = refl
