-- `boxes::points::bounds_of` meets its contract: of the points that were passed each bound is the furthest number of its side.
use Prim.Native.Nat.{ℕ, ◌+◌, ◌*◌}
use mathlib.Core.Path.{◌≡◌, refl, ap}
use mathlib.Core.List.{List}
use native.Mathlib.Nat.{add-zero}
use native.Mathlib.Omega.{arith}
use lib.ListN.{get_or}
use lib.Ieee.{Float, nan}
use Rattle.boxes.specs.Coordinates.{X, Y}
use Rattle.boxes.specs.Points.{points_in, coordinate_of}
use Rattle.boxes.proofs.BoundLaws.{low_none, high_none, low_more, high_more, found}
use Rattle.boxes.proofs.points.bounds_of.Goals as goal

pub loop-point-init : goal.loop-point-init
loop-point-init c =
    record {
      xmin_is = low_none _ c.unmet-x.ensures.0;
      xmax_is = high_none _ c.unmet-x.ensures.1;
      ymin_is = low_none _ c.unmet-y.ensures.0;
      ymax_is = high_none _ c.unmet-y.ensures.1;
    }

-- the coordinates of a point stand at twice its number, and behind
x_at : (coordinates : List Float) (p : ℕ) → coordinate_of coordinates X p ≡ get_or coordinates (2 * p) nan
unfolding coordinate_of
x_at coordinates p = ap (λ (i : ℕ). get_or coordinates i nan) (add-zero (2 * p))

y_at : (coordinates : List Float) (p : ℕ) → coordinate_of coordinates Y p ≡ get_or coordinates (2 * p + 1) nan
unfolding coordinate_of
y_at coordinates p = refl

pub loop-point-preserved : goal.loop-point-preserved
loop-point-preserved c =
    let coordinates = c.args.coordinates.now in
    let p = c.loop-point.point in
    let passed = c.loop-point.invariant in
    record {
      xmin_is = low_more (coordinate_of coordinates X) p (x_at coordinates p) c.reaching-x.ensures.0 passed.xmin_is;
      xmax_is = high_more (coordinate_of coordinates X) p (x_at coordinates p) c.reaching-x.ensures.1 passed.xmax_is;
      ymin_is = low_more (coordinate_of coordinates Y) p (y_at coordinates p) c.reaching-y.ensures.0 passed.ymin_is;
      ymax_is = high_more (coordinate_of coordinates Y) p (y_at coordinates p) c.reaching-y.ensures.1 passed.ymax_is;
    }

pub returns : goal.returns
unfolding points_in
returns c =
    let coordinates = c.args.coordinates.now in
    let passed = c.loop-point.invariant in
    let all : c.loop-point.point ≡ points_in coordinates = omega arith in
    record {
      x = found X coordinates _ _ (rw all at passed.xmin_is) (rw all at passed.xmax_is);
      y = found Y coordinates _ _ (rw all at passed.ymin_is) (rw all at passed.ymax_is);
    }
