-- `boxes::points::box_of` meets its contract: the range of the bounds is that of the points, and the least is above the greatest where nothing counts.
use mathlib.Core.Path.{◌≡◌, sym, ◌∙◌}
use mathlib.Core.List.{List}
use mathlib.Core.Logic.{inl, inr}
use lib.Ieee.{Float}
use Rattle.std.specs.Prelude.{Ok}
use Rattle.boxes.specs.Coordinates.{X, Y}
use Rattle.boxes.specs.Points.{judgement}
use Rattle.boxes.specs.declared.bounding_box.BoundingBox.{BoundingBox}
use Rattle.boxes.proofs.CoordinateLaws.{is_above_lt}
use Rattle.boxes.proofs.RangeLaws.{found_allowed, found_refused}
use Rattle.boxes.proofs.PointLaws.{judgement_20, judgement_15, judgement_16, judgement_lawful, found_none, found_bounds}
use Rattle.boxes.proofs.points.box_of.Goals as goal
use Rattle.boxes.proofs.points.box_of.Goals.{Else-beyond_degrees}

pub returns-then-not-has_boxes : goal.returns-then-not-has_boxes
returns-then-not-has_boxes c =
    let args = c.args in
    judgement_20 args.kind args.coordinates.now (sym c.if-not-has_boxes.ensures)

pub returns-then-coordinates-ne0 : goal.returns-then-coordinates-ne0
returns-then-coordinates-ne0 c =
    let args = c.args in
    judgement_15 args.kind args.coordinates.now (sym c.if-not-has_boxes.ensures) c.if-coordinates-ne0.true

pub returns-then-beyond_degrees : goal.returns-then-beyond_degrees
returns-then-beyond_degrees c =
    let args = c.args in
    let b = c.bounds_of-found.result in
    judgement_16 args.kind args.coordinates.now (sym c.if-not-has_boxes.ensures) c.if-coordinates-ne0.false
    (found_refused args.kind args.coordinates.now b c.bounds_of-found.ensures (sym c.if-beyond_degrees.ensures))

-- past the third the points are lawful
abbrev coordinates : Else-beyond_degrees → List Float
coordinates c = c.args.coordinates.now

abbrev bounds : Else-beyond_degrees → BoundingBox
bounds c = c.bounds_of-found.result

lawful : (c : Else-beyond_degrees) → judgement c.args.kind (coordinates c) ≡ Ok tt
lawful c =
    let kind = c.args.kind in
    judgement_lawful kind (coordinates c) (sym c.if-not-has_boxes.ensures) c.if-coordinates-ne0.false
    (found_allowed kind (coordinates c) (bounds c) c.bounds_of-found.ensures (sym c.if-beyond_degrees.ensures))

pub returns-then-found : goal.returns-then-found
returns-then-found c =
    let b = bounds (goal.at.returns-then-found c).Else-beyond_degrees in
    (lawful (goal.at.returns-then-found c).Else-beyond_degrees, inl (found_none X (coordinates (goal.at.returns-then-found c).Else-beyond_degrees) b.xmin b.xmax c.bounds_of-found.ensures.x (is_above_lt b.xmin b.xmax ∙ c.if-found.true)))

pub returns-then-found-2 : goal.returns-then-found-2
returns-then-found-2 c =
    let b = bounds (goal.at.returns-then-found-2 c).Else-beyond_degrees in
    (lawful (goal.at.returns-then-found-2 c).Else-beyond_degrees, inr (found_none Y (coordinates (goal.at.returns-then-found-2 c).Else-beyond_degrees) b.ymin b.ymax c.bounds_of-found.ensures.y (is_above_lt b.ymin b.ymax ∙ c.if-found-2.true)))

pub returns : goal.returns
returns c =
    let b = bounds (goal.at.returns c).Else-beyond_degrees in (
      lawful (goal.at.returns c).Else-beyond_degrees,
      record {
        x = found_bounds X (coordinates (goal.at.returns c).Else-beyond_degrees) b.xmin b.xmax c.bounds_of-found.ensures.x (is_above_lt b.xmin b.xmax ∙ c.if-found.false);
        y = found_bounds Y (coordinates (goal.at.returns c).Else-beyond_degrees) b.ymin b.ymax c.bounds_of-found.ensures.y (is_above_lt b.ymin b.ymax ∙ c.if-found-2.false);
      },
    )
