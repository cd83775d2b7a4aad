-- Every refusal of boxes has a number of at most 20, and the place 0.
use Prim.Native.Nat.{ℕ, ◌%◌, ◌≤◌, ◌<◌}
use mathlib.Core.Path.{◌≡◌, subst}
use mathlib.Core.Bool.{Bool, true, false, cond, ◌&&◌}
use mathlib.Core.List.{List}
use native.Mathlib.Omega.{arith}
use lib.Dec.{eqb}
use lib.ListN.{length}
use lib.Ieee.{Float}
use Rattle.refusal.specs.Numbers.{WRONG_LENGTH, BREAKS_ANNOTATION, UNKNOWN_TYPE}
use Rattle.refusal.specs.Outcome.{Outcome, given, refused, unplaced}
use Rattle.refusal.specs.Bounds.{Bounded}
use Rattle.refusal.specs.declared.answers.Refusal.{Refusal}
use Rattle.refusal.specs.Outcome.{Verdict}
use Rattle.std.specs.Prelude.{Ok, Err}
use Rattle.parquet.specs.Logical.{is_geospatial}
use Rattle.boxes.specs.Points.{points_in, allows_points, judgement}
use Rattle.boxes.specs.Membership.{inside_x, inside_y, is_box, allows_point, membership}
use Rattle.boxes.specs.declared.bounding_box.BoundingBox.{BoundingBox}

-- a refusal without a place
unplaced_bounded : (number : ℕ) → 0 < number → number ≤ UNKNOWN_TYPE → Bounded UNKNOWN_TYPE 0 (unplaced number)
unplaced_bounded number some most = record { some_number = some; most_number = most; most_place = omega arith }

-- that of points
abbrev VerdictBounded : Verdict → Type 0
VerdictBounded (Ok _) = Unit {0}
VerdictBounded (Err r) = Bounded UNKNOWN_TYPE 0 r

judgement_bounded : (kind : ℕ) (coordinates : List Float) → VerdictBounded (judgement kind coordinates)
unfolding judgement
judgement_bounded kind coordinates = by_tests_lem (is_geospatial kind) (eqb (length coordinates % 2) 0) (allows_points kind coordinates (points_in coordinates))
  where
    by_tests_lem : (known even allowed : Bool)
        → VerdictBounded (cond known (cond even (cond allowed (Ok tt) (Err (unplaced BREAKS_ANNOTATION))) (Err (unplaced WRONG_LENGTH))) (Err (unplaced UNKNOWN_TYPE)))
    by_tests_lem true true true = tt
    by_tests_lem true true false = unplaced_bounded BREAKS_ANNOTATION (omega arith) (omega arith)
    by_tests_lem true false allowed = unplaced_bounded WRONG_LENGTH (omega arith) (omega arith)
    by_tests_lem false even allowed = unplaced_bounded UNKNOWN_TYPE (omega arith) (omega arith)

pub box_bounded : (kind : ℕ) (coordinates : List Float) (r : Refusal) → judgement kind coordinates ≡ Err r → Bounded UNKNOWN_TYPE 0 r
box_bounded kind coordinates r e = subst VerdictBounded e (judgement_bounded kind coordinates)

-- and that of a test
abbrev OutcomeBounded : Outcome Bool → Type 0
OutcomeBounded (given inside) = Unit {0}
OutcomeBounded (refused r) = Bounded UNKNOWN_TYPE 0 r

membership_bounded : (kind : ℕ) (b : BoundingBox) (x y : Float) → OutcomeBounded (membership kind b x y)
unfolding membership
membership_bounded kind b x y = by_tests_lem (is_geospatial kind) (is_box kind b && allows_point kind x y)
  where
    by_tests_lem : (known allowed : Bool)
        → OutcomeBounded (cond known (cond allowed (given (inside_x b x && inside_y b y)) (refused (unplaced BREAKS_ANNOTATION))) (refused (unplaced UNKNOWN_TYPE)))
    by_tests_lem true true = tt
    by_tests_lem true false = unplaced_bounded BREAKS_ANNOTATION (omega arith) (omega arith)
    by_tests_lem false allowed = unplaced_bounded UNKNOWN_TYPE (omega arith) (omega arith)

pub test_bounded : (kind : ℕ) (b : BoundingBox) (x y : Float) (r : Refusal) → membership kind b x y ≡ refused r → Bounded UNKNOWN_TYPE 0 r
test_bounded kind b x y r e = subst OutcomeBounded e (membership_bounded kind b x y)
