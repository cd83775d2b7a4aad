-- What a test of a point answers, by what it takes.
use Prim.Native.Nat.{ℕ}
use mathlib.Core.Path.{◌≡◌, refl, ap, ap₂, ◌∙◌}
use mathlib.Core.Bool.{Bool, true, false, cond, ◌&&◌}
use lib.Ieee.{Float}
use Rattle.refusal.specs.Numbers.{BREAKS_ANNOTATION, UNKNOWN_TYPE}
use Rattle.refusal.specs.Outcome.{Outcome, given, refused, unplaced}
use Rattle.parquet.specs.Logical.{is_geospatial}
use Rattle.boxes.specs.Coordinates.{is_above, X, Y, is_allowed}
use Rattle.boxes.specs.Membership.{inside_x, inside_y, has_nan, allows_bounds, is_box, allows_point, membership}
use Rattle.boxes.specs.declared.bounding_box.BoundingBox.{BoundingBox}

-- ---- which boxes are one

module _ (kind : ℕ) (b : BoundingBox) where
  pub box_nan : has_nan b ≡ true → is_box kind b ≡ false
  unfolding is_box
  box_nan e = rw e

  module _ (numbers : has_nan b ≡ false) where
    pub box_above : is_above b.ymin b.ymax ≡ true → is_box kind b ≡ false
    unfolding is_box
    box_above e = rw (numbers, e)

    -- a box without NaN, with ymin not above ymax, is one where both its corners are allowed
    pub box_corners : is_above b.ymin b.ymax ≡ false → is_box kind b ≡ (allows_point kind b.xmin b.ymin && allows_point kind b.xmax b.ymax)
    unfolding is_box allows_bounds allows_point
    box_corners e =
        rw (numbers, e)
        (regroup (is_allowed kind X b.xmin) (is_allowed kind X b.xmax) (is_allowed kind Y b.ymin) (is_allowed kind Y b.ymax))
      where
        regroup : (s t u v : Bool) → (s && t && u && v) ≡ ((s && u) && (t && v))
        regroup true true true v = refl
        regroup true true false v = refl
        regroup true false true v = refl
        regroup true false false v = refl
        regroup false t u v = refl

-- ---- what a test answers

module _ (kind : ℕ) (b : BoundingBox) (x y : Float) where
  abbrev by_allowed : Bool → Outcome Bool
  by_allowed t = cond t (given (inside_x b x && inside_y b y)) (refused (unplaced BREAKS_ANNOTATION))

  abbrev by_kind : Bool → Outcome Bool
  by_kind t = cond t (by_allowed (is_box kind b && allows_point kind x y)) (refused (unplaced UNKNOWN_TYPE))

  -- 20 comes first
  pub membership_20 : is_geospatial kind ≡ false → membership kind b x y ≡ refused (unplaced UNKNOWN_TYPE)
  unfolding membership
  membership_20 e = ap by_kind e

  module _ (geospatial : is_geospatial kind ≡ true) where
    -- a box that is none is 16
    pub membership_box : is_box kind b ≡ false → membership kind b x y ≡ refused (unplaced BREAKS_ANNOTATION)
    unfolding membership
    membership_box e = ap by_kind geospatial ∙ ap (λ (t : Bool). by_allowed (t && allows_point kind x y)) e

    -- and so is a point that the kind does not allow
    pub membership_point : is_box kind b ≡ true → allows_point kind x y ≡ false → membership kind b x y ≡ refused (unplaced BREAKS_ANNOTATION)
    unfolding membership
    membership_point e f = ap by_kind geospatial ∙ ap₂ (λ (t u : Bool). by_allowed (t && u)) e f

    -- and else both coordinates decide
    pub membership_given : is_box kind b ≡ true → allows_point kind x y ≡ true → membership kind b x y ≡ given (inside_x b x && inside_y b y)
    unfolding membership
    membership_given e f = ap by_kind geospatial ∙ ap₂ (λ (t u : Bool). by_allowed (t && u)) e f
