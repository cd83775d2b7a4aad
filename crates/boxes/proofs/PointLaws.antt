-- What the box of points answers, by what it takes.
use Prim.Native.Nat.{ℕ, ◌%◌}
use mathlib.Core.Path.{◌≡◌, refl, sym, ap, ◌∙◌}
use mathlib.Core.Bool.{Bool, true, false, cond}
use mathlib.Core.List.{List}
use mathlib.Core.Logic.{inl, inr}
use native.Mathlib.Omega.{arith}
use borrow.Author.Tests.{eq-eqb, ne_eqb}
use lib.Dec.{eqb}
use lib.ListN.{length}
use lib.Ieee.{Float, lt}
use Rattle.refusal.specs.Numbers.{WRONG_LENGTH, BREAKS_ANNOTATION, UNKNOWN_TYPE}
use Rattle.refusal.specs.Outcome.{unplaced}
use Rattle.refusal.specs.Outcome.{Verdict}
use Rattle.std.specs.Prelude.{Ok, Err}
use Rattle.parquet.specs.Logical.{is_geospatial}
use Rattle.float_order.proofs.OrderLaws.{not_both}
use Rattle.boxes.specs.Coordinates.{is_above}
use Rattle.boxes.specs.Points.{points_in, NoneCounted, Bounds, allows_points, judgement}
use Rattle.boxes.specs.Steps.{Unmet, Found}
use Rattle.boxes.proofs.CoordinateLaws.{is_above_lt, at_most_trans, at_most_below}

-- ---- refusals

module _ (kind : ℕ) (coordinates : List Float) where
  abbrev by_range : Bool → Verdict
  by_range t = cond t (Ok tt) (Err (unplaced BREAKS_ANNOTATION))

  abbrev by_length : Bool → Verdict
  by_length t = cond t (by_range (allows_points kind coordinates (points_in coordinates))) (Err (unplaced WRONG_LENGTH))

  abbrev by_kind : Bool → Verdict
  by_kind t = cond t (by_length (eqb (length coordinates % 2) 0)) (Err (unplaced UNKNOWN_TYPE))

  -- 20 comes first
  pub judgement_20 : is_geospatial kind ≡ false → judgement kind coordinates ≡ Err (unplaced UNKNOWN_TYPE)
  unfolding judgement
  judgement_20 e = ap by_kind e

  module _ (geospatial : is_geospatial kind ≡ true) where
    -- 15 comes before 16
    pub judgement_15 : (length coordinates % 2 ≡ 0 → ⊥) → judgement kind coordinates ≡ Err (unplaced WRONG_LENGTH)
    unfolding judgement
    judgement_15 h = ap by_kind geospatial ∙ ap by_length (ne_eqb (length coordinates % 2) 0 h)

    -- and then the range decides
    pub judgement_range : length coordinates % 2 ≡ 0 → judgement kind coordinates ≡ by_range (allows_points kind coordinates (points_in coordinates))
    unfolding judgement
    judgement_range e = ap by_kind geospatial ∙ ap by_length (eq-eqb (length coordinates % 2) 0 e)

    pub judgement_16 : length coordinates % 2 ≡ 0 → allows_points kind coordinates (points_in coordinates) ≡ false → judgement kind coordinates ≡ Err (unplaced BREAKS_ANNOTATION)
    judgement_16 e f = judgement_range e ∙ ap by_range f

    pub judgement_lawful : length coordinates % 2 ≡ 0 → allows_points kind coordinates (points_in coordinates) ≡ true → judgement kind coordinates ≡ Ok tt
    judgement_lawful e f = judgement_range e ∙ ap by_range f

  -- what is lawful has a kind with boxes, which allows its points
  pub lawful : judgement kind coordinates ≡ Ok tt → (is_geospatial kind ≡ true) × (allows_points kind coordinates (points_in coordinates) ≡ true)
  unfolding judgement
  lawful = go (is_geospatial kind) (eqb (length coordinates % 2) 0) (allows_points kind coordinates (points_in coordinates))
    where
      go : (k l r : Bool) → cond k (cond l (by_range r) (Err (unplaced WRONG_LENGTH))) (Err (unplaced UNKNOWN_TYPE)) ≡ Ok tt → (k ≡ true) × (r ≡ true)
      go true true true e = (refl, refl)
      go true true false e = let z : ◌≡◌ {A = ℕ} 0 1 = cc in absurd (omega arith)
      go true false r e = let z : ◌≡◌ {A = ℕ} 0 1 = cc in absurd (omega arith)
      go false l r e = let z : ◌≡◌ {A = ℕ} 0 1 = cc in absurd (omega arith)

-- ---- an axis where something counts, or nothing

module _ (axis : ℕ) (coordinates : List Float) (low high : Float) where
  -- the least is not above the greatest where something does
  pub bounds_below : Bounds axis coordinates low high → is_above low high ≡ false
  bounds_below b = let m = b.least_met in at_most_below low high (at_most_trans low m.0 high (b.from_least m.0 m.1) (b.to_greatest m.0 m.1))

  -- and is where nothing does
  unmet_above : Unmet axis coordinates low high → is_above low high ≡ true
  unfolding lt
  unmet_above u = is_above_lt low high ∙ rw (u.least_is, u.greatest_is)

  -- so this tells which
  pub found_none : Found axis coordinates low high → is_above low high ≡ true → NoneCounted axis coordinates
  found_none (inl u) e = u.none
  found_none (inr b) e = not_both (sym (bounds_below b) ∙ e)

  pub found_bounds : Found axis coordinates low high → is_above low high ≡ false → Bounds axis coordinates low high
  found_bounds (inl u) e = not_both (sym e ∙ unmet_above u)
  found_bounds (inr b) e = b
