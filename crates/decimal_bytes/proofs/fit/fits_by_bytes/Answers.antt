-- `decimal_bytes::fit::fits_by_bytes` meets its contract: a wrong length first, then the bytes that are needed. Assumes nothing.
use mathlib.Core.Path.{◌≡◌, sym, ap, ◌∙◌}
use mathlib.Core.Bool.{true}
use mathlib.Core.List.{List}
use Prim.Native.Nat.{ℕ}
use lib.ListN.{length}
use Rattle.decimal_bytes.specs.Precision.{is_length}
use Rattle.decimal_bytes.specs.Significant.{significant}
use Rattle.decimal_bytes.specs.Fit.{fit_of}
use Rattle.decimal_bytes.proofs.FitLaws.{fit_of_significant, fit_of_wrong, is_length_significant}
use Rattle.decimal_bytes.proofs.NumberLaws.{significant_idem}
use Rattle.decimal_bytes.proofs.fit.fits_by_bytes.Goals as goal
use Rattle.decimal_bytes.proofs.fit.fits_by_bytes.Goals.{Else-not-is_length}

is_length_lem : (c : Else-not-is_length) → is_length (length c.args.number.now) ≡ true
is_length_lem c = sym c.is_length.ensures ∙ c.if-not-is_length.false

pub returns-then-not-is_length : goal.returns-then-not-is_length
returns-then-not-is_length c = sym (fit_of_wrong _ _ (sym c.is_length.ensures ∙ c.if-not-is_length.true))

pub fits_by_length-requires : goal.fits_by_length-requires
fits_by_length-requires c = (
  ap (λ (bs : List ℕ). is_length (length bs)) c.significant.ensures ∙ is_length_significant _ (is_length_lem (goal.at.fits_by_length-requires c).Else-not-is_length),
  ap significant c.significant.ensures ∙ significant_idem _ ∙ sym c.significant.ensures,
)

pub returns : goal.returns
returns c =
    let e = is_length_lem (goal.at.returns c).Else-not-is_length in
    c.fits_by_length.ensures ∙ ap (λ (bs : List ℕ). fit_of bs c.args.precision) c.significant.ensures
    ∙ fit_of_significant c.args.number.now c.args.precision e (is_length_significant _ e)
