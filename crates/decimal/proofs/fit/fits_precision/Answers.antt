-- `decimal::fit::fits_precision` meets its contract: by a number of 128 bits where it is short. Assumes nothing.
use mathlib.Core.Path.{◌≡◌, sym, ap, ◌∙◌}
use Prim.Native.Nat.{◌^◌, ◌≤◌}
use lib.Dec.{ltb}
use lib.IntN.{ℤ, nat_abs}
use lib.ListN.{length}
use Rattle.std.specs.Prelude.{Ok}
use Rattle.decimal_bytes.specs.Fit.{fit_of}
use Rattle.decimal_bytes.proofs.FitLaws.{held, fit_of_test}
use Rattle.decimal.specs.Outcome.{fitted}
use Rattle.decimal.proofs.WordLaws.{is_short_bounds, short_length}
use Rattle.decimal.proofs.fit.fits_precision.Goals as goal
use Rattle.decimal.proofs.fit.fits_precision.Goals.{Then-is_short}

short : (c : Then-is_short) → let n = length c.args.number.now in (1 ≤ n) × (n ≤ 16)
short c = is_short_bounds _ (sym c.is_short.ensures ∙ c.if-is_short.true)

pub raised-requires : goal.raised-requires
raised-requires c = short c

pub returns-then-is_short : goal.returns-then-is_short
returns-then-is_short c =
    let bs = c.args.number.now in
    let p = c.args.precision in
    let n = short (goal.at.returns-then-is_short c).Then-is_short in
    let e : Ok c.keeps_to.result ≡ fit_of bs p
    = ap held c.keeps_to.ensures ∙ ap (λ (z : ℤ). held (ltb (nat_abs z) (10 ^ p))) c.raised.ensures
    ∙ sym (fit_of_test bs p (short_length (length bs) n.0 n.1)) in
    record { value = e; result_value = ap fitted e }

pub returns : goal.returns
returns c = record { value = c.fits_by_bytes.ensures; result_value = ap fitted c.fits_by_bytes.ensures }
