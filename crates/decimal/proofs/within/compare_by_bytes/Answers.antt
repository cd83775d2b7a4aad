-- `decimal::within::compare_by_bytes` meets its contract: the first number's refusal, the second's, or the order. Assumes nothing.
use mathlib.Core.Path.{sym}
use Rattle.std.proofs.lemmas.Result.{err_from_is_err_and}
use Rattle.decimal.specs.Within.{order_within}
use Rattle.decimal.proofs.within.compare_by_bytes.Goals as goal

pub returns-in_err-fits_by_bytes : goal.returns-in_err-fits_by_bytes
unfolding order_within
returns-in_err-fits_by_bytes c =
    let p = err_from_is_err_and c.from_residual.result c.from_residual.ensures.1 in
    rw (p.1, p.2, sym c.in_err-fits_by_bytes.ensures)

pub returns-then-not-branch : goal.returns-then-not-branch
unfolding order_within
returns-then-not-branch c = rw (sym c.in_ok-fits_by_bytes.ensures, c.if-not-branch.true)

pub returns-in_err-fits_by_bytes-2 : goal.returns-in_err-fits_by_bytes-2
unfolding order_within
returns-in_err-fits_by_bytes-2 c =
    let p = err_from_is_err_and c.from_residual-in_err-fits_by_bytes-2.result c.from_residual-in_err-fits_by_bytes-2.ensures.1 in
    rw (p.1, p.2, sym c.in_ok-fits_by_bytes.ensures, c.if-not-branch.false, sym c.in_err-fits_by_bytes-2.ensures)

pub returns-then-not-branch-2 : goal.returns-then-not-branch-2
unfolding order_within
returns-then-not-branch-2 c =
    rw (sym c.in_ok-fits_by_bytes.ensures, c.if-not-branch.false, sym c.in_ok-fits_by_bytes-2.ensures, c.if-not-branch-2.true)

pub returns-in_err-compare : goal.returns-in_err-compare
unfolding order_within
returns-in_err-compare c =
    let p = err_from_is_err_and c.from_residual-in_err-compare.result c.from_residual-in_err-compare.ensures.1 in
    rw (p.1, p.2, sym c.in_ok-fits_by_bytes.ensures, c.if-not-branch.false, sym c.in_ok-fits_by_bytes-2.ensures, c.if-not-branch-2.false, sym c.in_err-compare.ensures.value)

pub returns : goal.returns
unfolding order_within
returns c =
    rw (sym c.in_ok-fits_by_bytes.ensures, c.if-not-branch.false, sym c.in_ok-fits_by_bytes-2.ensures, c.if-not-branch-2.false, sym c.in_ok-compare.ensures.value)
