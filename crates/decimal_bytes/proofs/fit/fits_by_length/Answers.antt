-- `decimal_bytes::fit::fits_by_length` meets its contract: the table decides what the length leaves no doubt of. Assumes nothing.
use mathlib.Core.Path.{sym}
use native.Mathlib.Omega.{arith}
use lib.ListN.{length}
use Rattle.decimal_bytes.proofs.PrecisionLaws.{is_length_bounds}
use Rattle.decimal_bytes.proofs.UnsignedLaws.{each_get_d}
use Rattle.decimal_bytes.proofs.FitLaws.{longer_within, shorter_beyond}
use Rattle.decimal_bytes.proofs.fit.fits_by_length.Goals as goal

pub overflow_cast-length : goal.overflow_cast-length
overflow_cast-length c = record { fits = omega (arith, (is_length_bounds (length c.args.number.now) c.requires.0).1) }

pub returns-then-precision-greatest_precision : goal.returns-then-precision-greatest_precision
returns-then-precision-greatest_precision c = sym (longer_within c.args.number.now c.args.precision c.requires.0 (each_get_d _ (λ k. (c.type_inv.number k).fits)) (omega arith))

pub returns-then-precision-greatest_precision-2 : goal.returns-then-precision-greatest_precision-2
returns-then-precision-greatest_precision-2 c = sym (shorter_beyond c.args.number.now c.args.precision c.requires.0 (each_get_d _ (λ k. (c.type_inv.number k).fits)) c.requires.1 c.if-length-gt1.true (omega arith))
