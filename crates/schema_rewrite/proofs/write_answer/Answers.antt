-- `schema_rewrite::write_answer` is safe and ends: the bytes that rewriting answers lie within those lent.
use mathlib.Core.Path.{sym, ◌∙◌}
use native.Mathlib.Omega.{arith}
use lib.Seq.{length-take-le}
use Rattle.schema.proofs.RewriteLaws.{bytes_fit}
use Rattle.schema_rewrite.proofs.write_answer.Goals as goal

pub slice_bounds-out-end : goal.slice_bounds-out-end
slice_bounds-out-end g c = omega (arith, bytes_fit _ _ _ 0 _ (sym c.rewrite-rewritten.ensures.value ∙ c.in-Ok.is))

pub slice_bounds-write_all-end : goal.slice_bounds-write_all-end
slice_bounds-write_all-end g c = sym (length-take-le _ _ (omega (arith, bytes_fit _ _ _ 0 _ (sym c.rewrite-rewritten.ensures.value ∙ c.in-Ok.is))))
