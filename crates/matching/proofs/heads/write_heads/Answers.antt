-- `matching::heads::write_heads` meets its contract: each field passed has its head, or an earlier one of its rest has.
use mathlib.Core.Path.{sym, ap, ◌∙◌}
use Prim.Native.Nat.{◌%◌}
use native.Mathlib.Omega.{arith}
use Rattle.matching.specs.Steps.{head_count}
use Rattle.matching.proofs.CandidateLaws.{below, below_most, read_at, end_read, end_below}
use Rattle.matching.proofs.HeadLaws.{heads_to_start, heads_to_written, heads_to_end}
use Rattle.matching.proofs.heads.write_heads.Goals as goal

pub loop-place-init : goal.loop-place-init
loop-place-init c = heads_to_start _ _ _ _ _ c.requires.heads_below c.requires.stands

pub offset_bounds-side-number : goal.offset_bounds-side-number
offset_bounds-side-number c = record { fits = omega (arith, below_most _ _ _ _ c.loop-place.invariant.stands c.loop-place-test.true) }

pub bounds-side-number : goal.bounds-side-number
bounds-side-number c = read_at _ _ _ _ c.loop-place.invariant.stands c.loop-place-test.true c.args.side.now.prints.now c.args.side.now.surveyed.printed.long

pub write_head-requires : goal.write_head-requires
write_head-requires c = record { rest_lt_head_count = omega arith; number_lt_most_nodes = below_most _ _ _ _ c.loop-place.invariant.stands c.loop-place-test.true; place_lt_most_nodes = omega (arith, c.loop-place-test.true, c.requires.count_le_most_nodes); taker_le_most_nodes = c.requires.taker_le_most_nodes; heads_len = c.loop-place.invariant.long }

pub offset_bounds-side-number-in-loop-place : goal.offset_bounds-side-number-in-loop-place
offset_bounds-side-number-in-loop-place c = record { fits = omega (arith, below_most _ _ _ _ c.loop-place.invariant.stands c.loop-place-test.true) }

pub bounds-side-number-in-loop-place : goal.bounds-side-number-in-loop-place
bounds-side-number-in-loop-place c = end_read _ _ _ _ c.loop-place.invariant.stands c.loop-place-test.true _ c.args.side.now.surveyed.ended

pub overflow_cast-number : goal.overflow_cast-number
overflow_cast-number c = record { fits = omega (arith, end_below _ _ _ _ c.loop-place.invariant.stands c.loop-place-test.true _ c.args.side.now.surveyed.ended) }

pub loop-place-preserved : goal.loop-place-preserved
loop-place-preserved c =
    let here = below _ _ _ _ c.loop-place.invariant.stands c.loop-place-test.true in
    heads_to_written _ _ _ _ _ _ _ c.loop-place.invariant c.loop-place-test.true c.requires.count_le_most_nodes c.requires.taker_le_most_nodes _ c.args.side.now.surveyed.ended _
    (ap (◌% head_count) (c.args.side.now.surveyed.printed.print_at _ here)) _ c.write_head.ensures

pub shape_of-heads : goal.shape_of-heads
shape_of-heads c = c.loop-place.invariant.long ∙ sym c.requires.heads_below.1.long

pub returns : goal.returns
returns c = let inv = c.loop-place.invariant in record { heads = heads_to_end _ _ _ _ _ _ _ inv c.loop-place-test.false; heads_most = record { long = inv.long; taker_at = inv.most } }
