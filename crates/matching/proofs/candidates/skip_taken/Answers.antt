-- `matching::candidates::skip_taken` meets its contract: what is passed over is taken.
use native.Mathlib.Omega.{arith}
use Rattle.matching.proofs.CandidateLaws.{below_most, read_at, end_read, end_below, passed_start, passed_next, untaken_taken, untaken_stop, untaken_all}
use Rattle.matching.proofs.candidates.skip_taken.Goals as goal

pub loop-place-init : goal.loop-place-init
loop-place-init c = passed_start _ _ _ _ c.requires.stands

pub offset_bounds-takers-number : goal.offset_bounds-takers-number
offset_bounds-takers-number c = record { fits = omega (arith, below_most _ _ _ _ c.loop-place.invariant.stands c.loop-place-test.true) }

pub bounds-takers-number : goal.bounds-takers-number
bounds-takers-number c = read_at _ _ _ _ c.loop-place.invariant.stands c.loop-place-test.true c.args.takers.now c.requires.takers_len

pub returns-then-takers-number : goal.returns-then-takers-number
returns-then-takers-number c = record { stands_2 = c.loop-place.invariant.stands; count_value = untaken_stop _ _ _ _ _ _ _ c.loop-place.invariant c.loop-place-test.true _ c.args.side.now.surveyed.ended c.if-takers-number.true }

pub offset_bounds-side-number : goal.offset_bounds-side-number
offset_bounds-side-number c = record { fits = omega (arith, below_most _ _ _ _ c.loop-place.invariant.stands c.loop-place-test.true) }

pub bounds-side-number : goal.bounds-side-number
bounds-side-number c = end_read _ _ _ _ c.loop-place.invariant.stands c.loop-place-test.true _ c.args.side.now.surveyed.ended

pub overflow_cast-number : goal.overflow_cast-number
overflow_cast-number c = record { fits = omega (arith, end_below _ _ _ _ c.loop-place.invariant.stands c.loop-place-test.true _ c.args.side.now.surveyed.ended) }

pub loop-place-preserved : goal.loop-place-preserved
loop-place-preserved c = passed_next _ _ _ _ _ _ c.loop-place.invariant c.loop-place-test.true _ c.args.side.now.surveyed.ended (λ cs. untaken_taken _ _ _ cs c.if-takers-number.false)

pub returns : goal.returns
returns c =
    let all = untaken_all _ _ _ _ _ _ _ c.loop-place.invariant c.loop-place-test.false in
    record { stands_2 = all.0; count_value = all.1 }
