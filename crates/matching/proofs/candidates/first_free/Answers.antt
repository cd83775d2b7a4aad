-- `matching::candidates::first_free` meets its contract: what is passed over is taken or has another name.
use mathlib.Core.Path.{sym, ap, ◌∙◌}
use native.Mathlib.Omega.{arith}
use Rattle.matching.specs.Steps.{found_of}
use Rattle.matching.proofs.CandidateLaws.{below, below_most, end_read, end_below, passed_start, passed_here, passed_next, passed_end, first_free_none, first_free_here, first_free_later, free_at}
use Rattle.matching.proofs.candidates.first_free.Goals as goal

pub loop-place-init : goal.loop-place-init
loop-place-init c = passed_start _ _ _ _ c.requires.stands

pub is_free-requires : goal.is_free-requires
is_free-requires c = let inv = c.loop-place.invariant in record { number_bound = below _ _ _ _ inv.stands c.loop-place-test.true; takers_len = c.requires.takers_len }

pub returns-then-is_free : goal.returns-then-is_free
returns-then-is_free c =
    let here = below _ _ _ _ c.loop-place.invariant.stands c.loop-place-test.true in
    let free = free_at c.args.takers.now c.args.taker c.args.sought.now.name.now _ c.loop-place.number c.loop-place.place c.requires.stands.claimed here _ c.is_free.ensures in
    let found = passed_here _ _ _ _ _ _ c.loop-place.invariant c.loop-place-test.true _ c.args.side.now.surveyed.ended ∙ first_free_here _ _ _ _ _ _ free c.if-is_free.true in record { value = sym (ap found_of found); found_within = (here, c.loop-place-test.true) }

pub offset_bounds-side-number : goal.offset_bounds-side-number
offset_bounds-side-number c = record { fits = omega (arith, below_most _ _ _ _ c.loop-place.invariant.stands c.loop-place-test.true) }

pub bounds-side-number : goal.bounds-side-number
bounds-side-number c = end_read _ _ _ _ c.loop-place.invariant.stands c.loop-place-test.true _ c.args.side.now.surveyed.ended

pub overflow_cast-number : goal.overflow_cast-number
overflow_cast-number c = record { fits = omega (arith, end_below _ _ _ _ c.loop-place.invariant.stands c.loop-place-test.true _ c.args.side.now.surveyed.ended) }

pub loop-place-preserved : goal.loop-place-preserved
loop-place-preserved c =
    let here = below _ _ _ _ c.loop-place.invariant.stands c.loop-place-test.true in
    let free = free_at c.args.takers.now c.args.taker c.args.sought.now.name.now _ c.loop-place.number c.loop-place.place c.requires.stands.claimed here _ c.is_free.ensures in
    passed_next _ _ _ _ _ _ c.loop-place.invariant c.loop-place-test.true _ c.args.side.now.surveyed.ended (λ cs. first_free_later _ _ _ cs _ _ free c.if-is_free.false)

pub returns : goal.returns
returns c = record { value = sym (ap found_of (passed_end _ _ _ _ _ _ c.loop-place.invariant c.loop-place-test.false ∙ first_free_none _ _ _)); found_within = tt }
