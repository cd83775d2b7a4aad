-- `differences::comparison::list` meets its contract: the list is counted, and written where there is room.
use mathlib.Core.Path.{refl}
use native.Mathlib.Omega.{arith}
use Rattle.differences.proofs.NumberedLaws.{found_named}
use Rattle.differences.proofs.ComparedLaws.{numbered_are, lists_are, entries_fit, list_most, answers_none, answers_short, answers_all}
use Rattle.differences.proofs.comparison.list.Goals as goal

pub mark-requires : goal.mark-requires
mark-requires c = record { named = found_named _ _ _ _ _ (numbered_are _ _ _ _ _ c.requires); nodes_le_most_nodes = (numbered_are _ _ _ _ _ c.requires).one.most; marks_value = refl }

pub put_list-entries-requires : goal.put_list-entries-requires
put_list-entries-requires c = record { numbered = numbered_are _ _ _ _ _ c.requires; lists = lists_are _ _ _ _ _ c.requires; marks = c.mark.ensures }

pub returns-then-entries-eq0 : goal.returns-then-entries-eq0
returns-then-entries-eq0 c =
    let both = answers_none _ _ c.args.matching.now.totals.first c.args.matching.now.totals.second _ _ _ c.put_list-entries.ensures c.if-entries-eq0.true in
    record { value = both.0; out_after = both.1 }

pub overflow_mul-entries : goal.overflow_mul-entries
overflow_mul-entries c =
    let numbered = numbered_are _ _ _ _ _ c.requires in
    record { fits = omega (arith, c.put_list-entries.ensures.counts, list_most _ _ _ _ _ c.requires, numbered.one.most, numbered.other.most) }

pub returns-then-out-entries : goal.returns-then-out-entries
returns-then-out-entries c =
    let both = answers_short _ _ c.args.matching.now.totals.first c.args.matching.now.totals.second _ _ _ c.put_list-entries.ensures c.if-out-entries.true _ c.short_output.ensures in
    record { value = both.0; out_after = both.1 }

pub put_list-requires : goal.put_list-requires
put_list-requires c = record { numbered = numbered_are _ _ _ _ _ c.requires; lists = lists_are _ _ _ _ _ c.requires; marks = c.mark.ensures }

pub returns : goal.returns
returns c =
    let both = answers_all _ _ c.args.matching.now.totals.first c.args.matching.now.totals.second _ _ _ c.put_list-entries.ensures (entries_fit _ _ _ _ _ c.requires) c.if-out-entries.false _ _ c.put_list.ensures in
    record { value = both.0; out_after = both.1 }
