-- The cycle of calls of judging. Remaining nodes and depths fall: from a tree at k to its root's fields at k + 1 both by one, from those
-- fields to their run neither, and from a run to its trees, which stand where it starts or behind, nodes alone. With x of both, a tree's
-- measure is 3x, a run's 3x + 1, that of some fields 3x + 2.
use Rattle.std.proofs.Common.{◌+◌, ◌*◌, ◌-◌}
use Rattle.sheet.specs.Block.{total_of}
use Rattle.tree.proofs.JudgingSteps.{Judging, remaining}
use Rattle.tree.proofs.judging.+judging.Given as goal

abbrev pub decreases-judge_fields : goal.decreases-judge_fields
decreases-judge_fields l = 3 * remaining (total_of l.sheet.bytes.now) l.at l.allowed + 2

abbrev pub decreases-judge_run : goal.decreases-judge_run
decreases-judge_run l = 3 * remaining (total_of l.sheet.bytes.now) l.start l.allowed + 1

abbrev pub decreases-judge_tree : goal.decreases-judge_tree
decreases-judge_tree l = 3 * remaining (total_of l.sheet.bytes.now) l.at l.allowed

abbrev pub invariant-judge_run-loop-field : goal.invariant-judge_run-loop-field
invariant-judge_run-loop-field l =
    Judging l.edition l.sheet.bytes.now l.start l.count l.allowed l.standing (l.count - l._field) l.run
