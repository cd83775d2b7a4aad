-- The cycle of calls that writes rows. Remaining nodes and levels fall as they do in judging: from a tree at k to its root's fields at k + 1
-- both by one, from those fields to their run neither, and from a run to its trees nodes alone. With x of both, a tree's measure is 3x, a
-- run's 3x + 1, that of some fields 3x + 2.
use Rattle.std.proofs.Common.{◌+◌, ◌*◌, ◌-◌}
use Rattle.sheet.specs.Block.{total_of}
use Rattle.sheet.specs.Slot.{slot_at}
use Rattle.tree.proofs.JudgingSteps.{remaining}
use Rattle.schema.proofs.RowsSteps.{Behind}
use Rattle.schema.proofs.rows.+writing.Given as goal

abbrev pub decreases-write_fields : goal.decreases-write_fields
decreases-write_fields l = 3 * remaining (total_of l.sheet.now) l.at l.allowed + 2

abbrev pub decreases-write_run : goal.decreases-write_run
decreases-write_run l = 3 * remaining (total_of l.sheet.now) l.start l.allowed + 1

abbrev pub decreases-write_tree : goal.decreases-write_tree
decreases-write_tree l = 3 * remaining (total_of l.sheet.now) l.at l.allowed

abbrev pub invariant-write_run-loop-field : goal.invariant-write_run-loop-field
invariant-write_run-loop-field l =
    Behind l.sheet l.initial.rows l.start l.count l.allowed l.parent_at l.initial.above (slot_at l.sheet l.parent_at) l.definition_level l.repetition_level l.rows l.at (l.count - l._field) l.above
