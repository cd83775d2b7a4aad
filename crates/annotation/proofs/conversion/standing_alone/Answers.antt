-- `annotation::conversion::standing_alone` meets its contract: each arm knows the code, and the last that it is none of the table's.
-- Assumes nothing.
use mathlib.Core.Path.{ap}
use mathlib.Core.Bool.{false}
use Rattle.logical_type.specs.Backward.{backward_table, backward_of}
use Rattle.annotation.specs.Packed.{packed_of}
use Rattle.logical_type.specs.declared.types.Annotation.{Annotation}
use Rattle.annotation.proofs.TableLaws.{lookup_default}
use borrow.Author.Rules.{rules}
use Rattle.annotation.proofs.conversion.standing_alone.Goals as goal

pub returns-in_default : goal.returns-in_default
unfolding backward_of packed_of
returns-in_default c = ap packed_of (lookup_default c.args.converted (backward_table false) Annotation.Unreadable (search rules))
