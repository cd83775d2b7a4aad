-- `annotation::spelling::without_parameters` meets its contract: each arm knows the code, and the last that it is none of the table's.
-- Assumes nothing.
use mathlib.Core.Path.{◌≡◌, refl, ap}
use mathlib.Core.Bool.{Bool, true, false, cond}
use Rattle.logical_type.specs.Parameters.{UNUSED, edge_of, valid_parameters}
use Rattle.logical_type.specs.Spelling.{logical_table, named_of, stated_of}
use Rattle.annotation.specs.Packed.{packed_of}
use Rattle.logical_type.specs.declared.types.Annotation.{Annotation}
use Rattle.annotation.proofs.TableLaws.{lookup_default}
use borrow.Author.Rules.{rules}
use Rattle.annotation.proofs.spelling.without_parameters.Goals as goal

-- what cannot be read where the parameters are valid cannot be read elsewhere either
unreadable_either : (valid : Bool) (says : Annotation) → Annotation.Unreadable ≡ says → Annotation.Unreadable ≡ cond valid says Annotation.Unreadable
unreadable_either true says e = e
unreadable_either false says e = refl

pub returns-in_default : goal.returns-in_default
unfolding stated_of valid_parameters named_of edge_of packed_of
returns-in_default c = ap packed_of (unreadable_either (valid_parameters c.args.logical UNUSED UNUSED) _ (lookup_default c.args.logical (logical_table UNUSED UNUSED) Annotation.Unreadable (search rules)))
