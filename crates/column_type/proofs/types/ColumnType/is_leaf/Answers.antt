-- `column_type::types::ColumnType::is_leaf` meets its contract.
use Rattle.column_type.proofs.FitsLaws.{is_leaf_upto}
use Rattle.column_type.proofs.types.ColumnType.is_leaf.Goals as goal

pub returns : goal.returns
returns c = is_leaf_upto c.args.self.physical
