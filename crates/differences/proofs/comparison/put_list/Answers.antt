-- `differences::comparison::put_list` meets its contract: the first's entries, and the second's behind them, are the list.
use Rattle.differences.proofs.PutLaws.{puts_as, puts_append}
use Rattle.differences.proofs.ListLaws.{list_is}
use Rattle.differences.proofs.comparison.put_list.Goals as goal

pub put_first-entries-requires : goal.put_first-entries-requires
put_first-entries-requires c = c.requires.numbered

pub put_second-requires : goal.put_second-requires
put_second-requires c = record { reached = c.requires.numbered.other; marks_len = c.requires.marks.long; entries_bound = c.put_first-entries.ensures.upper_bound }

pub returns : goal.returns
returns c = puts_as (list_is _ _ _ _ _ _ c.requires.numbered c.requires.lists c.requires.marks) (puts_append c.put_first-entries.ensures.puts c.put_second.ensures)
