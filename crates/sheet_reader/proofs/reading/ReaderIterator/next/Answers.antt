-- `sheet_reader::reading::Reader::next` meets its contract: a slot that is handed out leaves one fewer.
use Rattle.sheet_reader.proofs.ReaderLaws.{makes_progress}
use Rattle.sheet_reader.proofs.reading.ReaderIterator.next.Goals as goal

pub returns-clause-goes : goal.returns-clause-goes
returns-clause-goes c = makes_progress c.args.self.now c.next.new.reader c.next.result c.next.ensures.0 c.next.ensures.1
