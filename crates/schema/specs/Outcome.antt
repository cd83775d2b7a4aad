-- What resolving a sheet answers in an edition: refusals 21 and 1 to 14 in their order, with their places, or T rows.
use Rattle.std.specs.Prelude.{ℕ, ◌*◌, cond, List, ◌++◌, ltb, drop}
use Rattle.refusal.specs.Outcome.{short_output}
use Rattle.sheet.specs.Block.{total_of}
use Rattle.sheet.specs.Slot.{slots}
use Rattle.tree.specs.Judgement.{judgement}
use Rattle.schema.specs.Rows.{rows, row_width}
use Rattle.tree.specs.Reading.{tree_of}
use Rattle.refusal.specs.Outcome.{Counted, Verdict}
use Rattle.std.specs.Prelude.{Ok, Err}

-- "14 last": T rows where as many numbers are lent as they need
unfoldable pub answer : Verdict → ℕ → ℕ → Counted
answer (Err r) t lent = Err r
answer (Ok _) t lent = cond (ltb lent (row_width * t)) (Err short_output) (Ok t)

-- what resolving answers for any bytes and any number of lent places
unfoldable pub outcome : ℕ → List ℕ → ℕ → Counted
outcome edition bytes lent = answer (judgement edition bytes) (total_of bytes) lent

-- what the lent numbers hold afterwards: the rows and what stood past them, or what they held where the sheet is refused
unfoldable pub written : Counted → List ℕ → List ℕ → List ℕ
written (Err r) bytes lent = lent
written (Ok t) bytes lent = rows (tree_of (slots bytes)) ++ drop (row_width * t) lent
