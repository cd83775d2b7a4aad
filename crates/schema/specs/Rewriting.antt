-- The rewritten sheet, and what rewriting answers.
use Rattle.std.specs.Prelude.{ℕ, suc, ◌+◌, Bool, cond, List, [], ◌∷◌, ◌++◌, leb, length}
use Rattle.refusal.specs.Outcome.{short_output}
use Rattle.laws.specs.Stretches.{stretched}
use Rattle.sheet.specs.Check.{renewed}
use Rattle.sheet.specs.Slot.{slots, with_annotation}
use Rattle.annotation.specs.Rewriting.{written_of}
use Rattle.annotation.specs.declared.rewriting.Written.{Written}
use Rattle.tree.specs.Annotated.{annotated}
use Rattle.tree.specs.Tree.{SlotBytes, Tree, Fields, node, empty, field}
use Rattle.tree.specs.Rules.{under_map_of, standing_below}
use Rattle.tree.specs.Reading.{tree_of}
use Rattle.tree.specs.Judgement.{judgement}
use Rattle.tree.specs.declared.standing.Standing.{Standing}
use Rattle.tree.specs.declared.standing.Standing.TheVariants.{Root}
use Rattle.refusal.specs.Outcome.{Counted, Verdict}
use Rattle.std.specs.Prelude.{Ok, Err}

-- what is rewritten of a node, its parent a resolved MAP or not: "every resolved logical annotation with its parameters and its forward image;
-- INTERVAL keeps converted alone; a key_value layer has none"
unfoldable pub rewriting : Bool → SlotBytes → Written
rewriting under s = written_of (annotated s) under

-- of each node of a tree, in listing order
unfoldable mutual
  pub rewritings : Standing → Tree → List Written
  rewritings p (node s fs) = rewriting (under_map_of p) s ∷ run_rewritings (standing_below p s) fs

  pub run_rewritings : Standing → Fields → List Written
  run_rewritings p empty = []
  run_rewritings p (field t fs) = rewritings p t ++ run_rewritings p fs

-- a sheet with that in the slot of node k
abbrev pub with_rewriting : List ℕ → ℕ → Written → List ℕ
with_rewriting sheet k w = with_annotation sheet k w.converted w.logical w.a w.b

-- and in the slots from node k on
unfoldable pub with_rewritings : List ℕ → ℕ → List Written → List ℕ
with_rewritings sheet k [] = sheet
with_rewritings sheet k (w ∷ ws) = with_rewritings (with_rewriting sheet k w) (suc k) ws

-- the rewritten sheet: "All else but the checks is copied"
unfoldable pub rewritten : List ℕ → List ℕ
rewritten bytes = renewed (with_rewritings bytes 0 (rewritings Root (tree_of (slots bytes))))

-- 14 does not hold: the start does not lie beyond the output's end, and the sheet's bytes fit from it on
abbrev pub fits : List ℕ → ℕ → ℕ → Bool
fits bytes lent start = leb (start + length bytes) lent

-- "14 last": the number of bytes written, where the output is enough
unfoldable pub rewrite_answer : Verdict → Bool → ℕ → Counted
rewrite_answer (Err r) enough n = Err r
rewrite_answer (Ok _) enough n = cond enough (Ok n) (Err short_output)

-- what rewriting answers for any bytes, any number of lent bytes and any start: refusals 21 and 1 to 13 as for resolving
unfoldable pub rewrite_outcome : ℕ → List ℕ → ℕ → ℕ → Counted
rewrite_outcome edition bytes lent start = rewrite_answer (judgement edition bytes) (fits bytes lent start) (length bytes)

-- what the lent bytes hold afterwards: "bytes before and after stay"
unfoldable pub rewrite_written : Counted → List ℕ → List ℕ → ℕ → List ℕ
rewrite_written (Err r) bytes lent start = lent
rewrite_written (Ok n) bytes lent start = stretched lent start (rewritten bytes)
