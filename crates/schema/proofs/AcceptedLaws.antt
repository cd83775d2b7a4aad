-- An accepted sheet is sound, its output is enough, and it has a tree.
use Prim.Native.Nat.{ℕ, ◌*◌, ◌≤◌}
use mathlib.Core.Path.{◌≡◌, refl, sym, subst}
use mathlib.Core.Bool.{Bool, true, false, cond}
use mathlib.Core.List.{List, ◌++◌}
use native.Mathlib.Omega.{arith}
use borrow.Author.Tests.{ltb-false}
use lib.Dec.{ltb}
use lib.ListN.{length, drop}
use Rattle.refusal.specs.Outcome.{short_output}
use Rattle.sheet.specs.Block.{total_of}
use Rattle.sheet.specs.Opening as sheet
use Rattle.refusal.specs.Outcome.{Verdict}
use Rattle.std.specs.Prelude.{Ok, Err}
use Rattle.sheet.proofs.OpeningLaws.{open_of_known, open_of_blocks, open_of_slots}
use Rattle.tree.specs.Tree.{Tree}
use Rattle.schema.specs.Rows.{row_width, rows}
use Rattle.tree.specs.Judgement.{judgement}
use Rattle.schema.specs.Outcome.{answer, outcome, written}
use Rattle.schema.specs.Demand.{IsTreeOf, Sound, EnoughOutput, Accepted}
use Rattle.schema.proofs.DemandLaws.{accepted_no_refusal, accepted_exactly, rows_are}
use Rattle.tree.proofs.JudgementLaws.{lawful_opened}

-- 14 is not given
answer_enough : (v : Verdict) (t lent : ℕ) → Accepted (answer v t lent) → row_width * t ≤ lent
unfolding Accepted answer
answer_enough (Err r) t lent a = absurd a
answer_enough (Ok _) t lent a = enough (ltb lent (row_width * t)) refl a
  where
    enough : (b : Bool) → ltb lent (row_width * t) ≡ b → Accepted (cond b (Err short_output) (Ok t)) → row_width * t ≤ lent
    enough true e q = absurd q
    enough false e q = ltb-false lent (row_width * t) e

-- the rows that are answered are T
answer_rows : (v : Verdict) (t lent n : ℕ) → answer v t lent ≡ Ok n → t ≡ n
unfolding answer
answer_rows (Err r) t lent n e = absurd (let z : ◌≡◌ {A = ℕ} 0 1 = cc in omega arith)
answer_rows (Ok _) t lent n e = by_test (ltb lent (row_width * t)) e
  where
    by_test : (b : Bool) → cond b (Err short_output) (Ok t) ≡ Ok n → t ≡ n
    by_test true q = absurd (let z : ◌≡◌ {A = ℕ} 0 1 = cc in omega arith)
    by_test false q = cc

module _ (edition : ℕ) (bytes : List ℕ) (lent : ℕ) (accepted : Accepted (outcome edition bytes lent)) where
  -- an accepted sheet opens
  opens : (t : ℕ) × (sheet.open_of edition bytes ≡ Ok t)
  unfolding outcome
  opens = lawful_opened edition bytes (accepted_no_refusal (judgement edition bytes) (total_of bytes) lent accepted)

  -- its blocks and slots are sound
  pub accepted_sound : Sound edition bytes
  accepted_sound = record { known = open_of_known edition bytes opens.0 opens.1; blocks = open_of_blocks edition bytes opens.0 opens.1; slots = open_of_slots edition bytes opens.0 opens.1 }

  -- and its output is enough
  pub accepted_enough : EnoughOutput bytes lent
  unfolding outcome EnoughOutput
  accepted_enough = answer_enough (judgement edition bytes) (total_of bytes) lent accepted

-- it has a tree, with whose rows the lent numbers then begin; what stood past them stays
pub accepted_rows : (edition : ℕ) (bytes lent : List ℕ) → Accepted (outcome edition bytes (length lent)) → (t : Tree) × IsTreeOf edition bytes t × (written (outcome edition bytes (length lent)) bytes lent ≡ rows t ++ drop (row_width * total_of bytes) lent)
accepted_rows edition bytes lent a =
    let sound = accepted_sound edition bytes (length lent) a in
    let enough = accepted_enough edition bytes (length lent) a in
    let tree = (accepted_exactly edition bytes (length lent) sound enough).0 a in
    (tree.0, tree.1, rows_are edition bytes lent tree.0 sound enough tree.1)

-- as many numbers are lent as the rows that are answered take
pub rows_fit : (edition : ℕ) (bytes : List ℕ) (lent n : ℕ) → outcome edition bytes lent ≡ Ok n → row_width * n ≤ lent
unfolding outcome Accepted EnoughOutput
rows_fit edition bytes lent n e =
    let enough = accepted_enough edition bytes lent (subst Accepted (sym e) tt) in
    omega (arith, answer_rows (judgement edition bytes) (total_of bytes) lent n e)
