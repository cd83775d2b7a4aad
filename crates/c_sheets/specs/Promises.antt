-- What a C caller may rely on of calls on sheets, beyond each call's contract.
use Rattle.std.specs.Prelude.{ℕ, ◌*◌, ◌<◌, ◌≡◌, true, false, List, length, Err}
use Rattle.refusal.specs.Numbers.{SHORT_OUTPUT}
use Rattle.refusal.specs.Outcome.{unknown_edition}
use Rattle.refusal.specs.Faults.{NEITHER, fault}
use Rattle.edition.specs.Editions.{is_known}
use Rattle.sheet.specs.Block.{most_bytes, most_nodes}
use Rattle.schema.specs.Outcome.{outcome, written}
use Rattle.schema.specs.Rewriting.{rewrite_outcome, rewrite_written}
use Rattle.differences.specs.Outcome.{compare_outcome, compare_written}
use Rattle.c_answer.specs.Answers.{RESULT, number_in, counted_answer}
use Rattle.refusal.specs.Bounds.{CountedBounded}
use Rattle.c_answer.specs.Packing.{PacksCounted}
use Rattle.c_sheets.specs.Comparison.{compared_answer, PacksCompared, ComparedBounded}

pub record Promises (edition : ℕ) : Type 0 where
  -- in a known edition T is at most 896, and at most 65,536 bytes are written; a refusal has a number of 1 to 14, and a place of at most 896
  pub resolve_bounded : (sheet : List ℕ) (lent : ℕ) → is_known edition ≡ true → CountedBounded most_nodes SHORT_OUTPUT most_nodes (outcome edition sheet lent)
  pub rewrite_bounded : (sheet : List ℕ) (lent start : ℕ) → is_known edition ≡ true → CountedBounded most_bytes SHORT_OUTPUT most_nodes (rewrite_outcome edition sheet lent start)
  -- two sheets have at most 12,544 differences, 13 for each node of the first and one for each of the second
  pub compare_bounded : (first second : List ℕ) (lent : ℕ) → is_known edition ≡ true → ComparedBounded (14 * most_nodes) SHORT_OUTPUT most_nodes (compare_outcome edition first second lent)
  -- in any other there is no answer but 21 at 0
  pub resolve_unknown : (sheet : List ℕ) (lent : ℕ) → is_known edition ≡ false → outcome edition sheet lent ≡ Err unknown_edition
  pub rewrite_unknown : (sheet : List ℕ) (lent start : ℕ) → is_known edition ≡ false → rewrite_outcome edition sheet lent start ≡ Err unknown_edition
  pub compare_unknown : (first second : List ℕ) (lent : ℕ) → is_known edition ≡ false → compare_outcome edition first second lent ≡ Err (fault NEITHER unknown_edition)
  -- every answer can be taken apart again
  pub resolve_packs : (sheet : List ℕ) (lent : ℕ) → PacksCounted (outcome edition sheet lent)
  pub rewrite_packs : (sheet : List ℕ) (lent start : ℕ) → PacksCounted (rewrite_outcome edition sheet lent start)
  pub compare_packs : (first second : List ℕ) (lent : ℕ) → PacksCompared (compare_outcome edition first second lent)
  -- where an answer has a number, the output is as it was
  pub resolve_unchanged : (sheet lent : List ℕ) → RESULT < number_in (counted_answer (outcome edition sheet (length lent))) → written (outcome edition sheet (length lent)) sheet lent ≡ lent
  pub rewrite_unchanged : (sheet lent : List ℕ) (start : ℕ) → RESULT < number_in (counted_answer (rewrite_outcome edition sheet (length lent) start)) → rewrite_written (rewrite_outcome edition sheet (length lent) start) sheet lent start ≡ lent
  pub compare_unchanged : (first second lent : List ℕ) → RESULT < number_in (compared_answer (compare_outcome edition first second (length lent))) → compare_written (compare_outcome edition first second (length lent)) first second lent ≡ lent
