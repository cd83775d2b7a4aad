-- The promises of calls on sheets hold.
use Prim.Native.Nat.{ℕ, ◌*◌, ◌<◌}
use mathlib.Core.Path.{◌≡◌, refl, ◌∙◌}
use mathlib.Core.Bool.{false}
use mathlib.Core.List.{List}
use native.Mathlib.Omega.{arith}
use lib.ListN.{length}
use Rattle.std.specs.Prelude.{Result, Ok, Err}
use Rattle.schema.specs.Outcome.{outcome, written}
use Rattle.edition.specs.Editions.{is_known}
use Rattle.refusal.specs.Outcome.{unknown_edition}
use Rattle.refusal.specs.Faults.{NEITHER, fault}
use Rattle.refusal.specs.Numbers.{GREATEST}
use Rattle.sheet.specs.Block.{most_nodes}
use Rattle.sheet.proofs.OpeningLaws.{open_of_unknown}
use Rattle.tree.proofs.JudgementLaws.{judgement_refused}
use Rattle.schema.proofs.DemandLaws.{refused_resolving}
use Rattle.schema.specs.Rewriting.{rewrite_answer, rewrite_outcome, rewrite_written}
use Rattle.differences.specs.Outcome.{compare_outcome, compare_written}
use Rattle.refusal.specs.declared.answers.Fault.{Fault}
use Rattle.differences.proofs.OutcomeLaws.{compared_is}
use Rattle.differences.proofs.OutputLaws.{refused_unchanged}
use Rattle.c_answer.specs.Answers.{RESULT, number_in, counted_answer}
use Rattle.c_answer.specs.Packing.{PacksCounted}
use Rattle.c_answer.proofs.PackingLaws.{result_packs, fault_packs, counted_packs, counted_refused}
use Rattle.c_sheets.specs.Comparison.{compared_answer, PacksCompared, ComparedBounded}
use Rattle.c_sheets.specs.Promises.{Promises}
use Rattle.c_sheets.proofs.BoundLaws.{resolved_known, rewritten_known, compared_known, resolved_bounded, rewritten_bounded, compared_bounded}

resolve_packs : (edition : ℕ) (sheet : List ℕ) (lent : ℕ) → PacksCounted (outcome edition sheet lent)
resolve_packs edition sheet lent = counted_packs _ _ _ (omega arith) (omega arith) (omega arith) (outcome edition sheet lent) (resolved_bounded edition sheet lent)

rewrite_packs : (edition : ℕ) (sheet : List ℕ) (lent start : ℕ) → PacksCounted (rewrite_outcome edition sheet lent start)
rewrite_packs edition sheet lent start = counted_packs _ _ _ (omega arith) (omega arith) (omega arith) (rewrite_outcome edition sheet lent start) (rewritten_bounded edition sheet lent start)

-- an unknown edition is refused whatever is lent
pub resolve_unknown : (edition : ℕ) (sheet : List ℕ) (lent : ℕ) → is_known edition ≡ false → outcome edition sheet lent ≡ Err unknown_edition
resolve_unknown edition sheet lent u = refused_resolving edition sheet lent unknown_edition (judgement_refused edition sheet _ (open_of_unknown edition sheet u))

pub rewrite_unknown : (edition : ℕ) (sheet : List ℕ) (lent start : ℕ) → is_known edition ≡ false → rewrite_outcome edition sheet lent start ≡ Err unknown_edition
unfolding rewrite_outcome rewrite_answer
rewrite_unknown edition sheet lent start u = rw (judgement_refused edition sheet _ (open_of_unknown edition sheet u))

resolve_unchanged : (edition : ℕ) (sheet lent : List ℕ) → RESULT < number_in (counted_answer (outcome edition sheet (length lent))) → written (outcome edition sheet (length lent)) sheet lent ≡ lent
unfolding written
resolve_unchanged edition sheet lent h = rw (counted_refused (outcome edition sheet (length lent)) (resolve_packs edition sheet (length lent)) h).1

rewrite_unchanged : (edition : ℕ) (sheet lent : List ℕ) (start : ℕ) → RESULT < number_in (counted_answer (rewrite_outcome edition sheet (length lent) start)) → rewrite_written (rewrite_outcome edition sheet (length lent) start) sheet lent start ≡ lent
unfolding rewrite_written
rewrite_unchanged edition sheet lent start h = rw (counted_refused (rewrite_outcome edition sheet (length lent) start) (rewrite_packs edition sheet (length lent) start) h).1

-- ---- two sheets

compare_packs : (edition : ℕ) (first second : List ℕ) (lent : ℕ) → PacksCompared (compare_outcome edition first second lent)
compare_packs edition first second lent = on (compare_outcome edition first second lent) (compared_bounded edition first second lent)
  where
    on : (c : Result ℕ Fault) → ComparedBounded (14 * most_nodes) GREATEST most_nodes c → PacksCompared c
    on (Ok n) b = result_packs n (omega (arith, b))
    on (Err f) b = fault_packs GREATEST most_nodes (omega arith) (omega arith) f.refusal b.refusal f.side (omega (arith, b.side))

compare_unknown : (edition : ℕ) (first second : List ℕ) (lent : ℕ) → is_known edition ≡ false → compare_outcome edition first second lent ≡ Err (fault NEITHER unknown_edition)
compare_unknown edition first second lent u = compared_is edition first second lent ∙ rw u

compare_unchanged : (edition : ℕ) (first second lent : List ℕ) → RESULT < number_in (compared_answer (compare_outcome edition first second (length lent))) → compare_written (compare_outcome edition first second (length lent)) first second lent ≡ lent
compare_unchanged edition first second lent h = on (compare_outcome edition first second (length lent)) refl (compare_packs edition first second (length lent)) h
  where
    on : (c : Result ℕ Fault) → compare_outcome edition first second (length lent) ≡ c → PacksCompared c → RESULT < number_in (compared_answer c)
        → compare_written (compare_outcome edition first second (length lent)) first second lent ≡ lent
    on (Ok n) e p h = absurd (omega (arith, h, p.number_in_lem))
    on (Err f) e p h = refused_unchanged edition first second lent f e

pub promised : (edition : ℕ) → Promises edition
promised edition =
    record {
      resolve_bounded = resolved_known edition;
      rewrite_bounded = rewritten_known edition;
      compare_bounded = compared_known edition;
      resolve_unknown = resolve_unknown edition;
      rewrite_unknown = rewrite_unknown edition;
      compare_unknown = compare_unknown edition;
      resolve_packs = resolve_packs edition;
      rewrite_packs = rewrite_packs edition;
      compare_packs = compare_packs edition;
      resolve_unchanged = resolve_unchanged edition;
      rewrite_unchanged = rewrite_unchanged edition;
      compare_unchanged = compare_unchanged edition;
    }
