-- What rewriting answers, and what the lent bytes hold afterwards, by what judging answers.
use Prim.Native.Nat.{ℕ, ◌+◌, ◌-◌, ◌≤◌, ◌<◌}
use mathlib.Core.Path.{◌≡◌, refl, sym, ap, ◌∙◌}
use mathlib.Core.Bool.{Bool, true, false}
use mathlib.Core.List.{List, ◌++◌, append_assoc}
use native.Mathlib.Nat.{le-add_right}
use native.Mathlib.Omega.{arith}
use borrow.Author.Tests.{le-leb, lt-leb, leb-true}
use lib.Dec.{leb}
use borrow.Rule.Slice.PartMut.{put_mid, Post-is}
use lib.ListN.{length, take, drop}
use Rattle.refusal.specs.Outcome.{short_output}
use Rattle.tree.specs.Judgement.{judgement, judgement_of}
use Rattle.laws.specs.Stretches.{stretched}
use Rattle.schema.specs.Rewriting.{rewritten, fits, rewrite_answer, rewrite_outcome, rewrite_written}
use Rattle.refusal.specs.declared.answers.Refusal.{Refusal}
use Rattle.refusal.specs.Outcome.{Verdict}
use Rattle.std.specs.Prelude.{Ok, Err}
use Rattle.schema.proofs.RewrittenLaws.{length_rewritten}
use Rattle.tree.proofs.JudgementLaws.{judged_refused, judged_lawful}

module _ (edition : ℕ) (b lent : List ℕ) (start : ℕ) where
  -- a refused sheet
  pub rewrite_refused : (r : Refusal) → judgement_of edition b ≡ Err r → rewrite_outcome edition b (length lent) start ≡ Err r
  unfolding rewrite_outcome rewrite_answer
  rewrite_refused r e = rw (judged_refused edition b r e)

  -- a refusal changes nothing
  pub rewrite_kept : (r : Refusal) → rewrite_outcome edition b (length lent) start ≡ Err r → rewrite_written (rewrite_outcome edition b (length lent) start) b lent start ≡ lent
  unfolding rewrite_written
  rewrite_kept r e = rw e

  module _ (n : ℕ) (e : judgement_of edition b ≡ Ok n) where
    -- an output that is not enough
    pub rewrite_short : length lent < start + length b → rewrite_outcome edition b (length lent) start ≡ Err short_output
    unfolding rewrite_outcome rewrite_answer
    rewrite_short h = rw ((judged_lawful edition b n e).0, lt-leb (start + length b) (length lent) h)

    -- and one that is
    pub rewrite_bytes : start + length b ≤ length lent → rewrite_outcome edition b (length lent) start ≡ Ok (length b)
    unfolding rewrite_outcome rewrite_answer
    rewrite_bytes h = rw ((judged_lawful edition b n e).0, le-leb (start + length b) (length lent) h)

    -- the part from the start on holds the rewritten sheet
    pub rewrite_written_lem : start + length b ≤ length lent → (m : List ℕ) → m ≡ rewritten b → put_mid start (start + length b - start) lent m ≡ rewrite_written (rewrite_outcome edition b (length lent) start) b lent start
    unfolding rewrite_written stretched
    rewrite_written_lem h m e =
        ap (λ (after : List ℕ). take start lent ++ (m ++ after)) (Post-is start (start + length b) lent (le-add_right start (length b)))
        ∙ sym (append_assoc (take start lent) m (drop (start + length b) lent))
        ∙ sym (rw (rewrite_bytes h, length_rewritten b, e))

-- bytes are answered only where they fit from the start on
pub bytes_fit : (edition : ℕ) (b : List ℕ) (lent start n : ℕ) → rewrite_outcome edition b lent start ≡ Ok n → start + n ≤ lent
unfolding rewrite_outcome rewrite_answer
bytes_fit edition b lent start n e = by_verdict (judgement edition b) (fits b lent start) refl e
  where
    by_verdict : (v : Verdict) (enough : Bool) → leb (start + length b) lent ≡ enough → rewrite_answer v enough (length b) ≡ Ok n → start + n ≤ lent
    by_verdict (Err r) enough f q = absurd (let z : ◌≡◌ {A = ℕ} 0 1 = cc in omega arith)
    by_verdict (Ok _) false f q = absurd (let z : ◌≡◌ {A = ℕ} 0 1 = cc in omega arith)
    by_verdict (Ok _) true f q = let same : length b ≡ n = cc in omega (arith, leb-true (start + length b) lent f)
