-- Answers of opening as text, and what is printed of any bytes that are opened: the text of their outcome.
-- Assumes nothing.
use Prim.Native.Nat.{ℕ, ◌≤◌, ◌<◌}
use mathlib.Core.List.{List, [], ◌∷◌, ◌++◌}
use mathlib.Core.Path.{◌≡◌, refl, ap, subst}
use native.Mathlib.Omega.{arith}
use lib.ListN.{length}
use Rattle.text.specs.Characters.{LF}
use Rattle.text.specs.Placing.{position_after, placed_text}
use Rattle.text.proofs.PlacingLaws.{put_as}
use Rattle.sheet.specs.Opening.{open_of, outcome, outcome_of}
use Rattle.refusal.specs.Outcome.{Counted}
use Rattle.std.specs.Prelude.{Ok, Err}
use Rattle.text.specs.Refusals.{most_refusal}
use Rattle.slot_text.specs.Opened.{line_of_some, outcome_text, opened_text}

-- an answer that was put is short
pub put_opened_as : (lent : List ℕ) (at : ℕ) {held : List ℕ} {next : ℕ} {o o' : Counted} → o ≡ o'
    → (next ≡ position_after (length lent) at (opened_text o)) × (held ≡ placed_text lent at (opened_text o)) → length (opened_text o) ≤ most_refusal
    → (next ≡ position_after (length lent) at (opened_text o')) × ((held ≡ placed_text lent at (opened_text o')) × (length (opened_text o') ≤ most_refusal))
put_opened_as lent at e put short =
    let put' = put_as lent at (ap opened_text e) put in
    (put'.0, (put'.1, subst (λ (o : Counted). length (opened_text o) ≤ most_refusal) e short))

-- no text and some text as a line
pub line_none : (text : List ℕ) → length text ≡ 0 → [] ≡ line_of_some text
unfolding line_of_some
line_none [] e = refl
line_none (b ∷ bs) e = absurd (omega arith)

pub line_some : (text : List ℕ) → 0 < length text → text ++ LF ∷ [] ≡ line_of_some text
unfolding line_of_some
line_some [] h = absurd (omega arith)
line_some (b ∷ bs) h = refl

-- the text of the outcome
pub opened_outcome : (edition : ℕ) (sheet : List ℕ) → opened_text (open_of edition sheet) ≡ outcome_text (outcome edition sheet)
unfolding outcome outcome_of opened_text outcome_text
opened_outcome edition sheet = by_answer (open_of edition sheet)
  where
    by_answer : (o : Counted) → opened_text o ≡ outcome_text (outcome_of sheet o)
    by_answer (Ok total) = refl
    by_answer (Err r) = refl
