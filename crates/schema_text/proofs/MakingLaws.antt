-- What making a text answers and leaves in the lent buffer, by the position after it, and where rows have a text.
-- Assumes nothing.
use Prim.Native.Nat.{ℕ, ◌+◌, ◌*◌, ◌/◌, ◌≤◌, ◌<◌}
use mathlib.Core.List.{List}
use mathlib.Core.Option.{Option, none, some}
use mathlib.Core.Path.{◌≡◌, refl, sym, ap, ◌∙◌}
use native.Mathlib.Omega.{arith}
use lib.ListN.{length}
use borrow.Author.Tests.{lt-ltb, le-ltb, le-leb, lt-leb}
use Rattle.refusal.specs.Outcome.{short_output}
use Rattle.std.specs.Prelude.{Ok, Err}
use Rattle.text.specs.Placing.{position_after, placed_text}
use Rattle.schema.specs.Rows.{row_width}
use Rattle.text.proofs.PlacingLaws.{past_within, past_beyond}
use Rattle.schema_text.specs.Rows.{rows_text, rows_text_of}
use Rattle.schema_text.specs.Making.{made, made_in}

-- a text that fits
pub made_fits : (text : List ℕ) (room : ℕ) → length text ≤ room → made (some text) room ≡ Ok (length text)
unfolding made
made_fits text room h = rw (le-leb (0 + length text) room (omega arith))

made_short : (text : List ℕ) (room : ℕ) → room < length text → made (some text) room ≡ Err short_output
unfolding made
made_short text room h = rw (lt-leb (0 + length text) room (omega arith))

-- no text
pub made_none : (may : Option (List ℕ)) (lent : List ℕ) → may ≡ none → (Err short_output ≡ made may (length lent)) × (lent ≡ made_in may lent)
unfolding made made_in
made_none may lent e = rw e (refl, refl)

-- a text that was put from the first byte on, by the position after it
module _ (may : Option (List ℕ)) (lent held : List ℕ) (next : ℕ) (text : List ℕ) (e : may ≡ some text) (after : next ≡ position_after (length lent) 0 text) (put : held ≡ placed_text lent 0 text) where
  held_in : held ≡ made_in may lent
  unfolding made_in
  held_in = put ∙ ap (λ (o : Option (List ℕ)). made_in o lent) (sym e)

  pub made_within : next ≤ length lent → (Ok next ≡ made may (length lent)) × (held ≡ made_in may lent)
  made_within h =
      let exact : next ≡ 0 + length text = past_within (length lent) 0 (length text) next after h in
      let whole : next ≡ length text = omega arith in
      (ap Ok whole ∙ sym (made_fits text (length lent) (omega arith)) ∙ ap (λ (o : Option (List ℕ)). made o (length lent)) (sym e), held_in)

  pub made_beyond : length lent < next → (Err short_output ≡ made may (length lent)) × (held ≡ made_in may lent)
  made_beyond h =
      let short : length lent < 0 + length text = past_beyond (length lent) 0 (length text) next after h in
      (sym (made_short text (length lent) (omega arith)) ∙ ap (λ (o : Option (List ℕ)). made o (length lent)) (sym e), held_in)

-- rows whose numbers are not all there, and rows whose numbers are
pub rows_few : (total : ℕ) (ns : List ℕ) → length ns / row_width < total → rows_text_of total ns ≡ none
unfolding rows_text_of
rows_few total ns h = rw (lt-ltb (length ns) (row_width * total) (omega arith))

pub rows_enough : (total : ℕ) (ns : List ℕ) → row_width * total ≤ length ns → rows_text_of total ns ≡ some (rows_text total ns)
unfolding rows_text_of
rows_enough total ns h = rw (le-ltb (length ns) (row_width * total) h)
