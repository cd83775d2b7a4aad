-- Where a text is stored in lent bytes, what they hold, and texts stored one after the other.
-- Assumes nothing.
use Prim.Native.Nat.{ℕ, suc, ◌+◌, ◌-◌, ◌≤◌, ◌<◌}
use mathlib.Core.List.{List, [], ◌∷◌, ◌++◌, append_assoc}
use mathlib.Core.Path.{◌≡◌, refl, sym, ap, ◌∙◌}
use native.Mathlib.Nat.{add_assoc}
use native.Mathlib.Omega.{arith}
use lib.ListN.{length, take, drop, length-append, take-append-drop}
use lib.Seq.{length-take-le, take_at, drop_at}
use borrow.Author.Tests.{le-leb, lt-leb}
use borrow.Rule.Slice.PartMut.{put_mid, Post-is}
use Rattle.laws.proofs.DifferenceLaws.{below?}
use Rattle.laws.specs.Stretches.{stretched}
use Rattle.laws.proofs.StretchLaws.{length_stretched, stretched_stretched, stretched_none}
use Rattle.text.specs.Placing.{position_past, position_after, placed_text}

-- the position past so many bytes, by whether they fit
pub past_fits : (room at count : ℕ) → at + count ≤ room → position_past room at count ≡ at + count
unfolding position_past
past_fits room at count h = rw (le-leb (at + count) room h)

pub past_short : (room at count : ℕ) → room < at + count → position_past room at count ≡ suc room
unfolding position_past
past_short room at count h = rw (lt-leb (at + count) room h)

-- a position within the room is past bytes that fit, and one beyond it past bytes that do not
pub past_within : (room at count next : ℕ) → next ≡ position_past room at count → next ≤ room → next ≡ at + count
past_within room at count next e h =
    below? room (at + count)
    (λ short. absurd (omega (arith, past_short room at count short)))
    (λ enough. e ∙ past_fits room at count enough)

pub past_beyond : (room at count next : ℕ) → next ≡ position_past room at count → room < next → room < at + count
past_beyond room at count next e h =
    below? room (at + count)
    (λ short. short)
    (λ enough. absurd (omega (arith, past_fits room at count enough)))

-- what lent bytes hold, by whether the text fits
pub placed_fits : (lent : List ℕ) (at : ℕ) (text : List ℕ) → at + length text ≤ length lent → placed_text lent at text ≡ stretched lent at text
unfolding placed_text
placed_fits lent at text h = rw (le-leb (at + length text) (length lent) h)

pub placed_short : (lent : List ℕ) (at : ℕ) (text : List ℕ) → length lent < at + length text → placed_text lent at text ≡ lent
unfolding placed_text
placed_short lent at text h = rw (lt-leb (at + length text) (length lent) h)

-- a position past one after which nothing more fits
pub past_past : (room at n m : ℕ) → position_past room (position_past room at n) m ≡ position_past room at (n + m)
past_past room at n m =
    below? room (at + n)
    (λ short.
    ap (λ (p : ℕ). position_past room p m) (past_short room at n short)
    ∙ past_short room (suc room) m (omega arith)
    ∙ sym (past_short room at (n + m) (omega arith)))
    (λ enough. ap (λ (p : ℕ). position_past room p m) (past_fits room at n enough) ∙ further enough)
  where
    further : at + n ≤ room → position_past room (at + n) m ≡ position_past room at (n + m)
    further enough =
        below? room (at + n + m)
        (λ short. past_short room (at + n) m short ∙ sym (past_short room at (n + m) (omega arith)))
        (λ all. past_fits room (at + n) m all ∙ add_assoc at n m ∙ sym (past_fits room at (n + m) (omega arith)))

-- the position after two texts, one after the other
pub after_after : (room at : ℕ) (us vs : List ℕ) → position_after room (position_after room at us) vs ≡ position_after room at (us ++ vs)
after_after room at us vs = past_past room at (length us) (length vs) ∙ ap (position_past room at) (sym (length-append us vs))

-- the position after one, and then after another
pub after_more : (room at : ℕ) {next last : ℕ} (us vs : List ℕ) → next ≡ position_after room at us → last ≡ position_after room next vs → last ≡ position_after room at (us ++ vs)
after_more room at us vs e q = q ∙ ap (λ (p : ℕ). position_after room p vs) e ∙ after_after room at us vs

-- a text that was put, by another definition of it
pub put_as : (lent : List ℕ) (at : ℕ) {next : ℕ} {held us vs : List ℕ} → us ≡ vs
    → (next ≡ position_after (length lent) at us) × (held ≡ placed_text lent at us) → (next ≡ position_after (length lent) at vs) × (held ≡ placed_text lent at vs)
put_as lent at e put = (put.0 ∙ ap (position_after (length lent) at) e, put.1 ∙ ap (placed_text lent at) e)

-- a text copied into the part of the bytes that it takes
pub copied_placed : (lent : List ℕ) (at next : ℕ) (text part : List ℕ) → next ≡ at + length text → next ≤ length lent → part ≡ text
    → put_mid at (next - at) lent part ≡ placed_text lent at text
unfolding stretched
copied_placed lent at next text part e h whole =
    ap (λ (after : List ℕ). take at lent ++ (part ++ after)) (Post-is at next lent (omega arith))
    ∙ rw (whole, e) (sym (append_assoc (take at lent) text (drop (at + length text) lent)))
    ∙ sym (placed_fits lent at text (omega arith))

-- lent bytes that now hold a text from a position on, which ends at the next
pub record Holds (lent held : List ℕ) (at next : ℕ) (text : List ℕ) : Type 0 where
  pub enough : at + length text ≤ length lent
  pub end : next ≡ at + length text
  pub bytes : held ≡ stretched lent at text

pub holds_none : (lent : List ℕ) (at : ℕ) → at ≤ length lent → Holds lent lent at at []
holds_none lent at h =
    record {
      enough = omega arith;
      end = omega arith;
      bytes = sym (stretched_none lent at);
    }

module _ {lent held : List ℕ} {at next : ℕ} {text : List ℕ} (holds : Holds lent held at next text) where
  pub holds_length : length held ≡ length lent
  holds_length = ap length holds.bytes ∙ length_stretched lent at text holds.enough

  -- a further text that fits
  pub holds_more : {held' : List ℕ} {next' : ℕ} (more : List ℕ) → at + (length text + length more) ≤ length lent
      → (next' ≡ position_after (length held) next more) × (held' ≡ placed_text held next more) → Holds lent held' at next' (text ++ more)
  holds_more {held'} {next'} more h put =
      let fits : at + length (text ++ more) ≤ length lent = omega (arith, length-append text more) in
      let here : next + length more ≤ length held = omega (arith, holds_length, holds.end) in
      record {
        enough = fits;
        end = put.0 ∙ past_fits (length held) next (length more) here ∙ omega (arith, holds.end, length-append text more);
        bytes =
            put.1
            ∙ placed_fits held next more here
            ∙ ap (λ (k : ℕ). stretched held k more) holds.end
            ∙ ap (λ (l : List ℕ). stretched l (at + length text) more) holds.bytes
            ∙ stretched_stretched lent at text more holds.enough;
      }

  -- what is held is the text placed
  pub holds_placed : held ≡ placed_text lent at text
  holds_placed = holds.bytes ∙ sym (placed_fits lent at text holds.enough)

  pub holds_after : next ≡ position_after (length lent) at text
  holds_after = holds.end ∙ sym (past_fits (length lent) at (length text) holds.enough)

-- bytes that hold a text from the first on begin with it
pub holds_front : {lent held : List ℕ} {next : ℕ} {text : List ℕ} → Holds lent held 0 next text → take next held ≡ text
unfolding stretched
holds_front {lent} {held} {next} {text} holds =
    ap (take next) holds.bytes ∙ take_at text (drop (0 + length text) lent) next (omega (arith, holds.end))

pub holds_within : {lent held : List ℕ} {next : ℕ} {text : List ℕ} → Holds lent held 0 next text → next ≤ length held
holds_within {lent} {held} {next} {text} holds = omega (arith, holds.end, holds.enough, holds_length holds)

-- so that a text made in a room is counted
pub holds_made : {lent held : List ℕ} {next : ℕ} {text : List ℕ} → Holds lent held 0 next text → ((next ≤ length held) × (next ≡ length (take next held))) × (take next held ≡ text)
holds_made {lent} {held} {next} holds =
    let within = holds_within holds in
    ((within, sym (length-take-le next held within)), holds_front holds)

-- and hold it among what they hold now
pub holds_again : {lent held : List ℕ} {next : ℕ} {text : List ℕ} → Holds lent held 0 next text → Holds held held 0 next text
unfolding stretched
holds_again {lent} {held} {next} {text} holds =
    record {
      enough = omega (arith, holds.enough, holds_length holds);
      end = holds.end;
      bytes = sym (take-append-drop next held) ∙ ap (λ (l : List ℕ). l ++ drop next held) (holds_front holds) ∙ ap (λ (k : ℕ). text ++ drop k held) holds.end;
    }

pub holds_first : (byte : ℕ) (rest : List ℕ) → Holds (byte ∷ rest) (byte ∷ rest) 0 1 (byte ∷ [])
unfolding stretched
holds_first byte rest = record { enough = omega arith; end = refl; bytes = refl }

-- and end as they did
pub holds_back : {lent held : List ℕ} {next : ℕ} {text : List ℕ} → Holds lent held 0 next text → drop next held ≡ drop next lent
unfolding stretched
holds_back {lent} {held} {next} {text} holds =
    let end : length text ≡ next = omega (arith, holds.end) in
    ap (drop next) holds.bytes ∙ drop_at text (drop (0 + length text) lent) next end ∙ ap (λ (k : ℕ). drop k lent) (sym holds.end)
