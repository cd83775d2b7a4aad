-- Counting open places from node to node.
use Prim.Native.Nat.{ℕ, ◌+◌, ◌*◌, ◌-◌, ◌≤◌, ◌<◌}
use mathlib.Core.Path.{◌≡◌, sym, ap, ◌∙◌, subst}
use mathlib.Core.List.{List, []}
use mathlib.Core.Logic.{⊎_elim}
use native.Mathlib.Omega.{arith}
use native.Mathlib.Nat.{eq-or-lt_of_le}
use native.Mathlib.Numerals.{add-one}
use lib.IntN.{pos}
use lib.ListN.{length, get_or}
use Rattle.refusal.specs.Outcome.{refusal}
use Rattle.sheet.specs.Block.{total_of}
use Rattle.sheet.specs.Slot.{slots, slot_at, child_count, numbers_of}
use Rattle.sheet.specs.declared.slots.Slot.{Slot as Numbers}
use Rattle.tree.specs.OpenPlaces.{open_places}
use Rattle.tree.specs.Judgement.{or_else, left_over, missing}
use Rattle.std.specs.Prelude.{Ok, Err}
use Rattle.tree.proofs.OpenPlacesLaws.{Open}
use Rattle.tree.proofs.PlacesLaws.{open_places_zero, open_places_suc, left_over_none, left_over_at, missing_none, missing_some}
use Rattle.sheet.proofs.SlotLaws.{slots_at_lem, slots_length}

-- so many places are open before a node, and some were before each node that it follows
pub record Counted (b : List ℕ) (places node : ℕ) : Type 0 where
  pub within : node ≤ total_of b
  pub counted : open_places (slots b) node ≡ pos places
  pub few : places ≤ 1 + 65535 * node
  pub before : (j : ℕ) → j < node → Open (open_places (slots b) j)

pub counted_start : (b : List ℕ) → Counted b 1 0
counted_start b =
    record { within = omega arith; counted = open_places_zero (slots b); few = omega arith; before = λ j h. absurd (omega arith) }

module _ (b : List ℕ) (places node : ℕ) (c : Counted b places node) where
  some : (places ≡ 0 → ⊥) → Open (open_places (slots b) node)
  unfolding Open
  some k = (places - 1, c.counted ∙ ap pos (omega arith))

  pub counted_next : (s : Numbers) → node < total_of b → (places ≡ 0 → ⊥) → s ≡ numbers_of (slot_at b node) → s.children < 65536 → Counted b (places - 1 + s.children) (node + 1)
  unfolding numbers_of Open some
  counted_next s h k e f =
      let l : node < length (slots b) = omega (arith, slots_length b) in
      let slot : child_count (get_or (slots b) node []) ≡ s.children =
      ap child_count (slots_at_lem b node [] h) ∙ sym (ap (λ (n : Numbers). n.children) e) in
      record {
        within = omega arith;
        counted =
            rw add-one
            (open_places_suc (slots b) node (places - 1) [] l (some k).1
            ∙ ap pos (omega (arith, slot)));
        few = omega (arith, c.few);
        before = λ j q. ⊎_elim (λ (w : j ≡ node). subst (λ (i : ℕ). Open (open_places (slots b) i)) (sym w) (some k)) (λ (w : j < node). c.before j w) (eq-or-lt_of_le (omega arith));
      }

  pub counted_left : node < total_of b → places ≡ 0 → Err (refusal 6 node) ≡ or_else (left_over (slots b)) (missing (slots b))
  unfolding or_else
  counted_left h z =
      sym (rw (left_over_at (slots b) node (omega (arith, slots_length b)) c.before (c.counted ∙ ap pos z)))

  all : total_of b ≤ node → left_over (slots b) ≡ Ok tt
  all h = left_over_none (slots b) (λ j q. c.before j (omega (arith, slots_length b, c.within)))

  at_end : total_of b ≤ node → length (slots b) ≡ node
  at_end h = omega (arith, slots_length b, c.within)

  pub counted_filled : total_of b ≤ node → places ≡ 0 → (Ok tt) ≡ or_else (left_over (slots b)) (missing (slots b))
  unfolding or_else
  counted_filled h z =
      sym (rw (all h) (missing_none (slots b) (ap (open_places (slots b)) (at_end h) ∙ c.counted ∙ ap pos z)))

  pub counted_missing : total_of b ≤ node → (places ≡ 0 → ⊥) → Err (refusal 5 (total_of b)) ≡ or_else (left_over (slots b)) (missing (slots b))
  unfolding or_else
  counted_missing h k =
      sym (rw (all h)
      (missing_some (slots b) (subst (λ (i : ℕ). Open (open_places (slots b) i)) (sym (at_end h)) (some k))
      ∙ ap (λ (i : ℕ). Err (refusal 5 i)) (slots_length b)))
