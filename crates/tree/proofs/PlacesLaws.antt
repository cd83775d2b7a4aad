-- Refusals 5 and 6 by the open places before each slot.
use Prim.Native.Nat.{ℕ, suc, ◌+◌, ◌<◌}
use mathlib.Core.Path.{◌≡◌, refl, sym, ap, ◌∙◌}
use mathlib.Core.Bool.{true, false, not}
use mathlib.Core.List.{List, [], ◌∷◌, ◌++◌, map, map-append}
use native.Mathlib.Omega.{arith}
use native.Mathlib.Nat.{le_refl}
use borrow.Author.Tests.{lt-ltb, le-ltb}
use lib.IntN.{ℤ, pos, ◌+ℤ◌, ◌-ℤ◌, +ℤ_assoc, +ℤ_idr, +ℤ_idl}
use lib.ListN.{length, get_or, take}
use lib.Seq.{take-suc}
use Rattle.refusal.specs.Outcome.{refusal}
use Rattle.sheet.specs.Slot.{child_count}
use Rattle.sheet.proofs.FirstLaws.{first_wrong_at, first_wrong_none}
use Rattle.tree.specs.Tree.{SlotBytes}
use Rattle.tree.specs.OpenPlaces.{sum, open_places, is_no_place}
use Rattle.tree.specs.Judgement.{left_over, missing}
use Rattle.std.specs.Prelude.{Ok, Err}
use Rattle.tree.proofs.OpenPlacesLaws.{Fills, Lacks, Full, open_from, open_from_one, place_filled, Open, fills_open, fills_end, lacks_open, full_below, full_none, full_open}

open_test : (z : ℤ) → Open z → is_no_place z ≡ false
unfolding Open is_no_place
open_test z o = rw o.1

none_test : (z : ℤ) → z ≡ pos 0 → is_no_place z ≡ true
unfolding is_no_place
none_test z e = rw e

open_at : (ss : List SlotBytes) (j : ℕ) → Open (open_places ss j) → not (is_no_place (open_places ss j)) ≡ true
open_at ss j o = rw (open_test _ o)

module _ (ss : List SlotBytes) where
  -- where a place is open before every slot, none is left over
  pub left_over_none : ((j : ℕ) → j < length ss → Open (open_places ss j)) → left_over ss ≡ Ok tt
  unfolding left_over
  left_over_none all =
      rw (first_wrong_none (λ j. not (is_no_place (open_places ss j))) (length ss) (λ j h. open_at ss j (all j h)), le-ltb (length ss) (length ss) (le_refl _))

  -- the first slot before which no place is open is the first left over
  pub left_over_at : (k : ℕ) → k < length ss → ((j : ℕ) → j < k → Open (open_places ss j)) → open_places ss k ≡ pos 0 → left_over ss ≡ Err (refusal 6 k)
  unfolding left_over
  left_over_at k h all e =
      rw (
        first_wrong_at (λ j. not (is_no_place (open_places ss j))) (length ss) k h (λ j l. open_at ss j (all j l)) (rw (none_test _ e)),
        lt-ltb k (length ss) h,
      )

  pub missing_none : open_places ss (length ss) ≡ pos 0 → missing ss ≡ Ok tt
  unfolding missing
  missing_none e = rw (none_test _ e)

  pub missing_some : Open (open_places ss (length ss)) → missing ss ≡ Err (refusal 5 (length ss))
  unfolding missing
  missing_some o = rw (open_test _ o)

  from_one : (j : ℕ) → Open (open_from 1 ss j) → Open (open_places ss j)
  from_one j o = rw open_from_one at o

  pub fills_left_over : Fills 1 ss → left_over ss ≡ Ok tt
  fills_left_over f = left_over_none (λ j h. from_one j (fills_open f j h))

  pub fills_missing : Fills 1 ss → missing ss ≡ Ok tt
  fills_missing f = missing_none (sym (open_from_one ss (length ss)) ∙ fills_end f)

  pub lacks_left_over : Lacks 1 ss → left_over ss ≡ Ok tt
  lacks_left_over l = left_over_none (λ j h. from_one j (lacks_open l j (omega arith)))

  pub lacks_missing : Lacks 1 ss → missing ss ≡ Err (refusal 5 (length ss))
  lacks_missing l = missing_some (from_one (length ss) (lacks_open l (length ss) (le_refl _)))

  pub full_left_over : (k : ℕ) → Full 1 ss k → left_over ss ≡ Err (refusal 6 k)
  full_left_over k f =
      left_over_at k (full_below f) (λ j h. from_one j (full_open f j h)) (sym (open_from_one ss k) ∙ full_none f)

sum_append : (xs ys : List ℤ) → sum (xs ++ ys) ≡ sum xs +ℤ sum ys
unfolding sum
sum_append [] ys = sym (+ℤ_idl (sum ys))
sum_append (x ∷ xs) ys = ap (λ (z : ℤ). x +ℤ z) (sum_append xs ys) ∙ sym (+ℤ_assoc x (sum xs) (sum ys))

pub open_places_zero : (ss : List SlotBytes) → open_places ss 0 ≡ pos 1
unfolding open_places sum
open_places_zero ss = refl

-- one slot fills one place and opens as many as it claims
pub open_places_suc : (ss : List SlotBytes) (k n : ℕ) (d : SlotBytes) → k < length ss → open_places ss k ≡ pos (suc n) → open_places ss (suc k) ≡ pos (child_count (get_or ss k d) + n)
unfolding open_places sum
open_places_suc ss k n d h e =
    let f : SlotBytes → ℤ = λ s. pos (child_count s) -ℤ pos 1 in
    ap (λ (l : List SlotBytes). pos 1 +ℤ sum (map f l)) (take-suc ss k d h)
    ∙ ap (λ (l : List ℤ). pos 1 +ℤ sum l) (map-append f (take k ss) (get_or ss k d ∷ []))
    ∙ ap (λ (z : ℤ). pos 1 +ℤ z) (sum_append (map f (take k ss)) (f (get_or ss k d) ∷ []))
    ∙ sym (+ℤ_assoc (pos 1) (sum (map f (take k ss))) (f (get_or ss k d) +ℤ pos 0))
    ∙ ap (λ (z : ℤ). z +ℤ (f (get_or ss k d) +ℤ pos 0)) e
    ∙ ap (λ (z : ℤ). pos (suc n) +ℤ z) (+ℤ_idr (f (get_or ss k d)))
    ∙ place_filled n (child_count (get_or ss k d))
