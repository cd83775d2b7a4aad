-- Open places and trees: of refusal 6, refusal 5 and a tree that claims rightly and lists the slots, exactly one holds.
use Prim.Native.Nat.{ℕ, zero, suc, ◌+◌, ◌≤◌, ◌<◌}
use mathlib.Core.Path.{◌≡◌, refl, sym, ap, ◌∙◌, subst}
use mathlib.Core.Logic.{◌⊎◌, inl, inr}
use mathlib.Core.List.{List, [], ◌∷◌, ◌++◌, map, append_assoc, append-nil}
use native.Mathlib.Omega.{arith}
use native.Mathlib.Nat.{zero-add, suc-add, add_comm}
use lib.ListN.{length, take}
use lib.IntN.{ℤ, pos, ◌+ℤ◌, ◌-ℤ◌, pred_ℤ, +ℤ_assoc, +ℤ_idr, -ℤ_one, +ℤ-pred_ℤ}
use Rattle.sheet.specs.Slot.{child_count}
use Rattle.tree.specs.Tree.{SlotBytes, Tree, Fields, node, empty, field, listing, listings, count, Claims, ClaimsAll}
use Rattle.tree.specs.Reading.{trees}
use Rattle.tree.specs.OpenPlaces.{sum, open_places}
use Rattle.tree.proofs.TreeLaws.{count_take, count_drop, claims_take, claims_drop}

-- with n places open before a list of slots, the last place is filled by the last slot
pub data Fills : ℕ → List SlotBytes → Type 0 where
  done : Fills 0 []
  next : {n : ℕ} {s : SlotBytes} {ss : List SlotBytes} → Fills (child_count s + n) ss → Fills (suc n) (s ∷ ss)

-- places are left open behind the last slot
pub data Lacks : ℕ → List SlotBytes → Type 0 where
  end : {n : ℕ} → Lacks (suc n) []
  next : {n : ℕ} {s : SlotBytes} {ss : List SlotBytes} → Lacks (child_count s + n) ss → Lacks (suc n) (s ∷ ss)

-- no place is open before the slot number k
pub data Full : ℕ → List SlotBytes → ℕ → Type 0 where
  here : {s : SlotBytes} {ss : List SlotBytes} → Full 0 (s ∷ ss) 0
  next : {n k : ℕ} {s : SlotBytes} {ss : List SlotBytes} → Full (child_count s + n) ss k → Full (suc n) (s ∷ ss) (suc k)

pub one_of_three : (n : ℕ) (ss : List SlotBytes) → Fills n ss ⊎ (Lacks n ss ⊎ ((k : ℕ) × Full n ss k))
one_of_three zero [] = inl done
one_of_three (suc n) [] = inr (inl end)
one_of_three zero (s ∷ ss) = inr (inr (0, here))
one_of_three (suc n) (s ∷ ss) = on (one_of_three (child_count s + n) ss)
  where
    on : Fills (child_count s + n) ss ⊎ (Lacks (child_count s + n) ss ⊎ ((k : ℕ) × Full (child_count s + n) ss k)) → Fills (suc n) (s ∷ ss) ⊎ (Lacks (suc n) (s ∷ ss) ⊎ ((k : ℕ) × Full (suc n) (s ∷ ss) k))
    on (inl f) = inl (next f)
    on (inr (inl l)) = inr (inl (next l))
    on (inr (inr o)) = inr (inr (suc o.0, next o.1))

-- where the places are filled, the slots stand for as many trees, which claim rightly
pub fills_trees : {n : ℕ} {ss : List SlotBytes} → Fills n ss → (count (trees ss) ≡ n) × ClaimsAll (trees ss)
unfolding trees count ClaimsAll
fills_trees done = (refl, tt)
fills_trees (next {n = n} {s = s} {ss = ss} f) =
    let ih = fills_trees f in
    let enough : child_count s ≤ count (trees ss) = omega (arith, ih.0) in (
      omega (arith, count_drop (child_count s) (trees ss), ih.0),
      ((sym (count_take (child_count s) (trees ss) enough), claims_take (child_count s) (trees ss) ih.1), claims_drop (child_count s) (trees ss) ih.1),
    )

mutual
  unfolding listing Claims count

  -- a tree that claims rightly fills one place, and its slots are passed
  pub listing_fills : (t : Tree) (n : ℕ) (ss : List SlotBytes) → Claims t → Fills n ss → Fills (suc n) (listing t ++ ss)
  listing_fills (node s fs) n ss c f = next (subst (λ (m : ℕ). Fills (m + n) (listings fs ++ ss)) (sym c.0) (listings_fill fs n ss c.1 f))

  pub listings_fill : (fs : Fields) (n : ℕ) (ss : List SlotBytes) → ClaimsAll fs → Fills n ss → Fills (count fs + n) (listings fs ++ ss)
  listings_fill empty n ss c f = rw zero-add f
  listings_fill (field t fs) n ss c f =
      rw (suc-add, append_assoc) (listing_fills t (count fs + n) (listings fs ++ ss) c.0 (listings_fill fs n ss c.1 f))

-- a tree that claims rightly fills the one place that is open before its listing
pub tree_fills : (t : Tree) → Claims t → Fills 1 (listing t)
tree_fills t c = rw append-nil at (listing_fills t 0 [] c done)

-- open places after k nodes, with n open before
pub open_from : ℕ → List SlotBytes → ℕ → ℤ
open_from n ss k = pos n +ℤ sum (map (λ s. pos (child_count s) -ℤ pos 1) (take k ss))

pub open_from_one : (ss : List SlotBytes) (k : ℕ) → open_from 1 ss k ≡ open_places ss k
unfolding open_from open_places
open_from_one ss k = refl

-- one place is filled, and as many open as the slot claims
pub place_filled : (n c : ℕ) → pos (suc n) +ℤ (pos c -ℤ pos 1) ≡ pos (c + n)
place_filled n c =
    ap (λ (z : ℤ). pos (suc n) +ℤ z) (-ℤ_one (pos c))
    ∙ +ℤ-pred_ℤ (pos (suc n)) (pos c)
    ∙ ap (λ (m : ℕ). pred_ℤ (pos m)) (suc-add n c ∙ ap suc (add_comm n c))

open_from_next : (n : ℕ) (s : SlotBytes) (ss : List SlotBytes) (k : ℕ) → open_from (suc n) (s ∷ ss) (suc k) ≡ open_from (child_count s + n) ss k
unfolding open_from sum
open_from_next n s ss k =
    sym (+ℤ_assoc (pos (suc n)) (pos (child_count s) -ℤ pos 1) (sum (map (λ s. pos (child_count s) -ℤ pos 1) (take k ss))))
    ∙ ap (λ (z : ℤ). z +ℤ sum (map (λ s. pos (child_count s) -ℤ pos 1) (take k ss))) (place_filled n (child_count s))

open_from_zero : (n : ℕ) (ss : List SlotBytes) → open_from n ss 0 ≡ pos n
unfolding open_from sum
open_from_zero n ss = +ℤ_idr (pos n)

-- some place is open
unfoldable pub Open : ℤ → Type 0
Open z = (m : ℕ) × (z ≡ pos (suc m))

pub fills_open : {n : ℕ} {ss : List SlotBytes} → Fills n ss → (k : ℕ) → k < length ss → Open (open_from n ss k)
unfolding Open
fills_open done k h = absurd (omega arith)
fills_open (next {n = n} {s = s} {ss = ss} f) zero h = (n, open_from_zero (suc n) (s ∷ ss))
fills_open (next {n = n} {s = s} {ss = ss} f) (suc k) h =
    let o = fills_open f k (omega arith) in (o.0, open_from_next n s ss k ∙ o.1)

pub fills_end : {n : ℕ} {ss : List SlotBytes} → Fills n ss → open_from n ss (length ss) ≡ pos 0
fills_end done = open_from_zero 0 []
fills_end (next {n = n} {s = s} {ss = ss} f) = open_from_next n s ss (length ss) ∙ fills_end f

pub lacks_open : {n : ℕ} {ss : List SlotBytes} → Lacks n ss → (k : ℕ) → k ≤ length ss → Open (open_from n ss k)
unfolding Open
lacks_open (end {n = n}) zero h = (n, open_from_zero (suc n) [])
lacks_open (end {n = n}) (suc k) h = absurd (omega arith)
lacks_open (next {n = n} {s = s} {ss = ss} f) zero h = (n, open_from_zero (suc n) (s ∷ ss))
lacks_open (next {n = n} {s = s} {ss = ss} f) (suc k) h =
    let o = lacks_open f k (omega arith) in (o.0, open_from_next n s ss k ∙ o.1)

pub full_below : {n k : ℕ} {ss : List SlotBytes} → Full n ss k → k < length ss
full_below here = omega arith
full_below (next f) = let h = full_below f in omega arith

pub full_none : {n k : ℕ} {ss : List SlotBytes} → Full n ss k → open_from n ss k ≡ pos 0
full_none (here {s = s} {ss = ss}) = open_from_zero 0 (s ∷ ss)
full_none (next {n = n} {k = k} {s = s} {ss = ss} f) = open_from_next n s ss k ∙ full_none f

pub full_open : {n k : ℕ} {ss : List SlotBytes} → Full n ss k → (j : ℕ) → j < k → Open (open_from n ss j)
unfolding Open
full_open here j h = absurd (omega arith)
full_open (next {n = n} {s = s} {ss = ss} f) zero h = (n, open_from_zero (suc n) (s ∷ ss))
full_open (next {n = n} {s = s} {ss = ss} f) (suc j) h =
    let o = full_open f j (omega arith) in (o.0, open_from_next n s ss j ∙ o.1)
