-- Siblings by name and ordinal: what is left of them behind the fields before a place, and which name and ordinal find the field of a place.
use Prim.Native.Nat.{ℕ, zero, suc, ◌+◌, ◌-◌, ◌<◌}
use mathlib.Core.Path.{◌≡◌, refl, sym, ap, ◌∙◌}
use mathlib.Core.Bool.{true, false}
use mathlib.Core.List.{List, [], ◌∷◌}
use mathlib.Core.Option.{some, some_inj}
use native.Mathlib.Nat.{zero-add, add-zero, add-suc, suc-add}
use native.Mathlib.Decide.{dec_lt}
use native.Mathlib.Omega.{arith}
use Rattle.laws.proofs.BoolLaws.{by_test}
use Rattle.sheet.specs.Name.{same_bytes}
use Rattle.sheet.proofs.NameLaws.{same_bytes_true}
use Rattle.tree.specs.Tree.{Tree, Fields, field, size}
use Rattle.matching.specs.Matching.{name_of, Sibling, siblings, alike, nth}
use Rattle.matching.proofs.NthLaws.{Found, nth_found, siblings_place}

-- ---- one sibling

-- the first of some is found, passed by, or passed over, by its name
module _ (n : List ℕ) (c : Sibling) (cs : List Sibling) where
  pub nth_first : same_bytes (name_of c.tree) n ≡ true → nth n 0 (c ∷ cs) ≡ some c
  unfolding nth
  nth_first e = rw e

  pub nth_next : (i : ℕ) → same_bytes (name_of c.tree) n ≡ true → nth n (suc i) (c ∷ cs) ≡ nth n i cs
  unfolding nth
  nth_next i e = rw e

  pub nth_other : (i : ℕ) → same_bytes (name_of c.tree) n ≡ false → nth n i (c ∷ cs) ≡ nth n i cs
  unfolding nth
  nth_other zero e = rw e
  nth_other (suc i) e = rw e

-- a name more, the same or another
module _ (n m : List ℕ) (before : List (List ℕ)) where
  pub alike_same : same_bytes m n ≡ true → alike n (m ∷ before) ≡ suc (alike n before)
  unfolding alike
  alike_same e = rw e

  pub alike_other : same_bytes m n ≡ false → alike n (m ∷ before) ≡ alike n before
  unfolding alike
  alike_other e = rw e

-- ---- what is left

-- `rest` is what is left of some siblings from a place on, behind those of the names before it
pub record Rest (cs : List Sibling) (before : List (List ℕ)) (place : ℕ) (rest : List Sibling) : Type 0 where
  pub later : (n : List ℕ) (i : ℕ) → nth n (alike n before + i) cs ≡ nth n i rest
  pub earlier : (n : List ℕ) (i : ℕ) (c : Sibling) → i < alike n before → nth n i cs ≡ some c → c.place < place

-- before the first, all of them
pub rest_all : (cs : List Sibling) (place : ℕ) → Rest cs [] place cs
unfolding alike
rest_all cs place = record { later = λ n i. ap (λ (k : ℕ). nth n k cs) (zero-add i); earlier = λ n i c h e. absurd (omega arith) }

-- behind one, one less
module _ (cs : List Sibling) (before : List (List ℕ)) (c : Sibling) (rest : List Sibling) (left : Rest cs before c.place (c ∷ rest)) where
  later_next : (n : List ℕ) (i : ℕ) → nth n (alike n (name_of c.tree ∷ before) + i) cs ≡ nth n i rest
  later_next n i = by_test (same_bytes (name_of c.tree) n)
      (λ e. ap (λ (k : ℕ). nth n k cs) (ap (λ (k : ℕ). k + i) (alike_same n _ before e) ∙ suc-add _ i ∙ sym (add-suc _ i))
      ∙ left.later n (suc i)
      ∙ nth_next n c rest i e)
      (λ e. ap (λ (k : ℕ). nth n (k + i) cs) (alike_other n _ before e) ∙ left.later n i ∙ nth_other n c rest i e)

  earlier_next : (n : List ℕ) (i : ℕ) (d : Sibling) → i < alike n (name_of c.tree ∷ before) → nth n i cs ≡ some d → d.place < suc c.place
  earlier_next n i d h e = by_test (same_bytes (name_of c.tree) n)
      (λ q. same q (dec_lt i (alike n before)))
      (λ q. let l : d.place < c.place = left.earlier n i d (omega (arith, alike_other n _ before q)) e in omega arith)
    where
      same : same_bytes (name_of c.tree) n ≡ true → Dec (i < alike n before) → d.place < suc c.place
      same q (yes l) = let m : d.place < c.place = left.earlier n i d l e in omega arith
      same q (no l) =
          let at : alike n before + 0 ≡ i = omega (arith, alike_same n _ before q) in
          let own : some c ≡ some d = sym (nth_first n c rest q) ∙ sym (left.later n 0) ∙ ap (λ (k : ℕ). nth n k cs) at ∙ e in
          let p : c.place ≡ d.place = cc in
          omega arith

  rest_next : Rest cs (name_of c.tree ∷ before) (suc c.place) rest
  rest_next = record { later = later_next; earlier = earlier_next }

-- ---- the fields of a run

-- the field at a place of a run: its name and ordinal find it, and no others find a sibling of its place
module _ (cs : List Sibling) (before : List (List ℕ)) (number place : ℕ) (t : Tree) (fs : Fields)
    (left : Rest cs before place (siblings number place (field t fs))) where
  abbrev own : Sibling
  own = record { number = number; place = place; tree = t }

  abbrev later : List Sibling
  later = siblings (number + size t) (suc place) fs

  pub rest_found : nth (name_of t) (alike (name_of t) before) cs ≡ some own
  unfolding siblings
  rest_found =
      ap (λ (k : ℕ). nth (name_of t) k cs) (sym (add-zero _))
      ∙ left.later (name_of t) 0
      ∙ nth_first (name_of t) own later (same_bytes_true (name_of t) (name_of t) refl)

  -- what is found at its place among what is left is the field
  found_own : (n : List ℕ) (i : ℕ) (c : Sibling) → Found n i (siblings number place (field t fs)) c → c.place ≡ place → (name_of t ≡ n) × (i ≡ 0)
  unfolding siblings alike
  found_own n i c found p =
      let first : found.index ≡ 0 = omega (arith, siblings_place number place (field t fs) found.index found.stands) in
      let same : some own ≡ some c = rw first at found.stands in
      let none_before : 0 ≡ i = rw first at found.before in
      (ap (λ (x : Sibling). name_of x.tree) (some_inj.0 same) ∙ found.named, omega arith)

  pub rest_only : (n : List ℕ) (i : ℕ) (c : Sibling) → nth n i cs ≡ some c → c.place ≡ place → (name_of t ≡ n) × (i ≡ alike (name_of t) before)
  rest_only n i c e p = on (dec_lt i (alike n before))
    where
      on : Dec (i < alike n before) → (name_of t ≡ n) × (i ≡ alike (name_of t) before)
      on (yes l) = absurd (omega (arith, left.earlier n i c l e))
      on (no l) =
          let at : alike n before + (i - alike n before) ≡ i = omega arith in
          let found = sym (left.later n (i - alike n before)) ∙ ap (λ (k : ℕ). nth n k cs) at ∙ e in
          let both = found_own n (i - alike n before) c (nth_found n (i - alike n before) (siblings number place (field t fs)) found) p in
          (both.0, rw both.0 (omega arith))

  pub rest_run : Rest cs (name_of t ∷ before) (suc place) later
  unfolding siblings
  rest_run = rest_next cs before own later left
