-- Laws of a sheet with other annotations in one slot: that slot has them, and every other byte stays.
use mathlib.Core.Path.{◌≡◌, refl, sym, ap, ◌∙◌}
use mathlib.Core.Logic.{◌⊎◌, inl, inr}
use mathlib.Core.Bool.{Bool, true, false}
use mathlib.Core.List.{List}
use Prim.Native.Nat.{ℕ, ◌+◌, ◌-◌, ◌%◌, ◌≤◌, ◌<◌}
use native.Mathlib.Decide.{dec_lt}
use native.Mathlib.Omega.{arith}
use lib.ListN.{length, get_or, set, take, drop, length-set}
use lib.Seq.{get_or-set_other, take-set-le, take-set-lt, drop-set-lt, drop-set-add, set-get_or}
use Rattle.sheet.specs.Block.{block_size, first_slot_at, slot_size}
use Rattle.sheet.specs.Slot.{converted_at, logical_at, parameter_a_at, parameter_b_at, converted, logical, parameter_a, parameter_b, slot_start, reaches, slot_at, annotated_slot, with_annotation}
use Rattle.sheet.proofs.SlotLaws.{slot_start_behind, slot_at_there, slot_at_empty, slot_at_byte}

-- a part of a list that a store misses
part_set_other : (l : List ℕ) (n s p v : ℕ) → (p < s) ⊎ (s + n ≤ p) → take n (drop s (set l p v)) ≡ take n (drop s l)
part_set_other l n s p v (inl h) = ap (take n) (drop-set-lt s l p v h)
part_set_other l n s p v (inr h) =
    let e : p ≡ s + (p - s) = omega arith in
    ap (λ (q : ℕ). take n (drop s (set l q v))) e ∙ ap (take n) (drop-set-add s l (p - s) v) ∙ take-set-le n (drop s l) (p - s) v (omega arith)

-- a part that it hits
part_set_own : (l : List ℕ) (n s i v : ℕ) → i < n → take n (drop s (set l (s + i) v)) ≡ set (take n (drop s l)) i v
part_set_own l n s i v h = ap (take n) (drop-set-add s l i v) ∙ take-set-lt n (drop s l) i v h

-- the four numbers stored in the slot of node k
module _ (k conv log a b : ℕ) where
  abbrev pub stored : List ℕ → List ℕ
  stored l = set (set (set (set l (slot_start k + converted_at) conv) (slot_start k + logical_at) log) (slot_start k + parameter_a_at) a) (slot_start k + parameter_b_at) b

  stored_own : (l : List ℕ) → take slot_size (drop (slot_start k) (stored l)) ≡ annotated_slot (take slot_size (drop (slot_start k) l)) conv log a b
  unfolding annotated_slot
  stored_own l =
      rw (part_set_own _ slot_size (slot_start k) parameter_b_at b (omega arith), part_set_own _ slot_size (slot_start k) parameter_a_at a (omega arith), part_set_own _ slot_size (slot_start k) logical_at log (omega arith), part_set_own l slot_size (slot_start k) converted_at conv (omega arith))

  stored_part : (l : List ℕ) (n s : ℕ) → (slot_start k + slot_size ≤ s) ⊎ (s + n ≤ slot_start k) → take n (drop s (stored l)) ≡ take n (drop s l)
  stored_part l n s (inl h) =
      part_set_other _ n s _ b (inl (omega arith)) ∙ part_set_other _ n s _ a (inl (omega arith)) ∙ part_set_other _ n s _ log (inl (omega arith)) ∙ part_set_other l n s _ conv (inl (omega arith))
  stored_part l n s (inr h) =
      part_set_other _ n s _ b (inr (omega arith)) ∙ part_set_other _ n s _ a (inr (omega arith)) ∙ part_set_other _ n s _ log (inr (omega arith)) ∙ part_set_other l n s _ conv (inr (omega arith))

  stored_header : (l : List ℕ) (p : ℕ) → p % block_size < first_slot_at → get_or (stored l) p 0 ≡ get_or l p 0
  stored_header l p h =
      let l₁ = set l (slot_start k + converted_at) conv in
      let l₂ = set l₁ (slot_start k + logical_at) log in
      let l₃ = set l₂ (slot_start k + parameter_a_at) a in
      get_or-set_other l₃ (slot_start k + parameter_b_at) p b 0 (λ (e : p ≡ slot_start k + parameter_b_at). apart parameter_b_at (omega arith) e)
      ∙ get_or-set_other l₂ (slot_start k + parameter_a_at) p a 0 (λ (e : p ≡ slot_start k + parameter_a_at). apart parameter_a_at (omega arith) e)
      ∙ get_or-set_other l₁ (slot_start k + logical_at) p log 0 (λ (e : p ≡ slot_start k + logical_at). apart logical_at (omega arith) e)
      ∙ get_or-set_other l (slot_start k + converted_at) p conv 0 (λ (e : p ≡ slot_start k + converted_at). apart converted_at (omega arith) e)
    where
      apart : (i : ℕ) → i < slot_size → p ≡ slot_start k + i → ⊥
      apart i l e = omega (arith, slot_start_behind k i l, ap (λ (q : ℕ). q % block_size) e)

  stored_length : (l : List ℕ) → length (stored l) ≡ length l
  stored_length l = simp length-set

-- slots do not overlap
slots_apart : (j k : ℕ) → (j ≡ k → ⊥) → (slot_start k + slot_size ≤ slot_start j) ⊎ (slot_start j + slot_size ≤ slot_start k)
unfolding slot_start
slots_apart j k other = cases (dec_lt k j)
  where
    cases : Dec (k < j) → (slot_start k + slot_size ≤ slot_start j) ⊎ (slot_start j + slot_size ≤ slot_start k)
    cases (yes h) = inl (omega arith)
    cases (no h) = inr (omega arith)

module _ (sheet : List ℕ) (k conv log a b : ℕ) where
  -- where the bytes reach the slot, the four numbers are stored
  pub annotated_there : reaches sheet k ≡ true → with_annotation sheet k conv log a b ≡ stored k conv log a b sheet
  unfolding with_annotation
  annotated_there r = rw r

  -- and elsewhere nothing changes
  pub annotated_nowhere : reaches sheet k ≡ false → with_annotation sheet k conv log a b ≡ sheet
  unfolding with_annotation
  annotated_nowhere r = rw r

  pub length_with_annotation : length (with_annotation sheet k conv log a b) ≡ length sheet
  length_with_annotation = cases (reaches sheet k) refl
    where
      cases : (t : Bool) → reaches sheet k ≡ t → length (with_annotation sheet k conv log a b) ≡ length sheet
      cases true r = ap length (annotated_there r) ∙ stored_length k conv log a b sheet
      cases false r = ap length (annotated_nowhere r)

  reaches_annotated : (j : ℕ) → reaches (with_annotation sheet k conv log a b) j ≡ reaches sheet j
  unfolding reaches
  reaches_annotated j = rw length_with_annotation

  -- a slot that the bytes reach has other annotations
  pub slot_at_annotated : reaches sheet k ≡ true → slot_at (with_annotation sheet k conv log a b) k ≡ annotated_slot (slot_at sheet k) conv log a b
  slot_at_annotated r =
      slot_at_there (with_annotation sheet k conv log a b) k (reaches_annotated k ∙ r)
      ∙ ap (λ (l : List ℕ). take slot_size (drop (slot_start k) l)) (annotated_there r)
      ∙ stored_own k conv log a b sheet
      ∙ ap (λ (slot : List ℕ). annotated_slot slot conv log a b) (sym (slot_at_there sheet k r))

  -- every other slot stays
  pub slot_at_annotated_other : (j : ℕ) → (j ≡ k → ⊥) → slot_at (with_annotation sheet k conv log a b) j ≡ slot_at sheet j
  slot_at_annotated_other j other = cases (reaches sheet k) (reaches sheet j) refl refl
    where
      cases : (t u : Bool) → reaches sheet k ≡ t → reaches sheet j ≡ u → slot_at (with_annotation sheet k conv log a b) j ≡ slot_at sheet j
      cases false u r q = ap (λ (l : List ℕ). slot_at l j) (annotated_nowhere r)
      cases true true r q =
          slot_at_there (with_annotation sheet k conv log a b) j (reaches_annotated j ∙ q)
          ∙ ap (λ (l : List ℕ). take slot_size (drop (slot_start j) l)) (annotated_there r)
          ∙ stored_part k conv log a b sheet slot_size (slot_start j) (slots_apart j k other)
          ∙ sym (slot_at_there sheet j q)
      cases true false r q =
          slot_at_empty (with_annotation sheet k conv log a b) j (reaches_annotated j ∙ q) ∙ sym (slot_at_empty sheet j q)

  -- and so does every byte of a block's header
  pub with_annotation_header : (p : ℕ) → p % block_size < first_slot_at → get_or (with_annotation sheet k conv log a b) p 0 ≡ get_or sheet p 0
  with_annotation_header p h = cases (reaches sheet k) refl
    where
      cases : (t : Bool) → reaches sheet k ≡ t → get_or (with_annotation sheet k conv log a b) p 0 ≡ get_or sheet p 0
      cases true r = ap (λ (l : List ℕ). get_or l p 0) (annotated_there r) ∙ stored_header k conv log a b sheet p h
      cases false r = ap (λ (l : List ℕ). get_or l p 0) (annotated_nowhere r)

  -- where the slot has the annotations already, nothing changes
  pub with_annotation_same : converted (slot_at sheet k) ≡ conv → logical (slot_at sheet k) ≡ log → parameter_a (slot_at sheet k) ≡ a → parameter_b (slot_at sheet k) ≡ b → with_annotation sheet k conv log a b ≡ sheet
  unfolding converted logical parameter_a parameter_b
  with_annotation_same ec el ea eb = cases (reaches sheet k) refl
    where
      byte : reaches sheet k ≡ true → (i v : ℕ) → i < slot_size → get_or (slot_at sheet k) i 0 ≡ v → set sheet (slot_start k + i) v ≡ sheet
      byte r i v h e =
          ap (set sheet (slot_start k + i)) (sym e ∙ slot_at_byte sheet k i r h) ∙ set-get_or sheet (slot_start k + i) 0

      cases : (t : Bool) → reaches sheet k ≡ t → with_annotation sheet k conv log a b ≡ sheet
      cases true r =
          annotated_there r
          ∙ rw (byte r converted_at conv (omega arith) ec, byte r logical_at log (omega arith) el, byte r parameter_a_at a (omega arith) ea) (byte r parameter_b_at b (omega arith) eb)
      cases false r = annotated_nowhere r
