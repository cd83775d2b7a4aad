-- Laws of names: where they stand, and when they are the same.
use mathlib.Core.Path.{◌≡◌, refl, sym, ap, ap₂, ◌∙◌}
use mathlib.Core.Bool.{Bool, true, false, false≢true, cond, ◌&&◌, and-eq-true_iff}
use mathlib.Core.List.{List, [], ◌∷◌, ◌++◌}
use Prim.Native.Nat.{ℕ, ◌+◌, ◌-◌, ◌≤◌, ◌<◌, min}
use native.Mathlib.Omega.{arith}
use lib.Dec.{eqb}
use lib.ListN.{length, length-append, take, drop, length-take, length-drop}
use lib.Seq.{drop-drop, take-append_seam, drop-append_seam}
use borrow.Author.Tests.{eqb-true, eq-eqb}
use Rattle.std.proofs.lemmas.List.{take-append-drop}
use Rattle.laws.proofs.BoolLaws.{is_false, same_test}
use Rattle.sheet.specs.Slot.{name_at, name_length_of, name, slot_start, reaches, empty_slot, slot_at}
use Rattle.sheet.specs.Sound.{most_name_length, slot_sound}
use lib.Pointwise.{pointwise}
use Rattle.sheet.specs.Name.{stretch_of, same_bytes}
use Rattle.sheet.specs.declared.names.Stretch.{Stretch}
use Rattle.sheet.proofs.PartLaws.{drop_take, take_min, take_rest}
use Rattle.sheet.proofs.SoundLaws.{sound_name_length_most}
use Rattle.sheet.proofs.SlotLaws.{reaches_within, slot_at_there, slot_at_empty, slot_at_length}

-- a name is at most as long as the slot has room
pub name_length : (sheet : List ℕ) (k : ℕ) → length (name (slot_at sheet k)) ≡ min (name_length_of (slot_at sheet k)) most_name_length
unfolding name
name_length sheet k = simp (length-take, length-drop, slot_at_length sheet k)

-- the name of a sound slot has the length that the slot says
pub name_length_sound : (edition : ℕ) (sheet : List ℕ) (k : ℕ) → slot_sound edition (slot_at sheet k) ≡ true → length (name (slot_at sheet k)) ≡ name_length_of (slot_at sheet k)
name_length_sound edition sheet k sound = omega (arith, name_length sheet k, sound_name_length_most edition (slot_at sheet k) sound)

-- a slot that the bytes do not reach has no name
pub name_nowhere : (sheet : List ℕ) (k : ℕ) → reaches sheet k ≡ false → name (slot_at sheet k) ≡ []
unfolding name name_length_of empty_slot
name_nowhere sheet k r = ap name (slot_at_empty sheet k r)

-- where the bytes reach, the name's bytes stand 24 bytes into the slot
pub name_there : (sheet : List ℕ) (k : ℕ) → reaches sheet k ≡ true
    → name (slot_at sheet k) ≡ take (length (name (slot_at sheet k))) (drop (slot_start k + name_at) sheet)
unfolding name
name_there sheet k r =
    ap (λ (slot : List ℕ). take n (drop name_at slot)) (slot_at_there sheet k r)
    ∙ ap (take n) (drop_take (drop (slot_start k) sheet) name_at most_name_length (simp length-drop (omega (arith, reaches_within sheet k r))))
    ∙ ap (λ (l : List ℕ). take n (take most_name_length l)) (drop-drop name_at (slot_start k) sheet)
    ∙ take_min (drop (slot_start k + name_at) sheet) n most_name_length
    ∙ ap (λ (m : ℕ). take m (drop (slot_start k + name_at) sheet)) (sym (name_length sheet k))
  where
    n : ℕ
    n = name_length_of (slot_at sheet k)

-- a stretch from its two numbers
pub stretch_is : {s t m n : ℕ} → s ≡ t → m ≡ n → ◌≡◌ {A = Stretch} (record { start = s; len = m }) (record { start = t; len = n })
stretch_is p q = λ i. record { start = p i; len = q i }

pub stretch_of_nowhere : (sheet : List ℕ) (k : ℕ) → reaches sheet k ≡ false → stretch_of sheet k ≡ record { start = 0; len = 0 }
unfolding stretch_of
stretch_of_nowhere sheet k r =
    stretch_is (ap (λ (t : Bool). cond t (slot_start k + name_at) 0) r) (ap length (name_nowhere sheet k r))

pub stretch_of_there : (sheet : List ℕ) (k : ℕ) → reaches sheet k ≡ true
    → stretch_of sheet k ≡ record { start = slot_start k + name_at; len = min (name_length_of (slot_at sheet k)) most_name_length }
unfolding stretch_of
stretch_of_there sheet k r = stretch_is (ap (λ (t : Bool). cond t (slot_start k + name_at) 0) r) (name_length sheet k)

-- the stretch lies within the sheet
pub stretch_of_within : (sheet : List ℕ) (k : ℕ) → (stretch_of sheet k).start + (stretch_of sheet k).len ≤ length sheet
stretch_of_within sheet k = cases (reaches sheet k) refl
  where
    cases : (t : Bool) → reaches sheet k ≡ t → (stretch_of sheet k).start + (stretch_of sheet k).len ≤ length sheet
    cases true r = rw (stretch_of_there sheet k r) (omega (arith, reaches_within sheet k r))
    cases false r = rw (stretch_of_nowhere sheet k r) (omega arith)

-- and its bytes are the name
pub stretch_of_name : (sheet : List ℕ) (k : ℕ) → take (stretch_of sheet k).len (drop (stretch_of sheet k).start sheet) ≡ name (slot_at sheet k)
unfolding stretch_of
stretch_of_name sheet k = cases (reaches sheet k) refl
  where
    cases : (t : Bool) → reaches sheet k ≡ t → take (stretch_of sheet k).len (drop (stretch_of sheet k).start sheet) ≡ name (slot_at sheet k)
    cases true r =
        ap (λ (t : Bool). take (length (name (slot_at sheet k))) (drop (cond t (slot_start k + name_at) 0) sheet)) r
        ∙ sym (name_there sheet k r)
    cases false r =
        ap (λ (l : List ℕ). take (length l) (drop (cond (reaches sheet k) (slot_start k + name_at) 0) sheet)) (name_nowhere sheet k r)
        ∙ sym (name_nowhere sheet k r)

-- lists of the same bytes are equal
pub same_bytes_equal : (xs ys : List ℕ) → same_bytes xs ys ≡ true → xs ≡ ys
unfolding same_bytes
same_bytes_equal [] [] e = refl
same_bytes_equal [] (y ∷ ys) e = absurd (false≢true e)
same_bytes_equal (x ∷ xs) [] e = absurd (false≢true e)
same_bytes_equal (x ∷ xs) (y ∷ ys) e =
    ap₂ ◌∷◌ (eqb-true x y ((and-eq-true_iff (eqb x y) (same_bytes xs ys)).0 e).0) (same_bytes_equal xs ys ((and-eq-true_iff (eqb x y) (same_bytes xs ys)).0 e).1)

-- the bytes are compared as `==` of slices does it
pub same_bytes_pointwise : (xs ys : List ℕ) → pointwise eqb xs ys ≡ same_bytes xs ys
unfolding same_bytes
same_bytes_pointwise [] [] = refl
same_bytes_pointwise [] (y ∷ ys) = refl
same_bytes_pointwise (x ∷ xs) [] = refl
same_bytes_pointwise (x ∷ xs) (y ∷ ys) = ap (λ (t : Bool). eqb x y && t) (same_bytes_pointwise xs ys)

same_bytes_refl : (xs : List ℕ) → same_bytes xs xs ≡ true
unfolding same_bytes
same_bytes_refl [] = refl
same_bytes_refl (x ∷ xs) = rw (eq-eqb x x refl) (same_bytes_refl xs)

-- and equal lists have the same bytes
pub same_bytes_true : (xs ys : List ℕ) → xs ≡ ys → same_bytes xs ys ≡ true
same_bytes_true xs ys e = rw (← e) (same_bytes_refl xs)

-- lists that differ have not
pub same_bytes_false : (xs ys : List ℕ) → (xs ≡ ys → ⊥) → same_bytes xs ys ≡ false
same_bytes_false xs ys n = is_false (same_bytes xs ys) (λ e. n (same_bytes_equal xs ys e))

-- a whole that is shorter than a suffix does not end in it
pub joined_short : (whole front suffix : List ℕ) → length whole < length suffix → same_bytes whole (front ++ suffix) ≡ false
joined_short whole front suffix h =
    same_bytes_false whole (front ++ suffix) (λ e. omega (arith, ap length e, length-append front suffix))

-- any other is a front and a suffix where its end is the suffix and what stands before that is the front
module _ (whole front suffix : List ℕ) (n : ℕ) (size : n + length suffix ≡ length whole) where
  abbrev ends : Bool
  ends = pointwise eqb (take (length whole - n) (drop n whole)) suffix

  abbrev begins : Bool
  begins = pointwise eqb (take n whole) front

  joined_parts : same_bytes whole (front ++ suffix) ≡ (same_bytes (drop n whole) suffix && same_bytes (take n whole) front)
  joined_parts = same_test _ _
      (λ e.
      let joined = same_bytes_equal whole (front ++ suffix) e in
      let before : n ≡ length front = omega (arith, ap length joined, length-append front suffix, size) in
      (and-eq-true_iff _ _).1 (
        same_bytes_true _ _ (ap₂ drop before joined ∙ drop-append_seam front suffix),
        same_bytes_true _ _ (ap₂ take before joined ∙ take-append_seam front suffix),
      ))
      (λ e.
      let parts = (and-eq-true_iff _ _).0 e in
      same_bytes_true whole (front ++ suffix)
      (sym (take-append-drop n whole) ∙ ap₂ ◌++◌ (same_bytes_equal _ _ parts.1) (same_bytes_equal _ _ parts.0)))

  joined_tests : same_bytes whole (front ++ suffix) ≡ (ends && begins)
  joined_tests =
      joined_parts
      ∙ ap₂ ◌&&◌
      (sym (same_bytes_pointwise (take (length whole - n) (drop n whole)) suffix ∙ ap (λ (rest : List ℕ). same_bytes rest suffix) (take_rest whole n)))
      (sym (same_bytes_pointwise (take n whole) front))

  pub joined_ending : ends ≡ true → begins ≡ same_bytes whole (front ++ suffix)
  joined_ending e = sym (joined_tests ∙ ap (λ (t : Bool). t && begins) e)

  pub joined_otherwise : ends ≡ false → false ≡ same_bytes whole (front ++ suffix)
  joined_otherwise e = sym (joined_tests ∙ ap (λ (t : Bool). t && begins) e)
