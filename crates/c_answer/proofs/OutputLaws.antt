-- What a call that may be short of output answers and leaves.
use Prim.Native.Nat.{ℕ, ◌≤◌}
use mathlib.Core.Path.{◌≡◌, sym, ap, ◌∙◌}
use mathlib.Core.List.{List, ◌++◌}
use native.Mathlib.Omega.{arith}
use native.Mathlib.Nat.{zero-add}
use borrow.Author.Tests.{le-ltb}
use lib.ListN.{length, drop}
use lib.Seq.{sets, sets-eq}
use Rattle.c_answer.specs.Answers.{packed, RESULT, Effect, result, within, answer, left}

-- numbers stored one after the other from the start
stored : {A : Type 0} (xs lent : List A) → length xs ≤ length lent → sets lent 0 xs ≡ xs ++ drop (length xs) lent
stored xs lent h = sets-eq xs lent 0 (omega (arith, zero-add (length xs))) ∙ ap (λ (n : ℕ). xs ++ drop n lent) (zero-add (length xs))

module _ {A : Type 0} (value : ℕ) (xs lent : List A) where
  -- one that is long enough, with the numbers stored as they are known
  pub enough : {ys : List A} → ys ≡ xs → length xs ≤ length lent → {r : ℕ} → r ≡ packed RESULT value → (r ≡ answer (within (length lent) (result value xs))) × (sets lent 0 ys ≡ left (within (length lent) (result value xs)) lent)
  enough {ys} same h {r} e =
      let w : within (length lent) (result value xs) ≡ result value xs = rw (le-ltb (length lent) (length xs) h) in
      (e ∙ ap answer (sym w), ap (λ (zs : List A). sets lent 0 zs) same ∙ stored xs lent h ∙ ap (λ (f : Effect A). left f lent) (sym w))
