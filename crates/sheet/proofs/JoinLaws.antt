-- Laws of lists that stand one behind the other.
use mathlib.Core.Path.{◌≡◌, sym, ap, ap₂, ◌∙◌}
use mathlib.Core.Logic.{⊎_elim}
use mathlib.Core.List.{List, ◌++◌}
use Prim.Native.Nat.{ℕ, zero, suc, ◌+◌, ◌*◌, ◌≤◌, ◌<◌}
use native.Mathlib.Nat.{mul-zero, mul-suc, mul-le-mul_left, eq-or-lt_of_le, le_of_eq}
use native.Mathlib.Omega.{arith}
use lib.ListN.{length, take, drop, length-append, length-drop}
use lib.Seq.{take_all, take-append-le, drop-append-le, drop_at, take-add}
use Rattle.sheet.specs.Sheet.{join_below}
use Rattle.laws.specs.Bytes.{Bytes}
use Rattle.laws.proofs.ByteLaws.{bytes_nil, bytes_append}

-- the first a elements, and n behind them
pub take_join : (l : List ℕ) (a n : ℕ) {first next : List ℕ} → first ≡ take a l → next ≡ take n (drop a l) → first ++ next ≡ take (a + n) l
take_join l a n p q = ap₂ ◌++◌ p q ∙ sym (take-add a n l)

-- lists that are each a part of one list
pub join_below_take : (f : ℕ → List ℕ) (size : ℕ) (l : List ℕ) (n : ℕ) → ((i : ℕ) → i < n → f i ≡ take size (drop (size * i) l))
    → join_below f n ≡ take (size * n) l
unfolding join_below
join_below_take f size l zero parts = rw mul-zero
join_below_take f size l (suc n) parts =
    take_join l (size * n) size (join_below_take f size l n (λ i h. parts i (omega arith))) (parts n (omega arith))
    ∙ ap (λ (m : ℕ). take m l) (sym (mul-suc size n))

pub join_below_bytes : (f : ℕ → List ℕ) (n : ℕ) → ((i : ℕ) → i < n → Bytes (f i)) → Bytes (join_below f n)
unfolding join_below
join_below_bytes f zero bytes = bytes_nil
join_below_bytes f (suc n) bytes = bytes_append (join_below f n) (f n) (join_below_bytes f n (λ i h. bytes i (omega arith))) (bytes n (omega arith))

-- lists of one length
module _ (f : ℕ → List ℕ) (size : ℕ) (sized : (i : ℕ) → length (f i) ≡ size) where
  pub join_below_length : (n : ℕ) → length (join_below f n) ≡ size * n
  unfolding join_below
  join_below_length zero = sym (mul-zero size)
  join_below_length (suc n) = length-append (join_below f n) (f n) ∙ ap₂ ◌+◌ (join_below_length n) (sized n) ∙ sym (mul-suc size n)

  pub join_below_part : (n i : ℕ) → i < n → take size (drop (size * i) (join_below f n)) ≡ f i
  unfolding join_below
  join_below_part zero i h = absurd (omega arith)
  join_below_part (suc n) i h = ⊎_elim last (λ l. before l (join_below_part n i l)) (eq-or-lt_of_le (omega arith))
    where
      last : i ≡ n → take size (drop (size * i) (join_below f n ++ f n)) ≡ f i
      last e =
          ap (take size) (drop_at (join_below f n) (f n) (size * i) (join_below_length n ∙ ap (λ (m : ℕ). size * m) (sym e)))
          ∙ take_all size (f n) (le_of_eq (sized n))
          ∙ ap f (sym e)

      before : i < n → take size (drop (size * i) (join_below f n)) ≡ f i → take size (drop (size * i) (join_below f n ++ f n)) ≡ f i
      before l there =
          let within : size * i + size ≤ size * n = omega (arith, mul-le-mul_left {m = suc i} {n = n} size l, mul-suc size i) in
          ap (take size) (drop-append-le (size * i) (join_below f n) (f n) (omega (arith, join_below_length n)))
          ∙ take-append-le size (drop (size * i) (join_below f n)) (f n) (omega (arith, length-drop (size * i) (join_below f n), join_below_length n))
          ∙ there
