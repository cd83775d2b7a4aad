-- Laws of a part of a list: n elements from a on.
use mathlib.Core.Path.{◌≡◌, ap, ◌∙◌}
use mathlib.Core.List.{List, [], ◌∷◌}
use Prim.Native.Nat.{ℕ, zero, suc, ◌+◌, ◌-◌, ◌≤◌, min}
use native.Mathlib.Nat.{add-sub_cancel_left}
use native.Mathlib.Decide.{dec_le}
use native.Mathlib.Omega.{arith}
use lib.ListN.{length, take, drop, length-take, length-drop}
use lib.Seq.{take_all, take-nil, take-take, take-add, drop_at, length-take-le}

-- a part from a to a + n, as a slice of the code has it
pub take_to : (bytes : List ℕ) (a n : ℕ) → take (a + n - a) (drop a bytes) ≡ take n (drop a bytes)
take_to bytes a n = ap (λ (k : ℕ). take k (drop a bytes)) (add-sub_cancel_left a n)

-- a part from a to the end
pub take_rest : (bytes : List ℕ) (a : ℕ) → take (length bytes - a) (drop a bytes) ≡ drop a bytes
take_rest bytes a = take_all (length bytes - a) (drop a bytes) (simp length-drop (omega arith))

pub length_part : (bytes : List ℕ) (a n : ℕ) → a + n ≤ length bytes → length (take n (drop a bytes)) ≡ n
length_part bytes a n h = simp (length-take, length-drop) (omega arith)

-- what is left of the first a + n after the first a
pub drop_take : (bytes : List ℕ) (a n : ℕ) → a ≤ length bytes → drop a (take (a + n) bytes) ≡ take n (drop a bytes)
drop_take bytes a n h = ap (drop a) (take-add a n bytes) ∙ drop_at (take a bytes) (take n (drop a bytes)) a (length-take-le a bytes h)

-- a part of the first m
pub part_part : (bytes : List ℕ) (a n m : ℕ) → a + n ≤ m → take n (drop a (take m bytes)) ≡ take n (drop a bytes)
part_part [] a n m h = ap (λ (l : List ℕ). take n (drop a l)) (take-nil m)
part_part (byte ∷ bytes) zero n m h = take-take n m (byte ∷ bytes) (omega arith)
part_part (byte ∷ bytes) (suc a) n zero h = absurd (omega arith)
part_part (byte ∷ bytes) (suc a) n (suc m) h = part_part bytes a n m (omega arith)

-- the first n of the first m
pub take_min : (bytes : List ℕ) (n m : ℕ) → take n (take m bytes) ≡ take (min n m) bytes
take_min bytes n m = cases (dec_le n m)
  where
    cases : Dec (n ≤ m) → take n (take m bytes) ≡ take (min n m) bytes
    cases (yes h) =
        let e : n ≡ min n m = omega arith in
        take-take n m bytes h ∙ ap (λ (k : ℕ). take k bytes) e
    cases (no h) =
        let e : m ≡ min n m = omega arith in
        take_all n (take m bytes) (simp length-take (omega arith)) ∙ ap (λ (k : ℕ). take k bytes) e
