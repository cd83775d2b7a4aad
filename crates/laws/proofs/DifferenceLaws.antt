-- Integers as differences of natural numbers, `sub_ℕ a b` for a − b: what is said of integers becomes a sum of natural numbers, which omega reads.
use Prim.Native.Nat.{ℕ, zero, suc, ◌+◌, ◌*◌, ◌-◌, ◌<◌, ◌≤◌}
use native.Mathlib.Omega.{arith}
use native.Mathlib.Nat.{add-mul}
use native.Mathlib.Decide.{dec_lt}
use mathlib.Core.Path.{◌≡◌, refl, sym, ap, ap₂, ◌∙◌}
use mathlib.Core.Bool.{Bool, cond}
use borrow.Author.Tests.{lt-ltb, le-ltb}
use lib.Dec.{ltb}
use lib.IntN.{ℤ, pos, negsuc, sub_ℕ, ◌+ℤ◌, ◌-ℤ◌, ◌*ℤ◌, neg_ℤ, pos-ne-negsuc}

pub sub_below : (a b : ℕ) → a < b → sub_ℕ a b ≡ negsuc (b - suc a)
sub_below a b h = ap (λ (t : Bool). cond t (negsuc (b - suc a)) (pos (a - b))) (lt-ltb a b h)

pub sub_above : (a b : ℕ) → b ≤ a → sub_ℕ a b ≡ pos (a - b)
sub_above a b h = ap (λ (t : Bool). cond t (negsuc (b - suc a)) (pos (a - b))) (le-ltb a b h)

-- a number is below another, or not
pub below? {ℓ} : {X : Type ℓ} (a b : ℕ) → (a < b → X) → (b ≤ a → X) → X
below? {X} a b f g = go (dec_lt a b)
  where
    go : Dec (a < b) → X
    go (yes h) = f h
    go (no h) = g (omega arith)

-- a natural number, and one below 0, are differences
pub pos_sub : (n : ℕ) → pos n ≡ sub_ℕ n 0
pos_sub n = sym (sub_above n 0 (omega arith) ∙ ap pos (omega arith))

pub negsuc_sub : (n : ℕ) → negsuc n ≡ sub_ℕ 0 (suc n)
negsuc_sub n = sym (sub_below 0 (suc n) (omega arith) ∙ ap negsuc (omega arith))

-- two differences are equal where the crossed sums are
pub sub_eq : (a b c d : ℕ) → a + d ≡ c + b → sub_ℕ a b ≡ sub_ℕ c d
sub_eq a b c d e =
    below? a b
    (λ h. sub_below a b h ∙ ap negsuc (omega arith) ∙ sym (sub_below c d (omega arith)))
    (λ h. sub_above a b h ∙ ap pos (omega arith) ∙ sym (sub_above c d (omega arith)))

-- every integer is a difference
pub record Difference (z : ℤ) : Type 0 where
  pub more : ℕ
  pub less : ℕ
  pub is : z ≡ sub_ℕ more less

pub difference : (z : ℤ) → Difference z
difference (pos n) = record { more = n; less = 0; is = pos_sub n }
difference (negsuc n) = record { more = 0; less = suc n; is = negsuc_sub n }

-- and the crossed sums are equal where two differences are
pub sub_inj : (a b c d : ℕ) → sub_ℕ a b ≡ sub_ℕ c d → a + d ≡ c + b
sub_inj a b c d e =
    below? a b
    (λ h. below? c d (λ k. both_below h k (sym (sub_below a b h) ∙ e ∙ sub_below c d k)) (λ k. absurd (pos-ne-negsuc (c - d) (b - suc a) (sym (sub_above c d k) ∙ sym e ∙ sub_below a b h))))
    (λ h. below? c d (λ k. absurd (pos-ne-negsuc (a - b) (d - suc c) (sym (sub_above a b h) ∙ e ∙ sub_below c d k))) (λ k. both_above h k (sym (sub_above a b h) ∙ e ∙ sub_above c d k)))
  where
    both_below : a < b → c < d → negsuc (b - suc a) ≡ negsuc (d - suc c) → a + d ≡ c + b
    both_below h k p = let q : b - suc a ≡ d - suc c = cc in omega arith

    both_above : b ≤ a → d ≤ c → pos (a - b) ≡ pos (c - d) → a + d ≡ c + b
    both_above h k p = let q : a - b ≡ c - d = cc in omega arith

-- the sum and a multiple of differences
pub sub_add : (a b c d : ℕ) → sub_ℕ a b +ℤ sub_ℕ c d ≡ sub_ℕ (a + c) (b + d)
sub_add a b c d =
    below? a b
    (λ h.
    below? c d
    (λ k. ap₂ ◌+ℤ◌ (sub_below a b h) (sub_below c d k) ∙ ap negsuc (omega arith) ∙ sym (sub_below (a + c) (b + d) (omega arith)))
    (λ k. ap₂ ◌+ℤ◌ (sub_below a b h) (sub_above c d k) ∙ sub_eq (c - d) (suc (b - suc a)) (a + c) (b + d) (omega arith)))
    (λ h.
    below? c d
    (λ k. ap₂ ◌+ℤ◌ (sub_above a b h) (sub_below c d k) ∙ sub_eq (a - b) (suc (d - suc c)) (a + c) (b + d) (omega arith))
    (λ k. ap₂ ◌+ℤ◌ (sub_above a b h) (sub_above c d k) ∙ ap pos (omega arith) ∙ sym (sub_above (a + c) (b + d) (omega arith))))

neg_pos : (n : ℕ) → neg_ℤ (pos n) ≡ sub_ℕ 0 n
neg_pos zero = refl
neg_pos (suc n) = negsuc_sub n

pub sub_mul : (a b c : ℕ) → sub_ℕ a b *ℤ pos c ≡ sub_ℕ (a * c) (b * c)
sub_mul a b c =
    below? a b
    (λ h.
    ap (λ (z : ℤ). z *ℤ pos c) (sub_below a b h) ∙ neg_pos (suc (b - suc a) * c) ∙ sub_eq 0 (suc (b - suc a) * c) (a * c) (b * c) (split a (suc (b - suc a)) b (omega arith)))
    (λ h.
    ap (λ (z : ℤ). z *ℤ pos c) (sub_above a b h) ∙ pos_sub ((a - b) * c) ∙ sub_eq ((a - b) * c) 0 (a * c) (b * c) (split' b (a - b) a (omega arith)))
  where
    parts : (x y z : ℕ) → z ≡ x + y → z * c ≡ x * c + y * c
    parts x y z e = ap (λ (n : ℕ). n * c) e ∙ add-mul x y c

    split : (x y z : ℕ) → z ≡ x + y → 0 + z * c ≡ x * c + y * c
    split x y z e = let p : z * c ≡ x * c + y * c = parts x y z e in omega arith

    split' : (x y z : ℕ) → z ≡ x + y → y * c + x * c ≡ z * c + 0
    split' x y z e = let p : z * c ≡ x * c + y * c = parts x y z e in omega arith

-- a natural number more and a natural number less
pub sub_add_pos : (a b n : ℕ) → sub_ℕ a b +ℤ pos n ≡ sub_ℕ (a + n) b
sub_add_pos a b n = ap (λ (z : ℤ). sub_ℕ a b +ℤ z) (pos_sub n) ∙ sub_add a b n 0 ∙ sub_eq (a + n) (b + 0) (a + n) b (omega arith)

pub sub_sub_pos : (a b n : ℕ) → sub_ℕ a b -ℤ pos n ≡ sub_ℕ a (b + n)
sub_sub_pos a b n = ap (λ (z : ℤ). sub_ℕ a b +ℤ z) (neg_pos n) ∙ sub_add a b 0 n ∙ sub_eq (a + 0) (b + n) a (b + n) (omega arith)

-- two tests that hold of the same numbers are the same
pub ltb_same : (a b c d : ℕ) → (a < b → c < d) → (c < d → a < b) → ltb a b ≡ ltb c d
ltb_same a b c d f g =
    below? a b (λ h. lt-ltb a b h ∙ sym (lt-ltb c d (f h)))
    (λ h. le-ltb a b h ∙ sym (le-ltb c d (below? c d (λ k. absurd (let l = g k in omega arith)) (λ k. k))))
