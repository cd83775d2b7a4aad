-- Laws of the unsigned number of bytes: bounds, joined lists, and its order, which the first byte that differs decides.
-- Assumes nothing.
use mathlib.Core.Path.{◌≡◌, refl, sym, ap, ap₂, subst, ◌∙◌}
use mathlib.Core.List.{List, [], ◌∷◌, ◌++◌}
use Prim.Native.Nat.{ℕ, zero, suc, ◌+◌, ◌*◌, ◌-◌, ◌^◌, ◌<◌}
use native.Mathlib.Nat.{add_assoc, add-mul, mul_assoc, mul_comm, one-le-pow, pow-suc, zero-mul, zero-add, suc_inj, suc-ne-zero, le_refl, le-add_right, lt_of_lt_of_le, le_of_suc-le-suc, not-suc-le-zero, add-lt-add_of_le_of_lt}
use native.Mathlib.Omega.{arith}
use lib.Arith.{digits_lt}
use lib.ListN.{length, get_or, take, drop, set, replicate, length-replicate, length-append, length-drop}
use lib.Seq.{drop-cons}
use lib.Pow.{pow-add}
use Rattle.laws.proofs.ByteLaws.{EachByte}
use Rattle.decimal_bytes.specs.Number.{unsigned}

pub each_get_d : (bs : List ℕ) → ((k : ℕ) → get_or bs k 0 < 256) → EachByte bs
each_get_d [] h = tt
each_get_d (b ∷ bs) h = (h 0, each_get_d bs (λ k. h (suc k)))

pub each_append : (p q : List ℕ) → EachByte p → EachByte q → EachByte (p ++ q)
each_append [] q h k = k
each_append (b ∷ p) q h k = (h.0, each_append p q h.1 k)

pub each_replicate : (n b : ℕ) → b < 256 → EachByte (replicate n b)
each_replicate zero b h = tt
each_replicate (suc n) b h = (h, each_replicate n b h)

pub pow_pos256 : (n : ℕ) → 0 < 256 ^ n
pow_pos256 n = one-le-pow n 256 (omega arith)

pub pow_split : (n : ℕ) → 256 ^ suc n ≡ 255 * 256 ^ n + 256 ^ n
pow_split n = pow-suc 256 n ∙ omega arith

-- bytes stand for less than 256^length
pub unsigned-< : (bs : List ℕ) → EachByte bs → unsigned bs < 256 ^ length bs
unsigned-< [] h = omega arith
unsigned-< (b ∷ bs) h =
    subst (λ (n : ℕ). b * 256 ^ length bs + unsigned bs < n) (mul_comm 256 (256 ^ length bs) ∙ sym (pow-suc 256 (length bs)))
    (digits_lt h.0 (unsigned-< bs h.1))

pub unsigned-++ : (p q : List ℕ) → unsigned (p ++ q) ≡ unsigned p * 256 ^ length q + unsigned q
unsigned-++ [] q = sym (ap (λ (n : ℕ). n + unsigned q) (zero-mul (256 ^ length q)) ∙ zero-add (unsigned q))
unsigned-++ (b ∷ p) q =
    ap₂ (λ (n m : ℕ). b * n + m) (ap (λ (n : ℕ). 256 ^ n) (length-append p q) ∙ pow-add 256 (length p) (length q)) (unsigned-++ p q)
    ∙ regroup (256 ^ length p) (256 ^ length q) (unsigned p) (unsigned q)
  where
    regroup : (m n u v : ℕ) → b * (m * n) + (u * n + v) ≡ (b * m + u) * n + v
    regroup m n u v = rw (add-mul, mul_assoc, add_assoc)

-- of two lists of one length that agree before place i, the one whose byte there is less stands for less
pub unsigned_first : (i : ℕ) (a b : List ℕ) → EachByte a → length a ≡ length b → i < length a → take i a ≡ take i b
    → get_or a i 0 < get_or b i 0 → unsigned a < unsigned b
unsigned_first i [] b h e k t l = absurd (not-suc-le-zero k)
unsigned_first i (x ∷ a) [] h e k t l = absurd (suc-ne-zero (length a) e)
unsigned_first zero (x ∷ a) (y ∷ b) h e k t l =
    rw (← suc_inj e) (lt_of_lt_of_le (digits_lt l (unsigned-< a h.1)) (le-add_right _ _))
unsigned_first (suc i) (x ∷ a) (y ∷ b) h e k t l =
    let heads : x ≡ y = cc in
    let tails : take i a ≡ take i b = cc in
    rw (← suc_inj e, heads)
    (add-lt-add_of_le_of_lt (le_refl _) (unsigned_first i a b h.1 (suc_inj e) (le_of_suc-le-suc k) tails l))

-- the bytes from a place on
pub unsigned_drop : (bs : List ℕ) (at : ℕ) → at < length bs
    → unsigned (drop at bs) ≡ get_or bs at 0 * 256 ^ (length bs - suc at) + unsigned (drop (suc at) bs)
unsigned_drop bs at h =
    ap unsigned (drop-cons bs at 0 h)
    ∙ ap (λ (n : ℕ). get_or bs at 0 * 256 ^ n + unsigned (drop (suc at) bs)) (length-drop (suc at) bs)

-- all bits set
pub unsigned_ones : (n : ℕ) → unsigned (replicate n 255) + 1 ≡ 256 ^ n
unsigned_ones zero = refl
unsigned_ones (suc n) =
    ap (λ (m : ℕ). 255 * 256 ^ m + unsigned (replicate n 255) + 1) (length-replicate n 255)
    ∙ omega (arith, pow_split n, unsigned_ones n)

-- and the last alone
pub unsigned_one : (n : ℕ) → unsigned (set (replicate (suc n) 0) n 1) ≡ 1
unsigned_one zero = refl
unsigned_one (suc n) = omega (arith, unsigned_one n)
