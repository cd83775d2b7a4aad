-- Laws of the number that bytes stand for: the sign in front, and what the length says of the magnitude.
-- Assumes nothing.
use mathlib.Core.Path.{◌≡◌, refl, sym, ap, ap₂, subst, ◌∙◌}
use mathlib.Core.Logic.{◌⊎◌, inl, inr}
use mathlib.Core.Bool.{Bool, true, false, cond}
use mathlib.Core.List.{List, [], ◌∷◌, ◌++◌, map}
use Prim.Native.Nat.{ℕ, zero, suc, ◌+◌, ◌*◌, ◌-◌, ◌^◌, ◌≤◌, ◌<◌}
use native.Mathlib.Nat.{pow-suc, zero-mul, zero-add, add-mul, sub-add_cancel, le_of_suc-le-suc, not-suc-le_self, not-suc-le-zero, mul-le-mul_right}
use native.Mathlib.Numerals.{add-one}
use native.Mathlib.Omega.{arith}
use lib.Dec.{leb, eqb}
use lib.IntN.{pos, negsuc, sub_ℕ}
use lib.ListN.{length, get_or, drop, replicate}
use lib.Arith.{digits_lt}
use lib.Pow.{pow-add}
use lib.Seq.{drop-cons}
use lib.Signed.{mag}
use borrow.Author.Tests.{leb-true, leb-false, eqb-true, eqb-false, eq-eqb, ne_eqb}
use Rattle.laws.proofs.DifferenceLaws.{sub_below, sub_above, sub_eq}
use Rattle.decimal_bytes.specs.Number.{unsigned, is_negative, number}
use Rattle.decimal_bytes.specs.Significant.{sign_byte, significant}
use Rattle.laws.proofs.ByteLaws.{EachByte}
use Rattle.decimal_bytes.proofs.UnsignedLaws.{pow_split, unsigned-<}

-- ---- the number by its sign

pub number_by : (bs : List ℕ) (negative : Bool) → is_negative bs ≡ negative → number bs ≡ sub_ℕ (unsigned bs) (cond negative (256 ^ length bs) 0)
unfolding number
number_by bs negative e = ap (λ (t : Bool). sub_ℕ (unsigned bs) (cond t (256 ^ length bs) 0)) e

pub number_pos : (bs : List ℕ) → is_negative bs ≡ false → number bs ≡ pos (unsigned bs)
number_pos bs e = number_by bs false e ∙ sub_above (unsigned bs) 0 (omega arith) ∙ ap pos (omega arith)

pub number_neg : (bs : List ℕ) → is_negative bs ≡ true → EachByte bs → number bs ≡ negsuc (256 ^ length bs - suc (unsigned bs))
number_neg bs e h = number_by bs true e ∙ sub_below (unsigned bs) (256 ^ length bs) (unsigned-< bs h)

-- ---- bytes of the sign in front change nothing

pub is_negative_sign : (bs : List ℕ) → leb 128 (sign_byte bs) ≡ is_negative bs
is_negative_sign bs = go (is_negative bs)
  where
    go : (t : Bool) → leb 128 (cond t 255 0) ≡ t
    go true = refl
    go false = refl

number_front : (x : ℕ) (bs : List ℕ) → x ≡ sign_byte bs → number (x ∷ bs) ≡ number bs
number_front x bs s = ap (λ (y : ℕ). number (y ∷ bs)) s ∙ go (is_negative bs) refl
  where
    go : (t : Bool) → is_negative bs ≡ t → number (sign_byte bs ∷ bs) ≡ number bs
    go true e =
        ap (λ (t : Bool). number (cond t 255 0 ∷ bs)) e
        ∙ number_by (255 ∷ bs) true refl
        ∙ ap (sub_ℕ (255 * 256 ^ length bs + unsigned bs)) (pow_split (length bs))
        ∙ sub_eq (255 * 256 ^ length bs + unsigned bs) (255 * 256 ^ length bs + 256 ^ length bs) (unsigned bs) (256 ^ length bs) (omega arith)
        ∙ sym (number_by bs true e)
    go false e =
        ap (λ (t : Bool). number (cond t 255 0 ∷ bs)) e
        ∙ number_by (0 ∷ bs) false refl
        ∙ ap (λ (n : ℕ). sub_ℕ (n + unsigned bs) 0) (zero-mul (256 ^ length bs))
        ∙ ap (λ (n : ℕ). sub_ℕ n 0) (zero-add (unsigned bs))
        ∙ sym (number_by bs false e)

-- a number with m bytes of its sign in front
abbrev pub extended : ℕ → List ℕ → List ℕ
extended m bs = replicate m (sign_byte bs) ++ bs

pub is_negative_extended : (m : ℕ) (bs : List ℕ) → is_negative (extended m bs) ≡ is_negative bs
is_negative_extended zero bs = refl
is_negative_extended (suc m) bs = is_negative_sign bs

pub number_extended : (m : ℕ) (bs : List ℕ) → number (extended m bs) ≡ number bs
number_extended zero bs = refl
number_extended (suc m) bs =
    number_front (sign_byte bs) (extended m bs) (ap (λ (t : Bool). cond t 255 0) (sym (is_negative_extended m bs)))
    ∙ number_extended m bs

-- ---- the bytes that are needed

pub number_significant : (bs : List ℕ) → number (significant bs) ≡ number bs
unfolding significant
number_significant [] = refl
number_significant (b ∷ []) = refl
number_significant (b ∷ c ∷ bs) = go (eqb b (sign_byte (c ∷ bs))) refl (number_significant (c ∷ bs))
  where
    go : (t : Bool) → eqb b (sign_byte (c ∷ bs)) ≡ t → number (significant (c ∷ bs)) ≡ number (c ∷ bs)
        → number (cond t (significant (c ∷ bs)) (b ∷ c ∷ bs)) ≡ number (b ∷ c ∷ bs)
    go true e h = h ∙ sym (number_front b (c ∷ bs) (eqb-true b (sign_byte (c ∷ bs)) e))
    go false e h = refl

pub significant_idem : (bs : List ℕ) → significant (significant bs) ≡ significant bs
unfolding significant
significant_idem [] = refl
significant_idem (b ∷ []) = refl
significant_idem (b ∷ c ∷ bs) = go (eqb b (sign_byte (c ∷ bs))) refl (significant_idem (c ∷ bs))
  where
    go : (t : Bool) → eqb b (sign_byte (c ∷ bs)) ≡ t → significant (significant (c ∷ bs)) ≡ significant (c ∷ bs)
        → significant (cond t (significant (c ∷ bs)) (b ∷ c ∷ bs)) ≡ cond t (significant (c ∷ bs)) (b ∷ c ∷ bs)
    go true e h = h
    go false e h = ap (λ (t : Bool). cond t (significant (c ∷ bs)) (b ∷ c ∷ bs)) e

-- some bytes are needed, and no more than there are
pub length_significant : (b : ℕ) (bs : List ℕ) → (1 ≤ length (significant (b ∷ bs))) × (length (significant (b ∷ bs)) ≤ suc (length bs))
unfolding significant
length_significant b [] = (omega arith, omega arith)
length_significant b (c ∷ bs) = go (eqb b (sign_byte (c ∷ bs))) (length_significant c bs)
  where
    go : (t : Bool) → (1 ≤ length (significant (c ∷ bs))) × (length (significant (c ∷ bs)) ≤ suc (length bs))
        → (1 ≤ length (cond t (significant (c ∷ bs)) (b ∷ c ∷ bs))) × (length (cond t (significant (c ∷ bs)) (b ∷ c ∷ bs)) ≤ suc (suc (length bs)))
    go true h = (h.0, omega arith)
    go false h = (omega arith, omega arith)

-- of bytes that are all needed, the first does not repeat the sign of the others
significant_first : (b c : ℕ) (bs : List ℕ) → significant (b ∷ c ∷ bs) ≡ b ∷ c ∷ bs → eqb b (sign_byte (c ∷ bs)) ≡ false
unfolding significant
significant_first b c bs h = go (eqb b (sign_byte (c ∷ bs))) h
  where
    go : (t : Bool) → cond t (significant (c ∷ bs)) (b ∷ c ∷ bs) ≡ b ∷ c ∷ bs → t ≡ false
    go true e = absurd (not-suc-le_self _ (subst (λ (n : ℕ). n ≤ suc (length bs)) (ap length e) (length_significant c bs).1))
    go false e = refl

-- ---- the magnitude, which is n of n and of -(n + 1), by the bytes

-- the bytes of a number that is not negative, and the complements of those of one that is
abbrev folded : Bool → List ℕ → List ℕ
folded t bs = map (λ b. cond t (255 - b) b) bs

length_folded : (t : Bool) (bs : List ℕ) → length (folded t bs) ≡ length bs
length_folded t [] = refl
length_folded t (b ∷ bs) = ap suc (length_folded t bs)

each_folded : (t : Bool) (bs : List ℕ) → EachByte bs → EachByte (folded t bs)
each_folded t [] h = tt
each_folded true (b ∷ bs) h = (omega arith, each_folded true bs h.1)
each_folded false (b ∷ bs) h = (h.0, each_folded false bs h.1)

unsigned_same : (bs : List ℕ) → unsigned (folded false bs) ≡ unsigned bs
unsigned_same [] = refl
unsigned_same (b ∷ bs) = ap₂ (λ (n u : ℕ). b * 256 ^ n + u) (length_folded false bs) (unsigned_same bs)

unsigned_complement : (bs : List ℕ) → EachByte bs → unsigned (folded true bs) + suc (unsigned bs) ≡ 256 ^ length bs
unsigned_complement [] h = refl
unsigned_complement (b ∷ bs) h =
    let N : ℕ = 256 ^ length bs in
    let digit : (255 - b) * N + b * N ≡ 255 * N
    = sym (add-mul (255 - b) b N) ∙ ap (λ (n : ℕ). n * N) (sub-add_cancel (le_of_suc-le-suc h.0)) in
    ap (λ (n : ℕ). (255 - b) * 256 ^ n + unsigned (folded true bs) + suc (b * N + unsigned bs)) (length_folded true bs)
    ∙ omega (arith, digit, pow_split (length bs), unsigned_complement bs h.1)

mag_number : (bs : List ℕ) → EachByte bs → mag (number bs) ≡ unsigned (folded (is_negative bs) bs)
mag_number bs h = go (is_negative bs) refl
  where
    go : (t : Bool) → is_negative bs ≡ t → mag (number bs) ≡ unsigned (folded t bs)
    go true e = ap mag (number_neg bs e h) ∙ omega (arith, unsigned_complement bs h)
    go false e = ap mag (number_pos bs e) ∙ sym (unsigned_same bs)

-- ---- what the length says of the magnitude

-- the sign bit of n bytes
pub sign_bit : (n : ℕ) → 128 * 256 ^ n ≡ 2 ^ (8 * suc n - 1)
sign_bit n = ap (λ (m : ℕ). 128 * m) (bits n) ∙ sym (pow-add 2 7 (8 * n)) ∙ ap (λ (m : ℕ). 2 ^ m) (omega arith)
  where
    bits : (n : ℕ) → 256 ^ n ≡ 2 ^ (8 * n)
    bits zero = refl
    bits (suc n) = pow-suc 256 n ∙ ap (λ (m : ℕ). m * 256) (bits n) ∙ sym (pow-add 2 (8 * n) 8) ∙ ap (λ (m : ℕ). 2 ^ m) (omega arith)

-- the first byte, folded, has no sign bit
folded_first : (b : ℕ) → b < 256 → cond (leb 128 b) (255 - b) b < 128
folded_first b h = go (leb 128 b) refl
  where
    go : (t : Bool) → leb 128 b ≡ t → cond t (255 - b) b < 128
    go true e = omega (arith, leb-true 128 b e)
    go false e = leb-false 128 b e

-- and where it does not repeat the sign of the second, one of the two is not small
folded_needed : (b c : ℕ) (bs : List ℕ) → b < 256 → c < 256 → eqb b (sign_byte (c ∷ bs)) ≡ false
    → (1 ≤ cond (leb 128 b) (255 - b) b) ⊎ (128 ≤ cond (leb 128 b) (255 - c) c)
folded_needed b c bs h k e = go (leb 128 b) refl (leb 128 c) refl (eqb-false b (sign_byte (c ∷ bs)) e)
  where
    go : (t : Bool) → leb 128 b ≡ t → (u : Bool) → leb 128 c ≡ u → (b ≡ cond u 255 0 → ⊥) → (1 ≤ cond t (255 - b) b) ⊎ (128 ≤ cond t (255 - c) c)
    go true p true q n = inl (omega arith)
    go true p false q n = inr (omega (arith, leb-false 128 c q))
    go false p true q n = inr (leb-true 128 c q)
    go false p false q n = inl (omega arith)

unsigned_needed : (x y : ℕ) (bs : List ℕ) → (1 ≤ x) ⊎ (128 ≤ y) → 128 * 256 ^ length bs ≤ unsigned (x ∷ y ∷ bs)
unsigned_needed x y bs (inl h) = omega (arith, mul-le-mul_right (256 ^ suc (length bs)) h, pow-suc 256 (length bs))
unsigned_needed x y bs (inr h) = omega (arith, mul-le-mul_right (256 ^ length bs) h)

-- the magnitude of n bytes is below their sign bit
pub magnitude-< : (b : ℕ) (bs : List ℕ) → EachByte (b ∷ bs) → mag (number (b ∷ bs)) < 128 * 256 ^ length bs
magnitude-< b bs h =
    let t : Bool = leb 128 b in
    subst (λ (m : ℕ). m < 128 * 256 ^ length bs) (sym (mag_number (b ∷ bs) h))
    (subst (λ (n : ℕ). cond t (255 - b) b * 256 ^ length (folded t bs) + unsigned (folded t bs) < 128 * 256 ^ n) (length_folded t bs)
    (digits_lt (folded_first b h.0) (unsigned-< (folded t bs) (each_folded t bs h.1))))

-- and where all of them are needed, it is not below that of one byte less
pub magnitude-≥ : (b c : ℕ) (bs : List ℕ) → EachByte (b ∷ c ∷ bs) → significant (b ∷ c ∷ bs) ≡ b ∷ c ∷ bs
    → 128 * 256 ^ length bs ≤ mag (number (b ∷ c ∷ bs))
magnitude-≥ b c bs h s =
    let t : Bool = leb 128 b in
    subst (λ (m : ℕ). 128 * 256 ^ length bs ≤ m) (sym (mag_number (b ∷ c ∷ bs) h))
    (subst (λ (n : ℕ). 128 * 256 ^ n ≤ unsigned (folded t (b ∷ c ∷ bs))) (length_folded t bs)
    (unsigned_needed _ _ (folded t bs) (folded_needed b c bs h.0 h.1.0 (significant_first b c bs s))))

-- ---- the bytes that are needed, found from the front

pub significant_short : (bs : List ℕ) → length bs ≤ 1 → significant bs ≡ bs
unfolding significant
significant_short [] h = refl
significant_short (b ∷ []) h = refl
significant_short (b ∷ c ∷ bs) h = absurd (not-suc-le-zero (le_of_suc-le-suc h))

module _ (bs : List ℕ) (at : ℕ) (within : at + 1 < length bs) where
  rest : List ℕ
  rest = get_or bs (at + 1) 0 ∷ drop (suc (at + 1)) bs

  rest_is : drop (at + 1) bs ≡ rest
  unfolding rest
  rest_is = drop-cons bs (at + 1) 0 within

  both_are : drop at bs ≡ get_or bs at 0 ∷ rest
  both_are =
      drop-cons bs at 0 (omega arith)
      ∙ ap (λ (l : List ℕ). get_or bs at 0 ∷ l) (ap (λ (n : ℕ). drop n bs) (sym (add-one at)) ∙ rest_is)

  significant_by : (t : Bool) → eqb (get_or bs at 0) (sign_byte rest) ≡ t → significant (drop at bs) ≡ cond t (significant rest) (get_or bs at 0 ∷ rest)
  unfolding significant rest
  significant_by t e = ap significant both_are ∙ ap (λ (u : Bool). cond u (significant rest) (get_or bs at 0 ∷ rest)) e

  pub significant_next : get_or bs at 0 ≡ sign_byte (drop (at + 1) bs) → significant (drop at bs) ≡ significant (drop (at + 1) bs)
  significant_next e = significant_by true (eq-eqb _ _ (e ∙ ap sign_byte rest_is)) ∙ ap significant (sym rest_is)

  pub significant_stop : (get_or bs at 0 ≡ sign_byte (drop (at + 1) bs) → ⊥) → significant (drop at bs) ≡ drop at bs
  significant_stop e = significant_by false (ne_eqb _ _ (λ d. e (d ∙ ap sign_byte (sym rest_is)))) ∙ sym both_are
