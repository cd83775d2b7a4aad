-- Laws of the order of decimals: each answer exactly where the numbers are so, and the order of two lists of one length and sign.
-- Assumes nothing.
use mathlib.Core.Path.{◌≡◌, refl, sym, ap, ap₂, subst, ◌∙◌}
use mathlib.Core.Logic.{◌↔◌}
use mathlib.Core.Bool.{Bool, true, false, cond, ◌&&◌}
use mathlib.Core.List.{List, [], ◌∷◌, ◌++◌}
use Prim.Native.Nat.{ℕ, suc, ◌+◌, ◌-◌, ◌^◌, ◌≤◌, ◌<◌}
use native.Mathlib.Nat.{le_refl, le_of_lt, le_antisymm, lt_irrefl, not-suc-le-zero, sub-add_cancel}
use native.Mathlib.Numerals.{add-one}
use native.Mathlib.Omega.{arith}
use lib.Dec.{T, leb, ltb}
use lib.IntN.{ℤ, pos, negsuc, sub_ℕ}
use lib.ListN.{length, get_or, take, replicate, length-append, length-replicate}
use lib.Seq.{take_all, take-suc}
use lib.Signed.{lt_z, lt_z_yes, ◌<ℤ◌}
use borrow.Author.Tests.{lt-ltb, le-ltb, ltb-true, ltb-false}
use Rattle.std.specs.Prelude.{Result, Ok, Err}
use Rattle.std.specs.declared.cmp.Ordering.{Ordering}
use Rattle.std.specs.declared.cmp.Ordering.TheVariants.{Less, Equal, Greater}
use Rattle.decimal_bytes.specs.declared.precision.WrongLength.{WrongLength}
use Rattle.decimal_bytes.specs.Precision.{is_length}
use Rattle.decimal_bytes.specs.Number.{unsigned, is_negative, number}
use Rattle.decimal_bytes.specs.Significant.{sign_byte}
use Rattle.decimal_bytes.specs.Order.{order, order_of}
use Rattle.laws.proofs.ByteLaws.{EachByte}
use Rattle.decimal_bytes.proofs.UnsignedLaws.{each_append, each_replicate, unsigned_first}
use Rattle.laws.proofs.BoolLaws.{T_true}
use Rattle.laws.proofs.DifferenceLaws.{sub_below, sub_above, below?}
use Rattle.decimal_bytes.proofs.NumberLaws.{number_by, number_pos, number_neg, is_negative_sign, is_negative_extended, number_extended}

-- ---- the order of whole numbers

lt_z_irrefl : (x : ℤ) → lt_z x x ≡ false
lt_z_irrefl (pos a) = le-ltb a a (le_refl a)
lt_z_irrefl (negsuc a) = le-ltb a a (le_refl a)

lt_z_asym : (x y : ℤ) → lt_z x y ≡ true → lt_z y x ≡ false
lt_z_asym (pos a) (pos b) e = le-ltb b a (le_of_lt (ltb-true a b e))
lt_z_asym (pos a) (negsuc b) e = sym e
lt_z_asym (negsuc a) (pos b) e = refl
lt_z_asym (negsuc a) (negsuc b) e = le-ltb a b (le_of_lt (ltb-true b a e))

lt_z_neither : (x y : ℤ) → lt_z x y ≡ false → lt_z y x ≡ false → x ≡ y
lt_z_neither (pos a) (pos b) e f = ap pos (le_antisymm (ltb-false b a f) (ltb-false a b e))
lt_z_neither (pos a) (negsuc b) e f = cc
lt_z_neither (negsuc a) (pos b) e f = cc
lt_z_neither (negsuc a) (negsuc b) e f = ap negsuc (le_antisymm (ltb-false b a e) (ltb-false a b f))

pub order-< : (x y : ℤ) → lt_z x y ≡ true → order x y ≡ Less
order-< x y e = rw e

pub order-> : (x y : ℤ) → lt_z y x ≡ true → order x y ≡ Greater
order-> x y e = rw (lt_z_asym y x e, e)

pub order-≡ : (x : ℤ) → order x x ≡ Equal
order-≡ x = simp (lt_z_irrefl x)

-- ---- each answer exactly where the numbers are so

-- what an answer says of the two tests that give it
by_tests_lem : (x y : ℤ) (o : Ordering) {A : Type 0} → order x y ≡ o
    → (lt_z x y ≡ true → Less ≡ o → A) → (lt_z y x ≡ true → Greater ≡ o → A) → (x ≡ y → Equal ≡ o → A) → A
by_tests_lem x y o {A} e l g s = go (lt_z x y) refl (lt_z y x) refl e
  where
    go : (t : Bool) → lt_z x y ≡ t → (u : Bool) → lt_z y x ≡ u → cond t Less (cond u Greater Equal) ≡ o → A
    go true p u q r = l p r
    go false p true q r = g q r
    go false p false q r = s (lt_z_neither x y p q) r

holds : {b : Bool} → b ≡ true → T b
holds e = subst T (sym e) tt

pub order_less : (x y : ℤ) → (order x y ≡ Less) ↔ (x <ℤ y)
order_less x y = (
  λ e. lt_z_yes (holds (by_tests_lem x y Less e (λ p r. p) (λ p r. cc) (λ p r. cc))),
  λ h. order-< x y (T_true (lt_z x y) h.lt),
)

pub order_equal : (x y : ℤ) → (order x y ≡ Equal) ↔ (x ≡ y)
order_equal x y =
    (λ e. by_tests_lem x y Equal e (λ p r. cc) (λ p r. cc) (λ p r. p), λ e. ap (order x) (sym e) ∙ order-≡ x)

pub order_greater : (x y : ℤ) → (order x y ≡ Greater) ↔ (y <ℤ x)
order_greater x y = (
  λ e. lt_z_yes (holds (by_tests_lem x y Greater e (λ p r. cc) (λ p r. p) (λ p r. cc))),
  λ h. order-> x y (T_true (lt_z y x) h.lt),
)

-- an order as the answer of comparing decimals has it
abbrev pub answer : Ordering → Result Ordering WrongLength
answer o = Ok o

answer_as : {o p : Ordering} {P : Type 0} → (o ≡ p) ↔ P → (answer o ≡ answer p) ↔ P
answer_as h = (λ e. h.0 cc, λ p. ap answer (h.1 p))

pub order_of_order : (a b : List ℕ) → is_length (length a) ≡ true → is_length (length b) ≡ true → order_of a b ≡ answer (order (number a) (number b))
unfolding order_of
order_of_order a b p q = rw (p, q)

-- of two decimals of any two lengths: each answer exactly where the numbers that they stand for are so
module _ (a b : List ℕ) (p : is_length (length a) ≡ true) (q : is_length (length b) ≡ true) where
  pub order_of_less : (order_of a b ≡ Ok Less) ↔ (number a <ℤ number b)
  order_of_less = rw (order_of_order a b p q) (answer_as (order_less (number a) (number b)))

  pub order_of_equal : (order_of a b ≡ Ok Equal) ↔ (number a ≡ number b)
  order_of_equal = rw (order_of_order a b p q) (answer_as (order_equal (number a) (number b)))

  pub order_of_greater : (order_of a b ≡ Ok Greater) ↔ (number b <ℤ number a)
  order_of_greater = rw (order_of_order a b p q) (answer_as (order_greater (number a) (number b)))

-- ---- two lists of one length and sign

subℕ_monotone : (a b k : ℕ) → a < b → lt_z (sub_ℕ a k) (sub_ℕ b k) ≡ true
subℕ_monotone a b k h = below? b k both_below (λ p. below? a k (between p) both_above)
  where
    both_below : b < k → lt_z (sub_ℕ a k) (sub_ℕ b k) ≡ true
    both_below p = ap₂ lt_z (sub_below a k (omega arith)) (sub_below b k p) ∙ lt-ltb (k - suc b) (k - suc a) (omega arith)

    between : k ≤ b → a < k → lt_z (sub_ℕ a k) (sub_ℕ b k) ≡ true
    between p q = ap₂ lt_z (sub_below a k q) (sub_above b k p)

    both_above : k ≤ a → lt_z (sub_ℕ a k) (sub_ℕ b k) ≡ true
    both_above q = ap₂ lt_z (sub_above a k q) (sub_above b k (omega arith)) ∙ lt-ltb (a - k) (b - k) (omega arith)

-- the first byte that differs decides
pub number_first : (i : ℕ) (a b : List ℕ) → EachByte a → length a ≡ length b → is_negative a ≡ is_negative b → i < length a
    → take i a ≡ take i b → get_or a i 0 < get_or b i 0 → lt_z (number a) (number b) ≡ true
number_first i a b h e s k t l =
    ap₂ lt_z (number_by a (is_negative b) s)
    (number_by b (is_negative b) refl ∙ ap (λ (n : ℕ). sub_ℕ (unsigned b) (cond (is_negative b) (256 ^ n) 0)) (sym e))
    ∙ subℕ_monotone (unsigned a) (unsigned b) (cond (is_negative b) (256 ^ length a) 0) (unsigned_first i a b h e k t l)

-- differences from one number compare as what it is taken from
subℕ_lt_z : (a b k : ℕ) → lt_z (sub_ℕ a k) (sub_ℕ b k) ≡ ltb a b
subℕ_lt_z a b k = go (ltb a b) refl (ltb b a) refl
  where
    go : (t : Bool) → ltb a b ≡ t → (u : Bool) → ltb b a ≡ u → lt_z (sub_ℕ a k) (sub_ℕ b k) ≡ ltb a b
    go true p u q = subℕ_monotone a b k (ltb-true _ _ p) ∙ sym p
    go false p true q = lt_z_asym (sub_ℕ b k) (sub_ℕ a k) (subℕ_monotone b a k (ltb-true _ _ q)) ∙ sym p
    go false p false q =
        ap (λ (n : ℕ). lt_z (sub_ℕ a k) (sub_ℕ n k)) (le_antisymm (ltb-false _ _ p) (ltb-false _ _ q)) ∙ lt_z_irrefl (sub_ℕ a k) ∙ sym p

pub subℕ_order : (a b k : ℕ) (t u : Bool) → ltb a b ≡ t → ltb b a ≡ u → cond t Less (cond u Greater Equal) ≡ order (sub_ℕ a k) (sub_ℕ b k)
subℕ_order a b k t u p q = sym (ap₂ (λ (x y : Bool). cond x Less (cond y Greater Equal)) (subℕ_lt_z a b k ∙ p) (subℕ_lt_z b a k ∙ q))

-- ---- two numbers of one sign, each with the sign in front up to one width

abbrev pub widened : ℕ → ℕ → List ℕ → List ℕ
widened sign width bs = replicate (width - length bs) sign ++ bs

pub record Alike (sign width : ℕ) (bs : List ℕ) : Type 0 where
  pub within : length bs ≤ width
  pub signed : sign ≡ sign_byte bs
  pub bytes : EachByte bs

length_widened : {sign width : ℕ} {bs : List ℕ} → Alike sign width bs → length (widened sign width bs) ≡ width
length_widened {sign} {width} {bs} h =
    length-append (replicate (width - length bs) sign) bs
    ∙ ap (λ (n : ℕ). n + length bs) (length-replicate (width - length bs) sign)
    ∙ sub-add_cancel h.within

number_widened : {sign width : ℕ} {bs : List ℕ} → Alike sign width bs → number (widened sign width bs) ≡ number bs
number_widened {sign} {width} {bs} h =
    ap (λ (s : ℕ). number (widened s width bs)) h.signed ∙ number_extended (width - length bs) bs

is_negative_widened : {sign width : ℕ} {bs : List ℕ} → Alike sign width bs → is_negative (widened sign width bs) ≡ leb 128 sign
is_negative_widened {sign} {width} {bs} h =
    ap (λ (s : ℕ). is_negative (widened s width bs)) h.signed ∙ is_negative_extended (width - length bs) bs
    ∙ sym (ap (leb 128) h.signed ∙ is_negative_sign bs)

each_widened : {sign width : ℕ} {bs : List ℕ} → sign < 256 → Alike sign width bs → EachByte (widened sign width bs)
each_widened {sign} {width} {bs} s h = each_append (replicate (width - length bs) sign) bs (each_replicate (width - length bs) sign s) h.bytes

-- the first byte that differs decides
widened_first : {sign width : ℕ} {a b : List ℕ} → sign < 256 → Alike sign width a → Alike sign width b → (at : ℕ) → at < width
    → take at (widened sign width a) ≡ take at (widened sign width b)
    → get_or (widened sign width a) at 0 < get_or (widened sign width b) at 0 → lt_z (number a) (number b) ≡ true
widened_first {sign} {width} {a} {b} s h k at l t d =
    sym (ap₂ lt_z (number_widened h) (number_widened k))
    ∙ number_first at (widened sign width a) (widened sign width b) (each_widened s h) (length_widened h ∙ sym (length_widened k))
    (is_negative_widened h ∙ sym (is_negative_widened k)) (subst (λ (n : ℕ). at < n) (sym (length_widened h)) l) t d

pub widened_less : {sign width : ℕ} {a b : List ℕ} → sign < 256 → Alike sign width a → Alike sign width b → (at : ℕ) → at < width
    → take at (widened sign width a) ≡ take at (widened sign width b)
    → get_or (widened sign width a) at 0 < get_or (widened sign width b) at 0 → order (number a) (number b) ≡ Less
widened_less {a} {b} s h k at l t d = order-< (number a) (number b) (widened_first s h k at l t d)

pub widened_greater : {sign width : ℕ} {a b : List ℕ} → sign < 256 → Alike sign width a → Alike sign width b → (at : ℕ) → at < width
    → take at (widened sign width a) ≡ take at (widened sign width b)
    → get_or (widened sign width b) at 0 < get_or (widened sign width a) at 0 → order (number a) (number b) ≡ Greater
widened_greater {a} {b} s h k at l t d = order-> (number a) (number b) (widened_first s k h at l (sym t) d)

-- where none does, the numbers are equal
pub widened_equal : {sign width : ℕ} {a b : List ℕ} → Alike sign width a → Alike sign width b → (at : ℕ) → width ≤ at
    → take at (widened sign width a) ≡ take at (widened sign width b) → order (number a) (number b) ≡ Equal
widened_equal {sign} {width} {a} {b} h k at l t =
    (order_equal (number a) (number b)).1
    (sym (number_widened h) ∙ ap number (sym (whole h) ∙ t ∙ whole k) ∙ number_widened k)
  where
    whole : {bs : List ℕ} → Alike sign width bs → take at (widened sign width bs) ≡ widened sign width bs
    whole {bs} m = take_all at (widened sign width bs) (subst (λ (n : ℕ). n ≤ at) (sym (length_widened m)) l)

-- and where this one does not, the next may
pub widened_next : {sign width : ℕ} {a b : List ℕ} → Alike sign width a → Alike sign width b → (at : ℕ) → at < width
    → take at (widened sign width a) ≡ take at (widened sign width b)
    → get_or (widened sign width a) at 0 ≡ get_or (widened sign width b) at 0
    → take (at + 1) (widened sign width a) ≡ take (at + 1) (widened sign width b)
widened_next {sign} {width} {a} {b} h k at l t e =
    next h ∙ ap₂ (λ (p : List ℕ) (x : ℕ). p ++ x ∷ []) t e ∙ sym (next k)
  where
    next : {bs : List ℕ} → Alike sign width bs
        → take (at + 1) (widened sign width bs) ≡ take at (widened sign width bs) ++ get_or (widened sign width bs) at 0 ∷ []
    next {bs} m = ap (λ (n : ℕ). take n (widened sign width bs)) (add-one at) ∙ take-suc (widened sign width bs) at 0 (subst (λ (n : ℕ). at < n) (sym (length_widened m)) l)

-- ---- two numbers of which one is negative, and lengths

pub number_signs : (a b : List ℕ) → EachByte a → sign_byte b < sign_byte a → lt_z (number a) (number b) ≡ true
number_signs a b h l = go (is_negative a) refl (is_negative b) refl l
  where
    go : (t : Bool) → is_negative a ≡ t → (u : Bool) → is_negative b ≡ u → cond u 255 0 < cond t 255 0 → lt_z (number a) (number b) ≡ true
    go true p false q k = ap₂ lt_z (number_neg a p h) (number_pos b q)
    go true p true q k = absurd (lt_irrefl 255 k)
    go false p true q k = absurd (not-suc-le-zero k)
    go false p false q k = absurd (not-suc-le-zero k)

pub order_of_wrong_left : (a b : List ℕ) → is_length (length a) ≡ false → order_of a b ≡ Err (record {})
unfolding order_of
order_of_wrong_left a b p = rw p

pub order_of_wrong_right : (a b : List ℕ) → is_length (length b) ≡ false → order_of a b ≡ Err (record {})
unfolding order_of
order_of_wrong_right a b p = rw p (go (is_length (length a)))
  where
    go : (t : Bool) → cond (t && false) (answer (order (number a) (number b))) (Err (record {})) ≡ Err (record {})
    go true = refl
    go false = refl

-- document 01's own examples: FF and FFFF are equal, 80 is below 7F, 00FF is above 7F
published_equal : order_of (255 ∷ []) (255 ∷ 255 ∷ []) ≡ Ok Equal
unfolding order_of number
published_equal = refl

published_less : order_of (128 ∷ []) (127 ∷ []) ≡ Ok Less
unfolding order_of number
published_less = refl

published_greater : order_of (0 ∷ 255 ∷ []) (127 ∷ []) ≡ Ok Greater
unfolding order_of number
published_greater = refl
