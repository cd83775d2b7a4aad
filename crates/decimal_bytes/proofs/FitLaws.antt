-- Laws of keeping to a precision: what the length of a number decides, and what its order against the power of ten does.
-- Assumes nothing.
use mathlib.Core.Path.{◌≡◌, refl, sym, ap, ap₂, subst, ◌∙◌}
use mathlib.Core.Logic.{◌≢◌, ◌↔◌}
use mathlib.Core.Bool.{Bool, true, false, cond, not}
use mathlib.Core.List.{List, [], ◌∷◌}
use Prim.Native.Nat.{ℕ, zero, suc, ◌+◌, ◌*◌, ◌-◌, ◌%◌, ◌^◌, ◌≤◌, ◌<◌}
use native.Mathlib.Nat.{le_refl, le-suc, le_trans, le_of_lt, le_of_suc-le-suc, lt_of_lt_of_le, lt_of_le_of_lt, mod-lt, not-suc-le-zero, suc-ne-zero, one-le-pow, pow-le-pow_right, pow-suc}
use native.Mathlib.Numerals.{add-one}
use native.Mathlib.Omega.{arith}
use lib.Arith.{lt_of_le-ne}
use lib.Dec.{ltb, leb-suc-suc}
use lib.IntN.{ℤ, pos, negsuc, neg_ℤ, nat_abs}
use lib.ListN.{length}
use lib.Signed.{mag, nat_abs-le}
use borrow.Author.Tests.{lt-ltb, le-ltb, ltb-true}
use Rattle.std.specs.Prelude.{Result, Ok, Err}
use Rattle.std.specs.declared.cmp.Ordering.{Ordering}
use Rattle.std.specs.declared.cmp.Ordering.TheVariants.{Less, Equal, Greater}
use Rattle.decimal_bytes.specs.declared.precision.WrongLength.{WrongLength}
use Rattle.decimal_bytes.specs.Precision.{is_length, greatest_precision}
use Rattle.decimal_bytes.specs.Number.{unsigned, is_negative, number}
use Rattle.decimal_bytes.specs.Significant.{significant}
use Rattle.decimal_bytes.specs.Order.{order}
use Rattle.decimal_bytes.specs.Fit.{fit_of}
use Rattle.decimal_bytes.proofs.PrecisionLaws.{is_length_bounds, is_length_within, greatest_precision_low, greatest_precision_high}
use Rattle.laws.proofs.ByteLaws.{EachByte}
use Rattle.decimal_bytes.proofs.NumberLaws.{length_significant, magnitude-<, magnitude-≥, number_neg, number_pos, number_significant, sign_bit}
use Rattle.decimal_bytes.proofs.PowerLaws.{mod-*}

pub fit_of_wrong : (bs : List ℕ) (p : ℕ) → is_length (length bs) ≡ false → fit_of bs p ≡ Err (record {})
unfolding fit_of
fit_of_wrong bs p e = rw e

-- whether a decimal is within its precision, as the answer of holding it there has it
abbrev pub held : Bool → Result Bool WrongLength
held within = Ok within

pub fit_of_test : (bs : List ℕ) (p : ℕ) → is_length (length bs) ≡ true → fit_of bs p ≡ Ok (ltb (nat_abs (number bs)) (10 ^ p))
unfolding fit_of
fit_of_test bs p e = rw e

pub fit_of_within : (bs : List ℕ) (p : ℕ) → is_length (length bs) ≡ true → nat_abs (number bs) < 10 ^ p → fit_of bs p ≡ Ok true
fit_of_within bs p e h = fit_of_test bs p e ∙ ap held (lt-ltb _ _ h)

pub fit_of_beyond : (bs : List ℕ) (p : ℕ) → is_length (length bs) ≡ true → 10 ^ p ≤ nat_abs (number bs) → fit_of bs p ≡ Ok false
fit_of_beyond bs p e h = fit_of_test bs p e ∙ ap held (le-ltb _ _ h)

held_is : {t u : Bool} → held t ≡ held u → t ≡ u
held_is e = cc

-- within exactly where |number| < 10^precision
pub fit_of_exactly : (bs : List ℕ) (p : ℕ) → is_length (length bs) ≡ true → (fit_of bs p ≡ Ok true) ↔ (nat_abs (number bs) < 10 ^ p)
fit_of_exactly bs p e = (λ w. ltb-true _ _ (held_is (sym (fit_of_test bs p e) ∙ w)), fit_of_within bs p e)

pub is_length_significant : (bs : List ℕ) → is_length (length bs) ≡ true → is_length (length (significant bs)) ≡ true
is_length_significant [] e = absurd (not-suc-le-zero (is_length_bounds 0 e).0)
is_length_significant (b ∷ bs) e =
    is_length_within (length (significant (b ∷ bs))) (length_significant b bs).0
    (le_trans (length_significant b bs).1 (is_length_bounds (suc (length bs)) e).1)

-- bytes that are not needed change nothing
pub fit_of_significant : (bs : List ℕ) (p : ℕ) → is_length (length bs) ≡ true → is_length (length (significant bs)) ≡ true
    → fit_of (significant bs) p ≡ fit_of bs p
fit_of_significant bs p e f =
    fit_of_test (significant bs) p f ∙ ap (λ (z : ℤ). held (ltb (nat_abs z) (10 ^ p))) (number_significant bs)
    ∙ sym (fit_of_test bs p e)

-- ---- what the length decides

-- no power of two is a power of ten, which has the factor five
double_mod_five : (r : ℕ) → r < 5 → r * 2 % 5 ≡ 0 → r ≡ 0
double_mod_five zero h e = refl
double_mod_five (suc zero) h e = absurd (suc-ne-zero 1 e)
double_mod_five (suc (suc zero)) h e = absurd (suc-ne-zero 3 e)
double_mod_five (suc (suc (suc zero))) h e = absurd (suc-ne-zero 0 e)
double_mod_five (suc (suc (suc (suc zero)))) h e = absurd (suc-ne-zero 2 e)
double_mod_five (suc (suc (suc (suc (suc r))))) h e = absurd (not-suc-le-zero (le_of_suc-le-suc (le_of_suc-le-suc (le_of_suc-le-suc (le_of_suc-le-suc (le_of_suc-le-suc h))))))

two_mod_five : (k : ℕ) → 2 ^ k % 5 ≢ 0
two_mod_five zero e = suc-ne-zero 0 e
two_mod_five (suc k) e =
    two_mod_five k
    (double_mod_five (2 ^ k % 5) (mod-lt (2 ^ k) (omega arith)) (mod-* (2 ^ k) 2 5 ∙ ap (λ (n : ℕ). n % 5) (sym (pow-suc 2 k)) ∙ e))

ten_mod_five : (n : ℕ) → n * 10 % 5 ≡ 0
ten_mod_five n = omega arith

power-≢ : (d k : ℕ) → 2 ^ k ≢ 10 ^ (d + 1)
power-≢ d k e =
    two_mod_five k (ap (λ (n : ℕ). n % 5) (e ∙ ap (λ (n : ℕ). 10 ^ n) (add-one d) ∙ pow-suc 10 d) ∙ ten_mod_five (10 ^ d))

-- the sign bit of n bytes against the greatest precision d of n bytes: 10^d ≤ 2^(8n-1) < 10^(d+1)
module _ (n : ℕ) (e : is_length (suc n) ≡ true) where
  sign-bit-≥ : 10 ^ greatest_precision (suc n) ≤ 128 * 256 ^ n
  sign-bit-≥ =
      le_trans (greatest_precision_low (suc n) (is_length_bounds (suc n) e).0 (is_length_bounds (suc n) e).1)
      (omega (arith, sign_bit n))

  sign-bit-< : 128 * 256 ^ n < 10 ^ (greatest_precision (suc n) + 1)
  sign-bit-< =
      lt_of_le-ne
      (omega (arith, sign_bit n, greatest_precision_high (suc n) (is_length_bounds (suc n) e).0 (is_length_bounds (suc n) e).1))
      (λ q. power-≢ (greatest_precision (suc n)) (8 * suc n - 1) (sym (sign_bit n) ∙ q))

mag-≤ : (z : ℤ) → mag z ≤ nat_abs z
mag-≤ (pos n) = le_refl n
mag-≤ (negsuc n) = le-suc n

pub longer_within : (bs : List ℕ) (p : ℕ) → is_length (length bs) ≡ true → EachByte bs → greatest_precision (length bs) < p → fit_of bs p ≡ Ok true
longer_within [] p e h k = absurd (not-suc-le-zero (is_length_bounds 0 e).0)
longer_within (b ∷ bs) p e h k = fit_of_within (b ∷ bs) p e (lt_of_le_of_lt (nat_abs-le (number (b ∷ bs)) (magnitude-< b bs h))
    (lt_of_lt_of_le (sign-bit-< (length bs) e) (pow-le-pow_right (omega arith) (omega arith))))

pub shorter_beyond : (bs : List ℕ) (p : ℕ) → is_length (length bs) ≡ true → EachByte bs → significant bs ≡ bs → 1 < length bs
    → p ≤ greatest_precision (length bs - 1) → fit_of bs p ≡ Ok false
shorter_beyond [] p e h s l k = absurd (not-suc-le-zero l)
shorter_beyond (b ∷ []) p e h s l k = absurd (not-suc-le-zero (le_of_suc-le-suc l))
shorter_beyond (b ∷ c ∷ bs) p e h s l k =
    fit_of_beyond (b ∷ c ∷ bs) p e (le_trans power (le_trans (magnitude-≥ b c bs h s) (mag-≤ (number (b ∷ c ∷ bs)))))
  where
    less_one : suc (suc (length bs)) - 1 ≡ suc (length bs)
    less_one = omega arith

    shorter : is_length (suc (length bs)) ≡ true
    shorter = is_length_within (suc (length bs)) (omega arith) (le_of_lt (is_length_bounds (suc (suc (length bs))) e).1)

    power : 10 ^ p ≤ 128 * 256 ^ length bs
    power =
        le_trans (pow-le-pow_right (omega arith) (subst (λ (n : ℕ). p ≤ greatest_precision n) less_one k)) (sign-bit-≥ (length bs) shorter)

-- ---- what the order against the power of ten, or its negative, decides

abbrev pub judged : Bool → Ordering → Bool
judged negative Less = not negative
judged negative Equal = false
judged negative Greater = negative

judged_pos : (a t : ℕ) → judged false (order (pos a) (pos t)) ≡ ltb a t
judged_pos a t = go (ltb a t) (ltb t a)
  where
    go : (p q : Bool) → judged false (cond p Less (cond q Greater Equal)) ≡ p
    go true q = refl
    go false true = refl
    go false false = refl

judged_neg : (a t : ℕ) → judged true (order (negsuc a) (negsuc t)) ≡ ltb (suc a) (suc t)
judged_neg a t = go (ltb t a) refl (ltb a t) refl ∙ sym (leb-suc-suc (suc a) t)
  where
    go : (p : Bool) → ltb t a ≡ p → (q : Bool) → ltb a t ≡ q → judged true (cond p Less (cond q Greater Equal)) ≡ q
    go true e q f = sym (le-ltb a t (le_of_lt (ltb-true t a e))) ∙ f
    go false e true f = refl
    go false e false f = refl

suc_less_one : (n : ℕ) → 1 ≤ n → suc (n - 1) ≡ n
suc_less_one n h = omega arith

negative_power : (n : ℕ) → 1 ≤ n → neg_ℤ (pos n) ≡ negsuc (n - 1)
negative_power zero h = absurd (not-suc-le-zero h)
negative_power (suc n) h = ap negsuc (omega arith)

module _ (bs bound : List ℕ) (p : ℕ) (e : is_length (length bs) ≡ true) (h : EachByte bs)
    (value : number bound ≡ cond (is_negative bs) (neg_ℤ (pos (10 ^ p))) (pos (10 ^ p))) where
  some : 1 ≤ 10 ^ p
  some = one-le-pow p 10 (omega arith)

  exactly : (negative : Bool) → is_negative bs ≡ negative → held (judged negative (order (number bs) (number bound))) ≡ fit_of bs p
  exactly true s =
      let m : ℕ = 256 ^ length bs - suc (unsigned bs) in
      let is : number bs ≡ negsuc m = number_neg bs s h in
      let against : number bound ≡ negsuc (10 ^ p - 1)
      = value ∙ ap (λ (t : Bool). cond t (neg_ℤ (pos (10 ^ p))) (pos (10 ^ p))) s ∙ negative_power (10 ^ p) some in
      ap₂ (λ (x y : ℤ). held (judged true (order x y))) is against
      ∙ ap held (judged_neg m (10 ^ p - 1))
      ∙ ap (λ (n : ℕ). held (ltb (suc m) n)) (suc_less_one (10 ^ p) some)
      ∙ ap (λ (z : ℤ). held (ltb (nat_abs z) (10 ^ p))) (sym is)
      ∙ sym (fit_of_test bs p e)
  exactly false s =
      let is : number bs ≡ pos (unsigned bs) = number_pos bs s in
      let against : number bound ≡ pos (10 ^ p) = value ∙ ap (λ (t : Bool). cond t (neg_ℤ (pos (10 ^ p))) (pos (10 ^ p))) s in
      ap₂ (λ (x y : ℤ). held (judged false (order x y))) is against
      ∙ ap held (judged_pos (unsigned bs) (10 ^ p))
      ∙ ap (λ (z : ℤ). held (ltb (nat_abs z) (10 ^ p))) (sym is)
      ∙ sym (fit_of_test bs p e)

  pub fit_of_judged : (negative : Bool) (o : Ordering) → is_negative bs ≡ negative → order (number bs) (number bound) ≡ o → Ok (judged negative o) ≡ fit_of bs p
  fit_of_judged negative o s r = ap (λ (q : Ordering). held (judged negative q)) (sym r) ∙ exactly negative s

-- document 01's own examples, of precision 2: 63 hex is within, 64 hex is not
published_within : fit_of (99 ∷ []) 2 ≡ Ok true
unfolding fit_of number
published_within = refl

published_beyond : fit_of (100 ∷ []) 2 ≡ Ok false
unfolding fit_of number
published_beyond = refl
