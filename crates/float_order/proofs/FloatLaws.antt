-- Comparing floats is comparing their bits: those below the sign as a whole number, negated where the sign is set.
--
-- The bits below the sign are an exponent's field x and digits t below a weight h. In the format's smallest values they weigh t at x = 0, and
-- (h + t) * 2 ^ (x - 1) above, which grows with x * h + t. A float is its weight over a power of two, so floats of two patterns compare as
-- their weights, and so as their bits. An infinity is what comes after all of these. Assumes nothing.
use mathlib.Core.Path.{◌≡◌, refl, sym, ap, ap₂, subst, ◌∙◌}
use mathlib.Core.Bool.{Bool, true, false, not, cond, ◌&&◌, ◌||◌, beq}
use mathlib.Core.Logic.{◌⊎◌, inl, inr, ⊎_elim}
use Prim.Native.Nat.{ℕ, zero, suc, ◌+◌, ◌-◌, ◌*◌, ◌/◌, ◌%◌, ◌^◌, ◌≤◌, ◌<◌}
use native.Mathlib.Nat.{le_refl, le_of_lt, lt_irrefl, lt_of_lt_of_le, lt_of_mul-lt-mul_right, mul-lt-mul_of_pos_right, mul-le-mul, mul-le-mul_right, mul-pos, mul-one, zero-mul, zero-add, add-zero, mod-lt, mul_comm, mul_assoc, add-mul, mul-add, mul_right_comm, suc-mul, two-pow-succ, eq-or-lt_of_le}
use native.Mathlib.Omega.{arith}
use lib.Dec.{leb, ltb, eqb, leb-suc-suc}
use lib.Ieee.{Float, nan, inf, fin, Format, binary32, binary64, up, down, low, hid, ones, top, below, level, lt, eq, of_fields, of_bits, nan_bits, is_nan, prec, odd}
use lib.Ieee.Bits.{nan_bits_is, nan_bits_above}
use lib.Ieee.Exact.{HasValue, odd_sign}
use lib.Ieee.Fits.{down_pos}
use lib.Pow.{pow_pos, pow_mono}
use lib.IntN.{ℤ, pos, neg_ℤ}
use lib.Signed.{lt_z}
use borrow.Author.Tests.{not-false, lt-ltb, le-ltb, ltb-true, ltb-false, eq-eqb, ne_eqb, eqb-true, eqb-false}
use Rattle.laws.proofs.DifferenceLaws.{below?, ltb_same}
use Rattle.float_order.specs.Floats.{float_order}
use Rattle.float_order.specs.Keys.{float_key, whole_order, key_order}
use Rattle.std.specs.Prelude.{Some, None}
use Rattle.std.specs.declared.cmp.Ordering.TheVariants.{Less, Equal, Greater}

-- ---- the weight of bits

weigh : ℕ → ℕ → ℕ → ℕ
weigh h zero t = t
weigh h (suc x) t = (h + t) * 2 ^ x

-- one exponent more is more, whatever the digits
weigh_next : (h x t : ℕ) → t < h → weigh h x t < weigh h (suc x) 0
unfolding weigh
weigh_next h zero t l = omega (arith, mul-one (h + 0))
weigh_next h (suc x) t l =
    let p = 2 ^ x in
    let k : (h + t) * p < (h + h) * p = mul-lt-mul_of_pos_right (omega arith) (pow_pos x) in
    rw (two-pow-succ x) (omega (arith, k, add-mul h h p, mul-add (h + 0) p p, ap (λ (n : ℕ). n * p) (add-zero h)))

weigh_up : (h x y u : ℕ) → x ≤ y → weigh h (suc x) 0 ≤ weigh h (suc y) u
unfolding weigh
weigh_up h x y u l = mul-le-mul (omega arith) (pow_mono l)

weigh_same : (h x t u : ℕ) → t < u → weigh h x t < weigh h x u
unfolding weigh
weigh_same h zero t u l = l
weigh_same h (suc x) t u l = mul-lt-mul_of_pos_right (omega arith) (pow_pos x)

weigh_above : (h x y t u : ℕ) → t < h → x < y → weigh h x t < weigh h y u
weigh_above h x zero t u l k = absurd (omega arith)
weigh_above h x (suc y) t u l k = lt_of_lt_of_le (weigh_next h x t l) (weigh_up h x y u (omega arith))

-- x * h + t and y * h + u with digits below h: the exponents first, then the digits
fields-< : (h x y t u : ℕ) → u < h → x * h + t < y * h + u → (x < y) ⊎ ((x ≡ y) × (t < u))
fields-< h x y t u l k = below? x y inl (λ m. ⊎_elim (λ e. inr (sym e, digits (sym e))) (λ n. absurd (past n)) (eq-or-lt_of_le m))
  where
    digits : x ≡ y → t < u
    digits e = let s : x * h ≡ y * h = ap (λ (n : ℕ). n * h) e in omega arith

    past : y < x → ⊥
    past n = let s : suc y * h ≤ x * h = mul-le-mul_right h n in omega (arith, suc-mul y h)

weigh-< : (h x y t u : ℕ) → t < h → u < h → x * h + t < y * h + u → weigh h x t < weigh h y u
weigh-< h x y t u l m k =
    ⊎_elim (weigh_above h x y t u l) (λ p. subst (λ (z : ℕ). weigh h x t < weigh h z u) p.0 (weigh_same h x t u p.1)) (fields-< h x y t u m k)

-- ---- signed magnitudes, which floats and keys compare by

-- two pairs of magnitudes that every test of a comparison finds alike
record Alike (a b c d : ℕ) : Type 0 where
  less : ltb a b ≡ ltb c d
  more : ltb b a ≡ ltb d c
  left : ltb 0 a ≡ ltb 0 c
  right : ltb 0 b ≡ ltb 0 d

sum_test : (a b : ℕ) → ltb 0 (a + b) ≡ (ltb 0 a || ltb 0 b)
sum_test a b = go (ltb 0 a) refl (ltb 0 b) refl
  where
    go : (t : Bool) → ltb 0 a ≡ t → (u : Bool) → ltb 0 b ≡ u → ltb 0 (a + b) ≡ (t || u)
    go true p u q = let h = ltb-true 0 a p in lt-ltb 0 (a + b) (omega arith)
    go false p true q = let h = ltb-true 0 b q in lt-ltb 0 (a + b) (omega arith)
    go false p false q = let h = ltb-false 0 a p in let k = ltb-false 0 b q in le-ltb 0 (a + b) (omega arith)

same_test : (a b : ℕ) → eqb a b ≡ (not (ltb a b) && not (ltb b a))
same_test a b = go (ltb a b) refl (ltb b a) refl
  where
    go : (t : Bool) → ltb a b ≡ t → (u : Bool) → ltb b a ≡ u → eqb a b ≡ (not t && not u)
    go true p u q = let h = ltb-true a b p in ne_eqb a b (λ (e : a ≡ b). omega arith)
    go false p true q = let h = ltb-true b a q in ne_eqb a b (λ (e : a ≡ b). omega arith)
    go false p false q = let h = ltb-false a b p in let k = ltb-false b a q in eq-eqb a b (omega arith)

zero_test : (a : ℕ) → eqb a 0 ≡ not (ltb 0 a)
zero_test a = same_test a 0 ∙ ap (λ (t : Bool). not t && not (ltb 0 a)) (le-ltb a 0 (omega arith))

below_alike : (s t : Bool) (a b c d : ℕ) → Alike a b c d → below s a t b ≡ below s c t d
below_alike false false a b c d p = p.less
below_alike false true a b c d p = refl
below_alike true false a b c d p = sum_test a b ∙ ap₂ (λ (x y : Bool). x || y) p.left p.right ∙ sym (sum_test c d)
below_alike true true a b c d p = p.more

level_alike : (s t : Bool) (a b c d : ℕ) → Alike a b c d → level s a t b ≡ level s c t d
level_alike s t a b c d p =
    ap₂ (λ (x y : Bool). x && (beq s t || y))
    (same_test a b ∙ ap₂ (λ (x y : Bool). not x && not y) p.less p.more ∙ sym (same_test c d))
    (zero_test a ∙ ap not p.left ∙ sym (zero_test c))

-- ---- floats compare as their weights

scaled-< : (a b u v l k : ℕ) → 0 < l → a * l ≡ u * k → b * l ≡ v * k → a < b → u < v
scaled-< a b u v l k L p q h = lt_of_mul-lt-mul_right k (subst (λ (n : ℕ). n < v * k) p (subst (λ (n : ℕ). a * l < n) q (mul-lt-mul_of_pos_right h L)))

scaled : (a b u v l k : ℕ) → 0 < l → 0 < k → a * l ≡ u * k → b * l ≡ v * k → ltb a b ≡ ltb u v
scaled a b u v l k L K p q = ltb_same a b u v (scaled-< a b u v l k L p q) (scaled-< u v a b k l K (sym p) (sym q))

scaled_alike : (a b u v l k : ℕ) → 0 < l → 0 < k → a * l ≡ u * k → b * l ≡ v * k → Alike a b u v
scaled_alike a b u v l k L K p q =
    let z : 0 * l ≡ 0 * k = zero-mul l ∙ sym (zero-mul k) in
    record { less = scaled a b u v l k L K p q; more = scaled b a v u l k L K q p; left = scaled 0 a 0 u l k L K z p; right = scaled 0 b 0 v l k L K z q }

-- two finite floats of weights u and v, over one l
fin_alike : (m n u v l : ℕ) (e d : ℤ) → 0 < l → m * up e * l ≡ u * down e → n * up d * l ≡ v * down d → Alike (m * up e * down d) (n * up d * down e) u v
fin_alike m n u v l e d L p q =
    scaled_alike _ _ u v l (down e * down d) L (mul-pos (down_pos e) (down_pos d))
    (mul_right_comm (m * up e) (down d) l ∙ ap (λ (x : ℕ). x * down d) p ∙ mul_assoc u (down e) (down d))
    (mul_right_comm (n * up d) (down e) l ∙ ap (λ (x : ℕ). x * down e) q ∙ mul_assoc v (down d) (down e) ∙ ap (λ (x : ℕ). v * x) (mul_comm (down d) (down e)))

-- what two tests of floats find, as signed magnitudes find it
pub record Compares (x y : Float) (s : Bool) (a : ℕ) (t : Bool) (b : ℕ) : Type 0 where
  pub less : lt x y ≡ below s a t b
  pub same : eq x y ≡ level s a t b

pub finite_finite : (x y : Float) (s t : Bool) (u v l : ℕ) → 0 < l → HasValue x s u l → HasValue y t v l → Compares x y s u t v
unfolding lt eq
finite_finite nan y s t u v l L p q = absurd p
finite_finite (inf z) y s t u v l L p q = absurd p
finite_finite (fin z m e) nan s t u v l L p q = absurd q
finite_finite (fin z m e) (inf w) s t u v l L p q = absurd q
finite_finite (fin z m e) (fin w n d) s t u v l L p q =
    let k = fin_alike m n u v l e d L p.1 q.1 in
    record {
      less = ap₂ (λ (i j : Bool). below i (m * up e * down d) j (n * up d * down e)) p.0 q.0 ∙ below_alike s t _ _ u v k;
      same = ap₂ (λ (i j : Bool). level i (m * up e * down d) j (n * up d * down e)) p.0 q.0 ∙ level_alike s t _ _ u v k;
    }

-- weights of bits compare as the bits
weigh_test : (h x y t u : ℕ) → t < h → u < h → ltb (weigh h x t) (weigh h y u) ≡ ltb (x * h + t) (y * h + u)
weigh_test h x y t u l m = ltb_same _ _ _ _ back (weigh-< h x y t u l m)
  where
    exponents : x < y → x * h + t < y * h + u
    exponents p = let s : suc x * h ≤ y * h = mul-le-mul_right h p in omega (arith, suc-mul x h)

    digits : x ≡ y → weigh h x t < weigh h y u → x * h + t < y * h + u
    digits e k = let s : x * h ≡ y * h = ap (λ (n : ℕ). n * h) e in below? t u (λ p. omega arith) (λ p. absurd (⊎_elim same_digits more_digits (eq-or-lt_of_le p)))
      where
        same_digits : u ≡ t → ⊥
        same_digits p = lt_irrefl _ (subst (λ (n : ℕ). weigh h x t < n) (ap₂ (weigh h) (sym e) p) k)

        more_digits : u < t → ⊥
        more_digits p = let j = weigh_same h x u t p in let i : weigh h x t < weigh h x u = subst (λ (n : ℕ). weigh h x t < weigh h n u) (sym e) k in omega arith

    back : weigh h x t < weigh h y u → x * h + t < y * h + u
    back k = below? x y exponents (λ p. ⊎_elim (λ e. digits (sym e) k) (λ n. absurd (let j = weigh_above h y x u t m n in omega arith)) (eq-or-lt_of_le p))

weigh_positive : (h x t : ℕ) → t < h → ltb 0 (weigh h x t) ≡ ltb 0 (x * h + t)
unfolding weigh
weigh_positive h x t l = weigh_test h 0 x 0 t (omega arith) l ∙ ap (λ (n : ℕ). ltb n (x * h + t)) (add-zero (0 * h) ∙ zero-mul h)

weigh_alike : (h x y t u : ℕ) → t < h → u < h → Alike (weigh h x t) (weigh h y u) (x * h + t) (y * h + u)
weigh_alike h x y t u l m =
    record { less = weigh_test h x y t u l m; more = weigh_test h y x u t m l; left = weigh_positive h x t l; right = weigh_positive h y u m }

-- ---- what bits stand for

-- a finite float, or an infinity
abbrev Stands : Format → Float → Bool → ℕ → ℕ → Type 0
Stands f v s x t = (HasValue v s (weigh (hid f) x t) (2 ^ low f) × (x < ones f)) ⊎ ((v ≡ inf s) × (x ≡ ones f) × (t ≡ 0))

stands : (f : Format) (s : Bool) (x t : ℕ) → x ≤ ones f → (eqb x (ones f) && not (eqb t 0)) ≡ false → Stands f (of_fields f s x t) s x t
unfolding of_fields weigh
stands f s zero t h e =
    inl (subst (λ (n : ℕ). HasValue (odd (prec f) s t 0 (low f)) s n (2 ^ low f)) (mul-one t) (odd_sign (prec f) s t 0 (low f)), omega arith)
stands f s (suc x) t h e = go (eqb (suc x) (ones f)) refl e
  where
    go : (b : Bool) → eqb (suc x) (ones f) ≡ b → (b && not (eqb t 0)) ≡ false
        → Stands f (cond b (cond (eqb t 0) (inf s) nan) (odd (prec f) s (hid f + t) x (low f))) s (suc x) t
    go true p q =
        let z = not-false _ q in
        inr (ap (λ (b : Bool). cond b (inf s) nan) z, eqb-true _ _ p, eqb-true _ _ z)
    go false p q = inl (odd_sign (prec f) s (hid f + t) x (low f), ⊎_elim (λ r. absurd (eqb-false _ _ p r)) (λ r. r) (eq-or-lt_of_le h))

-- an infinity's bits against lesser ones, and against its own
inf_below : (s r : Bool) (i n : ℕ) → n < i → below s i r n ≡ s
inf_below false false i n h = le-ltb i n (le_of_lt h)
inf_below false true i n h = refl
inf_below true false i n h = lt-ltb 0 (i + n) (omega arith)
inf_below true true i n h = lt-ltb n i h

below_inf : (s r : Bool) (i n : ℕ) → n < i → below r n s i ≡ not s
below_inf false false i n h = lt-ltb n i h
below_inf false true i n h = lt-ltb 0 (n + i) (omega arith)
below_inf true false i n h = refl
below_inf true true i n h = le-ltb i n (le_of_lt h)

inf_level : (s r : Bool) (i n : ℕ) → n < i → level s i r n ≡ false
inf_level s r i n h = ap (λ (b : Bool). b && (beq s r || eqb i 0)) (ne_eqb i n (λ (e : i ≡ n). omega arith))

level_inf : (s r : Bool) (i n : ℕ) → n < i → level r n s i ≡ false
level_inf s r i n h = ap (λ (b : Bool). b && (beq r s || eqb n 0)) (ne_eqb n i (λ (e : n ≡ i). omega arith))

inf_inf_below : (s r : Bool) (i : ℕ) → 0 < i → below s i r i ≡ (s && not r)
inf_inf_below false false i h = le-ltb i i (le_refl i)
inf_inf_below false true i h = refl
inf_inf_below true false i h = lt-ltb 0 (i + i) (omega arith)
inf_inf_below true true i h = le-ltb i i (le_refl i)

inf_inf_level : (s r : Bool) (i : ℕ) → 0 < i → level s i r i ≡ beq s r
inf_inf_level s r i h =
    ap₂ (λ (b c : Bool). b && (beq s r || c)) (eq-eqb i i refl) (ne_eqb i 0 (λ (e : i ≡ 0). omega arith)) ∙ or-false (beq s r)
  where
    or-false : (b : Bool) → (b || false) ≡ b
    or-false true = refl
    or-false false = refl

pub inf_finite : (y : Float) (s r : Bool) (i n v l : ℕ) → n < i → HasValue y r v l → Compares (inf s) y s i r n
unfolding lt eq
inf_finite nan s r i n v l h q = absurd q
inf_finite (inf w) s r i n v l h q = absurd q
inf_finite (fin w m d) s r i n v l h q = record { less = sym (inf_below s r i n h); same = sym (inf_level s r i n h) }

pub finite_inf : (x : Float) (s r : Bool) (i n v l : ℕ) → n < i → HasValue x r v l → Compares x (inf s) r n s i
unfolding lt eq
finite_inf nan s r i n v l h q = absurd q
finite_inf (inf w) s r i n v l h q = absurd q
finite_inf (fin w m d) s r i n v l h q = record { less = sym (below_inf s r i n h); same = sym (level_inf s r i n h) }

pub inf_inf : (s r : Bool) (i : ℕ) → 0 < i → Compares (inf s) (inf r) s i r i
unfolding lt eq
inf_inf s r i h = record { less = sym (inf_inf_below s r i h); same = sym (inf_inf_level s r i h) }

-- ---- two patterns, neither of them a NaN's

-- bits with a lesser exponent lie below an infinity's
module _ (f : Format) where
  finite_below : (x t : ℕ) → t < hid f → x < ones f → x * hid f + t < ones f * hid f
  finite_below x t h k = let s : suc x * hid f ≤ ones f * hid f = mul-le-mul_right (hid f) k in omega (arith, suc-mul x (hid f))

  infinite_bits : (x t : ℕ) → x ≡ ones f → t ≡ 0 → x * hid f + t ≡ ones f * hid f
  infinite_bits x t e z = rw (e, z) (add-zero (ones f * hid f))

  infinite_positive : 0 < ones f * hid f
  infinite_positive = mul-pos (omega arith) (pow_pos (prec f - 1))

  pair : (v w : Float) (s r : Bool) (x t y u : ℕ) → t < hid f → u < hid f → Stands f v s x t → Stands f w r y u
      → Compares v w s (x * hid f + t) r (y * hid f + u)
  pair v w s r x t y u h k (inl p) (inl q) =
      let c = finite_finite v w s r _ _ _ (pow_pos (low f)) p.0 q.0 in
      let a = weigh_alike (hid f) x y t u h k in
      record { less = c.less ∙ below_alike s r _ _ _ _ a; same = c.same ∙ level_alike s r _ _ _ _ a }
  pair v w s r x t y u h k (inl p) (inr q) =
      rw (infinite_bits y u q.1 q.2, q.0) (finite_inf v r s _ _ _ _ (finite_below x t h p.1) p.0)
  pair v w s r x t y u h k (inr p) (inl q) =
      rw (infinite_bits x t p.1 p.2, p.0) (inf_finite w s r _ _ _ _ (finite_below y u k q.1) q.0)
  pair v w s r x t y u h k (inr p) (inr q) =
      rw (infinite_bits x t p.1 p.2, infinite_bits y u q.1 q.2, p.0, q.0) (inf_inf s r (ones f * hid f) infinite_positive)

-- the bits below the sign, by their fields
fields : (f : Format) (b : ℕ) → b % top f / hid f * hid f + b % hid f ≡ b % top f
fields binary32 b = omega arith
fields binary64 b = omega arith

digits_below : (f : Format) (b : ℕ) → b % hid f < hid f
digits_below f b = mod-lt b (pow_pos (prec f - 1))

exponent_below : (f : Format) (b : ℕ) → b % top f / hid f ≤ ones f
exponent_below binary32 b = omega arith
exponent_below binary64 b = omega arith

bits_stand : (f : Format) (b : ℕ) → nan_bits f b ≡ false → Stands f (of_bits f b) (leb (top f) b) (b % top f / hid f) (b % hid f)
unfolding of_bits nan_bits
bits_stand f b e = stands f (leb (top f) b) (b % top f / hid f) (b % hid f) (exponent_below f b) e

-- comparing two floats is comparing their signs and the bits below
bits_compare : (f : Format) (a b : ℕ) → nan_bits f a ≡ false → nan_bits f b ≡ false
    → Compares (of_bits f a) (of_bits f b) (leb (top f) a) (a % top f) (leb (top f) b) (b % top f)
bits_compare f a b p q =
    subst (λ (n : ℕ). Compares (of_bits f a) (of_bits f b) (leb (top f) a) (a % top f) (leb (top f) b) n) (fields f b)
    (subst (λ (n : ℕ). Compares (of_bits f a) (of_bits f b) (leb (top f) a) n (leb (top f) b) (b % top f / hid f * hid f + b % hid f)) (fields f a)
    (pair f (of_bits f a) (of_bits f b) _ _ _ _ _ _ (digits_below f a) (digits_below f b) (bits_stand f a p) (bits_stand f b q)))

-- ---- the order of floats is that of their keys

-- a signed magnitude, as a key has it
abbrev signed_key : Bool → ℕ → ℤ
signed_key s n = cond s (neg_ℤ (pos n)) (pos n)

below_key : (s t : Bool) (a b : ℕ) → below s a t b ≡ lt_z (signed_key s a) (signed_key t b)
below_key false false a b = refl
below_key false true a zero = sym (le-ltb a 0 (omega arith))
below_key false true a (suc b) = refl
below_key true false zero b = ap (ltb 0) (zero-add b)
below_key true false (suc a) b = lt-ltb 0 (suc a + b) (omega arith)
below_key true true zero zero = refl
below_key true true zero (suc b) = le-ltb (suc b) 0 (omega arith)
below_key true true (suc a) zero = lt-ltb 0 (suc a) (omega arith)
below_key true true (suc a) (suc b) = leb-suc-suc (suc b) a

-- neither is below the other
neither : (a b : ℕ) → ltb a b ≡ false → ltb b a ≡ false → eqb a b ≡ true
neither a b p q = let h = ltb-false a b p in let k = ltb-false b a q in eq-eqb a b (omega arith)

level_neither : (s t : Bool) (a b : ℕ) → below s a t b ≡ false → below t b s a ≡ false → level s a t b ≡ true
level_neither false false a b p q = ap (λ (t : Bool). t && true) (neither a b p q)
level_neither false true a b p q =
    let z = ltb-false 0 (b + a) q in
    ap₂ (λ (t u : Bool). t && u) (eq-eqb a b (omega arith)) (eq-eqb a 0 (omega arith))
level_neither true false a b p q =
    let z = ltb-false 0 (a + b) p in
    ap₂ (λ (t u : Bool). t && u) (eq-eqb a b (omega arith)) (eq-eqb a 0 (omega arith))
level_neither true true a b p q = ap (λ (t : Bool). t && true) (neither a b q p)

-- a pattern of a NaN is the NaN
pub is_nan_lem : (x : Float) → is_nan x ≡ true → x ≡ nan
unfolding is_nan
is_nan_lem nan e = refl
is_nan_lem (inf s) e = cc
is_nan_lem (fin s m d) e = cc

bits_nan : (f : Format) (b : ℕ) → nan_bits f b ≡ true → of_bits f b ≡ nan
bits_nan f b e = is_nan_lem (of_bits f b) (sym (nan_bits_is f b) ∙ e)

nan_left : (y : Float) → float_order nan y ≡ None
unfolding float_order lt eq
nan_left nan = refl
nan_left (inf s) = refl
nan_left (fin s m e) = refl

nan_right : (x : Float) → float_order x nan ≡ None
unfolding float_order lt eq
nan_right nan = refl
nan_right (inf s) = refl
nan_right (fin s m e) = refl

-- the order by the three tests of floats is the order by the two of keys
by_keys : (l m e k n : Bool) → l ≡ k → m ≡ n → (k ≡ false → n ≡ false → e ≡ true)
    → cond l (Some Less) (cond m (Some Greater) (cond e (Some Equal) None)) ≡ Some (cond k Less (cond n Greater Equal))
by_keys l m e true n p q h = ap (λ (t : Bool). cond t (Some Less) (cond m (Some Greater) (cond e (Some Equal) None))) p
by_keys l m e false true p q h = ap₂ (λ (t u : Bool). cond t (Some Less) (cond u (Some Greater) (cond e (Some Equal) None))) p q
by_keys l m e false false p q h =
    ap₂ (λ (t u : Bool). cond t (Some Less) (cond u (Some Greater) (cond e (Some Equal) None))) p q ∙ ap (λ (t : Bool). cond t (Some Equal) None) (h refl refl)

-- neither is a NaN
numbers : (f : Format) (a b : ℕ) → nan_bits f a ≡ false → nan_bits f b ≡ false
    → float_order (of_bits f a) (of_bits f b) ≡ Some (whole_order (signed_key (leb (top f) a) (a % top f)) (signed_key (leb (top f) b) (b % top f)))
unfolding float_order whole_order
numbers f a b p q =
    let s = leb (top f) a in
    let t = leb (top f) b in
    let forth = bits_compare f a b p q in
    let back = bits_compare f b a q p in
    by_keys _ _ _ _ _ (forth.less ∙ below_key s t (a % top f) (b % top f)) (back.less ∙ below_key t s (b % top f) (a % top f))
    (λ u v. forth.same ∙ level_neither s t (a % top f) (b % top f) (below_key s t _ _ ∙ u) (below_key t s _ _ ∙ v))

-- comparing two floats is comparing the keys of their bits
pub float_order_bits : (f : Format) (a b : ℕ) → float_order (of_bits f a) (of_bits f b) ≡ key_order (float_key f a) (float_key f b)
unfolding float_key key_order
float_order_bits f a b = go (nan_bits f a) refl (nan_bits f b) refl
  where
    go : (t : Bool) → nan_bits f a ≡ t → (u : Bool) → nan_bits f b ≡ u
        → float_order (of_bits f a) (of_bits f b)
        ≡ key_order (cond t None (Some (signed_key (leb (top f) a) (a % top f)))) (cond u None (Some (signed_key (leb (top f) b) (b % top f))))
    go true p u q = ap (λ (x : Float). float_order x (of_bits f b)) (bits_nan f a p) ∙ nan_left (of_bits f b)
    go false p true q = ap (float_order (of_bits f a)) (bits_nan f b q) ∙ nan_right (of_bits f a)
    go false p false q = numbers f a b p q

-- ---- which bits have a key

module _ (f : Format) (b : ℕ) where
  -- a NaN, whose bits below the sign lie above those of infinity, has none
  pub nan_key : ones f * hid f < b % top f → float_key f b ≡ None
  unfolding float_key
  nan_key h = rw (nan_bits_above f b, lt-ltb (ones f * hid f) (b % top f) h)

  -- all others have one
  pub number_key_lem : b % top f ≤ ones f * hid f → float_key f b ≡ Some (cond (leb (top f) b) (neg_ℤ (pos (b % top f))) (pos (b % top f)))
  unfolding float_key
  number_key_lem h = rw (nan_bits_above f b, le-ltb (ones f * hid f) (b % top f) h)

-- the bits of -0 and of 0 have the same
pub zeros_key : (f : Format) → float_key f (top f) ≡ float_key f 0
unfolding float_key nan_bits
zeros_key binary32 = refl
zeros_key binary64 = refl
