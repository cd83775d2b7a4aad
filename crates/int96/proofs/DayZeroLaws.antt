-- Counts from the start of Julian day 0: there a count of 64 bits is a natural number, whose quotient and rest are its day and its
-- nanoseconds. Here k is the day
-- of 1 January 1970, and t the nanoseconds of a day.
use Prim.Native.Nat.{ℕ, suc, ◌+◌, ◌*◌, ◌-◌, ◌<◌, ◌≤◌, ◌^◌}
use native.Mathlib.Nat.{add-mul}
use native.Mathlib.Omega.{arith}
use mathlib.Core.Path.{◌≡◌, refl, sym, ap, subst, ◌∙◌}
use mathlib.Core.Bool.{true, false≢true}
use lib.IntN.{ℤ, pos, negsuc, nat_abs, sub_ℕ, ◌+ℤ◌, ◌-ℤ◌, ◌*ℤ◌}
use lib.Signed.{mag}
use Rattle.laws.proofs.DifferenceLaws.{Difference, difference, below?, pos_sub, sub_above, sub_eq, sub_inj, sub_mul, sub_add_pos, sub_sub_pos}
use Rattle.timestamp.specs.Outcomes.{is_signed64}
use Rattle.timestamp.proofs.FloorLaws.{joined, signed_beyond}

-- a day less k and k more is the day
pub day_back : (d k : ℕ) → (pos d -ℤ pos k) +ℤ pos k ≡ pos d
day_back d k =
    ap (λ (z : ℤ). (z -ℤ pos k) +ℤ pos k) (pos_sub d)
    ∙ ap (λ (z : ℤ). z +ℤ pos k) (sub_sub_pos d 0 k)
    ∙ sub_add_pos d (0 + k) k
    ∙ sub_above (d + k) (0 + k) (omega arith)
    ∙ ap pos (omega arith)

-- the nanoseconds of k days more are those from day 0 on
pub since_joined : (k t : ℕ) (day : ℤ) (d r : ℕ) → day +ℤ pos k ≡ pos d → joined day t r +ℤ pos (k * t) ≡ pos (d * t + r)
since_joined k t day d r e =
    ap (λ (z : ℤ). z +ℤ pos (k * t)) apart
    ∙ sub_add_pos (x.more * t + r) (x.less * t) (k * t)
    ∙ sub_eq (x.more * t + r + k * t) (x.less * t) (d * t + r) 0 crossed
    ∙ sym (pos_sub (d * t + r))
  where
    x : Difference day
    x = difference day

    apart : joined day t r ≡ sub_ℕ (x.more * t + r) (x.less * t)
    apart =
        ap (λ (z : ℤ). z *ℤ pos t +ℤ pos r) x.is
        ∙ ap (λ (z : ℤ). z +ℤ pos r) (sub_mul x.more x.less t)
        ∙ sub_add_pos (x.more * t) (x.less * t) r

    days : x.more + k ≡ d + x.less
    days =
        omega (arith, sub_inj (x.more + k) x.less d 0 (sym (sub_add_pos x.more x.less k) ∙ ap (λ (z : ℤ). z +ℤ pos k) (sym x.is) ∙ e ∙ pos_sub d))

    crossed : x.more * t + r + k * t + 0 ≡ d * t + r + x.less * t
    crossed = omega (arith, ap (λ (n : ℕ). n * t) days, add-mul x.more k t, add-mul d x.less t)

-- two counts as far from another start are one
pub since_one : (z w : ℤ) (n : ℕ) → z +ℤ pos n ≡ w +ℤ pos n → z ≡ w
since_one z w n e = x.is ∙ sub_eq x.more x.less y.more y.less (omega (arith, crossed)) ∙ sym y.is
  where
    x : Difference z
    x = difference z

    y : Difference w
    y = difference w

    crossed : x.more + n + y.less ≡ y.more + n + x.less
    crossed =
        sub_inj (x.more + n) x.less (y.more + n) y.less
        (sym (sub_add_pos x.more x.less n) ∙ ap (λ (v : ℤ). v +ℤ pos n) (sym x.is) ∙ e ∙ ap (λ (v : ℤ). v +ℤ pos n) y.is ∙ sub_add_pos y.more y.less n)

-- and where a count lies behind the start, it is a natural number from there
pub since_is : (n : ℕ) (z : ℤ) → mag z < n → (z +ℤ pos n ≡ pos (nat_abs (z +ℤ pos n))) × (nat_abs (z +ℤ pos n) ≤ n + mag z)
since_is n (pos m) h = (refl, omega arith)
since_is n (negsuc m) h =
    let e : negsuc m +ℤ pos n ≡ pos (n - suc m) = sub_above n (suc m) h in
    (e ∙ ap (λ (w : ℤ). pos (nat_abs w)) (sym e), subst (λ (w : ℤ). nat_abs w ≤ n + m) (sym e) (omega arith))

-- a signed 64-bit number is near 0
pub signed_near : (z : ℤ) → is_signed64 z ≡ true → mag z < 2 ^ 63
signed_near z e = below? (mag z) (2 ^ 63) (λ h. h) (λ h. absurd (false≢true (sym (signed_beyond z h) ∙ e)))
