-- Floor division of integers: a count from its days and its rest, by the sign, and that both are told by the count. Here t is the ticks in a
-- day.
use Prim.Native.Nat.{ℕ, suc, ◌+◌, ◌*◌, ◌-◌, ◌/◌, ◌%◌, ◌<◌, ◌≤◌, ◌^◌}
use native.Mathlib.Omega.{arith}
use native.Mathlib.Nat.{add-mul, mul_assoc, mul_comm, div-add-mod', mod-lt, mul-le-mul_right}
use mathlib.Core.Path.{◌≡◌, refl, sym, ap, subst, ◌∙◌}
use mathlib.Core.Bool.{Bool, true, false, cond, ◌&&◌}
use borrow.Author.Tests.{le-leb, lt-leb}
use lib.IntN.{ℤ, pos, negsuc, sub_ℕ, ◌+ℤ◌, ◌*ℤ◌}
use lib.Signed.{mag}
use mir.Syntax.{w64}
use mir.Val.{SFits, to_z, of_z}
use mir.ValLaws.{to_z-of_z}
use Rattle.timestamp.specs.declared.division.Division.{Division}
use Rattle.timestamp.specs.FloorDivision.{FloorDivision}
use Rattle.timestamp.specs.Outcomes.{is_signed64}
use Rattle.laws.proofs.DifferenceLaws.{Difference, difference, negsuc_sub, sub_eq, sub_inj, sub_mul, sub_add_pos}
use Rattle.timestamp.proofs.SignedLaws.{signed_of}
use Rattle.timestamp.proofs.DivisionLaws.{steps_one, suc_times}

-- so many days of t ticks and a rest
abbrev pub joined : ℤ → ℕ → ℕ → ℤ
joined day t rest = day *ℤ pos t +ℤ pos rest

-- before 0 a count folds onto the ticks that its days fold onto, with the rest counted back from the day's end
pub joined_negative : (q t r : ℕ) → r < t → joined (negsuc q) t r ≡ negsuc (q * t + (t - 1 - r))
joined_negative q t r h =
    ap (λ (z : ℤ). z *ℤ pos t +ℤ pos r) (negsuc_sub q) ∙ ap (λ (z : ℤ). z +ℤ pos r) (sub_mul 0 (suc q) t) ∙ sub_add_pos (0 * t) (suc q * t) r ∙ sub_eq (0 * t + r) (suc q * t) 0 (suc (q * t + (t - 1 - r))) (crossed (q * t) (suc q * t) (suc_times q t)) ∙ sym (negsuc_sub (q * t + (t - 1 - r)))
  where
    crossed : (x y : ℕ) → y ≡ x + t → 0 * t + r + suc (x + (t - 1 - r)) ≡ 0 + y
    crossed x y e = omega arith

-- ---- numbers of 64 bits

pub signed_fits : (z : ℤ) → mag z < 2 ^ 63 → is_signed64 z ≡ true
unfolding is_signed64
signed_fits (pos n) h = le-leb n (2 ^ 63 - 1) (omega arith)
signed_fits (negsuc n) h = ap (λ (b : Bool). b && true) (le-leb n (2 ^ 63 - 1) (omega arith))

pub signed_beyond : (z : ℤ) → 2 ^ 63 ≤ mag z → is_signed64 z ≡ false
unfolding is_signed64
signed_beyond (pos n) h = lt-leb n (2 ^ 63 - 1) (omega arith)
signed_beyond (negsuc n) h = ap (λ (b : Bool). b && true) (lt-leb n (2 ^ 63 - 1) (omega arith))

-- ---- a division

-- the ticks of the days reach no further than the count
pub joined_reach : (day : ℤ) (t r : ℕ) → r < t → mag day * t ≤ mag (joined day t r)
joined_reach (pos q) t r h = omega arith
joined_reach (negsuc q) t r h = subst (λ (z : ℤ). q * t ≤ mag z) (sym (joined_negative q t r h)) (omega arith)

pub division_reach : {count : ℤ} {t : ℕ} {d : Division} → FloorDivision count t d → mag d.day * t ≤ mag count
division_reach {count} {t} {d} p = subst (λ (z : ℤ). mag d.day * t ≤ mag z) (sym p.exact) (joined_reach d.day t d.rest p.below)

-- and fewer days have fewer ticks
pub joined_below : (day : ℤ) (t r n : ℕ) → r < t → mag day < n → mag (joined day t r) < n * t
joined_below (pos q) t r n h k = let most : suc q * t ≤ n * t = mul-le-mul_right t k in omega (arith, suc_times q t)
joined_below (negsuc q) t r n h k =
    let most : suc q * t ≤ n * t = mul-le-mul_right t k in
    subst (λ (z : ℤ). mag z < n * t) (sym (joined_negative q t r h)) (omega (arith, suc_times q t))

-- days of t parts of u ticks each
pub joined_twice : (day : ℤ) (t r u f : ℕ) → joined (joined day t r) u f ≡ joined day (u * t) (r * u + f)
joined_twice day t r u f = apart (joined day t r) (d.more * t + r) (d.less * t) u f (apart day d.more d.less t r d.is) ∙ sub_eq _ _ _ _ crossed ∙ sym (apart day d.more d.less (u * t) (r * u + f) d.is)
  where
    d : Difference day
    d = difference day

    apart : (z : ℤ) (a b v s : ℕ) → z ≡ sub_ℕ a b → joined z v s ≡ sub_ℕ (a * v + s) (b * v)
    apart z a b v s e = ap (λ (w : ℤ). w *ℤ pos v +ℤ pos s) e ∙ ap (λ (w : ℤ). w +ℤ pos s) (sub_mul a b v) ∙ sub_add_pos (a * v) (b * v) s

    regroup : (a : ℕ) → a * t * u ≡ a * (u * t)
    regroup a = mul_assoc a t u ∙ ap (λ (x : ℕ). a * x) (mul_comm t u)

    crossed : (d.more * t + r) * u + f + d.less * (u * t) ≡ d.more * (u * t) + (r * u + f) + d.less * t * u
    crossed = omega (arith, add-mul (d.more * t) r u, regroup d.more, regroup d.less)

-- a count has one day and one rest
pub joined_one : (day day' : ℤ) (t r r' : ℕ) → r < t → r' < t → joined day t r ≡ joined day' t r' → (day ≡ day') × (r ≡ r')
joined_one day day' t r r' h k e = (x.is ∙ sub_eq x.more x.less y.more y.less one.0 ∙ sym y.is, one.1)
  where
    x : Difference day
    x = difference day

    y : Difference day'
    y = difference day'

    apart : (z : ℤ) (d : Difference z) (s : ℕ) → joined z t s ≡ sub_ℕ (d.more * t + s) (d.less * t)
    apart z d s = ap (λ (w : ℤ). w *ℤ pos t +ℤ pos s) d.is ∙ ap (λ (w : ℤ). w +ℤ pos s) (sub_mul d.more d.less t) ∙ sub_add_pos (d.more * t) (d.less * t) s

    crossed : x.more * t + r + y.less * t ≡ y.more * t + r' + x.less * t
    crossed = sub_inj (x.more * t + r) (x.less * t) (y.more * t + r') (y.less * t) (sym (apart day x r) ∙ e ∙ apart day' y r')

    one : (x.more + y.less ≡ y.more + x.less) × (r ≡ r')
    one = steps_one (λ (n : ℕ). n * t) (λ (n : ℕ). t) (λ (n : ℕ). suc_times n t) (x.more + y.less) (y.more + x.less) r r' h k (omega (arith, crossed, add-mul x.more y.less t, add-mul y.more x.less t))

pub division_one : {count : ℤ} {t : ℕ} {d d' : Division} → FloorDivision count t d → FloorDivision count t d' → d ≡ d'
division_one {count} {t} {d} {d'} p q = λ i. record { day = one.0 i; rest = one.1 i }
  where
    one : (d.day ≡ d'.day) × (d.rest ≡ d'.rest)
    one = joined_one d.day d'.day t d.rest d'.rest p.below q.below (sym p.exact ∙ q.exact)

-- the rest, counted from the day's other end before 0
abbrev pub turned_of : Bool → ℕ → ℕ → ℕ
turned_of b r t = cond b (t - 1 - r) r

pub turned_below : (b : Bool) (r t : ℕ) → r < t → turned_of b r t < t
turned_below true r t h = omega arith
turned_below false r t h = h

-- a count by its sign and what it folds onto, from those of its days, and back
pub joined_signed : (b : Bool) (q t r : ℕ) → r < t → joined (signed_of b q) t r ≡ signed_of b (q * t + turned_of b r t)
joined_signed true q t r h = joined_negative q t r h
joined_signed false q t r h = refl

pub divided_signed : (b : Bool) (n t : ℕ) → 0 < t → signed_of b n ≡ joined (signed_of b (n / t)) t (turned_of b (n % t) t)
divided_signed b n t h =
    sym (joined_signed b (n / t) t (turned_of b (n % t) t) (turned_below b (n % t) t (mod-lt n h)) ∙ ap (signed_of b) (ap (λ (r : ℕ). n / t * t + r) (twice b (n % t) (mod-lt n h)) ∙ div-add-mod' n t))
  where
    twice : (b : Bool) (r : ℕ) → r < t → turned_of b (turned_of b r t) t ≡ r
    twice true r k = omega arith
    twice false r k = refl

pub joined_told : {day z : ℤ} (t r : ℕ) → SFits w64 day → z ≡ joined (to_z w64 (of_z w64 day)) t r → z ≡ joined day t r
joined_told {day} t r h p = p ∙ ap (λ (d : ℤ). joined d t r) (to_z-of_z w64 day h)

pub division_told : {count : ℤ} {t : ℕ} {d : Division} → SFits w64 count → FloorDivision (to_z w64 (of_z w64 count)) t d → FloorDivision count t d
division_told {count} {t} {d} h p = subst (λ (z : ℤ). FloorDivision z t d) (to_z-of_z w64 count h) p
