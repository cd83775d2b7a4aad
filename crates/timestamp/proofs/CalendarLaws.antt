-- What the tests of the calendar's code decide, and day numbers from the days of eras.
use Prim.Native.Nat.{ℕ, zero, suc, ◌+◌, ◌*◌, ◌-◌, ◌<◌, ◌≤◌}
use native.Mathlib.Nat.{le_of_eq, le_trans, lt_irrefl}
use native.Mathlib.Omega.{arith}
use mathlib.Core.Path.{◌≡◌, refl, sym, ap, subst, ◌∙◌}
use mathlib.Core.Bool.{Bool, true, false, not, ◌&&◌, ◌||◌, true≢false}
use mathlib.Core.List.{◌∷◌}
use borrow.Author.Tests.{le-leb, leb-true, leb-false, eqb-true, eq-eqb}
use lib.Dec.{leb, eqb}
use lib.ListN.{get_or, get_or-eq_default}
use lib.IntN.{ℤ, pos, negsuc, nat_abs, sub_ℕ}
use lib.Signed.{mag}
use Rattle.timestamp.specs.Calendar.{divides, is_leap, months, days_of_month, day_of, day_number, is_date}
use Rattle.laws.proofs.BoolLaws.{by_test, and_both, both_and}
use Rattle.laws.proofs.DifferenceLaws.{below?, pos_sub, negsuc_sub, sub_eq, sub_inj, sub_above, sub_below}
use Rattle.timestamp.proofs.DateLaws.{Date, date_parts, parts_date, era_day_of, day_of_pos, date_era, day_number_era}
use Rattle.timestamp.proofs.EraDateLaws.{era_date}

-- ---- leap years

pub leap_tests : (y : ℤ) (n : ℕ) → n ≡ nat_abs y → (divides 4 n && (not (divides 100 n) || divides 400 n)) ≡ is_leap y
unfolding is_leap
leap_tests y n e = ap (λ (x : ℕ). divides 4 x && (not (divides 100 x) || divides 400 x)) e

-- ---- what the code tests of a date

-- the days of a month of a common year, and 0 where there is no such month
abbrev pub common_days : ℕ → ℕ
common_days m = get_or (0 ∷ months false) m 0

-- each month has them in every year, and February has a day more in a leap year
month_least : (b : Bool) (i : ℕ) → get_or (months false) i 0 ≤ get_or (months b) i 0
month_least b zero = omega arith
month_least true (suc zero) = omega arith
month_least false (suc zero) = omega arith
month_least b (suc (suc i)) = le_of_eq refl

month_more : (b : Bool) (i : ℕ) → get_or (months false) i 0 < get_or (months b) i 0 → (i ≡ 1) × (b ≡ true)
month_more b zero h = absurd (omega arith)
month_more true (suc zero) h = (refl, refl)
month_more false (suc zero) h = absurd (omega arith)
month_more b (suc (suc i)) h = absurd (lt_irrefl _ h)

-- there is no month after the twelfth
months_end : (i : ℕ) → 0 < get_or (months false) i 0 → i < 12
months_end i h = below? i 12 (λ g. g) (λ g. absurd (omega (arith, beyond g)))
  where
    beyond : 12 ≤ i → get_or (months false) i 0 ≡ 0
    beyond g = get_or-eq_default (months false) 0 g

-- a day that its month has in every year makes a date
pub common_date : (y : ℤ) (m d : ℕ) → (leb 1 d && leb d (common_days m)) ≡ true → is_date y m d ≡ true
unfolding days_of_month
common_date y m d e = by_month m (leb-true 1 d (and_both (leb 1 d) (leb d (common_days m)) e).0) (leb-true d (common_days m) (and_both (leb 1 d) (leb d (common_days m)) e).1)
  where
    by_month : (m : ℕ) → 1 ≤ d → d ≤ common_days m → is_date y m d ≡ true
    by_month zero h k = absurd (omega arith)
    by_month (suc i) h k =
        let same : i ≡ suc i - 1 = omega arith in
        parts_date y (suc i) d (record { month_first = omega arith; month_last = omega (arith, months_end i (omega arith)); day_first = h; day_last = subst (λ (j : ℕ). d ≤ get_or (months (is_leap y)) j 0) same (le_trans k (month_least (is_leap y) i)) })

-- and any other date is 29 February of a leap year
pub leap_date : (y : ℤ) (m d : ℕ) → (leb 1 d && leb d (common_days m)) ≡ false → (eqb m 2 && eqb d 29 && is_leap y) ≡ is_date y m d
unfolding days_of_month
leap_date y m d e = by_test (is_date y m d) (λ p. held (date_parts y m d p) ∙ sym p) (λ p. by_test (eqb m 2 && eqb d 29 && is_leap y) (λ q. absurd (true≢false (sym (formed q) ∙ p))) (λ q. q ∙ sym p))
  where
    formed : (eqb m 2 && eqb d 29 && is_leap y) ≡ true → is_date y m d ≡ true
    formed q =
        let both = and_both (eqb m 2 && eqb d 29) (is_leap y) q in
        let fixed = and_both (eqb m 2) (eqb d 29) both.0 in
        let month : m ≡ 2 = eqb-true m 2 fixed.0 in
        let day : d ≡ 29 = eqb-true d 29 fixed.1 in
        parts_date y m d (record { month_first = omega arith; month_last = omega arith; day_first = omega arith; day_last = subst (λ (k : ℕ). d ≤ get_or (months (is_leap y)) (k - 1) 0) (sym month) (subst (λ (b : Bool). d ≤ get_or (months b) 1 0) (sym both.1) (omega arith)) })

    held : Date y m d → (eqb m 2 && eqb d 29 && is_leap y) ≡ true
    held p =
        let more = month_more (is_leap y) (m - 1) (omega (arith, common, p.day_last)) in
        let last : d ≤ get_or (months true) 1 0 = subst (λ (b : Bool). d ≤ get_or (months b) 1 0) more.1 (subst (λ (i : ℕ). d ≤ get_or (months (is_leap y)) i 0) more.0 p.day_last) in
        let least : get_or (months false) 1 0 < d = subst (λ (i : ℕ). get_or (months false) i 0 < d) more.0 common in
        both_and (eqb m 2 && eqb d 29) (is_leap y) (both_and (eqb m 2) (eqb d 29) (eq-eqb m 2 (omega (arith, more.0, p.month_first))) (eq-eqb d 29 (omega arith))) more.1
      where
        from_one : (k : ℕ) → 1 ≤ k → common_days k ≡ get_or (months false) (k - 1) 0
        from_one zero h = absurd (omega arith)
        from_one (suc k) h = let same : k ≡ suc k - 1 = omega arith in ap (λ (i : ℕ). get_or (months false) i 0) same

        common : get_or (months false) (m - 1) 0 < d
        common = by_test (leb d (common_days m)) (λ t. absurd (true≢false (sym (both_and (leb 1 d) (leb d (common_days m)) (le-leb 1 d p.day_first) t) ∙ e))) (λ t. omega (arith, leb-false d (common_days m) t, from_one m p.month_first))

-- ---- day numbers

-- a year counted from e eras before year 0, and a day from 1 March of that one
pub day_number_from : (y : ℤ) (n e m d day : ℕ) → y ≡ sub_ℕ n (400 * e) → day_of (pos n) m d ≡ pos (day + 61) → day_number y m d ≡ sub_ℕ day (146097 * e + 719468)
day_number_from y n e m d day q p =
    let same : era_day_of n m d ≡ day + 61 = pos_inj (sym (day_of_pos n m d) ∙ p) in
    day_number_era y n e m d q ∙ sub_eq (era_day_of n m d) (146097 * e + 719529) day (146097 * e + 719468) (omega arith)
  where
    pos_inj : {a b : ℕ} → pos a ≡ pos b → a ≡ b
    pos_inj q = cc

-- how far a difference lies from 0, and the other way round
pub difference_within : (a b most : ℕ) → a < b + most → b < a + most → mag (sub_ℕ a b) < most
difference_within a b most h k = below? a b (λ l. bounded (sub_below a b l) (omega arith)) (λ l. bounded (sub_above a b l) (omega arith))
  where
    bounded : {x z : ℤ} → x ≡ z → mag z < most → mag x < most
    bounded e m = subst (λ (w : ℤ). mag w < most) (sym e) m

pub difference_most : (a b most : ℕ) → a < most → b < most → mag (sub_ℕ a b) < most
difference_most a b most h k = difference_within a b most (omega arith) (omega arith)

pub raised_most : (x : ℤ) (n by most : ℕ) → x ≡ sub_ℕ n by → mag x < most → n < by + most
raised_most (pos m) n by most e h = omega (arith, sub_inj m 0 n by (sym (pos_sub m) ∙ e))
raised_most (negsuc m) n by most e h = omega (arith, sub_inj 0 (suc m) n by (sym (negsuc_sub m) ∙ e))

pub raised_least : (x : ℤ) (n by most : ℕ) → x ≡ sub_ℕ n by → mag x < most → by ≤ n + most
raised_least (pos m) n by most e h = omega (arith, sub_inj m 0 n by (sym (pos_sub m) ∙ e))
raised_least (negsuc m) n by most e h = omega (arith, sub_inj 0 (suc m) n by (sym (negsuc_sub m) ∙ e))

-- ---- each day number has a date

pub date_some : (day : ℤ) → (y : ℤ) × (m : ℕ) × (d : ℕ) × (is_date y m d ≡ true) × (day_number y m d ≡ day)
date_some day =
    let e = counted_from day in
    let date = era_date e.1 in
    let y = sub_ℕ date.year (400 * e.0) in (
      y,
      date.month,
      date.day_of_month,
      date_era y date.year e.0 date.month date.day_of_month refl ∙ date.is_date_lem,
      day_number_from y date.year e.0 date.month date.day_of_month e.1 refl date.is ∙ sym e.2,
    )
  where
    -- counted from 1 March, so many eras before year 0 that it is not negative
    counted_from : (z : ℤ) → (e : ℕ) × (n : ℕ) × (z ≡ sub_ℕ n (146097 * e + 719468))
    counted_from (pos m) = (0, m + 719468, pos_sub m ∙ sub_eq m 0 (m + 719468) (146097 * 0 + 719468) (omega arith))
    counted_from (negsuc m) = (suc m, 146097 * suc m + 719468 - suc m, negsuc_sub m ∙ sub_eq 0 (suc m) (146097 * suc m + 719468 - suc m) (146097 * suc m + 719468) (omega arith))
