-- Dates and their days: as many eras on, from March on, and that a day has one date.
use Prim.Native.Nat.{ℕ, suc, ◌+◌, ◌*◌, ◌-◌, ◌<◌, ◌≤◌}
use native.Mathlib.Omega.{arith}
use mathlib.Core.Path.{◌≡◌, refl, sym, ap, ap₂, subst, ◌∙◌}
use mathlib.Core.Bool.{Bool, true, ◌&&◌}
use borrow.Author.Tests.{leb-true, le-leb}
use lib.Dec.{leb}
use lib.ListN.{get_or, take}
use lib.IntN.{ℤ, pos, negsuc, nat_abs, sub_ℕ, ◌+ℤ◌, ◌-ℤ◌}
use Rattle.timestamp.specs.Calendar.{is_leap, months, sum, months_per_year, days_of_month, days_before_month, days_of_year, days_before_year, day_of, epoch, day_number, is_date}
use Rattle.laws.proofs.DifferenceLaws.{pos_sub, negsuc_sub, sub_eq, sub_inj, sub_add_pos, sub_sub_pos}
use Rattle.timestamp.proofs.DivisionLaws.{steps_one}
use Rattle.laws.proofs.BoolLaws.{and_both, both_and}
use Rattle.timestamp.proofs.YearLaws.{elapsed, elapsed_suc, elapsed_march, march, leap_era, days_of_year_lem, days_before_year_lem, days_before_era}
use Rattle.timestamp.proofs.MonthLaws.{march_month, march_month_start, january_start, month_within, month_one}

-- ---- what a date is

pub record Date (y : ℤ) (m d : ℕ) : Type 0 where
  pub month_first : 1 ≤ m
  pub month_last : m ≤ 12
  pub day_first : 1 ≤ d
  pub day_last : d ≤ days_of_month y m

pub date_parts : (y : ℤ) (m d : ℕ) → is_date y m d ≡ true → Date y m d
unfolding is_date
date_parts y m d e =
    let last = and_both (leb 1 m && leb m months_per_year && leb 1 d) (leb d (days_of_month y m)) e in
    let first = and_both (leb 1 m && leb m months_per_year) (leb 1 d) last.0 in
    let month = and_both (leb 1 m) (leb m months_per_year) first.0 in
    record {
      month_first = leb-true 1 m month.0;
      month_last = leb-true m 12 month.1;
      day_first = leb-true 1 d first.1;
      day_last = leb-true d (days_of_month y m) last.1;
    }

pub parts_date : (y : ℤ) (m d : ℕ) → Date y m d → is_date y m d ≡ true
unfolding is_date
parts_date y m d p =
    both_and (leb 1 m && leb m months_per_year && leb 1 d) (leb d (days_of_month y m))
    (both_and (leb 1 m && leb m months_per_year) (leb 1 d)
    (both_and (leb 1 m) (leb m months_per_year) (le-leb 1 m p.month_first) (le-leb m 12 p.month_last))
    (le-leb 1 d p.day_first))
    (le-leb d (days_of_month y m) p.day_last)

-- ---- the day of a date

-- the day of a date of year 0 or later
unfoldable pub era_day_of : ℕ → ℕ → ℕ → ℕ
era_day_of n m d = elapsed n + (days_before_month (pos n) m + d)

pub day_of_pos : (n m d : ℕ) → day_of (pos n) m d ≡ pos (era_day_of n m d)
unfolding day_of era_day_of
day_of_pos n m d = ap (λ (z : ℤ). z +ℤ pos (days_before_month (pos n) m + d)) (days_before_year_lem n)

-- a date and its day, as many eras on
pub day_of_era : (y : ℤ) (n e m d : ℕ) → y ≡ sub_ℕ n (400 * e) → day_of y m d ≡ sub_ℕ (era_day_of n m d) (146097 * e)
unfolding day_of era_day_of days_before_month
day_of_era y n e m d q =
    ap₂ (λ (z : ℤ) (b : Bool). z +ℤ pos (sum (take (m - 1) (months b)) + d)) (days_before_era y n e q) (leap_era y n e q) ∙ sub_add_pos (elapsed n) (146097 * e) (days_before_month (pos n) m + d)

pub date_era : (y : ℤ) (n e m d : ℕ) → y ≡ sub_ℕ n (400 * e) → is_date y m d ≡ is_date (pos n) m d
unfolding is_date days_of_month
date_era y n e m d q =
    ap (λ (b : Bool). leb 1 m && leb m months_per_year && leb 1 d && leb d (get_or (months b) (m - 1) 0)) (leap_era y n e q)

-- from March on, and in January and February of the next year
pub day_of_march : (n i d : ℕ) → i < 10 → era_day_of n (i + 3) d ≡ march n + march_month i + d + 60
unfolding era_day_of days_before_month
day_of_march n i d h = omega (arith, march_month_start (is_leap (pos n)) i h, elapsed_march n)

pub day_of_january : (n m d : ℕ) → 1 ≤ m → m ≤ 2 → era_day_of (suc n) m d ≡ march n + march_month (m + 9) + d + 60
unfolding era_day_of days_before_month
day_of_january n m d h k =
    omega (arith, january_start (is_leap (pos (suc n))) m h k, elapsed_suc n, days_of_year_lem (pos n), elapsed_march n)

-- ---- the day number

pub epoch_is : epoch ≡ pos 719529
unfolding epoch day_of days_before_year days_before_month days_of_year sum is_leap
epoch_is = refl

pub day_number_era : (y : ℤ) (n e m d : ℕ) → y ≡ sub_ℕ n (400 * e) → day_number y m d ≡ sub_ℕ (era_day_of n m d) (146097 * e + 719529)
unfolding day_number
day_number_era y n e m d q = ap₂ (λ (a b : ℤ). a -ℤ b) (day_of_era y n e m d q) epoch_is ∙ sub_sub_pos (era_day_of n m d) (146097 * e) 719529

-- ---- a day has one date

-- a date's place in its year
pub place_in_year : (y : ℤ) (m d : ℕ) → Date y m d → days_before_month y m + (d - 1) < days_of_year y
unfolding days_before_month days_of_year days_of_month
place_in_year y m d p = month_within (is_leap y) (m - 1) (d - 1) (omega (arith, p.month_first, p.month_last)) (omega (arith, p.day_first, p.day_last))

month_day_one : (n m d m' d' : ℕ) → Date (pos n) m d → Date (pos n) m' d' → days_before_month (pos n) m + (d - 1) ≡ days_before_month (pos n) m' + (d' - 1) → (m ≡ m') × (d ≡ d')
unfolding days_before_month days_of_month
month_day_one n m d m' d' p q e =
    let one = month_one (is_leap (pos n)) (m - 1) (m' - 1) (d - 1) (d' - 1) (omega (arith, p.day_first, p.day_last)) (omega (arith, q.day_first, q.day_last)) e in
    (omega (arith, p.month_first, q.month_first, one.0), omega (arith, p.day_first, q.day_first, one.1))

era_date_one : (n m d n' m' d' : ℕ) → Date (pos n) m d → Date (pos n') m' d' → era_day_of n m d ≡ era_day_of n' m' d' → (n ≡ n') × ((m ≡ m') × (d ≡ d'))
unfolding era_day_of
era_date_one n m d n' m' d' p q e = (years.0, month_day_one n m d m' d' p (same q) (years.1 ∙ ap (λ (k : ℕ). days_before_month (pos k) m' + (d' - 1)) (sym years.0)))
  where
    years : (n ≡ n') × (days_before_month (pos n) m + (d - 1) ≡ days_before_month (pos n') m' + (d' - 1))
    years =
        steps_one elapsed (λ (k : ℕ). days_of_year (pos k)) elapsed_suc n n' (days_before_month (pos n) m + (d - 1)) (days_before_month (pos n') m' + (d' - 1)) (place_in_year (pos n) m d p) (place_in_year (pos n') m' d' q) (omega (arith, p.day_first, q.day_first))

    same : Date (pos n') m' d' → Date (pos n) m' d'
    same = subst (λ (k : ℕ). Date (pos k) m' d') (sym years.0)

-- a year counted from enough eras before
pub counted_on : (y : ℤ) (e : ℕ) → nat_abs y ≤ e → (n : ℕ) × (y ≡ sub_ℕ n (400 * e))
counted_on (pos m) e h = (m + 400 * e, pos_sub m ∙ sub_eq m 0 (m + 400 * e) (400 * e) (omega arith))
counted_on (negsuc m) e h = (400 * e - suc m, negsuc_sub m ∙ sub_eq 0 (suc m) (400 * e - suc m) (400 * e) (omega arith))

pub date_one : (y : ℤ) (m d : ℕ) (y' : ℤ) (m' d' : ℕ) → is_date y m d ≡ true → is_date y' m' d' ≡ true → day_number y m d ≡ day_number y' m' d' → (y ≡ y') × ((m ≡ m') × (d ≡ d'))
date_one y m d y' m' d' p q e = (n_is ∙ ap (λ (k : ℕ). sub_ℕ k (400 * eras)) one.0 ∙ sym n'_is, one.1)
  where
    eras : ℕ
    eras = nat_abs y + nat_abs y'

    from : (n : ℕ) × (y ≡ sub_ℕ n (400 * eras))
    from = counted_on y eras (omega arith)

    from' : (n : ℕ) × (y' ≡ sub_ℕ n (400 * eras))
    from' = counted_on y' eras (omega arith)

    n_is : y ≡ sub_ℕ from.0 (400 * eras)
    n_is = from.1

    n'_is : y' ≡ sub_ℕ from'.0 (400 * eras)
    n'_is = from'.1

    days : era_day_of from.0 m d ≡ era_day_of from'.0 m' d'
    days = omega (arith, sub_inj (era_day_of from.0 m d) (146097 * eras + 719529) (era_day_of from'.0 m' d') (146097 * eras + 719529) (sym (day_number_era y from.0 eras m d n_is) ∙ e ∙ day_number_era y' from'.0 eras m' d' n'_is))

    one : (from.0 ≡ from'.0) × ((m ≡ m') × (d ≡ d'))
    one = era_date_one from.0 m d from'.0 m' d' (date_parts (pos from.0) m d (sym (date_era y from.0 eras m d n_is) ∙ p)) (date_parts (pos from'.0) m' d' (sym (date_era y' from'.0 eras m' d' n'_is) ∙ q)) days
