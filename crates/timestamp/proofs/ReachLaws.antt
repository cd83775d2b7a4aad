-- Years that no count of 64 bits reaches: 300 million or more from year 0, at a thousand ticks a second or more.
use Prim.Native.Nat.{ℕ, zero, suc, ◌+◌, ◌*◌, ◌-◌, ◌<◌, ◌≤◌, ◌^◌}
use native.Mathlib.Omega.{arith}
use native.Mathlib.Nat.{mul-le-mul, le_trans}
use mathlib.Core.Path.{◌≡◌, sym, ap, ap₂, subst, ◌∙◌}
use mathlib.Core.Bool.{true, false}
use lib.IntN.{ℤ, pos, negsuc, sub_ℕ, ◌+ℤ◌, ◌-ℤ◌}
use lib.Signed.{mag}
use lib.Dec.{lit≤}
use Rattle.timestamp.specs.Calendar.{days_before_month, days_of_year, days_before_year, day_of, epoch, day_number, is_date}
use Rattle.timestamp.specs.Outcomes.{is_signed64}
use Rattle.timestamp.specs.Units.{ticks_per_day_of}
use Rattle.laws.proofs.DifferenceLaws.{pos_sub, sub_above, sub_below, sub_add_pos, sub_sub_pos}
use Rattle.timestamp.proofs.YearLaws.{elapsed, elapsed_suc, elapsed_zero, days_of_year_lem, days_of_year_most}
use Rattle.timestamp.proofs.DateLaws.{date_parts, place_in_year, era_day_of, day_number_era, epoch_is}
use Rattle.timestamp.proofs.FloorLaws.{joined, joined_reach, signed_beyond}

-- a year has 365 days or more
elapsed_least : (n : ℕ) → 365 * n ≤ elapsed n
elapsed_least zero = omega (arith, elapsed_zero)
elapsed_least (suc n) = omega (arith, elapsed_least n, elapsed_suc n, days_of_year_lem (pos n))

record Before (n : ℕ) : Type 0 where
  pub days : ℕ
  pub is : days_before_year (negsuc n) ≡ sub_ℕ 0 days
  pub least : 365 * suc n ≤ days

before : (n : ℕ) → Before n
unfolding days_before_year
before zero = record { days = 0 + days_of_year (negsuc 0); is = sub_sub_pos 0 0 (days_of_year (negsuc 0)); least = omega (arith, days_of_year_lem (negsuc 0)) }
before (suc n) =
    let b = before n in
    record {
      days = b.days + days_of_year (negsuc (suc n));
      is = ap (λ (z : ℤ). z -ℤ pos (days_of_year (negsuc (suc n)))) b.is ∙ sub_sub_pos 0 b.days (days_of_year (negsuc (suc n)));
      least = omega (arith, b.least, days_of_year_lem (negsuc (suc n)));
    }

-- so the day number of a far year is far
days_far : (y : ℤ) (m d : ℕ) → is_date y m d ≡ true → 300000000 ≤ mag y → 109000000000 ≤ mag (day_number y m d)
unfolding day_number day_of era_day_of
days_far (pos n) m d p h = subst (λ (z : ℤ). 109000000000 ≤ mag z) (sym is) (omega (arith, elapsed_least n))
  where
    is : day_number (pos n) m d ≡ pos (era_day_of n m d - 719529)
    is = day_number_era (pos n) n 0 m d (pos_sub n) ∙ sub_above (era_day_of n m d) 719529 (omega (arith, elapsed_least n))
days_far (negsuc n) m d p h = subst (λ (z : ℤ). 109000000000 ≤ mag z) (sym is) (omega (arith, b.least, within))
  where
    b : Before n
    b = before n

    passed : ℕ
    passed = days_before_month (negsuc n) m + d

    within : passed ≤ 366
    within = omega (arith, place_in_year (negsuc n) m d (date_parts (negsuc n) m d p), days_of_year_most (negsuc n))

    is : day_number (negsuc n) m d ≡ negsuc (b.days + 719529 - suc (0 + passed))
    is =
        ap (λ (z : ℤ). z +ℤ pos passed -ℤ epoch) b.is ∙ ap₂ (λ (v w : ℤ). v -ℤ w) (sub_add_pos 0 b.days passed) epoch_is ∙ sub_sub_pos (0 + passed) b.days 719529 ∙ sub_below (0 + passed) (b.days + 719529) (omega (arith, b.least, within))

-- and so is its count, at any time of the day
pub count_far : (y : ℤ) (m d t r : ℕ) → is_date y m d ≡ true → 300000000 ≤ mag y → 1000 ≤ t → r < ticks_per_day_of t → is_signed64 (joined (day_number y m d) (ticks_per_day_of t) r) ≡ false
count_far y m d t r p h ht hr = signed_beyond (joined (day_number y m d) (ticks_per_day_of t) r) (le_trans ticks (joined_reach (day_number y m d) (ticks_per_day_of t) r hr))
  where
    ticks : 2 ^ 63 ≤ mag (day_number y m d) * ticks_per_day_of t
    ticks = le_trans (lit≤ tt) (mul-le-mul {n₁ = 109000000000} {m₁ = 86400000} (days_far y m d p h) (omega arith))
