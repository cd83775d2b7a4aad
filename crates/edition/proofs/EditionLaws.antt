-- Which editions are known.
-- Assumes nothing.
use Prim.Native.Nat.{ℕ, zero, suc, ◌≤◌}
use mathlib.Core.Path.{◌≡◌, refl}
use mathlib.Core.Bool.{true}
use native.Mathlib.Omega.{arith}
use lib.Dec.{leb}
use borrow.Author.Tests.{leb-true}
use Rattle.edition.specs.Editions.{FIRST, SECOND, THIRD, is_known}
use Rattle.laws.proofs.BoolLaws.{and_both}

-- the editions are 1, 2 and 3
pub data OneOf : ℕ → Type 0 where
  first : OneOf FIRST
  second : OneOf SECOND
  third : OneOf THIRD

pub known_of : {edition : ℕ} → OneOf edition → is_known edition ≡ true
unfolding is_known
known_of first = refl
known_of second = refl
known_of third = refl

-- and there is no other
pub one_of_known : (edition : ℕ) → is_known edition ≡ true → OneOf edition
unfolding is_known
one_of_known edition e = cases edition (leb-true FIRST edition held.0) (leb-true edition THIRD held.1)
  where
    held : (leb FIRST edition ≡ true) × (leb edition THIRD ≡ true)
    held = and_both (leb FIRST edition) (leb edition THIRD) e

    cases : (n : ℕ) → FIRST ≤ n → n ≤ THIRD → OneOf n
    cases zero h m = absurd (omega arith)
    cases (suc zero) h m = first
    cases (suc (suc zero)) h m = second
    cases (suc (suc (suc zero))) h m = third
    cases (suc (suc (suc (suc n)))) h m = absurd (omega arith)

-- what holds of each of them holds of every known edition
pub each_edition : (P : ℕ → Type 0) → P FIRST → P SECOND → P THIRD → (edition : ℕ) → is_known edition ≡ true → P edition
each_edition P p q r edition known = each (one_of_known edition known)
  where
    each : {e : ℕ} → OneOf e → P e
    each first = p
    each second = q
    each third = r
