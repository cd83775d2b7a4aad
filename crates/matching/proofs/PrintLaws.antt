-- The prints of names, byte by byte and node by node.
use mathlib.Core.Path.{◌≡◌, refl, sym, ap, ◌∙◌}
use mathlib.Core.List.{List, [], ◌∷◌, ◌++◌, append_assoc}
use Prim.Native.Nat.{ℕ, ◌+◌, ◌*◌, ◌-◌, ◌%◌, ◌^◌, ◌≤◌, ◌<◌}
use native.Mathlib.Decide.{ℕ_discrete}
use native.Mathlib.Omega.{arith}
use lib.ListN.{length, get_or, set, drop, length-set, length-append}
use lib.Seq.{drop_at, get_or-set_same, get_or-set_other}
use Rattle.sheet.specs.Block.{most_nodes}
use Rattle.sheet.specs.Slot.{slot_at, name}
use Rattle.matching.specs.Steps.{print_from, print_of, Prints}

-- a print so far, from which the rest of a name leads to its print: the rest stands behind pairs
pub record Printed (n rest : List ℕ) (print : ℕ) : Type 0 where
  pub small : print < 2 ^ 32
  pub same : print_from print rest ≡ print_of n
  pub front : List ℕ
  pub split : n ≡ front ++ rest
  pub even : length front % 2 ≡ 0

pub printed_start : (n : List ℕ) → Printed n n 0
printed_start n = record { small = omega arith; same = refl; front = []; split = refl; even = omega arith }

-- two bytes at a time
pub printed_next : (n rest : List ℕ) (print : ℕ) → Printed n rest print → (pair rest' : List ℕ) → rest ≡ pair ++ rest' → length pair ≡ 2
    → Printed n rest' ((print * 961 + get_or pair 0 0 * 31 + get_or pair 1 0) % 2 ^ 32)
unfolding print_from
printed_next n rest print p [] rest' e l = absurd (omega (arith, l))
printed_next n rest print p (b ∷ []) rest' e l = absurd (omega (arith, l))
printed_next n rest print p (b ∷ c ∷ x ∷ xs) rest' e l = absurd (omega (arith, l))
printed_next n rest print p (b ∷ c ∷ []) rest' e l = record {
  small = omega arith;
  same = sym (ap (print_from print) e) ∙ p.same;
  front = p.front ++ (b ∷ c ∷ []);
  split = p.split ∙ ap (p.front ++◌) e ∙ sym (append_assoc p.front (b ∷ c ∷ []) rest');
  even = omega (arith, p.even, length-append p.front (b ∷ c ∷ []));
}

-- where less than a pair is left, that is what no pair has
module _ (n rest : List ℕ) (print : ℕ) (p : Printed n rest print) (few : length rest < 2) (last : List ℕ) (e : last ≡ drop (length n - length n % 2) n) where
  last_is : last ≡ rest
  last_is =
      let long : length n ≡ length p.front + length rest = ap length p.split ∙ length-append p.front rest in
      e ∙ ap (drop (length n - length n % 2)) p.split ∙ drop_at p.front rest (length n - length n % 2) (omega (arith, long, p.even, few))

  same_last : print_from print last ≡ print_of n
  same_last = ap (print_from print) last_is ∙ p.same

  -- the last byte, where their number is odd
  pub printed_last : (length last ≡ 0 → ⊥) → (print * 31 + get_or last 0 0) % 2 ^ 32 ≡ print_of n
  unfolding print_from
  printed_last some = one last same_last some (omega (arith, ap length last_is, few))
    where
      one : (xs : List ℕ) → print_from print xs ≡ print_of n → (length xs ≡ 0 → ⊥) → length xs < 2 → (print * 31 + get_or xs 0 0) % 2 ^ 32 ≡ print_of n
      one [] q f h = absurd (f refl)
      one (b ∷ []) q f h = q
      one (b ∷ c ∷ xs) q f h = absurd (omega (arith, h))

  pub printed_end : length last ≡ 0 → print ≡ print_of n
  unfolding print_from
  printed_end none = nothing last same_last none
    where
      nothing : (xs : List ℕ) → print_from print xs ≡ print_of n → length xs ≡ 0 → print ≡ print_of n
      nothing [] q h = q
      nothing (b ∷ xs) q h = absurd (omega (arith, h))

-- the prints of no node, and of one more
pub prints_none : (b prints : List ℕ) → length prints ≡ most_nodes → Prints b 0 prints
prints_none b prints long = record { long = long; print_at = λ i h. absurd (omega arith) }

pub prints_more : (b prints : List ℕ) (k p : ℕ) → k < most_nodes → Prints b k prints → p ≡ print_of (name (slot_at b k)) → Prints b (k + 1) (set prints k p)
prints_more b prints k p l known is = record { long = length-set prints k p ∙ known.long; print_at = λ i h. cases i h (ℕ_discrete i k) }
  where
    cases : (i : ℕ) → i < k + 1 → Dec (i ≡ k) → get_or (set prints k p) i 0 ≡ print_of (name (slot_at b i))
    cases i h (yes q) = rw q (get_or-set_same prints k p 0 (omega (arith, known.long)) ∙ is)
    cases i h (no q) = get_or-set_other prints k i p 0 q ∙ known.print_at i (omega (arith, q))

pub prints_all : (b prints : List ℕ) (k n : ℕ) → Prints b k prints → n ≤ k → Prints b n prints
prints_all b prints k n known h = record { long = known.long; print_at = λ i l. known.print_at i (omega arith) }
