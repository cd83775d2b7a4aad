-- Laws of a sheet that stores the check of every block: all other bytes stay, every check is right, and storing them again changes nothing.
use mathlib.Core.Path.{◌≡◌, refl, sym, ap, ap₂, ◌∙◌, subst}
use mathlib.Core.Logic.{⊎_elim}
use mathlib.Core.Bool.{true}
use mathlib.Core.List.{List}
use Prim.Native.Nat.{ℕ, zero, suc, ◌+◌, ◌*◌, ◌%◌, ◌≤◌, ◌<◌}
use native.Mathlib.Nat.{add_assoc, eq-or-lt_of_le}
use native.Mathlib.Omega.{arith}
use borrow.Author.Tests.{eq-eqb}
use lib.ListN.{length, get_or, set, length-set}
use lib.Seq.{get_or-set_same, get_or-set_other, set-get_or}
use Rattle.sheet.specs.Number.{low_byte, high_byte}
use Rattle.sheet.specs.Block.{block_size, check_at, stored_check, block_count, block_at}
use Rattle.block_check.specs.Check.{check}
use Rattle.sheet.specs.Check.{check_right, with_check, with_checks, renewed}
use Rattle.block_check.proofs.CheckLaws.{check_same}
use Rattle.sheet.proofs.NumberLaws.{number_at_two}
use Rattle.sheet.proofs.BlockLaws.{block_at_byte, block_count_same, blocks_within}

-- two bytes stored one after the other
module _ (l : List ℕ) (p x y : ℕ) where
  stored_low : p < length l → get_or (set (set l p x) (p + 1) y) p 0 ≡ x
  stored_low h = get_or-set_other (set l p x) (p + 1) p y 0 (λ (e : p ≡ p + 1). omega arith) ∙ get_or-set_same l p x 0 h

  stored_high : p + 1 < length l → get_or (set (set l p x) (p + 1) y) (p + 1) 0 ≡ y
  stored_high h = get_or-set_same (set l p x) (p + 1) y 0 (simp length-set h)

  stored_other : (q : ℕ) → (q ≡ p → ⊥) → (q ≡ p + 1 → ⊥) → get_or (set (set l p x) (p + 1) y) q 0 ≡ get_or l q 0
  stored_other q low high = get_or-set_other (set l p x) (p + 1) q y 0 high ∙ get_or-set_other l p q x 0 low

  stored_same : get_or l p 0 ≡ x → get_or l (p + 1) 0 ≡ y → set (set l p x) (p + 1) y ≡ l
  stored_same low high =
      ap (λ (m : List ℕ). set m (p + 1) y) (ap (set l p) (sym low) ∙ set-get_or l p 0) ∙ ap (set l (p + 1)) (sym high) ∙ set-get_or l (p + 1) 0

length_with_check : (sheet : List ℕ) (i : ℕ) → length (with_check sheet i) ≡ length sheet
unfolding with_check
length_with_check sheet i = simp length-set

module _ (sheet : List ℕ) where
  length_with_checks : (n : ℕ) → length (with_checks sheet n) ≡ length sheet
  unfolding with_checks
  length_with_checks zero = refl
  length_with_checks (suc n) = length_with_check (with_checks sheet n) n ∙ length_with_checks n

  -- a byte that stands before its block's check stays
  with_checks_other : (n p : ℕ) → p % block_size < check_at → get_or (with_checks sheet n) p 0 ≡ get_or sheet p 0
  unfolding with_checks with_check
  with_checks_other zero p h = refl
  with_checks_other (suc n) p h =
      stored_other (with_checks sheet n) (block_size * n + check_at) _ _ p (λ (e : p ≡ block_size * n + check_at). omega arith) (λ (e : p ≡ block_size * n + check_at + 1). omega arith)
      ∙ with_checks_other n p h

  -- so a block's check is what it was
  with_checks_check : (n i : ℕ) → check (block_at (with_checks sheet n) i) ≡ check (block_at sheet i)
  with_checks_check n i =
      check_same (block_at (with_checks sheet n) i) (block_at sheet i)
      (λ j h. block_at_byte (with_checks sheet n) i j (omega arith) ∙ with_checks_other n (block_size * i + j) (omega arith) ∙ sym (block_at_byte sheet i j (omega arith)))

-- block i of a sheet stores a check
abbrev Stores : List ℕ → ℕ → ℕ → Type 0
Stores sheet i c = (get_or sheet (block_size * i + check_at) 0 ≡ low_byte c) × (get_or sheet (block_size * i + check_at + 1) 0 ≡ high_byte c)

with_check_own : (sheet : List ℕ) (i : ℕ) → block_size * i + block_size ≤ length sheet → Stores (with_check sheet i) i (check (block_at sheet i))
unfolding with_check
with_check_own sheet i fits = (
  stored_low sheet (block_size * i + check_at) _ _ (omega arith),
  stored_high sheet (block_size * i + check_at) _ _ (omega arith),
)

with_check_later : (sheet : List ℕ) (i n c : ℕ) → i < n → Stores sheet i c → Stores (with_check sheet n) i c
unfolding with_check
with_check_later sheet i n c h stores = (
  stored_other sheet (block_size * n + check_at) _ _ (block_size * i + check_at) (λ (e : block_size * i + check_at ≡ block_size * n + check_at). omega arith) (λ (e : block_size * i + check_at ≡ block_size * n + check_at + 1). omega arith) ∙ stores.0,
  stored_other sheet (block_size * n + check_at) _ _ (block_size * i + check_at + 1) (λ (e : block_size * i + check_at + 1 ≡ block_size * n + check_at). omega arith) (λ (e : block_size * i + check_at + 1 ≡ block_size * n + check_at + 1). omega arith) ∙ stores.1,
)

-- each of the first n blocks stores its check
with_checks_stores : (sheet : List ℕ) (i n : ℕ) → i < n → block_size * n ≤ length sheet → Stores (with_checks sheet n) i (check (block_at sheet i))
unfolding with_checks
with_checks_stores sheet i zero h fits = absurd (omega arith)
with_checks_stores sheet i (suc n) h fits = ⊎_elim
    (λ (e : i ≡ n). subst (λ (k : ℕ). Stores (with_check (with_checks sheet n) n) k (check (block_at sheet k))) (sym e)
    (subst (Stores (with_check (with_checks sheet n) n) n) (with_checks_check sheet n n) (with_check_own (with_checks sheet n) n (omega (arith, length_with_checks sheet n)))))
    (λ (l : i < n). with_check_later (with_checks sheet n) i n (check (block_at sheet i)) l (with_checks_stores sheet i n l (omega arith)))
    (eq-or-lt_of_le (omega arith))

module _ (sheet : List ℕ) where
  pub length_renewed : length (renewed sheet) ≡ length sheet
  unfolding renewed
  length_renewed = length_with_checks sheet (block_count sheet)

  -- every byte that stands before its block's check stays
  pub renewed_other : (p : ℕ) → p % block_size < check_at → get_or (renewed sheet) p 0 ≡ get_or sheet p 0
  unfolding renewed
  renewed_other p h = with_checks_other sheet (block_count sheet) p h

  module _ (i : ℕ) (h : i < block_count sheet) where
    renewed_stores : Stores (renewed sheet) i (check (block_at (renewed sheet) i))
    unfolding renewed
    renewed_stores =
        subst (Stores (with_checks sheet (block_count sheet)) i) (sym (with_checks_check sheet (block_count sheet) i))
        (with_checks_stores sheet i (block_count sheet) h (blocks_within sheet))

    stored_is : stored_check (block_at (renewed sheet) i) ≡ check (block_at (renewed sheet) i)
    unfolding stored_check
    stored_is =
        number_at_two (block_at (renewed sheet) i) check_at
        ∙ ap₂ (λ (low high : ℕ). low + 256 * high)
        (block_at_byte (renewed sheet) i check_at (omega arith) ∙ renewed_stores.0)
        (block_at_byte (renewed sheet) i (check_at + 1) (omega arith) ∙ ap (λ (p : ℕ). get_or (renewed sheet) p 0) (sym (add_assoc (block_size * i) check_at 1)) ∙ renewed_stores.1)
        ∙ omega arith

    -- every check is right
    pub renewed_right : check_right (renewed sheet) i ≡ true
    unfolding check_right
    renewed_right = eq-eqb _ _ stored_is

-- where every block stores its check, nothing changes
with_checks_same : (sheet : List ℕ) (n : ℕ) → ((i : ℕ) → i < n → Stores sheet i (check (block_at sheet i))) → with_checks sheet n ≡ sheet
unfolding with_checks with_check
with_checks_same sheet zero stores = refl
with_checks_same sheet (suc n) stores =
    ap (λ (l : List ℕ). with_check l n) (with_checks_same sheet n (λ i h. stores i (omega arith)))
    ∙ stored_same sheet (block_size * n + check_at) _ _ (stores n (omega arith)).0 (stores n (omega arith)).1

-- storing the checks again changes nothing
pub renewed_renewed : (sheet : List ℕ) → renewed (renewed sheet) ≡ renewed sheet
unfolding renewed
renewed_renewed sheet =
    ap (with_checks (renewed sheet)) (block_count_same (renewed sheet) sheet (length_renewed sheet))
    ∙ with_checks_same (renewed sheet) (block_count sheet) (renewed_stores sheet)
