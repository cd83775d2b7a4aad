-- Laws of sums, and of the sum over a block by its chunks.
use Rattle.std.proofs.Common.{◌≡◌, ℕ, zero, suc, ◌+◌, ◌*◌, ◌<◌, List, get_or, sym, refl, ap, ◌∙◌, ap₂, add-zero, add-suc, add-mul, mul-add, add-one, arith}
use Rattle.block_check.specs.Check.{block_size, check_at, sum_below, weighted}
use Rattle.block_check.specs.Steps.{chunk_size, lanes, pair_of, pair_weight}

-- a sum over one number more
pub sum_below_more : (f : ℕ → ℕ) (n : ℕ) → sum_below f (n + 1) ≡ sum_below f n + f n
unfolding sum_below
sum_below_more f n = rw add-one

-- a sum over n numbers more
sum_below_add : (f : ℕ → ℕ) (a n : ℕ) → sum_below f (a + n) ≡ sum_below f a + sum_below (λ j. f (a + j)) n
unfolding sum_below
sum_below_add f a zero = simp add-zero refl
sum_below_add f a (suc n) = simp (add-suc, sum_below_add f a n) (omega arith)

-- sums of what agrees below n
pub sum_below_same : (f g : ℕ → ℕ) (n : ℕ) → ((j : ℕ) → j < n → f j ≡ g j) → sum_below f n ≡ sum_below g n
unfolding sum_below
sum_below_same f g zero same = refl
sum_below_same f g (suc n) same =
    ap₂ ◌+◌ (sum_below_same f g n (λ j h. same j (omega arith))) (same n (omega arith))

-- a sum of sums
sum_below_plus : (f g h : ℕ → ℕ) (n : ℕ) → ((j : ℕ) → j < n → f j ≡ g j + h j) → sum_below f n ≡ sum_below g n + sum_below h n
unfolding sum_below
sum_below_plus f g h zero both = refl
sum_below_plus f g h (suc n) both = omega (arith, sum_below_plus f g h n (λ j l. both j (omega arith)), both n (omega arith))

-- a sum of multiples
sum_below_times : (f : ℕ → ℕ) (n : ℕ) → sum_below (λ j. chunk_size * f j) n ≡ chunk_size * sum_below f n
unfolding sum_below
sum_below_times f zero = refl
sum_below_times f (suc n) = omega (arith, sum_below_times f n)

-- a sum by pairs
sum_below_pairs : (f : ℕ → ℕ) (n : ℕ) → sum_below f (2 * n) ≡ sum_below (λ j. f (2 * j) + f (2 * j + 1)) n
unfolding sum_below
sum_below_pairs f zero = refl
sum_below_pairs f (suc n) =
    ap (sum_below f) {x = 2 * suc n} {y = 2 * n + 1 + 1} (omega arith)
    ∙ omega (arith, sum_below_more f (2 * n + 1), sum_below_more f (2 * n), sum_below_pairs f n)

-- the bytes of a chunk, by their place in a word
abbrev pub LowBytes : List ℕ → ℕ → (ℕ → ℕ) → Type 0
LowBytes block n low = (j : ℕ) → j < lanes → low j ≡ get_or block (n + 2 * j) 0

abbrev pub HighBytes : List ℕ → ℕ → (ℕ → ℕ) → Type 0
HighBytes block n high = (j : ℕ) → j < lanes → high j ≡ get_or block (n + (2 * j + 1)) 0

-- a block's sum over a chunk more, by the pairs of its bytes
sum_below_chunk : (block : List ℕ) (n : ℕ) (low high : ℕ → ℕ) → LowBytes block n low → HighBytes block n high
    → sum_below (weighted block) (n + chunk_size) ≡ sum_below (weighted block) n + sum_below (pair_weight n low high) lanes
unfolding weighted pair_weight
sum_below_chunk block n low high lows highs =
    sum_below_add (weighted block) n chunk_size
    ∙ ap (λ (sum : ℕ). sum_below (weighted block) n + sum) (sum_below_pairs (λ j. weighted block (n + j)) lanes ∙ sum_below_same _ _ lanes pair)
  where
    pair : (j : ℕ) → j < lanes
        → (n + 2 * j + 1) * get_or block (n + 2 * j) 0 + (n + (2 * j + 1) + 1) * get_or block (n + (2 * j + 1)) 0 ≡ (n + 2 * j + 1) * low j + (n + 2 * j + 2) * high j
    pair j l = ap₂ ◌+◌ (ap (λ (byte : ℕ). (n + 2 * j + 1) * byte) (sym (lows j l))) (ap₂ ◌*◌ {y = n + 2 * j + 2} (omega arith) (sym (highs j l)))

-- each number has that of both
abbrev pub Plus : (ℕ → ℕ) → (ℕ → ℕ) → (ℕ → ℕ) → Type 0
Plus f g sum = (j : ℕ) → j < lanes → sum j ≡ f j + g j

-- the sums of lanes to which others were added
module _ (low high low' high' low'' high'' : ℕ → ℕ) (lows : Plus low low' low'') (highs : Plus high high' high'') where
  added_plain : sum_below (pair_of low'' high'') lanes ≡ sum_below (pair_of low high) lanes + sum_below (pair_of low' high') lanes
  added_plain = sum_below_plus _ _ _ lanes (λ j l. omega (arith, lows j l, highs j l))

  added_weight : (n : ℕ)
      → sum_below (pair_weight n low'' high'') lanes ≡ sum_below (pair_weight n low high) lanes + sum_below (pair_weight n low' high') lanes
  unfolding pair_weight
  added_weight n = sum_below_plus _ _ _ lanes both
    where
      both : (j : ℕ) → j < lanes
          → (n + 2 * j + 1) * low'' j + (n + 2 * j + 2) * high'' j
          ≡ ((n + 2 * j + 1) * low j + (n + 2 * j + 2) * high j) + ((n + 2 * j + 1) * low' j + (n + 2 * j + 2) * high' j)
      both j l = rw (lows j l, highs j l, mul-add (n + 2 * j + 1) (low j) (low' j), mul-add (n + 2 * j + 2) (high j) (high' j)) (omega arith)

-- a chunk further on, each byte weighs a chunk's size more
further : (n : ℕ) (low high : ℕ → ℕ)
    → sum_below (pair_weight (n + chunk_size) low high) lanes ≡ sum_below (pair_weight n low high) lanes + chunk_size * sum_below (pair_of low high) lanes
unfolding pair_weight
further n low high =
    sum_below_plus _ (pair_weight n low high) (λ j. chunk_size * pair_of low high j) lanes (λ j l. more j)
    ∙ ap (λ (sum : ℕ). sum_below (pair_weight n low high) lanes + sum) (sum_below_times (pair_of low high) lanes)
  where
    weight : (a x : ℕ) → (a + chunk_size) * x ≡ a * x + chunk_size * x
    weight a x = add-mul a chunk_size x

    more : (j : ℕ)
        → (n + chunk_size + 2 * j + 1) * low j + (n + chunk_size + 2 * j + 2) * high j
        ≡ ((n + 2 * j + 1) * low j + (n + 2 * j + 2) * high j) + chunk_size * (low j + high j)
    more j =
        ap₂ ◌+◌ (ap (λ (a : ℕ). a * low j) {y = n + 2 * j + 1 + chunk_size} (omega arith) ∙ weight _ _) (ap (λ (a : ℕ). a * high j) {y = n + 2 * j + 2 + chunk_size} (omega arith) ∙ weight _ _)
        ∙ omega arith

-- what the plain sums over a block's first bytes weigh behind those: the bytes' own weights, and a chunk's size for each in the cumulative sums
abbrev pub Weighed : List ℕ → ℕ → (ℕ → ℕ) → (ℕ → ℕ) → (ℕ → ℕ) → (ℕ → ℕ) → Type 0
Weighed block n low high cumulative-low cumulative-high =
    sum_below (pair_weight n low high) lanes ≡ sum_below (weighted block) n + chunk_size * sum_below (pair_of cumulative-low cumulative-high) lanes

-- one chunk more
pub weighed_more : (block : List ℕ) (n : ℕ) (low high chunk_low chunk_high low' high' cumulative-low cumulative-high cumulative-low' cumulative-high' : ℕ → ℕ)
    → LowBytes block n chunk_low → HighBytes block n chunk_high
    → Plus low chunk_low low' → Plus high chunk_high high' → Plus cumulative-low low' cumulative-low' → Plus cumulative-high high' cumulative-high'
    → Weighed block n low high cumulative-low cumulative-high → Weighed block (n + chunk_size) low' high' cumulative-low' cumulative-high'
weighed_more block n low high chunk_low chunk_high low' high' cumulative-low cumulative-high cumulative-low' cumulative-high' lows highs low_plus high-plus cumulative-low-plus cumulative-high-plus weighed = omega (
  arith,
  further n low' high',
  added_weight low high chunk_low chunk_high low' high' low_plus high-plus n,
  sum_below_chunk block n chunk_low chunk_high lows highs,
  added_plain cumulative-low cumulative-high low' high' cumulative-low' cumulative-high' cumulative-low-plus cumulative-high-plus,
)

-- the sum over the whole block is that before the stored check and what its two bytes add
pub sum_of_whole : (block : List ℕ)
    → sum_below (weighted block) block_size ≡ sum_below (weighted block) check_at + (check_at + 1) * get_or block check_at 0 + (check_at + 2) * get_or block (check_at + 1) 0
unfolding weighted
sum_of_whole block = omega (arith, sum_below_more (weighted block) check_at, sum_below_more (weighted block) (check_at + 1))
