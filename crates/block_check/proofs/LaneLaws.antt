-- Laws of lanes: arrays that are filled from the front, and sums of words of two bytes, of which 16 bits are kept.
use Rattle.std.proofs.Common.{◌≡◌, ℕ, ◌+◌, ◌*◌, ◌%◌, ◌^◌, ◌<◌, ◌≤◌, List, length, get_or, take, drop, set, sym, refl, ap, ◌∙◌, ap₂, arith, length-set, get_or-drop, get_or-set_other, get_or-take, get_or-set_same}
use native.Mathlib.Nat.{add-mod, mod-mod}
use native.Mathlib.Decide.{dec_lt}
use lib.ListN.{get_or-replicate}
use Rattle.laws.specs.Bytes.{Bytes}
use Rattle.block_check.specs.declared.lanes.Lanes.{Lanes}
use Rattle.block_check.specs.Check.{block_size, sum_below}
use Rattle.block_check.specs.Steps.{chunk_size, chunks, lanes, words_of, highs_of, none_of, low_of, lows_of, most_of, pair_weight, OfChunk, AtMost, Added}
use Rattle.block_check.proofs.SumLaws.{LowBytes, HighBytes, Plus, Weighed, weighed_more}

-- of an array of one number a lane, those before i are what f says, and the others what they were
pub record FilledTo (f : ℕ → ℕ) (before : List ℕ) (i : ℕ) (numbers : List ℕ) : Type 0 where
  pub size : length numbers ≡ lanes
  pub done : (j : ℕ) → j < i → get_or numbers j 0 ≡ f j
  pub left : (j : ℕ) → i ≤ j → get_or numbers j 0 ≡ get_or before j 0

pub filled_none : (f : ℕ → ℕ) (before : List ℕ) → length before ≡ lanes → FilledTo f before 0 before
filled_none f before size = record { size = size; done = λ j l. absurd (omega arith); left = λ j l. refl }

pub filled_more : (f : ℕ → ℕ) (before : List ℕ) (i n : ℕ) (numbers : List ℕ) → i < lanes → n ≡ f i
    → FilledTo f before i numbers → FilledTo f before (i + 1) (set numbers i n)
filled_more f before i n numbers l e filled =
    record { size = simp length-set filled.size; done = λ j h. done j h (dec_lt j i); left = λ j h. left j h }
  where
    within : i < length numbers
    within = omega (arith, filled.size)

    done : (j : ℕ) → j < i + 1 → Dec (j < i) → get_or (set numbers i n) j 0 ≡ f j
    done j h (yes q) = get_or-set_other numbers i j n 0 (λ same. omega arith) ∙ filled.done j q
    done j h (no q) =
        let here : j ≡ i = omega arith in
        ap (λ (k : ℕ). get_or (set numbers i n) k 0) here ∙ get_or-set_same numbers i n 0 within ∙ e ∙ ap f (sym here)

    left : (j : ℕ) → i + 1 ≤ j → get_or (set numbers i n) j 0 ≡ get_or before j 0
    left j h = get_or-set_other numbers i j n 0 (λ same. omega arith) ∙ filled.left j (omega arith)

low_lt : (sum high : ℕ) → low_of sum high < 2 ^ 16
unfolding low_of
low_lt sum high = omega arith

-- the lower bytes' sum and 256 times the higher bytes' have the words' 16 bits
low_spells : (sum high : ℕ) → (low_of sum high + 256 * high) % 2 ^ 16 ≡ sum % 2 ^ 16
unfolding low_of
low_spells sum high = omega arith

-- and there is no other sum of 16 bits that has
pub low_only : (sum high low : ℕ) → low < 2 ^ 16 → (low + 256 * high) % 2 ^ 16 ≡ sum % 2 ^ 16 → low_of sum high ≡ low
low_only sum high low l e = omega (arith, low_lt sum high, low_spells sum high)

-- what agrees in 16 bits has sums that do
same_sum : (a b c d : ℕ) → a % 2 ^ 16 ≡ c % 2 ^ 16 → b % 2 ^ 16 ≡ d % 2 ^ 16 → (a + b) % 2 ^ 16 ≡ ((c + d) % 2 ^ 16) % 2 ^ 16
same_sum a b c d p q =
    add-mod a b (2 ^ 16) ∙ ap₂ (λ (x y : ℕ). (x + y) % 2 ^ 16) p q ∙ sym (add-mod c d (2 ^ 16)) ∙ sym (mod-mod (c + d) (2 ^ 16))

low_plus : (sum high sum' high' : ℕ) → low_of sum high + low_of sum' high' < 2 ^ 16
    → low_of ((sum + sum') % 2 ^ 16) (high + high') ≡ low_of sum high + low_of sum' high'
low_plus sum high sum' high' l =
    low_only ((sum + sum') % 2 ^ 16) (high + high') (low_of sum high + low_of sum' high') l
    (ap (λ (n : ℕ). n % 2 ^ 16) {x = low_of sum high + low_of sum' high' + 256 * (high + high')} {y = (low_of sum high + 256 * high) + (low_of sum' high' + 256 * high')} (omega arith)
    ∙ same_sum _ _ sum sum' (low_spells sum high) (low_spells sum' high'))

-- lanes to which others were added
module _ (m n : ℕ) (sums sums' sums'' : Lanes) (fits : m + n < 2 ^ 16)
    (most : AtMost m sums) (few : AtMost n sums') (added : Added sums sums' sums'') where
  pub plus_high : Plus (highs_of sums) (highs_of sums') (highs_of sums'')
  plus_high j l = omega (arith, most.high j l, few.high j l, added.highs j l)

  pub plus_low : Plus (lows_of sums) (lows_of sums') (lows_of sums'')
  plus_low j l =
      ap₂ low_of (added.words j l) (plus_high j l)
      ∙ low_plus (words_of sums j) (highs_of sums j) (words_of sums' j) (highs_of sums' j) (omega (arith, most.low j l, few.low j l))

  pub plus_most : AtMost (m + n) sums''
  plus_most = record {
    low = λ j l. omega (arith, plus_low j l, most.low j l, few.low j l);
    high = λ j l. omega (arith, plus_high j l, most.high j l, few.high j l);
  }

-- lanes with nothing in them
pub none_most : AtMost 0 none_of
unfolding low_of
none_most = record {
  low = λ j l. omega (arith, ap₂ low_of (nothing j l) (nothing j l));
  high = λ j l. omega (arith, nothing j l);
}
  where
    nothing : (j : ℕ) → j < lanes → highs_of none_of j ≡ 0
    nothing j l = get_or-replicate {A = ℕ} lanes j 0 0 l

-- at most a greater number
pub most_most : (m n : ℕ) (sums : Lanes) → m ≤ n → AtMost m sums → AtMost n sums
most_most m n sums l most = record {
  low = λ j h. omega (arith, most.low j h);
  high = λ j h. omega (arith, most.high j h);
}

-- the words of a chunk of a block
module _ (block : List ℕ) (n : ℕ) (words : Lanes) (bytes : Bytes block) (are_words : OfChunk (take chunk_size (drop n block)) words) where
  byte : (i : ℕ) → i < chunk_size → get_or (take chunk_size (drop n block)) i 0 ≡ get_or block (n + i) 0
  byte i l = get_or-take chunk_size (drop n block) i 0 l ∙ get_or-drop n block i 0

  word : (j : ℕ) → j < lanes → words_of words j ≡ get_or block (n + 2 * j) 0 + 256 * get_or block (n + (2 * j + 1)) 0
  word j l = are_words.words j l ∙ ap₂ (λ (a b : ℕ). a + 256 * b) (byte (2 * j) (omega arith)) (byte (2 * j + 1) (omega arith))

  pub chunk_high : HighBytes block n (highs_of words)
  chunk_high j l = omega (arith, are_words.words j l, are_words.highs j l, word j l, bytes (n + 2 * j))

  pub chunk_low : LowBytes block n (lows_of words)
  chunk_low j l = low_only _ _ _ (omega (arith, bytes (n + 2 * j))) (omega (arith, word j l, chunk_high j l))

  pub chunk_most : AtMost 255 words
  chunk_most = record {
    low = λ j l. omega (arith, chunk_low j l, bytes (n + 2 * j));
    high = λ j l. omega (arith, chunk_high j l, bytes (n + (2 * j + 1)));
  }

-- what the lanes weigh, by the sums that are kept of them
abbrev pub LanesWeighed : List ℕ → ℕ → Lanes → Lanes → Type 0
LanesWeighed block n plain cumulative = Weighed block n (lows_of plain) (highs_of plain) (lows_of cumulative) (highs_of cumulative)

-- the sums over a block's first n bytes: no lane's is above its bound, and they weigh what those bytes do
pub record Summed (block : List ℕ) (n : ℕ) (plain cumulative : Lanes) : Type 0 where
  pub few : AtMost (most_of n) plain
  pub few_cumulative : AtMost (chunks * most_of n) cumulative
  pub weighed : LanesWeighed block n plain cumulative

-- over none
pub summed_none : (block : List ℕ) → Summed block 0 none_of none_of
unfolding sum_below pair_weight low_of
summed_none block = record { few = none_most; few_cumulative = none_most; weighed = refl }

-- and over a chunk more
module _ (block : List ℕ) (n : ℕ) (plain cumulative words plain' cumulative' : Lanes) (bytes : Bytes block) (within : n + chunk_size ≤ block_size)
    (summed : Summed block n plain cumulative) (are_words : OfChunk (take chunk_size (drop n block)) words) (added : Added plain words plain') (cumulated : Added cumulative plain' cumulative') where
  few_words : AtMost 255 words
  few_words = chunk_most block n words bytes are_words

  more_plain : AtMost (most_of n + 255) plain'
  more_plain = plus_most (most_of n) 255 plain words plain' (omega arith) summed.few few_words added

  more_cumulative : AtMost (chunks * most_of n + (most_of n + 255)) cumulative'
  more_cumulative = plus_most (chunks * most_of n) (most_of n + 255) cumulative plain' cumulative' (omega arith) summed.few_cumulative more_plain cumulated

  pub summed_more : Summed block (n + chunk_size) plain' cumulative'
  summed_more = record {
    few = most_most _ _ plain' (omega arith) more_plain;
    few_cumulative = most_most _ _ cumulative' (omega arith) more_cumulative;
    weighed = weighed_more block n _ _ (lows_of words) (highs_of words) _ _ (lows_of cumulative) (highs_of cumulative) _ _
        (chunk_low block n words bytes are_words)
        (chunk_high block n words bytes are_words)
        (plus_low (most_of n) 255 plain words plain' (omega arith) summed.few few_words added)
        (plus_high (most_of n) 255 plain words plain' (omega arith) summed.few few_words added)
        (plus_low (chunks * most_of n) (most_of n + 255) cumulative plain' cumulative' (omega arith) summed.few_cumulative more_plain cumulated)
        (plus_high (chunks * most_of n) (most_of n + 255) cumulative plain' cumulative' (omega arith) summed.few_cumulative more_plain cumulated)
        summed.weighed;
  }
