-- What the steps of summing a block answer, which the contracts of private functions cite. Nothing here is a promise to a caller.
use Rattle.std.specs.Prelude.{◌≡◌, ℕ, ◌+◌, ◌-◌, ◌*◌, ◌/◌, ◌%◌, ◌^◌, ◌<◌, ◌≤◌, List, slice_index, replicate}
use Rattle.block_check.specs.declared.lanes.Lanes.{Lanes}

-- a block is summed by so many chunks of so many bytes, which are words of two bytes, each added in a lane of its own
abbrev pub chunk_size : ℕ
chunk_size = 32

abbrev pub chunks : ℕ
chunks = 16

abbrev pub lanes : ℕ
lanes = 16

-- the sum of words in lane j, and that of their higher bytes
abbrev pub words_of : Lanes → ℕ → ℕ
words_of sums j = slice_index sums.words j

abbrev pub highs_of : Lanes → ℕ → ℕ
highs_of sums j = slice_index sums.highs j

-- lanes with nothing in them
abbrev pub none_of : Lanes
none_of = record { words = replicate lanes 0; highs = replicate lanes 0 }

-- the word of two bytes from a place on, the first the lower one
abbrev pub word_at : List ℕ → ℕ → ℕ
word_at bytes at = slice_index bytes at + 256 * slice_index bytes (at + 1)

-- the words of a chunk and their higher bytes
pub record OfChunk (chunk : List ℕ) (sums : Lanes) : Type 0 where
  pub words : (j : ℕ) → j < lanes → words_of sums j ≡ word_at chunk (2 * j)
  pub highs : (j : ℕ) → j < lanes → highs_of sums j ≡ word_at chunk (2 * j) / 256

-- each lane has 16 bits of its own numbers and those of more
pub record Added (sums more sums' : Lanes) : Type 0 where
  pub words : (j : ℕ) → j < lanes → words_of sums' j ≡ (words_of sums j + words_of more j) % 2 ^ 16
  pub highs : (j : ℕ) → j < lanes → highs_of sums' j ≡ (highs_of sums j + highs_of more j) % 2 ^ 16

-- the sum of lower bytes where the words have a sum with these 16 bits and the higher bytes have this one
unfoldable pub low_of : ℕ → ℕ → ℕ
low_of sum high = (sum + (2 ^ 16 - 256 * (high % 256))) % 2 ^ 16

abbrev pub lows_of : Lanes → ℕ → ℕ
lows_of sums j = low_of (words_of sums j) (highs_of sums j)

-- what a lane's sum over n of a block's bytes is at most: a chunk of 32 bytes adds no more than 255 to it
abbrev pub most_of : ℕ → ℕ
most_of n = 8 * n

-- the lower and the higher bytes' sums of each lane are at most n
pub record AtMost (n : ℕ) (sums : Lanes) : Type 0 where
  pub low : (j : ℕ) → j < lanes → lows_of sums j ≤ n
  pub high : (j : ℕ) → j < lanes → highs_of sums j ≤ n

-- both sums of lane j, and both with their weights in a block where so many bytes stand before the chunk
abbrev pub pair_of : (ℕ → ℕ) → (ℕ → ℕ) → ℕ → ℕ
pair_of low high j = low j + high j

unfoldable pub pair_weight : ℕ → (ℕ → ℕ) → (ℕ → ℕ) → ℕ → ℕ
pair_weight before low high j = (before + 2 * j + 1) * low j + (before + 2 * j + 2) * high j
