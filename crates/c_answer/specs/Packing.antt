-- An answer that can be taken apart again.
use Rattle.std.specs.Prelude.{ℕ, ◌<◌, ◌^◌, ◌≡◌}
use Rattle.refusal.specs.Outcome.{given, refused}
use Rattle.refusal.specs.Outcome.{Counted}
use Rattle.std.specs.Prelude.{Ok, Err}
use Rattle.refusal.specs.declared.answers.Refusal.{Refusal}
use Rattle.c_answer.specs.Answers.{RESULT, number_in, low_in, side_in, counted_answer, Effect, answer}

-- an answer of which bits 32 to 39 are a number, bits 0 to 31 are the low bits, and no bit above is set
pub record Packs (answered number low : ℕ) : Type 0 where
  pub number_in_lem : number_in answered ≡ number
  pub low_in_lem : low_in answered ≡ low
  pub below : answered < 2 ^ 40

-- the answer of a result has number 0, and its value
abbrev pub PacksResult : ℕ → ℕ → Type 0
PacksResult answered value = Packs answered RESULT value

-- that of a refusal has its number, which is not 0, and its place
pub record PacksRefusal (answered : ℕ) (r : Refusal) : Type 0 where
  pub refuses : RESULT < r.number
  pub packs : Packs answered r.number r.place

-- that of a refusal of one of two has besides the side at fault, and no bit above it is set
pub record PacksFault (answered side : ℕ) (r : Refusal) : Type 0 where
  pub refuses : RESULT < r.number
  pub number_in_lem : number_in answered ≡ r.number
  pub place_in : low_in answered ≡ r.place
  pub side_in_lem : side_in answered ≡ side
  pub below : answered < 2 ^ 48

-- of each outcome
abbrev pub PacksCounted : Counted → Type 0
PacksCounted (Ok n) = PacksResult (counted_answer (Ok n)) n
PacksCounted (Err r) = PacksRefusal (counted_answer (Err r)) r

abbrev pub PacksEffect : {A : Type 0} → Effect A → Type 0
PacksEffect {A} (refused r) = PacksRefusal (answer {A = A} (refused r)) r
PacksEffect (given g) = PacksResult (answer (given g)) g.value
