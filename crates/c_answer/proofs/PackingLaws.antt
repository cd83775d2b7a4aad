-- Answers whose numbers and places fit their bits are taken apart again.
use Prim.Native.Nat.{ℕ, ◌<◌, ◌^◌}
use mathlib.Core.Path.{◌≡◌, refl}
use mathlib.Core.Bool.{Bool, true, false, cond}
use mathlib.Core.List.{List}
use native.Mathlib.Omega.{arith}
use lib.Dec.{ltb}
use lib.ListN.{length}
use Rattle.refusal.specs.Outcome.{given, refused, short_output}
use Rattle.refusal.specs.Outcome.{Counted}
use Rattle.std.specs.Prelude.{Ok, Err}
use Rattle.refusal.specs.declared.answers.Refusal.{Refusal}
use Rattle.c_answer.specs.Answers.{packed, packed_fault, RESULT, number_in, refusal_answer, counted_answer, Effect, within, answer, left}
use Rattle.refusal.specs.Bounds.{Bounded, CountedBounded}
use Rattle.c_answer.specs.Packing.{Packs, PacksResult, PacksRefusal, PacksFault, PacksCounted, PacksEffect}

-- a number below 2^8 and low bits below 2^32 are taken out again
packs : (number low : ℕ) → number < 2 ^ 8 → low < 2 ^ 32 → Packs (packed number low) number low
packs number low h k = record { number_in_lem = omega arith; low_in_lem = omega arith; below = omega arith }

pub result_packs : (value : ℕ) → value < 2 ^ 32 → PacksResult (packed RESULT value) value
result_packs value h = packs RESULT value (omega arith) h

-- a refusal within bounds that fit
module _ (number place : ℕ) (h : number < 2 ^ 8) (k : place < 2 ^ 32) (r : Refusal) (b : Bounded number place r) where
  pub refusal_packs : PacksRefusal (refusal_answer r) r
  refusal_packs = record { refuses = b.some_number; packs = packs r.number r.place (omega (arith, b.most_number)) (omega (arith, b.most_place)) }

  pub fault_packs : (side : ℕ) → side < 2 ^ 8 → PacksFault (packed_fault side r.number r.place) side r
  fault_packs side l =
      record {
        refuses = b.some_number;
        number_in_lem = omega (arith, b.most_number, b.most_place);
        place_in = omega (arith, b.most_number, b.most_place);
        side_in_lem = omega (arith, b.most_number, b.most_place);
        below = omega (arith, b.most_number, b.most_place);
      }

pub counted_packs : (most number place : ℕ) → most < 2 ^ 32 → number < 2 ^ 8 → place < 2 ^ 32 → (c : Counted) → CountedBounded most number place c → PacksCounted c
counted_packs most number place m h k (Ok n) b = result_packs n (omega arith)
counted_packs most number place m h k (Err r) b = refusal_packs number place h k r b

-- 14 packs, and so does a call that may be short of output
pub short_packs : {A : Type 0} (lent : ℕ) (e : Effect A) → PacksEffect e → PacksEffect (within lent e)
short_packs lent (refused r) p = p
short_packs {A} lent (given g) p = on (ltb lent (length g.numbers))
  where
    on : (b : Bool) → PacksEffect {A = A} (cond b (refused short_output) (given g))
    on true = refusal_packs 14 0 (omega arith) (omega arith) short_output (record { some_number = omega arith; most_number = omega arith; most_place = omega arith })
    on false = p

-- a result's answer has no number
result_none : {answered value : ℕ} → PacksResult answered value → RESULT < number_in answered → ⊥
result_none p h = omega (arith, p.number_in_lem)

-- where an answer has a number, it is a refusal's
pub counted_refused : (c : Counted) → PacksCounted c → RESULT < number_in (counted_answer c) → (r : Refusal) × (c ≡ Err r)
counted_refused (Ok n) p h = absurd (result_none p h)
counted_refused (Err r) p h = (r, refl)

-- and the output is as it was
pub unchanged : {A : Type 0} (e : Effect A) (lent : List A) → PacksEffect e → RESULT < number_in (answer e) → left e lent ≡ lent
unchanged (refused r) lent p h = refl
unchanged (given g) lent p h = absurd (result_none p h)
