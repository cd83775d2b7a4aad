-- `utf8::rest_after` meets its contract: the tests that lead to each return say of which alternative the first octet is, or between
-- which two it lies.
-- Assumes nothing.
use mathlib.Core.Path.{refl}
use native.Mathlib.Omega.{arith}
use Rattle.utf8.specs.Sequence.{utf8_char, utf8_1, utf8_2, utf8_3, utf8_4}
use Rattle.utf8.proofs.ValidLaws.{leading_first, leading_between}
use Rattle.utf8.proofs.rest_after.Goals as goal

pub returns-then-first-eq-UTF8_3_FIRST : goal.returns-then-first-eq-UTF8_3_FIRST
unfolding utf8_char utf8_1 utf8_2 utf8_3 utf8_4
returns-then-first-eq-UTF8_3_FIRST c = record { tails_bound = omega arith; by_index = λ rest. leading_first 2 refl _ rest (omega arith) }

pub returns-then-first-lt-UTF8_3_SURROGATES : goal.returns-then-first-lt-UTF8_3_SURROGATES
unfolding utf8_char utf8_1 utf8_2 utf8_3 utf8_4
returns-then-first-lt-UTF8_3_SURROGATES c = record { tails_bound = omega arith; by_index = λ rest. leading_first 3 refl _ rest (omega arith) }

pub returns-then-first-eq-UTF8_3_SURROGATES : goal.returns-then-first-eq-UTF8_3_SURROGATES
unfolding utf8_char utf8_1 utf8_2 utf8_3 utf8_4
returns-then-first-eq-UTF8_3_SURROGATES c = record { tails_bound = omega arith; by_index = λ rest. leading_first 4 refl _ rest (omega arith) }

pub returns-then-first-le-UTF8_3_LAST : goal.returns-then-first-le-UTF8_3_LAST
unfolding utf8_char utf8_1 utf8_2 utf8_3 utf8_4
returns-then-first-le-UTF8_3_LAST c = record { tails_bound = omega arith; by_index = λ rest. leading_first 5 refl _ rest (omega arith) }

pub returns-then-first-eq-UTF8_4_FIRST : goal.returns-then-first-eq-UTF8_4_FIRST
unfolding utf8_char utf8_1 utf8_2 utf8_3 utf8_4
returns-then-first-eq-UTF8_4_FIRST c = record { tails_bound = omega arith; by_index = λ rest. leading_first 6 refl _ rest (omega arith) }

pub returns-then-first-lt-UTF8_4_LAST : goal.returns-then-first-lt-UTF8_4_LAST
unfolding utf8_char utf8_1 utf8_2 utf8_3 utf8_4
returns-then-first-lt-UTF8_4_LAST c = record { tails_bound = omega arith; by_index = λ rest. leading_first 7 refl _ rest (omega arith) }

pub returns-then-first-eq-UTF8_4_LAST : goal.returns-then-first-eq-UTF8_4_LAST
unfolding utf8_char utf8_1 utf8_2 utf8_3 utf8_4
returns-then-first-eq-UTF8_4_LAST c = record { tails_bound = omega arith; by_index = λ rest. leading_first 8 refl _ rest (omega arith) }

pub returns : goal.returns
unfolding utf8_char utf8_1 utf8_2 utf8_3 utf8_4
returns c = record { tails_bound = tt; by_index = λ rest. leading_between 9 _ rest (omega arith) }
