-- `c_timestamps::int96_values::to_int96` meets its contract: what encoding answers is within bounds.
use native.Mathlib.Omega.{arith}
use mathlib.Core.Path.{◌≡◌, sym, ap, subst, ◌∙◌}
use Rattle.refusal.specs.Numbers.{UNKNOWN_TYPE}
use Rattle.refusal.specs.Bounds.{CountedBounded}
use Rattle.refusal.specs.Outcome.{Counted}
use Rattle.int96.specs.Value.{VALUE_BYTES}
use Rattle.c_answer.specs.Answers.{counted_answer}
use Rattle.c_timestamps.proofs.Int96Laws.{to_bounded}
use Rattle.c_timestamps.proofs.int96_values.to_int96.Goals as goal
use Rattle.c_timestamps.proofs.int96_values.to_int96.Goals.{After-encode}

-- an answer that was told is within bounds
bounded : (c : After-encode) {k : Counted} → c.encode.result ≡ k → CountedBounded VALUE_BYTES UNKNOWN_TYPE 0 k
bounded c e = subst (CountedBounded VALUE_BYTES UNKNOWN_TYPE 0) (sym c.encode.ensures.value ∙ e) (to_bounded _)

pub overflow_cast-n : goal.overflow_cast-n
overflow_cast-n c = record { fits = omega (arith, bounded (goal.at.overflow_cast-n c).After-encode c.in-Ok.is) }

pub returns-in-Err-clause-value : goal.returns-in-Err-clause-value
returns-in-Err-clause-value c =
    c.refused.ensures.answer (omega (arith, (bounded (goal.at.returns-in-Err-clause-value c).After-encode c.in-Err.is).most_place))
    ∙ ap counted_answer (sym c.in-Err.is ∙ c.encode.ensures.value)
