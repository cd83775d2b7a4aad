-- The order of two decimals that are both held to a precision: the first that is refused, and else their order.
use Rattle.std.specs.Prelude.{ℕ, Bool, true, false, List, Result, Ok, Err}
use Rattle.std.specs.declared.cmp.Ordering.{Ordering}
use Rattle.refusal.specs.Outcome.{Outcome, given}
use Rattle.decimal_bytes.specs.declared.precision.WrongLength.{WrongLength}
-- a type of the code: Beyond or WrongLength
use Rattle.decimal.specs.declared.within.Unfit.{Unfit}
use Rattle.decimal_bytes.specs.Fit.{fit_of}
use Rattle.decimal_bytes.specs.Order.{order_of}
use Rattle.decimal.specs.Outcome.{wrong_length, breaks_annotation}

-- the refusal of a number, or what follows where it is within its precision
abbrev pub unless_refused : Result Bool WrongLength → Result Ordering Unfit → Result Ordering Unfit
unless_refused (Ok true) next = next
unless_refused (Ok false) next = Err Unfit.Beyond
unless_refused (Err e) next = Err Unfit.WrongLength

-- an order among these answers
abbrev pub as_compared : Result Ordering WrongLength → Result Ordering Unfit
as_compared (Ok o) = Ok o
as_compared (Err e) = Err Unfit.WrongLength

-- the first number's refusal, the second's, or the order of the two
unfoldable pub order_within : List ℕ → List ℕ → ℕ → Result Ordering Unfit
order_within a b precision = unless_refused (fit_of a precision) (unless_refused (fit_of b precision) (as_compared (order_of a b)))

-- what each answer stands for
abbrev pub compared_within : Result Ordering Unfit → Outcome Ordering
compared_within (Ok o) = given o
compared_within (Err Unfit.Beyond) = breaks_annotation
compared_within (Err Unfit.WrongLength) = wrong_length

-- the outcome of comparing any bytes within any precision
abbrev pub comparing_within : List ℕ → List ℕ → ℕ → Outcome Ordering
comparing_within a b precision = compared_within (order_within a b precision)
