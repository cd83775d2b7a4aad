-- What the answers of `decimal` are in document 01: a refusal by its number and place, or what was asked for.
use Rattle.std.specs.Prelude.{ℕ, Bool, true, false, List, Result, Ok, Err}
use Rattle.std.specs.declared.cmp.Ordering.{Ordering}
use Rattle.refusal.specs.Numbers.{WRONG_LENGTH, BREAKS_ANNOTATION}
use Rattle.refusal.specs.Outcome.{Outcome, given, refused, unplaced}
use Rattle.decimal_bytes.specs.declared.precision.WrongLength.{WrongLength}
use Rattle.decimal_bytes.specs.Order.{order_of}
use Rattle.decimal_bytes.specs.Fit.{fit_of}

-- "value of wrong length"
abbrev pub wrong_length : {A : Type 0} → Outcome A
wrong_length = refused (unplaced WRONG_LENGTH)

-- "value breaks its annotation"
abbrev pub breaks_annotation : {A : Type 0} → Outcome A
breaks_annotation = refused (unplaced BREAKS_ANNOTATION)

-- what each answer of compare stands for: the first number against the second
abbrev pub compared : Result Ordering WrongLength → Outcome Ordering
compared (Ok o) = given o
compared (Err e) = wrong_length

-- the outcome of comparing any bytes
abbrev pub comparing : List ℕ → List ℕ → Outcome Ordering
comparing a b = compared (order_of a b)

-- what each answer of fits_precision stands for: a number within its precision keeps its annotation
abbrev pub fitted : Result Bool WrongLength → Outcome (Unit {0})
fitted (Ok true) = given tt
fitted (Ok false) = breaks_annotation
fitted (Err e) = wrong_length

-- the outcome of holding any bytes to any precision
abbrev pub fitting : List ℕ → ℕ → Outcome (Unit {0})
fitting bs precision = fitted (fit_of bs precision)
