-- The outcome of the numbers of a slot in an edition: their kind, or the first of the rules 9, 10 and 11 that they break.
use Rattle.std.specs.Prelude.{ℕ, Bool, cond, Option, Some, None, Result, Ok, Err}
use Rattle.std.specs.Result.{result_err}
use Rattle.refusal.specs.Numbers.{DISAGREEMENT, MISPLACED, BAD_DECIMAL}
use Rattle.refusal.specs.Outcome.{Outcome, given, refused, refusal}
use Rattle.annotation.specs.Rule9.{rule9}
use Rattle.annotation.specs.Rule10.{rule10}
use Rattle.annotation.specs.Rule11.{rule11}
use Rattle.annotation.specs.Kinds.{kind_of}
use Rattle.annotation.specs.declared.slot.Annotated.{Annotated}
use Rattle.annotation.specs.declared.resolution.Kind.{Kind}
-- `Broken` is the rule that is broken: Disagreement, Misplaced or BadDecimal
use Rattle.annotation.specs.declared.rules.Broken.{Broken}

-- the number of its refusal (01, "Numbered refusals")
abbrev pub number_of : Broken → ℕ
number_of Broken.Disagreement = DISAGREEMENT
number_of Broken.Misplaced = MISPLACED
number_of Broken.BadDecimal = BAD_DECIMAL

-- "at one node in number order" (01, "Numbered refusals")
unfoldable pub resolution_of : ℕ → Annotated → Bool → Result Kind Broken
resolution_of edition n under_map_of =
    cond (rule9 n)
    (cond (rule10 edition n under_map_of)
    (cond (rule11 edition n under_map_of) (Ok (kind_of n under_map_of)) (Err Broken.BadDecimal))
    (Err Broken.Misplaced))
    (Err Broken.Disagreement)

-- the number of the rule that may be broken, and 0 of none
abbrev pub refusal_number : Option Broken → ℕ
refusal_number None = 0
refusal_number (Some broken) = number_of broken

-- the number of a refusal, and 0 of none
abbrev pub refusal_of : Result Kind Broken → ℕ
refusal_of resolution = refusal_number (result_err resolution)

-- what each answer stands for at a node, which is the place of its refusal: the numbers of a slot do not tell which node they are of
abbrev pub outcome_of : ℕ → Result Kind Broken → Outcome Kind
outcome_of k (Ok kind) = given kind
outcome_of k (Err broken) = refused (refusal (number_of broken) k)

-- the outcome of the numbers of any slot at any node
unfoldable pub outcome : ℕ → ℕ → Annotated → Bool → Outcome Kind
outcome edition k n under_map_of = outcome_of k (resolution_of edition n under_map_of)
