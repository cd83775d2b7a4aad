-- `int96::conversion::decode` meets its contract: the length first, then by what joining the day and the nanoseconds answers.
use mathlib.Core.Path.{◌≡◌, refl, sym, ap, ap₂, ◌∙◌}
use borrow.Author.Rules.{sfits_of}
use lib.IntN.{ℤ, pos, ◌-ℤ◌}
use mir.Syntax.{w64}
use mir.ValLaws.{to_z-of_z}
use Rattle.std.specs.Prelude.{Result, Ok, Err}
use Rattle.refusal.specs.Outcome.{given, refused}
use Rattle.laws.proofs.SignedLaws.{read_back}
use Rattle.timestamp.specs.Outcomes.{refusal_of, encoded, joining}
use Rattle.timestamp.specs.declared.encoding.EncodeError.{EncodeError}
use Rattle.int96.specs.Value.{DAY_OF_1970, NANOS_PER_DAY, nanos_in, day_in}
use Rattle.int96.specs.Outcomes.{decoding}
use Rattle.int96.proofs.ValueLaws.{days_fit, decoding_15}
use Rattle.int96.proofs.JoiningLaws.{meant, joined_told}
use Rattle.int96.proofs.conversion.decode.Goals as goal
use Rattle.int96.proofs.conversion.decode.Goals.{After-join}

pub returns-then-value-ne-VALUE_SIZE : goal.returns-then-value-ne-VALUE_SIZE
returns-then-value-ne-VALUE_SIZE c = sym (decoding_15 _ c.if-value-ne-VALUE_SIZE.true)

-- the day and the nanoseconds that are joined are those of the value
joined_is : (c : After-join) → let v = c.args.value.now in encoded c.join.result ≡ joining NANOS_PER_DAY (pos (day_in v) -ℤ pos DAY_OF_1970) (nanos_in v)
joined_is c =
    let few = days_fit _ (λ i. (c.type_inv.value i).fits) c.if-value-ne-VALUE_SIZE.false in
    c.join.ensures ∙ ap₂ (joining NANOS_PER_DAY) (read_back c.day_in.ensures few) c.nanos_in.ensures

-- so an answer that was told is that of decoding
told : (c : After-join) (k : Result ℤ EncodeError) → c.join.result ≡ k → meant k ≡ decoding c.args.value.now
told c k e = joined_told _ c.if-value-ne-VALUE_SIZE.false k (sym (ap encoded e) ∙ joined_is c)

-- an error other than that of the day is told by its own refusal
else_meant : (e : EncodeError) → (e ≡ EncodeError.NoDateTime → ⊥) → refused (refusal_of e) ≡ meant (Err e)
else_meant EncodeError.NoDateTime h = absurd (h refl)
else_meant EncodeError.NotRepresentable h = refl
else_meant EncodeError.UnknownUnit h = refl

pub returns-in-Ok : goal.returns-in-Ok
returns-in-Ok c = ap given (to_z-of_z w64 _ (search sfits_of)) ∙ told (goal.at.returns-in-Ok c).After-join (Ok _) c.in-Ok.is

pub returns-in-NoDateTime : goal.returns-in-NoDateTime
returns-in-NoDateTime c = told (goal.at.returns-in-NoDateTime c).After-join (Err EncodeError.NoDateTime) (c.in-Err.is ∙ ap Err c.in-NoDateTime.is)

pub returns-in_default : goal.returns-in_default
returns-in_default c = ap refused c.into.ensures ∙ else_meant c.in-Err.error c.in_default.not-NoDateTime ∙ told (goal.at.returns-in_default c).After-join (Err c.in-Err.error) c.in-Err.is
