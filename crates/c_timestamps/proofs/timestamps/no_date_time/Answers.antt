-- `c_timestamps::timestamps::no_date_time` meets its contract: 18 in a unit, and 20 where there is none.
use mathlib.Core.Path.{◌≡◌, sym, ap, ◌∙◌}
use mathlib.Core.Bool.{Bool}
use native.Mathlib.Omega.{arith}
use Rattle.std.specs.Prelude.{Result}
use Rattle.refusal.specs.declared.answers.Refusal.{Refusal}
use Rattle.timestamp.specs.Units.{unit_of}
use Rattle.timestamp.specs.Outcomes.{day_answer, day_has}
use Rattle.c_answer.specs.Answers.{answer}
use Rattle.c_timestamps.proofs.FieldLaws.{unformed_known, unformed_unknown}
use Rattle.c_timestamps.proofs.timestamps.no_date_time.Goals as goal
use Rattle.c_timestamps.proofs.timestamps.no_date_time.Goals.{After-in_day}

-- the answer that was given is that of the unit
told : (c : After-in_day) (k : Result Bool Refusal) → c.in_day.result ≡ k → day_answer k ≡ day_has (unit_of c.args.unit) 0
told c k e = ap day_answer (sym e) ∙ c.in_day.ensures

pub returns-in-Ok : goal.returns-in-Ok
returns-in-Ok c lent = c.packed.ensures ∙ ap answer (sym (unformed_known c.args.unit 0 lent _ (told (goal.at.returns-in-Ok c).After-in_day _ c.in-Ok.is)))

pub returns-in-Err : goal.returns-in-Err
returns-in-Err c lent =
    let unknown = unformed_unknown c.args.unit 0 lent _ (told (goal.at.returns-in-Err c).After-in_day _ c.in-Err.is) in
    c.refused.ensures.answer (omega (arith, ap (λ (r : Refusal). r.place) unknown.1)) ∙ ap answer (sym unknown.0)
