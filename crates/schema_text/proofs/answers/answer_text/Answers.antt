-- `schema_text::answers::answer_text` meets its contract.
use Prim.Native.Nat.{ℕ}
use mathlib.Core.List.{List}
use mathlib.Core.Option.{Option}
use mathlib.Core.Path.{sym, ap, ◌∙◌}
use lib.ListN.{length}
use Rattle.refusal.specs.Outcome.{Counted}
use Rattle.schema_text.specs.Making.{made, made_in}
use Rattle.schema_text.specs.Rows.{answer_text}
use Rattle.schema_text.proofs.GreatestLaws.{answer_rows_most, answer_refusal_most}
use Rattle.schema_text.proofs.answers.answer_text.Goals as goal

pub returns-in-Ok : goal.returns-in-Ok
unfolding answer_text
returns-in-Ok c =
    let text = ap (λ (o : Counted). answer_text o c.args.rows.now) (sym c.in-Ok.is) in
    let told = c.rows_text.ensures.value ∙ ap (λ (t : Option (List ℕ)). made t (length c.args.out.now)) text in record { value = told; out_after = c.rows_text.ensures.out_after ∙ ap (λ (t : Option (List ℕ)). made_in t c.args.out.now) text; by_index = answer_rows_most _ _ _ c.in-Ok.is c.rows_text.ensures.by_index }

pub returns-in-Err : goal.returns-in-Err
unfolding answer_text
returns-in-Err c =
    let text = ap (λ (o : Counted). answer_text o c.args.rows.now) (sym c.in-Err.is) in
    let told = c.refusal_text.ensures.value ∙ ap (λ (t : Option (List ℕ)). made t (length c.args.out.now)) text in record { value = told; out_after = c.refusal_text.ensures.out_after ∙ ap (λ (t : Option (List ℕ)). made_in t c.args.out.now) text; by_index = answer_refusal_most _ _ _ c.in-Err.is c.refusal_text.ensures.refusal_len_bound }
