-- `schema::rewriting::write_sheet` meets its contract: a copy of the sheet, its annotations, and its checks.
use Prim.Native.Nat.{ℕ}
use mathlib.Core.Path.{ap, ap₂, ◌∙◌}
use mathlib.Core.List.{List}
use Rattle.sheet.specs.Check.{renewed}
use Rattle.annotation.specs.declared.rewriting.Written.{Written}
use Rattle.tree.proofs.JudgementLaws.{judged_total}
use Rattle.schema.specs.Rewriting.{with_rewritings, rewritten}
use Rattle.schema.proofs.RewritingSteps.{order_accepted}
use Rattle.schema.proofs.rewriting.write_sheet.Goals as goal

pub write_nodes-requires : goal.write_nodes-requires
write_nodes-requires c = judged_total _ _ _ c.requires.accepted_of.1

pub returns : goal.returns
unfolding rewritten
returns c =
    let copied = c.copy_from_slice.ensures.after in
    c.renew_checks.ensures
    ∙ ap renewed (c.write_nodes.ensures ∙ ap₂ (λ (l : List ℕ) (rs : List Written). with_rewritings l 0 rs) copied (order_accepted _ c.args.sheet.now _ c.requires.accepted_of.1))
