-- `tree::node::Node::list_kept` meets its contract, answer by answer.
use Rattle.tree.proofs.StructureLaws.{list_neither, list_not_one, list_one, one_below}
use mathlib.Core.Path.{sym, ◌∙◌}
use Rattle.tree.proofs.node.Node.list_kept.Goals as goal
use borrow.Author.Tests.{ne_eqb}
use mathlib.Core.Logic.{inl, inr}
use Rattle.tree.proofs.node.Node.list_kept.Goals.{then-required_or_optional, else-required_or_optional}

pub node_at-requires : goal.node_at-requires
node_at-requires c = one_below _ _ _ c.args.self.visited c.if-self-eq1.true.1

pub returns-then-self-eq1 : goal.returns-then-self-eq1
returns-then-self-eq1 c = (rw (c.node_at.ensures.sheet_same, c.node_at.ensures.at_same) at c.list_child.ensures) ∙ sym (list_one _ _ _ c.args.self.visited (sym c.required_or_optional.ensures ∙ c.if-self-eq1.true.0) c.if-self-eq1.true.1)

pub returns-else-self-eq1 : goal.returns-else-self-eq1
returns-else-self-eq1 c =
    elim c.if-required_or_optional.branch [
      | then-required_or_optional w ↦ elim c.if-self-eq1.either [ inl p ↦ w.t-3-is ∙ ne_eqb _ _ p.1 ∙ list_not_one _ _ _ c.args.self.visited p.1 | inr q ↦ cc ]
      | else-required_or_optional w ↦ w.t-3-is ∙ w.if-required_or_optional.false ∙ list_neither _ _ _ c.args.self.visited (sym c.required_or_optional.ensures ∙ w.if-required_or_optional.false)
    ]
