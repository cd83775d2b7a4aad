-- `matching::heads::write_head` meets its contract.
use mathlib.Core.Path.{sym, ap, ◌∙◌}
use lib.ListN.{set}
use Rattle.matching.specs.declared.heads.Head.{Head}
use Rattle.matching.proofs.HeadLaws.{head_kept, head_written}
use Rattle.matching.proofs.heads.write_head.Goals as goal

pub returns-then-owner-from : goal.returns-then-owner-from
returns-then-owner-from c = head_kept _ _ _ _ _ (sym c.taker-owner.ensures ∙ c.if-owner-from.true ∙ c.from.ensures)

pub returns : goal.returns
returns c =
    ap (λ (h : Head). set c.args.heads.now c.args.rest h) c.of.ensures
    ∙ head_written _ _ _ _ _ (λ e. c.if-owner-from.false (c.taker-owner.ensures ∙ e ∙ sym c.from.ensures))
