-- `annotation::resolution::resolved_kind` meets its contract: no annotation has the plain kind, and the number of what any other says
-- has the kind.
-- Assumes nothing.
use mathlib.Core.Path.{sym, ◌∙◌}
use Rattle.annotation.proofs.SlotLaws.{kind_read, plain_kind_lem}
use Rattle.annotation.proofs.resolution.resolved_kind.Goals as goal

pub returns-then-is_plain : goal.returns-then-is_plain
returns-then-is_plain c =
    c.plain_kind.ensures
    ∙ plain_kind_lem c.args.n c.args.under_map (sym c.is_plain.ensures ∙ c.if-is_plain.true)

pub returns : goal.returns
returns c = c.kind_as.ensures ∙ kind_read _ _ _ c.annotation.ensures
