-- `matching::heads::skip_unlike` meets its contract: what is passed over has another print.
use mathlib.Core.Path.{sym, ◌∙◌}
use native.Mathlib.Omega.{arith}
use Rattle.matching.proofs.HeadLaws.{leads_none, leads_from, leads_head}
use Rattle.matching.proofs.heads.skip_unlike.Goals as goal

pub returns-then-owner-from : goal.returns-then-owner-from
returns-then-owner-from c = leads_none _ _ _ _ _ _ c.requires (λ e. c.if-owner-from.true (c.taker-owner.ensures ∙ e ∙ sym c.from.ensures))

pub returns-then-place-from : goal.returns-then-place-from
returns-then-place-from c = leads_from _ _ _ _ _ _ c.requires

pub returns : goal.returns
returns c =
    rw (c.number.ensures, c.place-place.ensures)
    (leads_head _ _ _ _ _ _ c.requires (sym c.taker-owner.ensures ∙ c.if-owner-from.false ∙ c.from.ensures) (omega (arith, c.if-place-from.false, c.place-place.ensures)))
