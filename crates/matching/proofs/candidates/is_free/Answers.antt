-- `matching::candidates::is_free` meets its contract: names of unlike prints are unlike.
use mathlib.Core.Path.{sym, ◌∙◌}
use borrow.Author.Tests.{eq-eqb, ne_eqb}
use Rattle.matching.proofs.CandidateLaws.{prints_unlike, free_taken, free_untaken}
use Rattle.matching.proofs.candidates.is_free.Goals as goal

pub returns-then-takers-number : goal.returns-then-takers-number
returns-then-takers-number c = free_taken _ _ (eq-eqb _ _ c.if-takers-number.true)

pub returns-then-side-number : goal.returns-then-side-number
returns-then-side-number c =
    sym (prints_unlike _ _ _ (c.args.side.now.surveyed.printed.print_at c.args.number c.requires.number_bound) (λ e. c.if-side-number.true (e ∙ sym c.args.sought.now.print_value)))
    ∙ free_untaken _ _ (ne_eqb _ _ c.if-takers-number.false)

pub returns : goal.returns
returns c = c.name_is.ensures ∙ free_untaken _ _ (ne_eqb _ _ c.if-takers-number.false)
