-- `sheet::opening::first_bad_header` meets its contract: the search says which place is the first.
use mathlib.Core.Path.{sym}
use Rattle.sheet.proofs.FirstLaws.{first_wrong_is}
use Rattle.sheet.proofs.opening.first_bad_header.Goals as goal

pub returns : goal.returns
returns c = first_wrong_is _ _ _ c.first_wrong.ensures.within (λ i h. sym (c.first_wrong.ensures.passed i h)) (λ h. sym (c.first_wrong.ensures.failed h))
