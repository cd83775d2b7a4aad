-- `sheet::soundness::few_zero` meets its contract: `all` asks of each byte what the definition does.
use Rattle.std.proofs.Common.{rules, tests}
use mathlib.Core.Path.{◌∙◌}
use lib.Dec.{eqb}
use Rattle.std.proofs.lemmas.Iterator.{YieldsList-from_slice}
use Rattle.std.proofs.lemmas.Iterator.Search.{all_from_yields_List}
use Rattle.sheet.proofs.ZeroLaws.{list_all_zero}
use Rattle.sheet.proofs.soundness.few_zero.Goals as goal

pub returns : goal.returns
returns c =
    let few = c.args.few.now in
    all_from_yields_List (λ byte. eqb byte 0) _ _ c.all.result c.all.ensures.ran (YieldsList-from_slice few cc) (λ x b q k. search (rules, tests))
    ∙ list_all_zero few
