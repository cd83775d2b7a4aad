-- `timestamp::eras::days_before_year` meets its contract: four years have 1,461 days, and the eras are a quarter of the centuries.
use Prim.Native.Nat.{◌+◌, ◌*◌, ◌/◌}
use native.Mathlib.Omega.{arith}
use mathlib.Core.Path.{◌≡◌, ap, ◌∙◌}
use lib.IntN.{pos}
use Rattle.timestamp.proofs.EraDateLaws.{march_first, century_is}
use Rattle.timestamp.proofs.eras.days_before_year.Goals as goal

pub returns : goal.returns
returns c =
    let n = c.args.year in
    let century = century_is n c.requires in
    let fours : 1461 * n / 4 ≡ 365 * n + n / 4 = omega arith in
    let eras : 1374389535 * n / 137438953472 / 4 ≡ n / 400 = rw century (omega arith) in
    (march_first n ∙ ap pos (omega arith), omega arith)

pub overflow_sub-result : goal.overflow_sub-result
overflow_sub-result c = omega (arith, century_is c.args.year c.requires)
