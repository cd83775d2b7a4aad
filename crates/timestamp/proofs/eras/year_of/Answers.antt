-- `timestamp::eras::year_of` meets its contract: the quotients of a day tell its year and its day there.
use Prim.Native.Nat.{ℕ, ◌+◌}
use mathlib.Core.Path.{ap, ◌∙◌}
use lib.IntN.{pos}
use Rattle.timestamp.proofs.EraLaws.{year_at, day_at, day_year}
use Rattle.timestamp.proofs.EraDateLaws.{march_day}
use Rattle.timestamp.proofs.eras.year_of.Goals as goal

pub returns : goal.returns
returns c =
    let day = c.args.day in
    let found = day_year day in
    (march_day (year_at day) (day_at day) ∙ ap (λ (n : ℕ). pos (n + 61)) found.is, found.within, found.most)
