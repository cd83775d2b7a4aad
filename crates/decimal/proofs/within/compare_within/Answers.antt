-- `decimal::within::compare_within` meets its contract: by numbers of 128 bits where both are short. Assumes nothing.
use mathlib.Core.Path.{sym, ap, ◌∙◌}
use Prim.Native.Nat.{◌≤◌}
use lib.ListN.{length}
use Rattle.decimal.specs.Within.{compared_within}
use Rattle.decimal.proofs.WordLaws.{is_short_bounds}
use Rattle.decimal.proofs.within.compare_within.Goals as goal
use Rattle.decimal.proofs.within.compare_within.Goals.{Then-is_short, Then-is_short-2}

first : (c : Then-is_short) → let n = length c.args.a.now in (1 ≤ n) × (n ≤ 16)
first c = is_short_bounds _ (sym c.is_short.ensures ∙ c.if-is_short.true)

second : (c : Then-is_short-2) → let n = length c.args.b.now in (1 ≤ n) × (n ≤ 16)
second c = is_short_bounds _ (sym c.is_short-then-is_short.ensures ∙ c.if-is_short-2.true)

pub compare_short-requires : goal.compare_short-requires
compare_short-requires c =
    let a = first (goal.at.compare_short-requires c).Then-is_short in
    let b = second c in
    (a.0, a.1, b.0, b.1)

pub returns-then-is_short-2 : goal.returns-then-is_short-2
returns-then-is_short-2 c = record { value = c.compare_short.ensures; result_value = ap compared_within c.compare_short.ensures }

pub returns : goal.returns
returns c = record { value = c.compare_by_bytes.ensures; result_value = ap compared_within c.compare_by_bytes.ensures }
