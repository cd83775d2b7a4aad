-- `int96::conversion::encode` meets its contract, by whether there is room.
use mathlib.Core.Path.{ap, ◌∙◌}
use mathlib.Core.List.{◌++◌}
use borrow.Author.Tests.{lt-ltb, le-ltb}
use lib.IntN.{ℤ}
use lib.ListN.{drop}
use mir.Syntax.{w64}
use mir.ValLaws.{to_z-of_z}
use Rattle.std.specs.Prelude.{Err}
use Rattle.int96.specs.Value.{VALUE_BYTES, value_of}
use Rattle.int96.specs.Outcomes.{encoding, encoded}
use Rattle.int96.proofs.conversion.encode.Goals as goal

pub returns-then-out-lt-VALUE_SIZE : goal.returns-then-out-lt-VALUE_SIZE
unfolding encoding encoded
returns-then-out-lt-VALUE_SIZE c = let short = lt-ltb _ 12 c.if-out-lt-VALUE_SIZE.true in record { value = rw short (ap Err c.short_output.ensures); out_after = rw short }

pub returns : goal.returns
unfolding encoding encoded
returns c = let enough = le-ltb _ 12 c.if-out-lt-VALUE_SIZE.false in record { value = rw enough; out_after = rw enough (c.write_value.ensures ∙ ap (λ (z : ℤ). value_of z ++ drop VALUE_BYTES c.args.out.now) (to_z-of_z w64 c.args.count c.ranges.count)) }
