-- `utf8::ascii::octets_below` meets its contract: below the lowest bit that is set lie eight for each octet of the run, and seven. Assumes
-- nothing.
use Prim.Native.Nat.{◌+◌, ◌-◌, ◌*◌}
use mathlib.Core.Path.{◌≡◌}
use native.Mathlib.Omega.{arith}
use Rattle.utf8.proofs.AsciiLaws.{run_trailing}
use Rattle.utf8.proofs.ascii.octets_below.Goals as goal

pub returns : goal.returns
returns c s at n few e =
    let digits : 8 * n + (64 - 8 * n) ≡ 64 = omega arith in
    let zeros = run_trailing n (64 - 8 * n) s at (rw e at c.requires) in
    rw e (omega (arith, rw digits at zeros))
