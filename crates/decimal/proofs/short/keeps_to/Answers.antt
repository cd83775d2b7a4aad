-- `decimal::short::keeps_to` meets its contract: against the power of ten, which 39 digits need not be held to. Assumes nothing.
use mathlib.Core.Path.{sym, ap₂, ◌∙◌}
use Prim.Native.Nat.{◌^◌}
use native.Mathlib.Omega.{arith}
use lib.Dec.{ltb}
use Rattle.decimal.proofs.WordLaws.{far, far_beyond}
use Rattle.decimal.proofs.short.keeps_to.Goals as goal

pub returns-then-precision-ge-BEYOND_ALL : goal.returns-then-precision-ge-BEYOND_ALL
returns-then-precision-ge-BEYOND_ALL c = far_beyond c.args.n c.args.precision (omega arith) c.if-precision-ge-BEYOND_ALL.true

pub returns : goal.returns
returns c = ap₂ ltb (c.abs_diff.ensures ∙ sym (far c.args.n (2 ^ 127))) c.power.ensures
