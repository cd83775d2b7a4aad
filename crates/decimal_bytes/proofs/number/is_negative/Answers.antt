-- `decimal_bytes::number::is_negative` meets its contract. Assumes nothing.
use mathlib.Core.Path.{◌≡◌, refl}
use mathlib.Core.Bool.{false}
use mathlib.Core.List.{List, [], ◌∷◌}
use Prim.Native.Nat.{ℕ}
use native.Mathlib.Nat.{suc-ne-zero}
use lib.ListN.{length}
use Rattle.decimal_bytes.specs.Number.{is_negative}
use Rattle.decimal_bytes.proofs.number.is_negative.Goals as goal

none : (bs : List ℕ) → length bs ≡ 0 → false ≡ is_negative bs
none [] e = refl
none (b ∷ bs) e = absurd (suc-ne-zero (length bs) e)

pub returns-then-number-eq0 : goal.returns-then-number-eq0
returns-then-number-eq0 c = none c.args.number.now c.if-number-eq0.true
