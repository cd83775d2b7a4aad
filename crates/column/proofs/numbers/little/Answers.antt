-- `column::numbers::little` meets its contract: the first eight bytes are all, and what bytes stand for is below 256 for each of them.
use mathlib.Core.Path.{◌≡◌, sym, ap, subst, ◌∙◌}
use Prim.Native.Nat.{ℕ, ◌^◌, ◌<◌}
use lib.ListN.{length}
use lib.Seq.{take_all}
use Rattle.laws.specs.Bytes.{little}
use Rattle.laws.proofs.ByteLaws.{little_lt}
use Rattle.column.proofs.numbers.little.Goals as goal

pub returns : goal.returns
returns c =
    let value = c.args.value.now in
    let is : c.number.result ≡ little value = c.number.ensures ∙ ap little (take_all 8 value c.requires) in
    (is, subst (λ (n : ℕ). n < 256 ^ length value) (sym is) (little_lt value (λ i. (c.type_inv.value i).fits)))
