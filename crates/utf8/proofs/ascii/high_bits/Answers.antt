-- `utf8::ascii::high_bits` meets its contract: the mask has the highest bit of each octet. Assumes nothing.
use mathlib.Core.Path.{◌∙◌, ap}
use native.Mathlib.Omega.{arith}
use Prim.Native.Nat.{ℕ}
use lib.Bits.{bit_and}
use Rattle.utf8.proofs.AsciiLaws.{high_bits_eight}
use Rattle.utf8.proofs.ascii.high_bits.Goals as goal

pub returns : goal.returns
returns c =
    ap (λ (n : ℕ). bit_and n 0x8080_8080_8080_8080) (omega (arith, c.from_le_bytes.ensures))
    ∙ high_bits_eight c.args.text.now c.args.at (λ i. (c.type_inv.text i).fits)
