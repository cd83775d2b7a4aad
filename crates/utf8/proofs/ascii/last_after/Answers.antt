-- `utf8::ascii::last_after` meets its contract. Assumes nothing.
use Prim.Native.Nat.{ℕ, ◌+◌, ◌-◌, ◌*◌, ◌/◌, ◌^◌}
use mathlib.Core.List.{List}
use mathlib.Core.Path.{◌≡◌, sym, ap, ◌∙◌}
use native.Mathlib.Omega.{arith}
use lib.ListN.{length}
use Rattle.utf8.specs.Steps.{Passes, NoAscii, high_bits}
use Rattle.utf8.proofs.ValidLaws.{passes_none}
use Rattle.utf8.proofs.AsciiLaws.{passes_ended, passes_clear, high_bits_last}
use Rattle.utf8.proofs.ascii.last_after.Goals as goal
use Rattle.utf8.proofs.ascii.last_after.Goals.{After-high_bits, After-octets_below}

-- the highest bits of what is left
module _ (c : After-high_bits) where
  abbrev text : List ℕ
  text = c.args.text.now

  abbrev from : ℕ
  from = c.args.from

  bits : c.high_bits.result / 2 ^ (8 * (8 - (length text - from))) ≡ high_bits text from (length text - from)
  bits =
      ap (λ (n : ℕ). n / 2 ^ (8 * (8 - (length text - from)))) c.high_bits.ensures
      ∙ high_bits_last text from (length text - from) (omega arith) (omega arith) (omega arith)

  nothing_passed : Passes text from from
  nothing_passed = passes_none text from (omega arith)

-- an octet of another kind is among them
passed : (c : After-octets_below)
    → let r = from (goal.at.overflow_add-result c).After-high_bits + c.octets_below.result in
    Passes (text (goal.at.overflow_add-result c).After-high_bits) (from (goal.at.overflow_add-result c).After-high_bits) r × NoAscii (text (goal.at.overflow_add-result c).After-high_bits) r
passed c =
    let left = length (text (goal.at.overflow_add-result c).After-high_bits) - from (goal.at.overflow_add-result c).After-high_bits in
    let below = c.octets_below.ensures (text (goal.at.overflow_add-result c).After-high_bits) (from (goal.at.overflow_add-result c).After-high_bits) left (omega arith) (bits (goal.at.overflow_add-result c).After-high_bits) in
    passes_ended left _ (text (goal.at.overflow_add-result c).After-high_bits) (from (goal.at.overflow_add-result c).After-high_bits) (from (goal.at.overflow_add-result c).After-high_bits) (omega arith) (omega (arith, bits (goal.at.overflow_add-result c).After-high_bits)) below (nothing_passed (goal.at.overflow_add-result c).After-high_bits)

pub overflow_add-result : goal.overflow_add-result
overflow_add-result c = record { fits = omega (arith, (passed c).0.within) }

pub returns-then-high-ne0 : goal.returns-then-high-ne0
returns-then-high-ne0 c = record { passes = (passed c).0; no_ascii = (passed c).1 }

pub returns : goal.returns
returns c =
    let left = length (text (goal.at.returns c).After-high_bits) - from (goal.at.returns c).After-high_bits in
    let all : from (goal.at.returns c).After-high_bits + left ≡ length (text (goal.at.returns c).After-high_bits) = omega arith in record { passes = rw all at (passes_clear left (text (goal.at.returns c).After-high_bits) (from (goal.at.returns c).After-high_bits) (from (goal.at.returns c).After-high_bits) (omega arith) (sym (bits (goal.at.returns c).After-high_bits) ∙ c.if-high-ne0.false) (nothing_passed (goal.at.returns c).After-high_bits)); no_ascii = λ inside. omega arith }
