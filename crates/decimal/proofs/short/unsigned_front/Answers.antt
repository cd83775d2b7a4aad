-- `decimal::short::unsigned_front` meets its contract. The invariant: `n` is the number of the bytes so far. Assumes nothing.
use mathlib.Core.Path.{◌≡◌, sym, ap₂, ◌∙◌}
use Prim.Native.Nat.{ℕ, ◌+◌, ◌*◌, ◌^◌, ◌<◌}
use native.Mathlib.Nat.{lt_of_lt_of_le, pow-le-pow_right}
use native.Mathlib.Omega.{arith}
use lib.ListN.{get_or, take}
use lib.Seq.{get_or-take, length-take-le}
use Rattle.decimal.proofs.WordLaws.{unsigned_next, power_next}
use Rattle.decimal.proofs.short.unsigned_front.Goals as goal
use Rattle.decimal.proofs.short.unsigned_front.Goals.{After-from, In-loop-byte}

-- in a turn at least one byte is left, so those before it are seven at most
room : (c : In-loop-byte) → c.loop-byte.n < 256 ^ 7
room c =
    let within : c.loop-byte.byte-index < c.args.count = omega (arith, length-take-le c.args.count c.args.bytes.now c.requires.1) in
    lt_of_lt_of_le c.loop-byte.invariant.1 (pow-le-pow_right (omega arith) {j = 7} (omega arith))

-- this turn's byte
byte_is : (c : After-from) → c.from.result ≡ get_or c.args.bytes.now c.loop-byte.byte-index 0
byte_is c =
    let bs = c.args.bytes.now in
    let e : c.from.result ≡ get_or (take c.args.count bs) c.loop-byte.byte-index 0 = omega arith in
    let within : c.loop-byte.byte-index < c.args.count = omega (arith, length-take-le c.args.count bs c.requires.1) in
    e ∙ get_or-take c.args.count bs c.loop-byte.byte-index 0 within

byte : (c : After-from) → c.from.result < 256
byte c = omega (arith, byte_is c, c.type_inv.bytes c.loop-byte.byte-index)

pub overflow_mul-n : goal.overflow_mul-n
overflow_mul-n c = record { fits = omega (arith, room (goal.at.overflow_mul-n c).In-loop-byte) }

pub overflow_add-n : goal.overflow_add-n
overflow_add-n c = record { fits = omega (arith, room (goal.at.overflow_add-n c).In-loop-byte, byte (goal.at.overflow_add-n c).After-from) }

pub loop-byte-preserved : goal.loop-byte-preserved
loop-byte-preserved c =
    let at = c.loop-byte.byte-index in
    let turn = (goal.at.loop-byte-preserved c).After-from in (
      ap₂ (λ (n b : ℕ). n * 256 + b) c.loop-byte.invariant.0 (byte_is turn)
          ∙ sym (unsigned_next c.args.bytes.now at (omega (arith, length-take-le c.args.count c.args.bytes.now c.requires.1))),
      power_next c.loop-byte.n c.from.result at c.loop-byte.invariant.1 (byte turn),
    )
