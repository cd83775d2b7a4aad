-- `little_endian::numbers::number` meets its contract: the bytes are read from the last of the first eight on.
use Prim.Native.Nat.{◌-◌, ◌^◌, ◌<◌}
use native.Mathlib.Nat.{lt_of_lt_of_le, pow-le-pow_right}
use native.Mathlib.Omega.{arith}
use mathlib.Core.Path.{◌≡◌, sym, subst, ◌∙◌}
use lib.ListN.{length, get_or, take, length-take}
use lib.Seq.{get_or-take}
use Rattle.little_endian.proofs.NumberLaws.{Read, read_end, read_back, read_start}
use Rattle.little_endian.proofs.numbers.number.Goals as goal
use Rattle.little_endian.proofs.numbers.number.Goals.{After-from, In-loop-at}

-- in a turn at least one byte is left, so the others are seven at most
room : (c : In-loop-at) → c.loop-at.n < 256 ^ 7
room c =
    lt_of_lt_of_le c.loop-at.invariant.small (pow-le-pow_right (omega arith) {j = 7} (omega (arith, length-take 8 c.args.bytes.now)))

-- the byte of a turn
byte_is : (c : After-from) → c.from.result ≡ get_or (take 8 c.args.bytes.now) (c.loop-at.at - 1) 0
byte_is c =
    let bs = c.args.bytes.now in
    let at = c.loop-at.at - 1 in
    let e : c.from.result ≡ get_or bs at 0 = omega arith in
    e ∙ sym (get_or-take 8 bs at 0 (omega (arith, length-take 8 bs, c.loop-at.invariant.within)))

byte : (c : After-from) → c.from.result < 256
byte c = omega (arith, c.type_inv.bytes (c.loop-at.at - 1))

pub loop-at-init : goal.loop-at-init
loop-at-init c =
    let bs = c.args.bytes.now in
    let e : length (take 8 bs) ≡ c.min-at.result = omega (arith, length-take 8 bs, c.min-at.ensures) in
    subst (Read (take 8 bs) 0) e (read_end (take 8 bs))

pub overflow_mul-n : goal.overflow_mul-n
overflow_mul-n c = record { fits = omega (arith, room (goal.at.overflow_mul-n c).In-loop-at) }

pub overflow_add-n : goal.overflow_add-n
overflow_add-n c = record { fits = omega (arith, room (goal.at.overflow_add-n c).In-loop-at, byte (goal.at.overflow_add-n c).After-from) }

pub loop-at-preserved : goal.loop-at-preserved
loop-at-preserved c =
    let turn = (goal.at.loop-at-preserved c).After-from in
    read_back _ _ _ _ c.loop-at-test.true c.loop-at.invariant (byte_is turn) (byte turn)

pub returns : goal.returns
returns c = read_start _ _ _ (omega arith) c.loop-at.invariant
