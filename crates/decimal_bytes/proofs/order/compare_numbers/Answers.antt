-- `decimal_bytes::order::compare_numbers` meets its contract: a negative number is less than one that is not. Assumes nothing.
use mathlib.Core.Path.{sym}
use Prim.Native.Nat.{◌<◌}
use native.Mathlib.Omega.{arith}
use Rattle.decimal_bytes.specs.Number.{number}
use Rattle.decimal_bytes.specs.Significant.{sign_byte}
use Rattle.decimal_bytes.proofs.UnsignedLaws.{each_get_d}
use Rattle.decimal_bytes.proofs.OrderLaws.{order-<, order->, number_signs}
use Rattle.decimal_bytes.proofs.order.compare_numbers.Goals as goal

pub returns-then-sign-other : goal.returns-then-sign-other
returns-then-sign-other c =
    let a = c.args.a.now in
    let b = c.args.b.now in
    let h : sign_byte b < sign_byte a = omega arith in
    sym (order-< (number a) (number b) (number_signs a b (each_get_d a (λ k. (c.type_inv.a k).fits)) h))

pub returns-then-sign-other-2 : goal.returns-then-sign-other-2
returns-then-sign-other-2 c =
    let a = c.args.a.now in
    let b = c.args.b.now in
    let h : sign_byte a < sign_byte b = omega arith in
    sym (order-> (number a) (number b) (number_signs b a (each_get_d b (λ k. (c.type_inv.b k).fits)) h))
