-- `decimal_bytes::order::compare_alike` meets its contract. The loop's invariant: the two numbers, with their sign in front up to one
-- width, agree before `at`. Assumes nothing.
use mathlib.Core.Path.{refl, sym}
use native.Mathlib.Omega.{arith}
use Rattle.decimal_bytes.proofs.UnsignedLaws.{each_get_d}
use Rattle.decimal_bytes.proofs.OrderLaws.{Alike, widened_less, widened_greater, widened_equal, widened_next}
use Rattle.decimal_bytes.proofs.order.compare_alike.Goals as goal
use Rattle.decimal_bytes.proofs.order.compare_alike.Goals.{After-max-width}

-- both numbers as they stand before the loop
module _ (c : After-max-width) where
  alike_a : Alike c.args.sign c.max-width.result c.args.a.now
  alike_a = record {
    within = omega arith;
    signed = c.requires.sign_value;
    bytes = each_get_d c.args.a.now (λ k. (c.type_inv.a k).fits);
  }

  alike_b : Alike c.args.sign c.max-width.result c.args.b.now
  alike_b = record {
    within = omega arith;
    signed = c.requires.sign_value_2;
    bytes = each_get_d c.args.b.now (λ k. (c.type_inv.b k).fits);
  }

pub loop-at-init : goal.loop-at-init
loop-at-init c = refl

pub returns-then-x-y : goal.returns-then-x-y
returns-then-x-y c =
    sym (widened_less c.ranges.sign.fits (alike_a (goal.at.returns-then-x-y c).After-max-width) (alike_b (goal.at.returns-then-x-y c).After-max-width) c.loop-at.at
    c.loop-at-test.true c.loop-at.invariant
    (omega arith))

pub returns-then-x-y-2 : goal.returns-then-x-y-2
returns-then-x-y-2 c =
    sym (widened_greater c.ranges.sign.fits (alike_a (goal.at.returns-then-x-y-2 c).After-max-width) (alike_b (goal.at.returns-then-x-y-2 c).After-max-width) c.loop-at.at
    c.loop-at-test.true c.loop-at.invariant
    (omega arith))

pub loop-at-preserved : goal.loop-at-preserved
loop-at-preserved c =
    widened_next (alike_a (goal.at.loop-at-preserved c).After-max-width) (alike_b (goal.at.loop-at-preserved c).After-max-width) c.loop-at.at c.loop-at-test.true c.loop-at.invariant
    (omega arith)

pub returns : goal.returns
returns c = sym (widened_equal (alike_a (goal.at.returns c).After-max-width) (alike_b (goal.at.returns c).After-max-width) c.loop-at.at c.loop-at-test.false c.loop-at.invariant)
