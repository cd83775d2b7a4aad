-- `column_text::values::make_truth` meets its contract.
use mathlib.Core.Path.{sym, ap}
use mathlib.Core.Bool.{Bool, cond}
use native.Mathlib.Omega.{arith}
use Rattle.text.specs.Characters.{ascii}
use Rattle.text.proofs.PlacingLaws.{holds_none, holds_more}
use Rattle.column_text.proofs.ValueLaws.{made}
use Rattle.column_text.proofs.values.make_truth.Goals as goal

pub returns-then-p : goal.returns-then-p
returns-then-p c =
    let word = ap (λ (p : Bool). cond p (ascii "true") (ascii "false")) (sym c.if-p.true) in
    let m = made (holds_more (holds_none c.args.room.now 0 (omega arith)) (ascii "true") (omega arith) (c.put.ensures.value, c.put.ensures.out_after)) word (omega arith) in
    record { prefix_len = m.counted; room_after = m.front; upper_bound = m.short }

pub returns : goal.returns
returns c =
    let word = ap (λ (p : Bool). cond p (ascii "true") (ascii "false")) (sym c.if-p.false) in
    let m = made (holds_more (holds_none c.args.room.now 0 (omega arith)) (ascii "false") (omega arith) (c.put-2.ensures.value, c.put-2.ensures.out_after)) word (omega arith) in
    record { prefix_len = m.counted; room_after = m.front; upper_bound = m.short }
