-- `decimal::within::compare_short` meets its contract: both numbers, against the power of ten and each other. Assumes nothing.
use mathlib.Core.Path.{◌≡◌, sym, ap, ap₂, ◌∙◌}
use mathlib.Core.Bool.{Bool, true, false, cond, ◌&&◌}
use mathlib.Core.List.{List}
use Prim.Native.Nat.{ℕ, ◌^◌}
use lib.Dec.{ltb}
use lib.IntN.{ℤ, nat_abs}
use lib.ListN.{length}
use Rattle.std.specs.Prelude.{Ok, Err}
use Rattle.decimal.specs.declared.within.Unfit.{Unfit}
use Rattle.decimal_bytes.specs.Precision.{is_length}
use Rattle.decimal_bytes.specs.Number.{number}
use Rattle.decimal_bytes.specs.Order.{order}
use Rattle.decimal.specs.Within.{order_within}
use Rattle.decimal.proofs.WordLaws.{short_length, cmp_order}
use Rattle.decimal.proofs.WithinLaws.{within_both}
use Rattle.decimal.proofs.within.compare_short.Goals as goal
use Rattle.decimal.proofs.within.compare_short.Goals.{After-keeps_to-2}

module _ (c : After-keeps_to-2) where
  abbrev a : List ℕ
  a = c.args.a.now

  abbrev b : List ℕ
  b = c.args.b.now

  abbrev precision : ℕ
  precision = c.args.precision

  length_a : is_length (length a) ≡ true
  length_a = short_length (length a) c.requires.0 c.requires.1

  length_b : is_length (length b) ≡ true
  length_b = short_length (length b) c.requires.2 c.requires.3

  verdict : (t : Bool) → c.keeps_to.result && c.keeps_to-2.result ≡ t
      → cond t (Ok (order (number a) (number b))) (Err Unfit.Beyond) ≡ order_within a b precision
  verdict t e =
      sym (within_both a b precision length_a length_b
      ∙ ap (λ (u : Bool). cond u (Ok (order (number a) (number b))) (Err Unfit.Beyond))
      (sym (ap₂ (λ (x y : ℤ). ltb (nat_abs x) (10 ^ precision) && ltb (nat_abs y) (10 ^ precision)) c.raised-m.ensures c.raised-n.ensures)
      ∙ sym (ap₂ ◌&&◌ c.keeps_to.ensures c.keeps_to-2.ensures) ∙ e))

pub returns-then-keeps_to : goal.returns-then-keeps_to
returns-then-keeps_to c =
    rw (c.cmp.ensures ∙ cmp_order c.raised-m.result c.raised-n.result ∙ ap₂ order c.raised-m.ensures c.raised-n.ensures)
    (verdict (goal.at.returns-then-keeps_to c).After-keeps_to-2 true c.if-keeps_to.true)

pub returns : goal.returns
returns c = verdict (goal.at.returns c).After-keeps_to-2 false c.if-keeps_to.false
