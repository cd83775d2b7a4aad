-- `decimal_bytes::order::extended` meets its contract: a place before the number holds its sign, and any other a byte of the number.
-- Assumes nothing.
use mathlib.Core.Path.{◌≡◌, sym, ap, ◌∙◌}
use mathlib.Core.List.{List, ◌++◌}
use Prim.Native.Nat.{ℕ, ◌+◌, ◌-◌, ◌≤◌, ◌<◌}
use native.Mathlib.Omega.{arith}
use lib.ListN.{length, get_or, replicate, get_or-replicate, length-replicate, get_or-append}
use lib.Seq.{get_or-append-add}
use Rattle.decimal_bytes.proofs.order.extended.Goals as goal

module _ (before sign : ℕ) (bs : List ℕ) (at : ℕ) where
  in_front : at < before → sign ≡ get_or (replicate before sign ++ bs) at 0
  in_front h =
      let k : at < length (replicate before sign) = omega (arith, length-replicate before sign) in
      sym (get_or-append (replicate before sign) bs 0 at k ∙ get_or-replicate before at sign 0 h)

  behind : before ≤ at → get_or bs (at - before) 0 ≡ get_or (replicate before sign ++ bs) at 0
  behind h =
      let e : length (replicate before sign) + (at - before) ≡ at = omega (arith, length-replicate before sign) in
      sym (get_or-append-add (replicate before sign) bs (at - before) 0)
      ∙ ap (λ (n : ℕ). get_or (replicate before sign ++ bs) n 0) e

pub returns-then-at-before : goal.returns-then-at-before
returns-then-at-before c = let a = c.args in in_front a.before a.sign a.number.now a.at c.if-at-before.true

pub returns : goal.returns
returns c = let a = c.args in behind a.before a.sign a.number.now a.at c.if-at-before.false
