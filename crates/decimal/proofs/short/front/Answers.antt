-- `decimal::short::front` meets its contract: eight bytes are a word, and fewer are read one by one. Assumes nothing.
use mathlib.Core.Path.{sym, ap, subst, ◌∙◌}
use Prim.Native.Nat.{ℕ, ◌^◌, ◌<◌}
use native.Mathlib.Omega.{arith}
use lib.ListN.{take}
use Rattle.decimal_bytes.specs.Number.{unsigned}
use Rattle.decimal_bytes.proofs.UnsignedLaws.{each_get_d}
use Rattle.decimal.proofs.WordLaws.{word_unsigned, lifted_front}
use Rattle.decimal.proofs.short.front.Goals as goal

pub lifted-requires : goal.lifted-requires
lifted-requires c =
    let fits : c.word.result < 256 ^ 8 = omega arith in
    (c.requires.0, c.requires.1, subst (λ (k : ℕ). c.word.result < 256 ^ k) (sym c.if-count-eq-WORD.true) fits)

pub returns-then-count-eq-WORD : goal.returns-then-count-eq-WORD
returns-then-count-eq-WORD c =
    let bs = c.args.bytes.now in
    lifted_front bs c.args.count c.word.result c.lifted.result (each_get_d _ (λ k. (c.type_inv.bytes k).fits)) c.requires.0 c.requires.2
    (c.word.ensures ∙ word_unsigned bs 0 (omega (arith, c.requires.2, c.if-count-eq-WORD.true)) ∙ ap (λ (k : ℕ). unsigned (take k bs)) (sym c.if-count-eq-WORD.true))
    c.lifted.ensures

pub returns : goal.returns
returns c =
    lifted_front c.args.bytes.now c.args.count c.unsigned_front.result c.lifted-2.result (each_get_d _ (λ k. (c.type_inv.bytes k).fits)) c.requires.0 c.requires.2
    c.unsigned_front.ensures.0 c.lifted-2.ensures
