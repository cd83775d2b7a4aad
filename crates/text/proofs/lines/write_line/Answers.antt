-- `text::lines::write_line` meets its contract.
use Prim.Native.Nat.{ℕ, ◌<◌}
use mathlib.Core.List.{map, [], ◌∷◌}
use mathlib.Core.Path.{◌≡◌, sym, ap, subst, ◌∙◌}
use native.Mathlib.Numerals.{add-one}
use native.Mathlib.Omega.{arith}
use lib.ListN.{length, take, get_or, length-append}
use Rattle.text.specs.Steps.{item}
use Rattle.text.specs.Placing.{position_after, placed_text}
use Rattle.text.specs.Characters.{LF}
use Rattle.text.specs.Lines.{spaced}
use Rattle.text.specs.Numbers.{decimal_text}
use Rattle.text.proofs.LineLaws.{spaced_suc, line_longer, line_end}
use Rattle.text.proofs.PlacingLaws.{Holds, holds_none, holds_more, holds_placed}
use Rattle.text.proofs.lines.write_line.Goals as goal

pub loop-i-init : goal.loop-i-init
unfolding spaced
loop-i-init c = holds_none _ _ (omega (arith, c.requires))

pub loop-i-preserved : goal.loop-i-preserved
loop-i-preserved c =
    let ns = c.args.numbers.now in
    let i = c.loop-i.i in
    let taken : i < length ns = omega arith in
    let n : item i c.from.result ≡ item i (get_or ns i 0) = ap (item i) c.from.ensures in
    subst (Holds _ _ _ _) (sym (spaced_suc ns i taken) ∙ ap (λ (k : ℕ). spaced (map decimal_text (take k ns))) (sym (add-one i)))
    (holds_more c.loop-i.invariant (item i (get_or ns i 0)) (omega (arith, c.requires, line_longer ns i taken))
    (c.put_item-next.ensures.value ∙ ap (position_after _ _) n, c.put_item-next.ensures.out_after ∙ ap (placed_text _ _) n))

pub returns : goal.returns
returns c =
    let ns = c.args.numbers.now in
    let i = c.loop-i.i in
    let line = line_end ns i (omega arith) in
    holds_placed (holds_more c.loop-i.invariant (LF ∷ []) (omega (arith, c.requires, ap length line, length-append (spaced (map decimal_text (take i ns))) (LF ∷ []))) (c.put.ensures.value, c.put.ensures.out_after))
    ∙ ap (placed_text _ _) line
