-- `text::lines::after_line` meets its contract: number by number, with the space before each but the first, and the end of the line.
use Prim.Native.Nat.{ℕ}
use mathlib.Core.List.{[], ◌∷◌, map}
use mathlib.Core.Path.{◌≡◌, sym, ap, ◌∙◌}
use native.Mathlib.Numerals.{add-one}
use native.Mathlib.Omega.{arith}
use lib.ListN.{length, take, get_or}
use Rattle.text.specs.Placing.{position_past, position_after}
use Rattle.text.specs.Steps.{item}
use Rattle.text.specs.Lines.{spaced}
use Rattle.text.specs.Numbers.{decimal_text}
use Rattle.text.specs.Characters.{LF}
use Rattle.text.proofs.PlacingLaws.{after_more}
use Rattle.text.proofs.LineLaws.{spaced_suc, line_end}
use Rattle.text.proofs.lines.after_line.Goals as goal

pub loop-i-init : goal.loop-i-init
unfolding spaced
loop-i-init c = c.after-next.ensures

pub loop-i-preserved : goal.loop-i-preserved
loop-i-preserved c =
    let room = length c.args.out.now in
    let ns = c.args.numbers.now in
    let i = c.loop-i.i in
    let n : c.item_length.result ≡ length (item i (get_or ns i 0)) = c.item_length.ensures ∙ ap (λ (n : ℕ). length (item i n)) c.from.ensures in
    after_more _ _ (spaced (map decimal_text (take i ns))) (item i (get_or ns i 0)) c.loop-i.invariant (c.after-next-in-loop-i.ensures ∙ ap (position_past room _) n)
    ∙ ap (position_after room c.args.at) (sym (spaced_suc ns i (omega arith)) ∙ ap (λ (k : ℕ). spaced (map decimal_text (take k ns))) (sym (add-one i)))

pub returns : goal.returns
returns c =
    let ns = c.args.numbers.now in
    let i = c.loop-i.i in
    after_more _ _ (spaced (map decimal_text (take i ns))) (LF ∷ []) c.loop-i.invariant c.after.ensures
    ∙ ap (position_after (length c.args.out.now) c.args.at) (line_end ns i (omega arith))
