-- `matching::prints::print_of` meets its contract: the bytes passed, and those that are left, give the print.
use mathlib.Core.Path.{◌∙◌}
use native.Mathlib.Omega.{arith}
use Rattle.std.proofs.Common.{rules}
use Rattle.matching.proofs.PrintLaws.{printed_next, printed_last, printed_end}
use Rattle.matching.proofs.prints.print_of.Goals as goal

pub loop-pair-preserved : goal.loop-pair-preserved
loop-pair-preserved c =
    let steps = c.in-Some.ensures.steps in
    record {
      size = steps.0 ∙ c.loop-pair.invariant.size;
      printed = printed_next _ _ _ c.loop-pair.invariant.printed c.in-Some.pair.now _ steps.1.0 (steps.1.1 ∙ c.loop-pair.invariant.size);
    }

pub returns-then-is_empty : goal.returns-then-is_empty
returns-then-is_empty c =
    printed_end _ _ _ c.loop-pair.invariant.printed (omega (arith, c.in-None.ensures.steps.1.0, c.loop-pair.invariant.size)) _
    (c.remainder-last.ensures ∙ c.chunks_exact-pairs.ensures.remainder) (search rules)

pub returns : goal.returns
returns c =
    printed_last _ _ _ c.loop-pair.invariant.printed (omega (arith, c.in-None.ensures.steps.1.0, c.loop-pair.invariant.size)) _
    (c.remainder-last.ensures ∙ c.chunks_exact-pairs.ensures.remainder) (search rules)
