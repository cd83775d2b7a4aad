-- `annotation::resolution::judge` meets its contract: no annotation breaks rule 10 alone, and the number of what any other says has both.
-- Assumes nothing.
use mathlib.Core.Path.{sym, ap, ◌∙◌}
use borrow.Author.Rules.{rules}
use Rattle.std.specs.Result.{result_err}
use Rattle.annotation.specs.declared.rewriting.Written.{Written}
use Rattle.annotation.proofs.SlotLaws.{written_read, refusal_read, kept_read, plain_check_err, plain_logical}
use Rattle.annotation.proofs.resolution.judge.Goals as goal

pub returns-then-is_plain : goal.returns-then-is_plain
returns-then-is_plain c =
    let plain = sym c.is_plain.ensures ∙ c.if-is_plain.true in
    record {
      refusal_value = c.err.ensures.value ∙ ap result_err c.check_plain.ensures ∙ plain_check_err _ _ plain _;
      logical_value = plain_logical _ _ plain;
    }

pub returns-then-stands : goal.returns-then-stands
returns-then-stands c =
    record {
      refusal_value = kept_read _ _ _ c.annotation-annotation.ensures _ (search rules) (sym c.stands.ensures ∙ c.if-stands.true);
      logical_value = c.logical-logical.ensures ∙ ap (λ (w : Written). w.logical) (written_read _ _ _ c.annotation-annotation.ensures);
    }

pub returns : goal.returns
returns c =
    record {
      refusal_value = c.err-2.ensures.value ∙ ap result_err c.check.ensures ∙ refusal_read _ _ _ c.annotation-annotation.ensures _ (search rules);
      logical_value = c.logical-logical.ensures ∙ ap (λ (w : Written). w.logical) (written_read _ _ _ c.annotation-annotation.ensures);
    }
