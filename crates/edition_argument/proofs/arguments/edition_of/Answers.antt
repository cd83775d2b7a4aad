-- `edition_argument::arguments::edition_of` meets its contract: a text of one digit spells the edition of its value, where that is known, and no other text spells any.
-- Assumes nothing.
use mathlib.Core.Path.{sym, ap, ◌∙◌}
use mathlib.Core.Bool.{true≢false}
use native.Mathlib.Omega.{arith}
use Rattle.edition.specs.Editions.{is_known}
use Rattle.edition_argument.proofs.SpellingLaws.{spells, spelt, none_unknown}
use Rattle.edition_argument.proofs.arguments.edition_of.Goals as goal

pub returns-then-text-ne1 : goal.returns-then-text-ne1
returns-then-text-ne1 c = record { no_other = λ k. absurd (none_unknown k); each_known = λ e k t. absurd (omega (arith, (spelt _ e k t).0)) }

pub returns-then-byte-lt48 : goal.returns-then-byte-lt48
returns-then-byte-lt48 c = record { no_other = λ k. absurd (none_unknown k); each_known = λ e k t. absurd (omega (arith, (spelt _ e k t).1)) }

pub returns-then-is_known : goal.returns-then-is_known
returns-then-is_known c =
    record {
      no_other = λ k. spells _ _ (omega (arith, c.if-text-ne1.false)) (omega (arith, c.from-edition.ensures)) k;
      each_known = λ e k t. omega (arith, c.from-edition.ensures, (spelt _ e k t).1);
    }

pub returns : goal.returns
returns c =
    let unknown = sym c.is_known.ensures ∙ c.if-is_known.false in
    record {
      no_other = λ k. absurd (none_unknown k);
      each_known = λ e k t. absurd (true≢false (sym k ∙ ap is_known (omega (arith, c.from-edition.ensures, (spelt _ e k t).1)) ∙ unknown));
    }
