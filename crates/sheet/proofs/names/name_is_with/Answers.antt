-- `sheet::names::name_is_with` meets its contract: a name is another with a suffix where its end is the suffix and what stands before that the other.
use mathlib.Core.Path.{◌≡◌, sym, ap, ap₂, ◌∙◌}
use mathlib.Core.List.{List, ◌++◌}
use Prim.Native.Nat.{ℕ, ◌+◌}
use lib.ListN.{length}
use borrow.Author.Rules.{rules}
use Rattle.sheet.specs.Slot.{slot_at, name}
use Rattle.sheet.specs.Name.{same_bytes}
use Rattle.sheet.proofs.NameLaws.{joined_ending, joined_otherwise}
use Rattle.sheet.proofs.names.name_is_with.Goals as goal

pub returns-then-eq : goal.returns-then-eq
returns-then-eq c =
    let size : c.in-Some.n + length c.args.suffix.now ≡ length c.name_of-whole.result.now = search rules in
    c.eq-then-eq.ensures
    ∙ joined_ending c.name_of-whole.result.now c.name_of.result.now c.args.suffix.now c.in-Some.n size (sym c.eq.ensures ∙ c.if-eq.true)
    ∙ ap₂ (λ (whole front : List ℕ). same_bytes whole (front ++ c.args.suffix.now)) c.name_of-whole.ensures c.name_of.ensures

pub returns-else-eq : goal.returns-else-eq
returns-else-eq c =
    let size : c.in-Some.n + length c.args.suffix.now ≡ length c.name_of-whole.result.now = search rules in
    c.if-eq.false
    ∙ joined_otherwise c.name_of-whole.result.now (name (slot_at c.args.sheet.now c.args.other)) c.args.suffix.now c.in-Some.n size (sym c.eq.ensures ∙ c.if-eq.false)
    ∙ ap (λ (whole : List ℕ). same_bytes whole (name (slot_at c.args.sheet.now c.args.other) ++ c.args.suffix.now)) c.name_of-whole.ensures
