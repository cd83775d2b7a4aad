-- `column_type::types::ColumnType::other_keeps` meets its contract.
use mathlib.Core.Path.{◌≡◌, sym, ap, ◌∙◌}
use mathlib.Core.Bool.{◌&&◌}
use lib.IntN.{pos}
use Rattle.std.proofs.Common.{arith, is_ok}
use Rattle.std.proofs.lemmas.Grind.{common_steps}
use Rattle.tree.specs.Rules.{length_shape}
use Rattle.column_type.specs.Lawful.{is_leaf, annotation_right, slot_keeps}
use Rattle.column_type.proofs.RefusalLaws.{annotation_right_unrefused}
use Rattle.column_type.proofs.SlotLaws.{slot_none, slot_some, keeps_by}
use Rattle.column_type.proofs.types.ColumnType.other_keeps.Goals as goal

pub returns-in_default : goal.returns-in_default
unfolding slot_keeps
returns-in_default c = rw (slot_none c.args.self (sym c.in_default.is ∙ c.slot.ensures))

pub returns-then-length_right : goal.returns-then-length_right
returns-then-length_right c =
    let s = c.args.self in
    let there = slot_some s c.in-Some.n (sym c.in-Some.is ∙ c.slot.ensures) in
    let right = c.is_ok.ensures.value ∙ ap is_ok c.resolve.ensures.value ∙ annotation_right_unrefused c.args.edition c.in-Some.n in
    let e : c.is_ok.result ≡ (is_leaf s.physical && length_shape s.physical (pos s.«type_length») && annotation_right c.args.edition c.in-Some.n) =
    grind (arith, common_steps, right) in
    e ∙ keeps_by s c.args.edition c.in-Some.n there

pub returns-else-length_right : goal.returns-else-length_right
returns-else-length_right c =
    let s = c.args.self in
    let there = slot_some s c.in-Some.n (sym c.in-Some.is ∙ c.slot.ensures) in
    let e : c.if-is_leaf.value ≡ (is_leaf s.physical && length_shape s.physical (pos s.«type_length») && annotation_right c.args.edition c.in-Some.n) =
    grind (arith, common_steps) in
    e ∙ keeps_by s c.args.edition c.in-Some.n there
