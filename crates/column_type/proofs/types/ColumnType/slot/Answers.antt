-- `column_type::types::ColumnType::slot` meets its contract: a number that does not fit its field leaves no slot.
use mathlib.Core.Path.{sym, ◌∙◌}
use lib.IntN.{pos}
use borrow.Author.Tests.{eqb-false}
use mir.Facts.{to_z-of_z}
use mir.Syntax.{w32}
use Rattle.parquet.specs.Logical as logical
use Rattle.column_type.proofs.FitsLaws.{fits_other}
use Rattle.column_type.proofs.SlotLaws.{field_out, field_in, slot_without, interval_in, logical_in}
use Rattle.column_type.proofs.types.ColumnType.slot.Goals as goal
use Rattle.column_type.proofs.types.ColumnType.slot.Goals.{then-kind-eq-INTERVAL, else-kind-eq-INTERVAL}

pub returns-in_err-kind : goal.returns-in_err-kind
returns-in_err-kind c =
    c.from_residual.ensures
    ∙ sym (slot_without c.args.self (λ f. field_out _ _ _ c.try_from.ensures c.ok.ensures.value c.in_err-kind.was f.kind))

pub returns-in_err-ok : goal.returns-in_err-ok
returns-in_err-ok c =
    c.from_residual-in_err-ok.ensures
    ∙ sym (slot_without c.args.self (λ f. field_out _ _ _ c.try_from-2.ensures c.ok-2.ensures.value c.in_err-ok.was f.physical))

pub returns-in_err-ok-2 : goal.returns-in_err-ok-2
returns-in_err-ok-2 c =
    c.from_residual-in_err-ok-2.ensures
    ∙ sym (slot_without c.args.self (λ f. field_out _ _ _ c.try_from-3.ensures c.ok-3.ensures.value c.in_err-ok-2.was (record { sfits = f.«type_length» })))

pub returns-in_err-ok-3 : goal.returns-in_err-ok-3
returns-in_err-ok-3 c =
    let other = eqb-false c.args.self.kind logical.DECIMAL c.requires in
    c.from_residual-in_err-ok-3.ensures
    ∙ sym (slot_without c.args.self (λ f. field_out _ _ _ c.try_from-4.ensures c.ok-4.ensures.value c.in_err-ok-3.was (fits_other c.args.self f other).0))

pub returns-in_err-ok-4 : goal.returns-in_err-ok-4
returns-in_err-ok-4 c =
    let other = eqb-false c.args.self.kind logical.DECIMAL c.requires in
    c.from_residual-in_err-ok-4.ensures
    ∙ sym (slot_without c.args.self (λ f. field_out _ _ _ c.try_from-5.ensures c.ok-5.ensures.value c.in_err-ok-4.was (fits_other c.args.self f other).1))

pub returns : goal.returns
returns c =
    let s = c.args.self in
    let other = eqb-false s.kind logical.DECIMAL c.requires in
    let kind = field_in _ _ _ c.try_from.ensures c.ok.ensures.value c.in_ok-kind.was in
    let physical = field_in _ _ _ c.try_from-2.ensures c.ok-2.ensures.value c.in_ok-ok.was in
    let length = field_in _ _ _ c.try_from-3.ensures c.ok-3.ensures.value c.in_ok-ok-2.was in
    let a = field_in _ _ _ c.try_from-4.ensures c.ok-4.ensures.value c.in_ok-ok-3.was in
    let b = field_in _ _ _ c.try_from-5.ensures c.ok-5.ensures.value c.in_ok-ok-4.was in
    elim c.if-kind-eq-INTERVAL.branch [
      | then-kind-eq-INTERVAL w ↦ rw (physical.1, length.1, to_z-of_z {w = w32} {z = pos s.«type_length»} length.0, w.converted-is, a.1, b.1) (interval_in s kind.0 physical.0 length.0.sfits a.0 b.0 (sym kind.1 ∙ w.if-kind-eq-INTERVAL.true))
      | else-kind-eq-INTERVAL w ↦ rw (physical.1, length.1, to_z-of_z {w = w32} {z = pos s.«type_length»} length.0, w.converted-is, a.1, b.1, kind.1) (logical_in s kind.0 physical.0 length.0.sfits a.0 b.0 other (λ e. w.if-kind-eq-INTERVAL.false (kind.1 ∙ e)))
    ]
