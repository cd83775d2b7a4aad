-- The checks of the column type, by what reading answers. Assumes nothing.
use mathlib.Core.Path.{◌≡◌, refl, sym, ◌∙◌}
use mathlib.Core.Bool.{Bool, true, false, not, cond}
use mathlib.Core.List.{List}
use Prim.Native.Nat.{ℕ}
use lib.ListN.{length}
use borrow.Author.Tests.{not-true, not-false}
use Rattle.refusal.specs.Faults.{NEITHER, fault, of_neither}
use Rattle.refusal.specs.Numbers.{NO_ORDER}
use Rattle.column_type.specs.Lawful.{is_lawful, type_refusal}
use Rattle.column_type.proofs.RefusalLaws.{refusal_either}
use Rattle.column_type.specs.declared.types.ColumnType.{ColumnType}
use Rattle.column.specs.Lengths.{length_right}
use Rattle.column.specs.Annotations.{keeps}
use Rattle.column.specs.Reading.{read_of}
use Rattle.std.specs.Prelude.{Err}
use Rattle.column.proofs.ReadingLaws.{tested}
use Rattle.column_order.specs.Order.{has_order, is_of_unknown_type, values_order, order_of}
use Rattle.column_order.proofs.Turning.{faulted}

-- 20 and 21 are the answers for an unlawful column type alone
pub unknown_exactly : (edition : ℕ) (c : ColumnType) (bs : List ℕ) → is_of_unknown_type (read_of edition c bs) ≡ not (is_lawful edition c)
unfolding read_of
unknown_exactly edition c bs = go (is_lawful edition c) (length_right c (length bs)) (keeps c bs)
  where
    go : (l r k : Bool) → is_of_unknown_type (tested edition c bs l r k) ≡ not l
    go true true true = refl
    go true true false = refl
    go true false k = refl
    go false r k = refusal_either edition (λ s. is_of_unknown_type (Err s) ≡ true) refl refl

module _ (edition : ℕ) (c : ColumnType) (a b : List ℕ) where
  pub order_unlawful : is_lawful edition c ≡ false → faulted (fault NEITHER (type_refusal edition)) ≡ order_of edition c a b
  unfolding order_of
  order_unlawful e = rw e

  pub order_lawful : is_lawful edition c ≡ true → cond (has_order c) (values_order edition c a b) (faulted (of_neither NO_ORDER)) ≡ order_of edition c a b
  unfolding order_of
  order_lawful e = rw e

  -- the same where the first value was read
  pub read_unlawful : is_of_unknown_type (read_of edition c a) ≡ true → faulted (fault NEITHER (type_refusal edition)) ≡ order_of edition c a b
  read_unlawful e = order_unlawful (not-true (is_lawful edition c) (sym (unknown_exactly edition c a) ∙ e))

  pub read_lawful_lem : is_of_unknown_type (read_of edition c a) ≡ false → cond (has_order c) (values_order edition c a b) (faulted (of_neither NO_ORDER)) ≡ order_of edition c a b
  read_lawful_lem e = order_lawful (not-false (is_lawful edition c) (sym (unknown_exactly edition c a) ∙ e))
