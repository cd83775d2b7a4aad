-- What a right length says: the most bytes, the width of a physical type, and the lengths of a decimal. Assumes nothing.
use mathlib.Core.Path.{◌≡◌, sym, ap, ◌∙◌}
use mathlib.Core.Bool.{true, ◌&&◌}
use mathlib.Core.Option.{Option, some}
use Prim.Native.Nat.{ℕ, ◌≤◌}
use lib.Dec.{leb, eqb}
use borrow.Author.Tests.{leb-true, eqb-true}
use Rattle.column_type.specs.declared.types.ColumnType.{ColumnType}
use Rattle.decimal_bytes.specs.Precision.{is_length}
use Rattle.parquet.specs.Logical.{DECIMAL}
use Rattle.column.specs.Lengths.{most_bytes, width_of, is_width, is_byte_form, is_byte_decimal, length_right}
use Rattle.laws.proofs.BoolLaws.{and_left, and_right, implied}

module _ (c : ColumnType) (n : ℕ) (right : length_right c n ≡ true) where
  pub length_most : n ≤ most_bytes
  unfolding length_right
  length_most = leb-true n most_bytes (and_left (leb n most_bytes) (is_width (width_of c) n) (and_left (leb n most_bytes && is_width (width_of c) n) _ right))

  pub width_right : (width : ℕ) → width_of c ≡ some width → n ≡ width
  unfolding length_right
  width_right width e =
      eqb-true n width (sym (ap (λ (w : Option ℕ). is_width w n) e) ∙ and_right (leb n most_bytes) _ (and_left (leb n most_bytes && is_width (width_of c) n) _ right))

  pub decimal_right : is_byte_form c ≡ true → eqb c.kind DECIMAL ≡ true → is_length n ≡ true
  unfolding length_right
  decimal_right e f =
      implied (is_byte_decimal c) _ (and_right (leb n most_bytes && is_width (width_of c) n) _ right) (rw (e, f))
