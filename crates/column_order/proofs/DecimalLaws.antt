-- The order of decimals in bytes is what comparing them within their precision answers. Assumes nothing.
use mathlib.Core.Path.{◌≡◌, refl, sym, ap, ap₂, ◌∙◌}
use mathlib.Core.Bool.{Bool, true, false, cond, ◌&&◌, ◌||◌}
use mathlib.Core.List.{List}
use mathlib.Core.Option.{none}
use Prim.Native.Nat.{ℕ, ◌^◌}
use native.Mathlib.Omega.{arith}
use lib.Dec.{eqb, ltb, leb}
use lib.IntN.{nat_abs}
use lib.ListN.{length}
use borrow.Author.Tests.{eqb-true, le-leb}
use Rattle.refusal.specs.Faults.{FIRST, SECOND, of_neither}
use Rattle.laws.proofs.BoolLaws.{and_left, and_right}
use Rattle.refusal.specs.Numbers.{WRONG_LENGTH, BREAKS_ANNOTATION, NO_ORDER}
use Rattle.refusal.specs.Outcome.{unplaced}
use Rattle.parquet.specs.Physical.{BYTE_ARRAY, FIXED_LEN_BYTE_ARRAY}
use Rattle.parquet.specs.Logical.{DECIMAL, UNKNOWN}
use Rattle.decimal_bytes.specs.Number.{number}
use Rattle.decimal_bytes.specs.Order.{order_of as decimalOrder}
use Rattle.decimal_bytes.proofs.OrderLaws.{order_of_order}
use Rattle.decimal_bytes.proofs.FitLaws.{held}
use Rattle.decimal_bytes.specs.Precision.{is_length}
use Rattle.decimal_bytes.proofs.PrecisionLaws.{is_length_bounds}
use Rattle.decimal_bytes.specs.Fit.{fit_of}
use Rattle.decimal.specs.Within as within
use Rattle.decimal.specs.Within.{as_compared, order_within}
use Rattle.std.specs.Prelude.{Some, None, Result, Ok, Err}
use Rattle.std.specs.declared.cmp.Ordering.{Ordering}
use Rattle.decimal_bytes.specs.declared.precision.WrongLength.{WrongLength}
use Rattle.decimal.specs.declared.within.Unfit.{Unfit}
use Rattle.column_type.specs.Lawful.{is_lawful}
use Rattle.column_type.specs.declared.types.ColumnType.{ColumnType}
use Rattle.column.specs.Lengths.{most_bytes, width_of, is_width, is_byte_form, is_byte_decimal, length_right}
use Rattle.column.specs.Annotations.{in_digits, bytes_keep, text_place}
use Rattle.column.specs.Reading.{checked, read_of}
use Rattle.refusal.specs.declared.answers.Refusal.{Refusal}
use Rattle.column.specs.declared.value.Value.{Value}
use Rattle.column.proofs.ReadingLaws.{read_lawful_lem, bytes_read}
use Rattle.float_order.specs.Keys.{whole_order}
use Rattle.column_order.specs.Keys.{Key, whole, key_of, key_order}
use Rattle.column_order.specs.Order.{unless_refused, values_order, order_of}
use Rattle.column_order.specs.Order.{Order}
use Rattle.column_order.proofs.Turning.{related, faulted}
use Rattle.column_order.proofs.KeyLaws.{byte_number}
use Rattle.column_order.proofs.RefusalLaws.{order_lawful}
use Rattle.column_order.proofs.OrderLaws.{takes_decimal, decimal_ordered, decimal_key}

-- the answers of comparing within a precision, as answers here; whatever is no order comes to `refused`
abbrev pub as_order : Order → Result Ordering Unfit → Order
as_order refused (Ok o) = Ok (Some o)
as_order refused (Err e) = refused

pub unfit : (refused : Order) (r : Result Ordering Unfit) → ((o : Ordering) → r ≡ Ok o → ⊥) → as_order refused r ≡ refused
unfit refused (Ok o) h = absurd (h o refl)
unfit refused (Err e) h = refl

-- what reading answers for so many bytes of a number, by how it fits its precision
abbrev as_read : ℕ → Result Bool WrongLength → Result Value Refusal
as_read len (Ok true) = Ok (Value.Bytes 0 len)
as_read len (Ok false) = Err (unplaced BREAKS_ANNOTATION)
as_read len (Err e) = Err (unplaced WRONG_LENGTH)

within_length : (bs : List ℕ) (p : ℕ) → fit_of bs p ≡ Ok true → is_length (length bs) ≡ true
unfolding fit_of
within_length bs p = go (is_length (length bs))
  where
    go : (t : Bool) → cond t (held (ltb (nat_abs (number bs)) (10 ^ p))) (Err (record {})) ≡ Ok true → t ≡ true
    go true e = refl
    go false e = cc

both_false : (t : Bool) → (t && false) ≡ false
both_false true = refl
both_false false = refl

-- the refusal of the first value, or else that of the second
abbrev pub refusal : (edition : ℕ) → ColumnType → List ℕ → List ℕ → Order
refusal edition c a b = unless_refused FIRST (read_of edition c a) (unless_refused SECOND (read_of edition c b) (related None))

-- a byte form that is not FIXED has no width
pub array_width : (c : ColumnType) → is_byte_decimal c ≡ true → (c.physical ≡ FIXED_LEN_BYTE_ARRAY → ⊥) → width_of c ≡ none
array_width c is other = rw (go (eqb c.physical BYTE_ARRAY) refl (and_left (is_byte_form c) (eqb c.kind DECIMAL) is))
  where
    go : (t : Bool) → eqb c.physical BYTE_ARRAY ≡ t → (t || eqb c.physical FIXED_LEN_BYTE_ARRAY) ≡ true → c.physical ≡ BYTE_ARRAY
    go true e f = eqb-true c.physical BYTE_ARRAY e
    go false e f = absurd (other (eqb-true c.physical FIXED_LEN_BYTE_ARRAY f))

module _ (edition : ℕ) (c : ColumnType) (lawful : is_lawful edition c ≡ true) (is : is_byte_decimal c ≡ true) where
  form : is_byte_form c ≡ true
  form = and_left (is_byte_form c) (eqb c.kind DECIMAL) is

  kind : eqb c.kind DECIMAL ≡ true
  kind = and_right (is_byte_form c) (eqb c.kind DECIMAL) is

  key : (bs : List ℕ) → key_of c bs ≡ whole (number bs)
  key bs =
      let k = eqb-true c.kind DECIMAL kind in
      decimal_key c bs k (takes_decimal edition c lawful k) ∙ ap whole (byte_number c bs is)

  keeps_digits : (bs : List ℕ) → bytes_keep c bs ≡ in_digits c.p1 (number bs)
  unfolding bytes_keep
  keeps_digits bs = rw kind

  no_place : (bs : List ℕ) → text_place c.kind bs ≡ 0
  no_place bs = rw (eqb-true c.kind DECIMAL kind)

  -- a value by its length and its number
  read : (bs : List ℕ) → read_of edition c bs ≡ cond (length_right c (length bs)) (checked (in_digits c.p1 (number bs)) 0 (Value.Bytes 0 (length bs))) (Err (unplaced WRONG_LENGTH))
  read bs =
      let known : eqb c.kind UNKNOWN ≡ false = ap (λ (n : ℕ). eqb n UNKNOWN) (eqb-true c.kind DECIMAL kind) in
      sym (read_lawful_lem edition c bs lawful)
      ∙ ap (λ (r : Result Value Refusal). cond (length_right c (length bs)) r (Err (unplaced WRONG_LENGTH)))
      (sym (bytes_read c bs known form) ∙ ap₂ (λ (t : Bool) (place : ℕ). checked t place (Value.Bytes 0 (length bs))) (keeps_digits bs) (no_place bs))

  wide : (n : ℕ) → is_width (width_of c) n ≡ true → length_right c n ≡ is_length n
  unfolding length_right
  wide n w = rw (w, is) (go (is_length n) refl)
    where
      go : (t : Bool) → is_length n ≡ t → (leb n most_bytes && true && t) ≡ t
      go true e = rw (le-leb n most_bytes (omega (arith, (is_length_bounds n e).1)))
      go false e = both_false (leb n most_bytes && true)

  not_wide : (n : ℕ) → is_width (width_of c) n ≡ false → length_right c n ≡ false
  unfolding length_right
  not_wide n w = rw (w, both_false (leb n most_bytes))

  -- a value of any other width, and one of its column's, by how its number fits the precision
  other_width : (bs : List ℕ) → is_width (width_of c) (length bs) ≡ false → read_of edition c bs ≡ Err (unplaced WRONG_LENGTH)
  other_width bs w = read bs ∙ rw (not_wide (length bs) w)

  own_width : (bs : List ℕ) → is_width (width_of c) (length bs) ≡ true → read_of edition c bs ≡ as_read (length bs) (fit_of bs c.p1)
  unfolding fit_of
  own_width bs w = read bs ∙ rw (wide (length bs) w) (go (is_length (length bs)) (in_digits c.p1 (number bs)))
    where
      go : (l t : Bool) → cond l (checked t 0 (Value.Bytes 0 (length bs))) (Err (unplaced WRONG_LENGTH)) ≡ as_read (length bs) (cond l (held t) (Err (record {})))
      go true true = refl
      go true false = refl
      go false t = refl

  module _ (a b : List ℕ) where
    judged : values_order edition c a b ≡ order_of edition c a b
    judged =
        let k = eqb-true c.kind DECIMAL kind in
        ap (λ (t : Bool). cond t (values_order edition c a b) (faulted (of_neither NO_ORDER))) (sym (decimal_ordered c k (takes_decimal edition c lawful k))) ∙ order_lawful edition c a b lawful

    pub wrong_first : is_width (width_of c) (length a) ≡ false → refusal edition c a b ≡ order_of edition c a b
    wrong_first w = let e : refusal edition c a b ≡ values_order edition c a b = rw (other_width a w) in e ∙ judged

    pub wrong_second : is_width (width_of c) (length b) ≡ false → refusal edition c a b ≡ order_of edition c a b
    wrong_second w = let e : refusal edition c a b ≡ values_order edition c a b = rw (other_width b w) in e ∙ judged

    keys : fit_of a c.p1 ≡ Ok true → fit_of b c.p1 ≡ Ok true → (refused : Order) → as_order refused (as_compared (decimalOrder a b)) ≡ related (key_order (key_of c a) (key_of c b))
    unfolding key_order whole_order
    keys e f refused =
        ap (λ (o : Result Ordering WrongLength). as_order refused (as_compared o)) (order_of_order a b (within_length a c.p1 e) (within_length b c.p1 f))
        ∙ sym (ap₂ (λ (k l : Key). related (key_order k l)) (key a) (key b))

    pub own_widths : is_width (width_of c) (length a) ≡ true → is_width (width_of c) (length b) ≡ true → as_order (refusal edition c a b) (order_within a b c.p1) ≡ order_of edition c a b
    unfolding order_within
    own_widths v w =
        let e : as_order (refusal edition c a b) (order_within a b c.p1) ≡ values_order edition c a b = rw (own_width a v, own_width b w) (go (fit_of a c.p1) (fit_of b c.p1) refl refl) in
        e ∙ judged
      where
        go : (f g : Result Bool WrongLength) → fit_of a c.p1 ≡ f → fit_of b c.p1 ≡ g
            → as_order (unless_refused FIRST (as_read (length a) f) (unless_refused SECOND (as_read (length b) g) (related None))) (within.unless_refused f (within.unless_refused g (as_compared (decimalOrder a b))))
            ≡ unless_refused FIRST (as_read (length a) f) (unless_refused SECOND (as_read (length b) g) (related (key_order (key_of c a) (key_of c b))))
        go (Ok true) (Ok true) p q = keys p q (related None)
        go (Ok true) (Ok false) p q = refl
        go (Ok true) (Err e) p q = refl
        go (Ok false) g p q = refl
        go (Err e) g p q = refl
