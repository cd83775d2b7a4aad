-- `column_order::ordering::order_read` meets its contract: each arm knows the cases of both values, and the order of values is that of their keys.
-- Assumes nothing.
use mathlib.Core.Path.{◌≡◌, refl, sym, ap, ap₂, subst, ◌∙◌}
use mathlib.Core.Bool.{Bool, false}
use mathlib.Core.List.{List}
use Prim.Native.Nat.{ℕ, ◌≤◌}
use native.Mathlib.Nat.{add-sub_cancel_left}
use native.Mathlib.Omega.{arith}
use borrow.Author.Rules.{sfits_of}
use lib.Ieee as Ieee
use lib.IntN.{ℤ}
use lib.ListN.{length}
use mir.Syntax.{w64}
use mir.ValLaws.{to_z-of_z}
use Rattle.std.specs.Prelude.{Ok, None}
use Rattle.float_order.specs.Keys.{whole_order}
use Rattle.column_type.specs.declared.types.ColumnType.{ColumnType}
use Rattle.column.specs.Lengths.{is_byte_decimal}
use Rattle.column.specs.declared.value.Value.{Value}
use Rattle.column.specs.declared.value.Value.TheVariants.{Truth, Signed, Unsigned, Float, Double, Bytes}
use Rattle.column_order.specs.Values.{stretch, stretch_end, BothRead}
use Rattle.column_order.specs.Keys.{key_of, key_order, byte_order}
use Rattle.column_order.proofs.Turning.{ordered}
use Rattle.column_order.proofs.ByteLaws.{slice_cmp_is}
use Rattle.column_order.proofs.WholeLaws.{bool_cmp_is, int_cmp_is, nat_cmp_is}
use Rattle.column_order.proofs.KeyLaws.{value_order, read_within, read_order}
use Rattle.column_order.proofs.ordering.order_read.Goals as goal

-- two values of known cases that were read
module _ {c : ColumnType} {a b : List ℕ} {x y v w : Value} (read : BothRead c (Ok x) (Ok y) a b) (d : is_byte_decimal c ≡ false) (e : x ≡ v) (f : y ≡ w) where
  keyed : value_order a b v w ≡ key_order (key_of c a) (key_of c b)
  keyed = ap₂ (value_order a b) (sym e) (sym f) ∙ read_order read.edition c a b x y d (sym read.first_is) (sym read.second_is)

  within : (stretch_end v ≤ length a) × (stretch_end w ≤ length b)
  within = (
    subst (λ (u : Value). stretch_end u ≤ length a) e (read_within read.edition c a x (sym read.first_is)),
    subst (λ (u : Value). stretch_end u ≤ length b) f (read_within read.edition c b y (sym read.second_is)),
  )

-- values of two cases
module _ (a b : List ℕ) where
  no_truth : (p : Bool) (y : Value) → ((q : Bool) → y ≡ Truth q → ⊥) → None ≡ value_order a b (Truth p) y
  no_truth p (Truth q) h = absurd (h q refl)
  no_truth p (Signed q) h = refl
  no_truth p (Unsigned q) h = refl
  no_truth p (Float q) h = refl
  no_truth p (Double q) h = refl
  no_truth p (Bytes s k) h = refl

  no_signed : (p : ℤ) (y : Value) → ((q : ℤ) → y ≡ Signed q → ⊥) → None ≡ value_order a b (Signed p) y
  no_signed p (Truth q) h = refl
  no_signed p (Signed q) h = absurd (h q refl)
  no_signed p (Unsigned q) h = refl
  no_signed p (Float q) h = refl
  no_signed p (Double q) h = refl
  no_signed p (Bytes s k) h = refl

  no_unsigned : (p : ℕ) (y : Value) → ((q : ℕ) → y ≡ Unsigned q → ⊥) → None ≡ value_order a b (Unsigned p) y
  no_unsigned p (Truth q) h = refl
  no_unsigned p (Signed q) h = refl
  no_unsigned p (Unsigned q) h = absurd (h q refl)
  no_unsigned p (Float q) h = refl
  no_unsigned p (Double q) h = refl
  no_unsigned p (Bytes s k) h = refl

  no_float : (p : Ieee.Float) (y : Value) → ((q : Ieee.Float) → y ≡ Float q → ⊥) → None ≡ value_order a b (Float p) y
  no_float p (Truth q) h = refl
  no_float p (Signed q) h = refl
  no_float p (Unsigned q) h = refl
  no_float p (Float q) h = absurd (h q refl)
  no_float p (Double q) h = refl
  no_float p (Bytes s k) h = refl

  no_double : (p : Ieee.Float) (y : Value) → ((q : Ieee.Float) → y ≡ Double q → ⊥) → None ≡ value_order a b (Double p) y
  no_double p (Truth q) h = refl
  no_double p (Signed q) h = refl
  no_double p (Unsigned q) h = refl
  no_double p (Float q) h = refl
  no_double p (Double q) h = absurd (h q refl)
  no_double p (Bytes s k) h = refl

  no_bytes : (s k : ℕ) (y : Value) → ((t l : ℕ) → y ≡ Bytes t l → ⊥) → None ≡ value_order a b (Bytes s k) y
  no_bytes s k (Truth q) h = refl
  no_bytes s k (Signed q) h = refl
  no_bytes s k (Unsigned q) h = refl
  no_bytes s k (Float q) h = refl
  no_bytes s k (Double q) h = refl
  no_bytes s k (Bytes t l) h = absurd (h t l refl)

pub overflow_add-first : goal.overflow_add-first
overflow_add-first c = record { fits = omega (arith, (within c.requires.0 c.requires.1 c.in-Bytes-Bytes.is-0 c.in-Bytes-Bytes.is-1).0) }

pub overflow_add-second : goal.overflow_add-second
overflow_add-second c = record { fits = omega (arith, (within c.requires.0 c.requires.1 c.in-Bytes-Bytes.is-0 c.in-Bytes-Bytes.is-1).1) }

pub slice_bounds-first-end : goal.slice_bounds-first-end
slice_bounds-first-end c = (within c.requires.0 c.requires.1 c.in-Bytes-Bytes.is-0 c.in-Bytes-Bytes.is-1).0

pub slice_bounds-second-end : goal.slice_bounds-second-end
slice_bounds-second-end c = (within c.requires.0 c.requires.1 c.in-Bytes-Bytes.is-0 c.in-Bytes-Bytes.is-1).1

pub returns-in-Truth-Truth : goal.returns-in-Truth-Truth
returns-in-Truth-Truth c = ap ordered (c.cmp.ensures ∙ bool_cmp_is _ _) ∙ keyed c.requires.0 c.requires.1 c.in-Truth-Truth.is-0 c.in-Truth-Truth.is-1

pub returns-in-Signed-Signed : goal.returns-in-Signed-Signed
returns-in-Signed-Signed c =
    ap ordered (c.cmp-in-Signed-Signed.ensures ∙ int_cmp_is _ _ ∙ ap₂ whole_order (to_z-of_z w64 _ (search sfits_of)) (to_z-of_z w64 _ (search sfits_of)))
    ∙ keyed c.requires.0 c.requires.1 c.in-Signed-Signed.is-0 c.in-Signed-Signed.is-1

pub returns-in-Unsigned-Unsigned : goal.returns-in-Unsigned-Unsigned
returns-in-Unsigned-Unsigned c = ap ordered (c.cmp-in-Unsigned-Unsigned.ensures ∙ nat_cmp_is _ _) ∙ keyed c.requires.0 c.requires.1 c.in-Unsigned-Unsigned.is-0 c.in-Unsigned-Unsigned.is-1

pub returns-in-Float-Float : goal.returns-in-Float-Float
returns-in-Float-Float c = c.order.ensures ∙ keyed c.requires.0 c.requires.1 c.in-Float-Float.is-0 c.in-Float-Float.is-1

pub returns-in-Double-Double : goal.returns-in-Double-Double
returns-in-Double-Double c = c.order-in-Double-Double.ensures ∙ keyed c.requires.0 c.requires.1 c.in-Double-Double.is-0 c.in-Double-Double.is-1

pub returns-in-Bytes-Bytes : goal.returns-in-Bytes-Bytes
returns-in-Bytes-Bytes c =
    let s = c.args in
    let k = c.in-Bytes-Bytes in
    ap ordered (c.cmp-in-Bytes-Bytes.ensures ∙ slice_cmp_is _ _)
    ∙ ap₂ (λ (m n : ℕ). ordered (byte_order (stretch k.start m s.a.now) (stretch k.from n s.b.now))) (add-sub_cancel_left k.start k.len) (add-sub_cancel_left k.from k.count)
    ∙ keyed c.requires.0 c.requires.1 k.is-0 k.is-1

pub returns-in_default : goal.returns-in_default
returns-in_default c = no_truth c.args.a.now c.args.b.now _ c.args.y c.in_default.not-Truth-1 ∙ keyed c.requires.0 c.requires.1 c.in_default.is-0 refl

pub returns-in_default-2 : goal.returns-in_default-2
returns-in_default-2 c = no_signed c.args.a.now c.args.b.now _ c.args.y c.in_default.not-Signed-1 ∙ keyed c.requires.0 c.requires.1 c.in_default.is-0 refl

pub returns-in_default-3 : goal.returns-in_default-3
returns-in_default-3 c = no_unsigned c.args.a.now c.args.b.now _ c.args.y c.in_default.not-Unsigned-1 ∙ keyed c.requires.0 c.requires.1 c.in_default.is-0 refl

pub returns-in_default-4 : goal.returns-in_default-4
returns-in_default-4 c = no_float c.args.a.now c.args.b.now _ c.args.y c.in_default.not-Float-1 ∙ keyed c.requires.0 c.requires.1 c.in_default.is-0 refl

pub returns-in_default-5 : goal.returns-in_default-5
returns-in_default-5 c = no_double c.args.a.now c.args.b.now _ c.args.y c.in_default.not-Double-1 ∙ keyed c.requires.0 c.requires.1 c.in_default.is-0 refl

pub returns-in_default-6 : goal.returns-in_default-6
returns-in_default-6 c = no_bytes c.args.a.now c.args.b.now _ _ c.args.y c.in_default.not-Bytes-1 ∙ keyed c.requires.0 c.requires.1 c.in_default.is-0 refl
