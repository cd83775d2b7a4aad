-- `column::reading::read_present` meets its contract: each arm knows the physical type, and so the length.
-- Assumes nothing.
use mathlib.Core.Path.{◌≡◌, refl, sym, ap, subst, ◌∙◌}
use Prim.Native.Nat.{ℕ, ◌<◌, ◌^◌}
use native.Mathlib.Nat.{lt_of_lt_of_le}
use native.Mathlib.Omega.{arith}
use lib.ListN.{length}
use lib.Signed.{mag}
use mir.Syntax.{w32, w64}
use mir.Val.{to_z, of_z}
use borrow.Author.Tests.{ne_eqb}
use Rattle.laws.proofs.SignedLaws.{read_back}
use Rattle.column.specs.Numbers.{sign_weight, signed}
use Rattle.column.specs.Annotations.{annotation_place, keeps}
use Rattle.column.specs.Reading.{value_of}
use Rattle.column.proofs.LengthLaws.{width_right, decimal_right}
use Rattle.column.proofs.NumberLaws.{read_signed, signed_small}
use Rattle.column.proofs.ReadingLaws.{bytes_read, whole_read}
use Rattle.column.proofs.reading.read_present.Goals as goal
use Rattle.column.proofs.reading.read_present.Goals.{In-0, In-1, In-2, In-4, In-5}

-- the length of a value of each physical type
boolean_bytes : (c : In-0) → length c.args.value.now ≡ 1
boolean_bytes c = width_right _ _ c.requires.0 1 (rw c.in-0.is)

int32_bytes : (c : In-1) → length c.args.value.now ≡ 4
int32_bytes c = width_right _ _ c.requires.0 4 (rw c.in-1.is)

int64_bytes : (c : In-2) → length c.args.value.now ≡ 8
int64_bytes c = width_right _ _ c.requires.0 8 (rw c.in-2.is)

float_bytes : (c : In-4) → length c.args.value.now ≡ 4
float_bytes c = width_right _ _ c.requires.0 4 (rw c.in-4.is)

double_bytes : (c : In-5) → length c.args.value.now ≡ 8
double_bytes c = width_right _ _ c.requires.0 8 (rw c.in-5.is)

pub read_bytes-requires : goal.read_bytes-requires
read_bytes-requires c = decimal_right _ _ c.requires.0 (sym c.if-is_byte_form.ensures)

pub returns-then-is_byte_form : goal.returns-then-is_byte_form
returns-then-is_byte_form c = c.read_bytes.ensures ∙ bytes_read c.args.c c.args.value.now c.requires.1 (sym c.if-is_byte_form.ensures)

pub little-requires : goal.little-requires
little-requires c = omega (arith, boolean_bytes c)

pub little-n-requires : goal.little-n-requires
little-n-requires c = omega (arith, int32_bytes c)

pub overflow_cast-n : goal.overflow_cast-n
overflow_cast-n c =
    let e = int32_bytes (goal.at.overflow_cast-n c).In-1 in
    record { fits = subst (λ (n : ℕ). c.little-n.result < 256 ^ n) e c.little-n.ensures.1 }

pub little-n-requires-in-2 : goal.little-n-requires-in-2
little-n-requires-in-2 c = omega (arith, int64_bytes c)

pub little-requires-in-4 : goal.little-requires-in-4
little-requires-in-4 c = omega (arith, float_bytes c)

pub overflow_cast-little : goal.overflow_cast-little
overflow_cast-little c =
    let e = float_bytes (goal.at.overflow_cast-little c).In-4 in
    record { fits = subst (λ (n : ℕ). c.little-in-4.result < 256 ^ n) e c.little-in-4.ensures.1 }

pub little-requires-in-5 : goal.little-requires-in-5
little-requires-in-5 c = omega (arith, double_bytes c)

pub returns-in-0 : goal.returns-in-0
unfolding keeps value_of annotation_place
returns-in-0 c = rw (c.requires.1, c.in-0.is, ← c.little.ensures.0) c.read_truth.ensures

pub returns-in-1 : goal.returns-in-1
returns-in-1 c =
    let bs = c.args.value.now in
    let n = c.little-n.result in
    let e : length bs ≡ 4 = int32_bytes (goal.at.returns-in-1 c).In-1 in
    let weight : 2 ^ 31 ≡ sign_weight (length bs) = ap sign_weight (sym e) in
    let below : n < 2 ^ 32 = subst (λ (k : ℕ). n < 256 ^ k) e c.little-n.ensures.1 in
    let told = c.from-in-1.ensures ∙ read_signed w32 bs refl weight n c.cast_signed.ensures c.little-n.ensures.0 below in
    let small : mag (signed bs) < 2 ^ 31 = signed_small w32 bs refl weight (subst (λ (k : ℕ). k < 2 ^ 32) c.little-n.ensures.0 below) in
    c.read_whole.ensures
    ∙ whole_read c.args.c bs c.requires.1 c.from.result (to_z w64 (of_z w64 c.from-in-1.result)) (rw c.in-1.is) (c.from.ensures ∙ c.little-n.ensures.0)
    (read_back told (lt_of_lt_of_le small (omega arith)))

pub returns-in-2 : goal.returns-in-2
returns-in-2 c =
    let bs = c.args.value.now in
    let n = c.little-n-in-2.result in
    let e : length bs ≡ 8 = int64_bytes (goal.at.returns-in-2 c).In-2 in
    let below : n < 2 ^ 64 = subst (λ (k : ℕ). n < 256 ^ k) e c.little-n-in-2.ensures.1 in
    let told = read_signed w64 bs refl (ap sign_weight (sym e)) n c.cast_signed-in-2.ensures c.little-n-in-2.ensures.0 below in
    c.read_whole-in-2.ensures
    ∙ whole_read c.args.c bs c.requires.1 n (to_z w64 (of_z w64 c.cast_signed-in-2.result)) (rw c.in-2.is) c.little-n-in-2.ensures.0 told

pub returns-in-4 : goal.returns-in-4
unfolding keeps value_of
returns-in-4 c = rw (c.requires.1, c.in-4.is, ← c.little-in-4.ensures.0, c.f32_from_bits_with_nan.ensures)

pub returns-in-5 : goal.returns-in-5
unfolding keeps value_of
returns-in-5 c = rw (c.requires.1, c.in-5.is, ← c.little-in-5.ensures.0, c.f64_from_bits_with_nan.ensures)

pub returns-in_default : goal.returns-in_default
unfolding keeps value_of
returns-in_default c =
    let rest = c.in_default.in_default-own.rest in
    rw (c.requires.1, ne_eqb _ _ rest.0.0.0.0.1, ne_eqb _ _ rest.0.0.0.1, ne_eqb _ _ rest.0.0.1, sym c.if-is_byte_form.ensures, ne_eqb _ _ rest.0.1, ne_eqb _ _ rest.1, c.stretch.ensures)
