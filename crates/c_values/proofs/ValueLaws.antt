-- Values in two numbers: their bits, and the answers of reading and ordering.
use Prim.Native.Nat.{ℕ, ◌*◌, ◌<◌}
use mathlib.Core.Path.{◌≡◌, refl, sym, ap, ◌∙◌}
use mathlib.Core.Bool.{Bool, true, false, cond}
use mathlib.Core.List.{List, [], ◌∷◌}
use lib.Ieee.{Float, nan, inf, fin, Format, binary32, binary64, top, is_nan, of_bits, nan_bits, to_bits}
use lib.Ieee.Bits.{to_bits-of_bits, nan_bits_is}
use lib.IntN.{ℤ, pos, negsuc}
use lib.ListN.{length}
use mir.Syntax.{w64}
use mir.Val.{bool_byte, of_z}
use Rattle.column_type.specs.declared.types.ColumnType.{ColumnType}
use Rattle.column.specs.Outcome as column
use Rattle.column.specs.Reading.{read_of}
use Rattle.std.specs.Prelude.{Result}
use Rattle.refusal.specs.declared.answers.Refusal.{Refusal}
use Rattle.column.specs.declared.value.Value.{Value}
use Rattle.column.specs.declared.value.Value.TheVariants as value
use Rattle.column_order.specs.Outcome as column_order
use Rattle.column_order.specs.Order.{order_of, Order}
use Rattle.c_answer.specs.Answers.{within}
use Rattle.c_values.specs.Values.{case_of, twos_complement64, float_bits, numbers_of, read_effect, reading, order_answer, ordering}

-- ---- bits

-- the bits that are written of a float, the quiet NaN's for a NaN
pub written_bits : (f : Format) (x : Float) → to_bits f x ≡ float_bits f x
unfolding float_bits to_bits is_nan
written_bits binary32 nan = refl
written_bits binary64 nan = refl
written_bits f (inf s) = refl
written_bits f (fin s m e) = refl

-- a FLOAT or DOUBLE of bits that are no NaN's is written as those bits
pub own_bits : (f : Format) (n : ℕ) → n < 2 * top f → nan_bits f n ≡ false → float_bits f (of_bits f n) ≡ n
unfolding float_bits
own_bits f n h e =
    let no : is_nan (of_bits f n) ≡ false = sym (nan_bits_is f n) ∙ e in
    rw no (to_bits-of_bits f n h (rw no tt))

-- the bits of a signed number are those of two's complement
pub signed_bits : (z : ℤ) → of_z w64 z ≡ twos_complement64 z
signed_bits (pos n) = refl
signed_bits (negsuc n) = refl

-- a value is two numbers
pub numbers_of_length : (v : Value) → length (numbers_of v) ≡ 2
numbers_of_length (value.Truth p) = refl
numbers_of_length (value.Signed z) = refl
numbers_of_length (value.Unsigned n) = refl
numbers_of_length (value.Float x) = refl
numbers_of_length (value.Double x) = refl
numbers_of_length (value.Bytes start len) = refl

-- what is written of a value whose case is known
pub written_of_lem : {v w : Value} {case n : ℕ} {numbers : List ℕ} → v ≡ w → case ≡ case_of w → numbers ≡ n ∷ 0 ∷ [] → n ∷ 0 ∷ [] ≡ numbers_of w → (case ≡ case_of v) × (numbers ≡ numbers_of v)
written_of_lem told p q e = (p ∙ ap case_of (sym told), q ∙ e ∙ ap numbers_of (sym told))

-- a truth value as a number
pub truth_bits : (p : Bool) → bool_byte p ≡ cond p 1 0
truth_bits true = refl
truth_bits false = refl

-- ---- answers

-- what reading comes to, of what `column` answers
pub reading_of_lem : (edition : ℕ) (c : ColumnType) (bs : List ℕ) (lent : ℕ) {r : Result Value Refusal} → r ≡ read_of edition c bs → reading edition c bs lent ≡ within lent (read_effect (column.outcome_of r))
unfolding reading column.outcome
reading_of_lem edition c bs lent e = ap (λ (x : Result Value Refusal). within lent (read_effect (column.outcome_of x))) (sym e)

-- what ordering answers, of what `column_order` answers
pub ordering_of : (edition : ℕ) (c : ColumnType) (a b : List ℕ) {o : Order} → o ≡ order_of edition c a b → ordering edition c a b ≡ order_answer (column_order.outcome_of o)
unfolding ordering column_order.outcome
ordering_of edition c a b e = ap (λ (x : Order). order_answer (column_order.outcome_of x)) (sym e)
