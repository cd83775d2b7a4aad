-- The order of read values is that of the keys of their bytes. Assumes nothing.
use mathlib.Core.Path.{◌≡◌, refl, sym, ap, ap₂, ◌∙◌}
use mathlib.Core.Bool.{Bool, true, false, not, cond, ◌||◌}
use mathlib.Core.List.{List}
use Prim.Native.Nat.{ℕ, ◌≤◌}
use native.Mathlib.Omega.{arith}
use lib.Dec.{eqb}
use lib.Ieee.{binary32, binary64, of_bits}
use lib.IntN.{ℤ, pos}
use lib.ListN.{length}
use lib.Seq.{take-length}
use borrow.Author.Tests.{leb-true, eqb-true, eqb-false}
use Rattle.laws.specs.Bytes.{little}
use Rattle.column_type.specs.declared.types.ColumnType.{ColumnType}
use Rattle.decimal_bytes.specs.Number.{number}
use Rattle.parquet.specs.Physical.{BOOLEAN, INT32, INT64, FLOAT, DOUBLE, BYTE_ARRAY, FIXED_LEN_BYTE_ARRAY}
use Rattle.parquet.specs.Logical.{DECIMAL, UNKNOWN}
use Rattle.column.specs.Numbers.{signed}
use Rattle.column.specs.Lengths.{is_byte_form, is_byte_decimal}
use Rattle.column.specs.Annotations.{is_whole, is_unsigned, keeps, is_truth}
use Rattle.column.specs.Reading.{value_of, whole_value, read_of}
use Rattle.column.specs.declared.value.Value.{Value}
use Rattle.column.specs.declared.value.Value.TheVariants.{Truth, Signed, Unsigned, Float, Double, Bytes}
use Rattle.std.specs.Prelude.{Ok}
use Rattle.laws.proofs.BoolLaws.{and_left, and_right}
use Rattle.column.proofs.ReadingLaws.{reads}
use Rattle.float_order.specs.Keys as float
use Rattle.float_order.specs.Keys.{float_key, whole_order}
use Rattle.std.specs.Prelude.{Option, Some, None}
use Rattle.std.specs.declared.cmp.Ordering.{Ordering}
use Rattle.float_order.proofs.FloatLaws.{float_order_bits}
use Rattle.column_order.specs.Keys.{Key, whole, bytes, number_of, number_key, key_of, byte_order, key_order}
use Rattle.column_order.proofs.Turning.{ordered}
use Rattle.column_order.specs.Values.{flag, truth_order, signed_order, unsigned_order, single_order, double_order, stretch, stretch_end, bytes_order}

-- two values by their cases, whose stretches are those of the bytes `a` and `b`
abbrev pub value_order : List ℕ → List ℕ → Value → Value → Option Ordering
value_order a b (Truth p) v = truth_order p v
value_order a b (Signed x) v = signed_order x v
value_order a b (Unsigned m) v = unsigned_order m v
value_order a b (Float x) v = single_order x v
value_order a b (Double x) v = double_order x v
value_order a b (Bytes s n) v = bytes_order a s n v b

-- a byte that is 0 or 1 is its truth value
flag_truth : (n : ℕ) → is_truth n ≡ true → flag (eqb n 1) ≡ n
flag_truth n e = go (eqb n 1) refl
  where
    go : (t : Bool) → eqb n 1 ≡ t → flag t ≡ n
    go true p = sym (eqb-true n 1 p)
    go false p = let h = leb-true n 1 e in let k = eqb-false n 1 p in omega arith

-- the keys of floats are ordered as the keys of their column
float_keys : (k l : Option ℤ) → float.key_order k l ≡ key_order (number_key k) (number_key l)
unfolding float.key_order key_order
float_keys None l = refl
float_keys (Some x) None = refl
float_keys (Some x) (Some y) = refl

module _ (c : ColumnType) where
  whole_signed : (bs : List ℕ) → is_whole c ≡ true → number_of c bs ≡ signed bs
  unfolding number_of
  whole_signed bs e = ap (λ (t : Bool). cond t (number bs) (signed bs)) (go (eqb c.physical INT32) refl e)
    where
      form : ℕ → Bool
      form p = eqb p BYTE_ARRAY || eqb p FIXED_LEN_BYTE_ARRAY

      go : (t : Bool) → eqb c.physical INT32 ≡ t → (t || eqb c.physical INT64) ≡ true → is_byte_form c ≡ false
      go true p f = ap form (eqb-true c.physical INT32 p)
      go false p f = ap form (eqb-true c.physical INT64 f)

  pub byte_number : (bs : List ℕ) → is_byte_decimal c ≡ true → number_of c bs ≡ number bs
  unfolding number_of
  byte_number bs e = rw (and_left (is_byte_form c) (eqb c.kind DECIMAL) e)

  truth_kept : (bs : List ℕ) → keeps c bs ≡ true → eqb c.physical BOOLEAN ≡ true → is_truth (little bs) ≡ true
  unfolding keeps
  truth_kept bs k e = rw e at (and_right (not (eqb c.kind UNKNOWN)) _ k)

module _ (c : ColumnType) (a b : List ℕ) where
  truths : keeps c a ≡ true → keeps c b ≡ true → eqb c.physical BOOLEAN ≡ true
      → ordered (whole_order (pos (flag (eqb (little a) 1))) (pos (flag (eqb (little b) 1)))) ≡ ordered (whole_order (pos (little a)) (pos (little b)))
  truths p q e = ap₂ (λ (m n : ℕ). ordered (whole_order (pos m) (pos n))) (flag_truth (little a) (truth_kept c a p e)) (flag_truth (little b) (truth_kept c b q e))

  wholes : is_whole c ≡ true
      → value_order a b (whole_value c (little a) (signed a)) (whole_value c (little b) (signed b))
      ≡ ordered (whole_order (cond (is_unsigned c) (pos (little a)) (number_of c a)) (cond (is_unsigned c) (pos (little b)) (number_of c b)))
  wholes e = go (is_unsigned c)
    where
      go : (t : Bool) → value_order a b (cond t (Unsigned (little a)) (Signed (signed a))) (cond t (Unsigned (little b)) (Signed (signed b)))
          ≡ ordered (whole_order (cond t (pos (little a)) (number_of c a)) (cond t (pos (little b)) (number_of c b)))
      go true = refl
      go false = ap₂ (λ (x y : ℤ). ordered (whole_order x y)) (sym (whole_signed c a e)) (sym (whole_signed c b e))

  -- the stretch of a value is all of its bytes
  stretches : is_byte_decimal c ≡ false
      → ordered (byte_order (stretch 0 (length a) a) (stretch 0 (length b) b)) ≡ key_order (cond (is_byte_decimal c) (whole (number_of c a)) (bytes a)) (cond (is_byte_decimal c) (whole (number_of c b)) (bytes b))
  unfolding key_order
  stretches d = rw (take-length a, take-length b, d)

  pub value_order_lem : is_byte_decimal c ≡ false → keeps c a ≡ true → keeps c b ≡ true
      → value_order a b (value_of c a) (value_of c b) ≡ key_order (key_of c a) (key_of c b)
  unfolding value_of key_of key_order
  value_order_lem d p q = go (eqb c.physical BOOLEAN) refl (is_whole c) refl (eqb c.physical FLOAT) (eqb c.physical DOUBLE)
    where
      value : Bool → Bool → Bool → Bool → List ℕ → Value
      value t w f d bs =
          cond t (Truth (eqb (little bs) 1))
          (cond w (whole_value c (little bs) (signed bs))
          (cond f (Float (of_bits binary32 (little bs))) (cond d (Double (of_bits binary64 (little bs))) (Bytes 0 (length bs)))))

      key : Bool → Bool → Bool → Bool → List ℕ → Key
      key t w f d bs =
          cond t (whole (pos (little bs)))
          (cond w (whole (cond (is_unsigned c) (pos (little bs)) (number_of c bs)))
          (cond f (number_key (float_key binary32 (little bs)))
          (cond d (number_key (float_key binary64 (little bs))) (cond (is_byte_decimal c) (whole (number_of c bs)) (bytes bs)))))

      go : (t : Bool) → eqb c.physical BOOLEAN ≡ t → (w : Bool) → is_whole c ≡ w → (f d : Bool)
          → value_order a b (value t w f d a) (value t w f d b) ≡ key_order (key t w f d a) (key t w f d b)
      go true e w i f d = truths p q e
      go false e true i f d = wholes i
      go false e false i true d = float_order_bits binary32 (little a) (little b) ∙ float_keys (float_key binary32 (little a)) (float_key binary32 (little b))
      go false e false i false true = float_order_bits binary64 (little a) (little b) ∙ float_keys (float_key binary64 (little a)) (float_key binary64 (little b))
      go false e false i false false = stretches d

-- the stretch of a read value lies within the bytes that were read
pub read_within : (edition : ℕ) (c : ColumnType) (bs : List ℕ) (v : Value) → read_of edition c bs ≡ Ok v → stretch_end v ≤ length bs
unfolding value_of
read_within edition c bs v e =
    rw (reads edition c bs v e).value (go (eqb c.physical BOOLEAN) (is_whole c) (is_unsigned c) (eqb c.physical FLOAT) (eqb c.physical DOUBLE))
  where
    go : (t w u f d : Bool) → stretch_end
        (cond t (Truth (eqb (little bs) 1))
        (cond w (cond u (Unsigned (little bs)) (Signed (signed bs)))
        (cond f (Float (of_bits binary32 (little bs))) (cond d (Double (of_bits binary64 (little bs))) (Bytes 0 (length bs)))))) ≤ length bs
    go true w u f d = omega arith
    go false true true f d = omega arith
    go false true false f d = omega arith
    go false false u true d = omega arith
    go false false u false true = omega arith
    go false false u false false = omega arith

pub read_order : (edition : ℕ) (c : ColumnType) (a b : List ℕ) (x y : Value) → is_byte_decimal c ≡ false → read_of edition c a ≡ Ok x → read_of edition c b ≡ Ok y
    → value_order a b x y ≡ key_order (key_of c a) (key_of c b)
read_order edition c a b x y d p q =
    let r = reads edition c a x p in
    let s = reads edition c b y q in
    ap₂ (value_order a b) r.value s.value ∙ value_order_lem c a b d r.kept s.kept
