-- The terms in which demand 2 says each sentence of "Single values" of the outcome of reading.
use Rattle.std.specs.Prelude.{ℕ, ◌*◌, ◌-◌, ◌^◌, ◌≤◌, ◌≡◌, List, ◌⊎◌, ◌↔◌, ℤ, pos, neg_ℤ, ◌≤ℤ◌, ◌<ℤ◌}
use Rattle.refusal.specs.Numbers.{BREAKS_ANNOTATION}
use Rattle.refusal.specs.Outcome.{refusal, given, refused}
use Rattle.column_type.specs.declared.types.ColumnType.{ColumnType}
use Rattle.parquet.specs.Physical.{BOOLEAN, INT32, INT64, INT96, FLOAT, DOUBLE, BYTE_ARRAY, FIXED_LEN_BYTE_ARRAY}
use Rattle.parquet.specs.Logical.{DECIMAL}
use Rattle.column.specs.declared.value.Value.{Value}
use Rattle.column.specs.Outcome.{outcome}

-- a column of whole numbers, or of byte forms
abbrev pub Whole : ColumnType → Type 0
Whole c = (c.physical ≡ INT32) ⊎ (c.physical ≡ INT64)

abbrev pub ByteForm : ColumnType → Type 0
ByteForm c = (c.physical ≡ BYTE_ARRAY) ⊎ (c.physical ≡ FIXED_LEN_BYTE_ARRAY)

-- the lengths that 15 does not refuse: "Numbers are little-endian of their width; INT96 12 bytes; BOOLEAN one byte", a FIXED has its type length, decimals
-- in byte forms have "1 to 256 bytes", and no value has over 65,536
pub record RightLength (c : ColumnType) (n : ℕ) : Type 0 where
  pub most : n ≤ 65536
  pub boolean : c.physical ≡ BOOLEAN → n ≡ 1
  pub int32 : c.physical ≡ INT32 → n ≡ 4
  pub int64 : c.physical ≡ INT64 → n ≡ 8
  pub int96 : c.physical ≡ INT96 → n ≡ 12
  pub float : c.physical ≡ FLOAT → n ≡ 4
  pub double : c.physical ≡ DOUBLE → n ≡ 8
  pub fixed : c.physical ≡ FIXED_LEN_BYTE_ARRAY → n ≡ c.type_length
  pub decimal : c.kind ≡ DECIMAL → ByteForm c → (1 ≤ n) × (n ≤ 256)

-- bytes are read as a value exactly where something holds, and refused with 16 at a place exactly where it does not
pub record Held (edition : ℕ) (c : ColumnType) (bs : List ℕ) (P : Type 0) (v : Value) (place : ℕ) : Type 0 where
  pub reads : (outcome edition c bs ≡ given v) ↔ P
  pub breaks : (outcome edition c bs ≡ refused (refusal BREAKS_ANNOTATION place)) ↔ (P → ⊥)

-- "INT stays within its width": from -2^(n-1) to 2^(n-1) - 1
pub record InWidth (n : ℕ) (z : ℤ) : Type 0 where
  pub least : neg_ℤ (pos (2 ^ (n - 1))) ≤ℤ z
  pub greatest : z <ℤ pos (2 ^ (n - 1))

-- "TIME: 0 to one day less one tick", in the unit of that number: thousandths of a second 1, of a thousandth 2, of that 3
pub record InDay (unit : ℕ) (z : ℤ) : Type 0 where
  pub least : pos 0 ≤ℤ z
  pub greatest : z <ℤ pos (86400 * 1000 ^ unit)
