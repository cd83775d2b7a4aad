-- The order of two read values, case by case, as whole numbers, floats and bytes compare, which the contracts of private functions cite. Nothing here is
-- a promise to a caller: that it is the order of the keys of their bytes is proved.
use Rattle.std.specs.Prelude.{ℕ, ◌+◌, Bool, cond, List, ℤ, pos, take, drop, ◌≡◌, Option, Some, None}
use Rattle.std.specs.Float.Ieee as Ieee
use Rattle.column_type.specs.declared.types.ColumnType.{ColumnType}
use Rattle.column.specs.Reading.{read_of}
use Rattle.std.specs.Prelude.{Result}
use Rattle.refusal.specs.declared.answers.Refusal.{Refusal}
use Rattle.column.specs.declared.value.Value.{Value}
use Rattle.column.specs.declared.value.Value.TheVariants.{Truth, Signed, Unsigned, Float, Double, Bytes}
use Rattle.float_order.specs.Floats.{float_order}
use Rattle.float_order.specs.Keys.{whole_order}
use Rattle.std.specs.declared.cmp.Ordering.{Ordering}
use Rattle.column_order.specs.Keys.{byte_order}

-- a truth value as its byte has it
abbrev pub flag : Bool → ℕ
flag p = cond p 1 0

-- a value of each case against any value; values of two cases are unordered
abbrev pub truth_order : Bool → Value → Option Ordering
truth_order p (Truth q) = Some (whole_order (pos (flag p)) (pos (flag q)))
truth_order p (Signed y) = None
truth_order p (Unsigned n) = None
truth_order p (Float y) = None
truth_order p (Double y) = None
truth_order p (Bytes s n) = None

abbrev pub signed_order : ℤ → Value → Option Ordering
signed_order x (Truth q) = None
signed_order x (Signed y) = Some (whole_order x y)
signed_order x (Unsigned n) = None
signed_order x (Float y) = None
signed_order x (Double y) = None
signed_order x (Bytes s n) = None

abbrev pub unsigned_order : ℕ → Value → Option Ordering
unsigned_order m (Truth q) = None
unsigned_order m (Signed y) = None
unsigned_order m (Unsigned n) = Some (whole_order (pos m) (pos n))
unsigned_order m (Float y) = None
unsigned_order m (Double y) = None
unsigned_order m (Bytes s n) = None

abbrev pub single_order : Ieee.Float → Value → Option Ordering
single_order x (Truth q) = None
single_order x (Signed y) = None
single_order x (Unsigned n) = None
single_order x (Float y) = float_order x y
single_order x (Double y) = None
single_order x (Bytes s n) = None

abbrev pub double_order : Ieee.Float → Value → Option Ordering
double_order x (Truth q) = None
double_order x (Signed y) = None
double_order x (Unsigned n) = None
double_order x (Float y) = None
double_order x (Double y) = float_order x y
double_order x (Bytes s n) = None

-- the bytes of a stretch, and where it ends among the bytes that were read; any other value has none, and ends at 0
abbrev pub stretch : ℕ → ℕ → List ℕ → List ℕ
stretch start len bs = take len (drop start bs)

abbrev pub stretch_end : Value → ℕ
stretch_end (Truth q) = 0
stretch_end (Signed y) = 0
stretch_end (Unsigned n) = 0
stretch_end (Float y) = 0
stretch_end (Double y) = 0
stretch_end (Bytes s n) = s + n

-- a stretch of the bytes `a` against any value, whose stretch is one of the bytes `b`
abbrev pub bytes_order : List ℕ → ℕ → ℕ → Value → List ℕ → Option Ordering
bytes_order a start len (Truth q) b = None
bytes_order a start len (Signed y) b = None
bytes_order a start len (Unsigned n) b = None
bytes_order a start len (Float y) b = None
bytes_order a start len (Double y) b = None
bytes_order a start len (Bytes s n) b = Some (byte_order (stretch start len a) (stretch s n b))

-- what reading answers for two values in some edition
pub record BothRead (c : ColumnType) (first second : Result Value Refusal) (a b : List ℕ) : Type 0 where
  pub edition : ℕ
  pub first_is : first ≡ read_of edition c a
  pub second_is : second ≡ read_of edition c b
