-- What a C caller may rely on of calls on single values, beyond each call's contract.
use Rattle.std.specs.Prelude.{ℕ, ◌<◌, ◌*◌, ◌≡◌, false, List}
use Rattle.std.specs.Float.{Format}
use Rattle.std.specs.Float.Ieee.{top, of_bits, nan_bits}
use Rattle.refusal.specs.Faults as sided
use Rattle.refusal.specs.Faults.{Sided}
use Rattle.std.specs.Prelude.{Option}
use Rattle.std.specs.declared.cmp.Ordering.{Ordering}
use Rattle.column_type.specs.declared.types.ColumnType.{ColumnType}
use Rattle.column_order.specs.Outcome.{outcome}
use Rattle.c_answer.specs.Packing.{PacksResult, PacksFault, PacksEffect}
use Rattle.c_values.specs.Values.{float_bits, reading, relation_number, order_answer}

-- the answer of ordering has the relation's number, or the refusal with its side
abbrev pub PacksOrder : Sided (Option Ordering) → Type 0
PacksOrder (sided.given r) = PacksResult (order_answer (sided.given r)) (relation_number r)
PacksOrder (sided.refused f) = PacksFault (order_answer (sided.refused f)) f.side f.refusal

pub record Promises (edition : ℕ) : Type 0 where
  -- every answer can be taken apart again
  pub read_packs : (c : ColumnType) (bytes : List ℕ) (lent : ℕ) → PacksEffect (reading edition c bytes lent)
  pub order_packs : (c : ColumnType) (a b : List ℕ) → PacksOrder (outcome edition c a b)
  -- a FLOAT or DOUBLE is written as the bits that it was read of, unless they are a NaN's
  pub float_own : (f : Format) (bits : ℕ) → bits < 2 * top f → nan_bits f bits ≡ false → float_bits f (of_bits f bits) ≡ bits
