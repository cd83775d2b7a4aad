-- The promises of calls on single values hold.
use Prim.Native.Nat.{ℕ}
use mathlib.Core.Path.{◌≡◌, refl}
use mathlib.Core.List.{List}
use native.Mathlib.Omega.{arith}
use Rattle.refusal.specs.Numbers.{GREATEST}
use Rattle.std.specs.Prelude.{Option, Some, None, Ok, Err}
use Rattle.std.specs.declared.cmp.Ordering.{Ordering}
use Rattle.std.specs.declared.cmp.Ordering.TheVariants.{Less, Equal, Greater}
use Rattle.column_type.specs.declared.types.ColumnType.{ColumnType}
use Rattle.column.specs.Lengths.{most_bytes}
use Rattle.column.specs.Outcome as column
use Rattle.column.specs.Reading.{read_of}
use Rattle.std.specs.Prelude.{Result}
use Rattle.refusal.specs.declared.answers.Refusal.{Refusal}
use Rattle.column.specs.declared.value.Value.{Value}
use Rattle.column.specs.declared.value.Value.TheVariants as value
use Rattle.column.proofs.PlaceLaws.{refusal_bounded}
use Rattle.column_order.specs.Outcome as column_order
use Rattle.column_order.specs.Order.{Order, order_of}
use Rattle.column_order.proofs.FaultLaws.{order_bounded}
use Rattle.c_answer.specs.Answers.{packed, RESULT}
use Rattle.c_answer.specs.Packing.{PacksResult, PacksEffect}
use Rattle.c_answer.proofs.PackingLaws.{result_packs, refusal_packs, fault_packs, short_packs}
use Rattle.c_values.specs.Promises.{PacksOrder, Promises}
use Rattle.c_values.specs.Values.{case_of, read_effect, reading, relation_number}
use Rattle.c_values.proofs.ValueLaws.{own_bits}

case_packs : (v : Value) → PacksResult (packed RESULT (case_of v)) (case_of v)
case_packs (value.Truth p) = result_packs 0 (omega arith)
case_packs (value.Signed z) = result_packs 1 (omega arith)
case_packs (value.Unsigned n) = result_packs 2 (omega arith)
case_packs (value.Float x) = result_packs 3 (omega arith)
case_packs (value.Double x) = result_packs 4 (omega arith)
case_packs (value.Bytes start len) = result_packs 5 (omega arith)

read_packs : (edition : ℕ) (c : ColumnType) (bs : List ℕ) → PacksEffect (read_effect (column.outcome edition c bs))
unfolding column.outcome
read_packs edition c bs = by_answer (read_of edition c bs) refl
  where
    by_answer : (r : Result Value Refusal) → read_of edition c bs ≡ r → PacksEffect (read_effect (column.outcome_of r))
    by_answer (Ok v) e = case_packs v
    by_answer (Err r) e = refusal_packs GREATEST most_bytes (omega arith) (omega arith) r (refusal_bounded edition c bs r e)

relation_packs : (r : Option Ordering) → PacksResult (packed RESULT (relation_number r)) (relation_number r)
relation_packs (Some Less) = result_packs 0 (omega arith)
relation_packs (Some Equal) = result_packs 1 (omega arith)
relation_packs (Some Greater) = result_packs 2 (omega arith)
relation_packs None = result_packs 3 (omega arith)

order_packs : (edition : ℕ) (c : ColumnType) (a b : List ℕ) → PacksOrder (column_order.outcome edition c a b)
unfolding column_order.outcome
order_packs edition c a b = by_answer (order_of edition c a b) refl
  where
    by_answer : (o : Order) → order_of edition c a b ≡ o → PacksOrder (column_order.outcome_of o)
    by_answer (Ok r) e = relation_packs r
    by_answer (Err f) e =
        let bounded = order_bounded edition c a b f e in
        fault_packs GREATEST most_bytes (omega arith) (omega arith) f.refusal bounded.refusal f.side (omega (arith, bounded.side))

pub promised : (edition : ℕ) → Promises edition
unfolding reading
promised edition =
    record {
      read_packs = λ c bs lent. short_packs lent (read_effect (column.outcome edition c bs)) (read_packs edition c bs);
      order_packs = order_packs edition;
      float_own = own_bits;
    }
