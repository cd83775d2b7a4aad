-- What it says of bytes that a value is read of them. Assumes nothing.
use mathlib.Core.Path.{◌≡◌, refl, sym, ap, ◌∙◌}
use mathlib.Core.Bool.{Bool, true, false, cond, ◌||◌}
use mathlib.Core.List.{List}
use Prim.Native.Nat.{ℕ}
use native.Mathlib.Omega.{arith}
use lib.Dec.{eqb}
use lib.ListN.{length}
use borrow.Author.Tests.{eqb-true}
use lib.IntN.{ℤ}
use Rattle.laws.specs.Bytes.{little}
use Rattle.parquet.specs.Physical.{INT32, INT64, BYTE_ARRAY, FIXED_LEN_BYTE_ARRAY}
use Rattle.parquet.specs.Logical.{UNKNOWN}
use Rattle.refusal.specs.Numbers.{WRONG_LENGTH}
use Rattle.refusal.specs.Outcome.{Outcome, refused, unplaced}
use Rattle.refusal.specs.declared.answers.Refusal.{Refusal}
use Rattle.column_type.specs.declared.types.ColumnType.{ColumnType}
use Rattle.column_type.specs.Lawful.{is_lawful, type_refusal}
use Rattle.column.specs.Numbers.{signed}
use Rattle.column.specs.Lengths.{is_byte_form, length_right}
use Rattle.column.specs.Annotations.{is_whole, whole_keeps, bytes_keep, text_place, annotation_place, keeps}
use Rattle.column.specs.Reading.{whole_value, value_of, checked, read_of, both_of, read_lawful}
use Rattle.column.specs.Outcome.{outcome_of, outcome}
use Rattle.column.specs.declared.value.Both.{Both}
use Rattle.column.specs.declared.value.Value.{Value}
use Rattle.std.specs.Prelude.{Result, Ok, Err}

-- the column type is lawful, the length right, the annotation kept, and the value the one of the bytes
pub record Reads (edition : ℕ) (c : ColumnType) (bs : List ℕ) (v : Value) : Type 0 where
  pub lawful : is_lawful edition c ≡ true
  pub right : length_right c (length bs) ≡ true
  pub kept : keeps c bs ≡ true
  pub value : v ≡ value_of c bs

-- what reading answers, by its three tests
abbrev pub tested : ℕ → ColumnType → List ℕ → Bool → Bool → Bool → Result Value Refusal
tested edition c bs l r k = cond l (cond r (checked k (annotation_place c bs) (value_of c bs)) (Err (unplaced WRONG_LENGTH))) (Err (type_refusal edition))

pub reads : (edition : ℕ) (c : ColumnType) (bs : List ℕ) (v : Value) → read_of edition c bs ≡ Ok v → Reads edition c bs v
unfolding read_of
reads edition c bs v = go (is_lawful edition c) refl (length_right c (length bs)) refl (keeps c bs) refl
  where
    go : (l : Bool) → is_lawful edition c ≡ l → (r : Bool) → length_right c (length bs) ≡ r → (k : Bool) → keeps c bs ≡ k
        → tested edition c bs l r k ≡ Ok v → Reads edition c bs v
    go true p true q true s e = record { lawful = p; right = q; kept = s; value = cc }
    go true p true q false s e = absurd (let z : ◌≡◌ {A = ℕ} 0 1 = cc in omega arith)
    go true p false q k s e = absurd (let z : ◌≡◌ {A = ℕ} 0 1 = cc in omega arith)
    go false p r q k s e = absurd (let z : ◌≡◌ {A = ℕ} 0 1 = cc in omega arith)

-- two refusals that are the same outcome are the same
pub refused_is : {A : Type 0} {q r : Refusal} → ◌≡◌ {A = Outcome A} (refused q) (refused r) → q ≡ r
refused_is e = cc

-- behind the check of the column type
pub read_lawful_lem : (edition : ℕ) (c : ColumnType) (bs : List ℕ) → is_lawful edition c ≡ true → read_lawful c bs ≡ read_of edition c bs
unfolding read_of
read_lawful_lem edition c bs e = rw e

-- and where that check refuses
pub read_unlawful : (edition : ℕ) (c : ColumnType) (bs : List ℕ) → is_lawful edition c ≡ false → Err (type_refusal edition) ≡ read_of edition c bs
unfolding read_of
read_unlawful edition c bs e = rw e

-- an answer of either, and what it stands for
module _ (edition : ℕ) (c : ColumnType) (bs : List ℕ) where
  pub refused_as : {q : Refusal} → false ≡ is_lawful edition c → q ≡ type_refusal edition → Err q ≡ read_of edition c bs
  refused_as e f = ap Err f ∙ read_unlawful edition c bs (sym e)

  pub read_as : {r : Result Value Refusal} → true ≡ is_lawful edition c → r ≡ read_lawful c bs → r ≡ read_of edition c bs
  read_as e f = f ∙ read_lawful_lem edition c bs (sym e)

  pub outcome_is : {r : Result Value Refusal} → r ≡ read_of edition c bs → outcome_of r ≡ outcome edition c bs
  unfolding outcome
  outcome_is e = ap outcome_of e

pub both_is : (edition : ℕ) (c : ColumnType) (a b : List ℕ) {r : Both} → r.first ≡ read_of edition c a → r.second ≡ read_of edition c b → r ≡ both_of edition c a b
both_is edition c a b e f = λ i. record { first = e i; second = f i }

-- a value under UNKNOWN is refused at no byte
pub unknown_place : (c : ColumnType) (bs : List ℕ) → c.kind ≡ UNKNOWN → annotation_place c bs ≡ 0
unfolding annotation_place
unknown_place c bs e = rw e (go (is_byte_form c))
  where
    go : (t : Bool) → ◌≡◌ {A = ℕ} (cond t 0 0) 0
    go true = refl
    go false = refl

-- ---- the value by its physical type

either : (s t : Bool) {A : Type 0} → (s || t) ≡ true → (s ≡ true → A) → (t ≡ true → A) → A
either true t e f g = f refl
either false t e f g = g e

module _ (c : ColumnType) (bs : List ℕ) (known : eqb c.kind UNKNOWN ≡ false) where
  -- a byte form
  pub bytes_read : is_byte_form c ≡ true
      → checked (bytes_keep c bs) (text_place c.kind bs) (Value.Bytes 0 (length bs)) ≡ checked (keeps c bs) (annotation_place c bs) (value_of c bs)
  unfolding keeps value_of annotation_place
  bytes_read e =
      either (eqb c.physical BYTE_ARRAY) (eqb c.physical FIXED_LEN_BYTE_ARRAY) e
      (λ p. rw (known, eqb-true c.physical BYTE_ARRAY p))
      (λ p. rw (known, eqb-true c.physical FIXED_LEN_BYTE_ARRAY p))

  -- a whole number, without its sign and with it
  pub whole_read : (n : ℕ) (z : ℤ) → is_whole c ≡ true → n ≡ little bs → z ≡ signed bs
      → checked (whole_keeps c n z) 0 (whole_value c n z) ≡ checked (keeps c bs) (annotation_place c bs) (value_of c bs)
  unfolding keeps value_of annotation_place
  whole_read n z e f g =
      either (eqb c.physical INT32) (eqb c.physical INT64) e
      (λ p. rw (known, eqb-true c.physical INT32 p, f, g))
      (λ p. rw (known, eqb-true c.physical INT64 p, f, g))
