-- Demand 2. "Annotations, old and new, resolve and are written back by the Parquet logical type rules. Value checks, column order and timestamps, decoded and
-- encoded, follow those rules too. Two valid decimals of one column compare as the signed numbers their bytes stand for, and are equal exactly when those
-- numbers are."
use Rattle.std.specs.Prelude.{ℕ, ◌+◌, ◌<◌, ◌≤◌, ◌^◌, ◌≡◌, Bool, true, false, ◌||◌, ◌⊎◌, ◌↔◌, List, [], eqb, ℤ, pos, nat_abs, length, get_or, take, drop}
use Rattle.std.proofs.Math.Option.{Option, none, some}
use Rattle.std.specs.Float.{binary32, binary64}
use Rattle.std.specs.Float.Ieee.{of_bits}
use Rattle.laws.specs.Bytes.{little}
use Rattle.parquet.specs.Physical.{BOOLEAN, INT96, FLOAT, DOUBLE}
use Rattle.parquet.specs.Converted as converted
use Rattle.parquet.specs.Logical as logical
use Rattle.parquet.specs.Logical.{is_geospatial}
use Rattle.logical_type.specs.Forward.{forward_of, image_of}
use Rattle.logical_type.specs.Backward.{backward_of}
use Rattle.logical_type.specs.declared.types.LogicalType.{LogicalType}
use Rattle.logical_type.specs.declared.types.Annotation.{Annotation}
use Rattle.logical_type.proofs.ConversionLaws.{adjusted}
use Rattle.refusal.specs.Faults as sided
use Rattle.refusal.specs.Faults.{fault}
use Rattle.refusal.specs.Outcome.{Outcome, given, refused, refusal, no_refusal}
use Rattle.sheet.specs.Slot.{slot_at, slots}
use Rattle.tree.specs.Tree.{Tree, size}
use Rattle.tree.specs.Rules.{judged_kinds}
use Rattle.tree.specs.Judgement.{judgement}
use Rattle.tree.specs.declared.standing.Standing.TheVariants.{Root}
use Rattle.std.specs.Prelude.{Ok}
use Rattle.schema.specs.Rows.{rows, kinds_in, number_in, KEY_VALUE_LAYER}
use Rattle.schema.specs.Outcome.{outcome, written}
use Rattle.schema.specs.Rewriting.{rewritten, rewrite_outcome, rewrite_written}
use Rattle.schema.specs.Demand.{IsTreeOf, Sound, EnoughOutput, Accepted, EnoughRoom, AcceptedRewriting, Copied, kind_in, ResolvesTo, Bare, WrittenBack}
use Rattle.schema.specs.Roles.{ascent, is_under_map}
use Rattle.edition.specs.Editions.{is_known}
use Rattle.column_type.specs.Lawful.{is_lawful}
use Rattle.column_type.specs.Leaf.{HasLeaf}
use Rattle.column_type.specs.declared.types.ColumnType.{ColumnType}
use Rattle.column.specs.Numbers as number
use Rattle.column.specs.Annotations.{is_text}
use Rattle.column.specs.Outcome as read
use Rattle.column.specs.Promises.{Whole, ByteForm, RightLength, Held, InWidth, InDay}
use Rattle.column.specs.declared.value.Value.TheVariants.{Truth, Signed, Unsigned, Float, Double, Bytes}
use Rattle.column_order.specs.Keys.{number_of}
use Rattle.column_order.specs.Order.{has_order, order_of}
use Rattle.column_order.specs.Outcome as order
use Rattle.column_order.specs.Promises.{AsNumbers, AsBytes, bits_below, FLOAT_SIGN, FLOAT_INFINITY, DOUBLE_SIGN, DOUBLE_INFINITY, IsNan}
use Rattle.column_order.specs.Comparison.{Valid, NotANumber, turned, at_most}
use Rattle.std.specs.Prelude.{Some, None}
use Rattle.std.specs.declared.option.Option as answer
use Rattle.std.specs.declared.cmp.Ordering as comparison
use Rattle.std.specs.declared.cmp.Ordering.TheVariants.{Equal}
use Rattle.decimal_bytes.specs.Precision.{is_length}
use Rattle.decimal_bytes.specs.Number.{number}
use Rattle.decimal_bytes.specs.Fit.{fit_of}
use Rattle.utf8.specs.Text.{Text}
use Rattle.utf8.specs.Valid.{valid_up_to}
use Rattle.logical_type.specs.declared.types.TimeUnit.{TimeUnit}
use Rattle.timestamp.specs.Units.{ticks_per_second_of}
use Rattle.timestamp.specs.Count.{is_date_time, count_of}
use Rattle.timestamp.specs.Outcomes.{Decodes, is_signed64, encoding}
use Rattle.timestamp.specs.declared.fields.Fields.{Fields}

-- "Annotations, old and new, resolve": forward and backward, and the kind in a row
pub record Resolving (edition : ℕ) : Type 1 where
  -- the forward image of a logical type, read backward, is the type again, UTC true where it has the flag
  pub backward_forward : (l : LogicalType) (under_map_of : Bool) → (forward_of l ≡ converted.NONE → ⊥) → backward_of (forward_of l) under_map_of ≡ Annotation.Logical (adjusted l)
  -- every converted type but MAP_KEY_VALUE and INTERVAL is the forward image of what it means alone
  pub forward_backward : (code : ℕ) (under_map_of : Bool) → code < converted.INTERVAL → (code ≡ converted.MAP_KEY_VALUE → ⊥) → image_of (backward_of code under_map_of) ≡ code
  -- "MAP_KEY_VALUE is never a forward image"
  pub never_map_key_value : (l : LogicalType) → forward_of l ≡ converted.MAP_KEY_VALUE → ⊥
  -- MAP_KEY_VALUE "alone on a child of a resolved MAP .. counts as no annotation; alone elsewhere it means MAP"
  pub map_key_value_lem : (backward_of converted.MAP_KEY_VALUE true ≡ Annotation.Plain) × (backward_of converted.MAP_KEY_VALUE false ≡ Annotation.Logical LogicalType.Map)
  -- what the slot of each node of a sheet's tree says, as its row has it: the logical type that stands, or what the converted type means alone
  pub resolves : (sheet : List ℕ) (t : Tree) → IsTreeOf edition sheet t → (k : ℕ) → k < size t → ResolvesTo (is_under_map (ascent t k)) (get_or (slots sheet) k []) (kind_in (rows t) k)
  -- the kind in a node's row is the kind that the rules took the node for
  pub rows_kinds : (t : Tree) → kinds_in (rows t) (size t) ≡ judged_kinds Root t

-- ".. and are written back": what rewriting promises
pub record Rewriting (edition : ℕ) : Type 1 where
  -- "rewriting accepts the same sheets where its own output is enough"
  pub accepts : (sheet : List ℕ) (lent start places : ℕ) → EnoughRoom sheet lent start → EnoughOutput sheet places → AcceptedRewriting (rewrite_outcome edition sheet lent start) ↔ Accepted (outcome edition sheet places)
  -- "It resolves to the same rows"
  pub lawful : (sheet : List ℕ) → judgement edition sheet ≡ no_refusal → judgement edition (rewritten sheet) ≡ no_refusal
  pub same_outcome : (sheet : List ℕ) → judgement edition sheet ≡ no_refusal → (lent : ℕ) → outcome edition (rewritten sheet) lent ≡ outcome edition sheet lent
  pub same_rows : (sheet : List ℕ) → judgement edition sheet ≡ no_refusal → (lent : List ℕ) → written (outcome edition (rewritten sheet) (length lent)) (rewritten sheet) lent ≡ written (outcome edition sheet (length lent)) sheet lent
  -- "and rewriting it again changes no byte"
  pub again : (sheet : List ℕ) → judgement edition sheet ≡ no_refusal → rewritten (rewritten sheet) ≡ rewritten sheet
  -- "every resolved logical annotation with its parameters and its forward image; INTERVAL keeps converted alone", of each node of the tree of a sound sheet,
  -- by the kind in its row
  pub written_back : (sheet : List ℕ) (t : Tree) → Sound edition sheet → IsTreeOf edition sheet t → (k : ℕ) → k < size t → WrittenBack (kind_in (rows t) k) (slot_at (rewritten sheet) k)
  -- "a key_value layer has none"
  pub key_value_layer : (sheet : List ℕ) (t : Tree) → Sound edition sheet → IsTreeOf edition sheet t → (k : ℕ) → k < size t → number_in (rows t) k 8 ≡ KEY_VALUE_LAYER → Bare (slot_at (rewritten sheet) k)
  -- "All else but the checks is copied"
  pub copied : (sheet : List ℕ) (k : ℕ) → Copied (slot_at (rewritten sheet) k) (slot_at sheet k)
  -- "It is written into a stretch of the lent output that may begin anywhere"
  pub stretch : (sheet lent : List ℕ) (start : ℕ) → judgement edition sheet ≡ no_refusal → EnoughRoom sheet (length lent) start → take (length sheet) (drop start (rewrite_written (rewrite_outcome edition sheet (length lent) start) sheet lent start)) ≡ rewritten sheet
  -- "bytes before and after stay"
  pub before : (sheet lent : List ℕ) (start : ℕ) → judgement edition sheet ≡ no_refusal → EnoughRoom sheet (length lent) start → take start (rewrite_written (rewrite_outcome edition sheet (length lent) start) sheet lent start) ≡ take start lent
  pub after : (sheet lent : List ℕ) (start : ℕ) → judgement edition sheet ≡ no_refusal → EnoughRoom sheet (length lent) start → drop (start + length sheet) (rewrite_written (rewrite_outcome edition sheet (length lent) start) sheet lent start) ≡ drop (start + length sheet) lent

-- "Value checks .. follow those rules too": each sentence of "Single values", of what `column::read` gives (`read.outcome`) in a lawful column
pub record Values (edition : ℕ) : Type 1 where
  -- 20: "no accepted sheet has a leaf of this column type", and given for no other; where there is no such edition, 21 comes before it
  pub lawful_exactly : (c : ColumnType) → (is_lawful edition c ≡ true) ↔ HasLeaf edition c
  pub unlawful_exactly : (c : ColumnType) → (is_lawful edition c ≡ false) ↔ (HasLeaf edition c → ⊥)
  pub refused_unlawful : (c : ColumnType) (bs : List ℕ) → (read.outcome edition c bs ≡ refused (refusal 20 0)) ↔ ((is_known edition ≡ true) × (HasLeaf edition c → ⊥))
  -- 15: "value of wrong length, or over 65,536 bytes"
  pub wrong_length_lem : (c : ColumnType) (bs : List ℕ) → is_lawful edition c ≡ true → (read.outcome edition c bs ≡ refused (refusal 15 0)) ↔ (RightLength c (length bs) → ⊥)
  -- "BOOLEAN one byte, 0 or 1 (else 16)"
  pub boolean : (c : ColumnType) (bs : List ℕ) → is_lawful edition c ≡ true → RightLength c (length bs) → c.physical ≡ BOOLEAN → (c.kind ≡ logical.UNKNOWN → ⊥) → Held edition c bs (little bs ≤ 1) (Truth (eqb (little bs) 1)) 0
  -- "INT(n, false) reads its bytes unsigned; INT stays within its width": n is p1, and p2 is 0
  pub unsigned : (c : ColumnType) (bs : List ℕ) → is_lawful edition c ≡ true → RightLength c (length bs) → c.kind ≡ logical.INTEGER → c.p2 ≡ 0 → Held edition c bs (little bs < 2 ^ c.p1) (Unsigned (little bs)) 0
  pub signed : (c : ColumnType) (bs : List ℕ) → is_lawful edition c ≡ true → RightLength c (length bs) → c.kind ≡ logical.INTEGER → c.p2 ≡ 1 → Held edition c bs (InWidth c.p1 (number.signed bs)) (Signed (number.signed bs)) 0
  -- "TIME: 0 to one day less one tick"
  pub time : (c : ColumnType) (bs : List ℕ) → is_lawful edition c ≡ true → RightLength c (length bs) → c.kind ≡ logical.TIME → Held edition c bs (InDay c.p1 (number.signed bs)) (Signed (number.signed bs)) 0
  -- "DECIMAL: |unscaled| < 10^precision; byte forms are big-endian two's complement"
  pub decimal : (c : ColumnType) (bs : List ℕ) → is_lawful edition c ≡ true → RightLength c (length bs) → c.kind ≡ logical.DECIMAL → Whole c → Held edition c bs (nat_abs (number.signed bs) < 10 ^ c.p1) (Signed (number.signed bs)) 0
  pub decimal_bytes : (c : ColumnType) (bs : List ℕ) → is_lawful edition c ≡ true → RightLength c (length bs) → c.kind ≡ logical.DECIMAL → ByteForm c → Held edition c bs (nat_abs (number bs) < 10 ^ c.p1) (Bytes 0 (length bs)) 0
  -- "STRING, ENUM, JSON: UTF-8 (RFC 3629)": a run of the grammar's sequences; its 16 stands where they stop (document 02, R-6)
  pub text : (c : ColumnType) (bs : List ℕ) → is_lawful edition c ≡ true → RightLength c (length bs) → is_text c.kind ≡ true → Held edition c bs (Text bs) (Bytes 0 (length bs)) (valid_up_to bs)
  -- of `utf8::valid_up_to`: it stops at the end exactly of such a run; and of `decimal::fits_precision`, of byte forms of any length
  pub text_exactly : (s : List ℕ) → (valid_up_to s ≡ length s) ↔ Text s
  pub fits_exactly : (bs : List ℕ) (precision : ℕ) → is_length (length bs) ≡ true → (fit_of bs precision ≡ Ok true) ↔ (nat_abs (number bs) < 10 ^ precision)
  -- "UNKNOWN: no value, so 16"
  pub unknown : (c : ColumnType) (bs : List ℕ) → is_lawful edition c ≡ true → RightLength c (length bs) → c.kind ≡ logical.UNKNOWN → read.outcome edition c bs ≡ refused (refusal 16 0)
  -- "Others: any"; "a whole number, a FLOAT, a DOUBLE or, for INT96 and all byte forms, a stretch of bytes (start and length)"
  pub any_whole : (c : ColumnType) (bs : List ℕ) → is_lawful edition c ≡ true → RightLength c (length bs) → Whole c → (c.kind ≡ logical.UNKNOWN → ⊥) → (c.kind ≡ logical.INTEGER → ⊥) → (c.kind ≡ logical.TIME → ⊥) → (c.kind ≡ logical.DECIMAL → ⊥) → read.outcome edition c bs ≡ given (Signed (number.signed bs))
  pub any_float : (c : ColumnType) (bs : List ℕ) → is_lawful edition c ≡ true → RightLength c (length bs) → c.physical ≡ FLOAT → (c.kind ≡ logical.UNKNOWN → ⊥) → read.outcome edition c bs ≡ given (Float (of_bits binary32 (little bs)))
  pub any_double : (c : ColumnType) (bs : List ℕ) → is_lawful edition c ≡ true → RightLength c (length bs) → c.physical ≡ DOUBLE → (c.kind ≡ logical.UNKNOWN → ⊥) → read.outcome edition c bs ≡ given (Double (of_bits binary64 (little bs)))
  pub any_int96 : (c : ColumnType) (bs : List ℕ) → is_lawful edition c ≡ true → RightLength c (length bs) → c.physical ≡ INT96 → (c.kind ≡ logical.UNKNOWN → ⊥) → read.outcome edition c bs ≡ given (Bytes 0 (length bs))
  pub any_bytes : (c : ColumnType) (bs : List ℕ) → is_lawful edition c ≡ true → RightLength c (length bs) → ByteForm c → (c.kind ≡ logical.UNKNOWN → ⊥) → (c.kind ≡ logical.DECIMAL → ⊥) → is_text c.kind ≡ false → read.outcome edition c bs ≡ given (Bytes 0 (length bs))

-- ".. column order ..": of two valid values of a column that has an order
pub record Ordering (edition : ℕ) : Type 1 where
  -- what `column_order::order` gives (`order.outcome`) is the relation that is spoken of here
  pub given_exactly : (c : ColumnType) (a b : List ℕ) (r : answer.Option comparison.Ordering) → (order.outcome edition c a b ≡ sided.given r) ↔ (order_of edition c a b ≡ Ok r)
  -- "INTERVAL and INT96 have none": 17 for these, for GEOMETRY and GEOGRAPHY (document 02, R-11), and for no others
  pub no_order : (c : ColumnType) (a b : List ℕ) → (order.outcome edition c a b ≡ sided.refused (fault 0 (refusal 17 0))) ↔ ((is_lawful edition c ≡ true) × ((c.physical ≡ INT96) ⊎ ((c.kind ≡ converted.INTERVAL) ⊎ (is_geospatial c.kind ≡ true))))
  pub has_order_lem : (c : ColumnType) → (has_order c ≡ false) ↔ ((c.physical ≡ INT96) ⊎ ((c.kind ≡ converted.INTERVAL) ⊎ (is_geospatial c.kind ≡ true)))
  -- "signed for numbers, dates, times, decimals", of whole numbers but INT(n, false)
  pub signed : (c : ColumnType) → has_order c ≡ true → (a b : List ℕ) → Valid edition c a → Valid edition c b → Whole c → ((c.kind ≡ logical.INTEGER) × (c.p2 ≡ 0) → ⊥) → AsNumbers edition c a b (number.signed a) (number.signed b)
  -- "unsigned for INT(n, false) and BOOLEAN"
  pub unsigned : (c : ColumnType) → has_order c ≡ true → (a b : List ℕ) → Valid edition c a → Valid edition c b → Whole c → c.kind ≡ logical.INTEGER → c.p2 ≡ 0 → AsNumbers edition c a b (pos (little a)) (pos (little b))
  pub boolean : (c : ColumnType) → has_order c ≡ true → (a b : List ℕ) → Valid edition c a → Valid edition c b → c.physical ≡ BOOLEAN → AsNumbers edition c a b (pos (little a)) (pos (little b))
  -- "Two valid decimals of one column compare as the signed numbers their bytes stand for, and are equal exactly when those numbers are": in byte forms,
  -- whatever their lengths; as whole numbers they are signed, above
  pub decimal_bytes : (c : ColumnType) → has_order c ≡ true → (a b : List ℕ) → Valid edition c a → Valid edition c b → ByteForm c → c.kind ≡ logical.DECIMAL → AsNumbers edition c a b (number a) (number b)
  -- and so over all four physical types at once
  pub decimals : (c : ColumnType) (a b : List ℕ) → Valid edition c a → Valid edition c b → c.kind ≡ logical.DECIMAL → AsNumbers edition c a b (number_of c a) (number_of c b)
  -- "unsigned byte-wise for other bytes, a proper prefix being less"
  pub bytes : (c : ColumnType) → has_order c ≡ true → (a b : List ℕ) → Valid edition c a → Valid edition c b → ByteForm c → (c.kind ≡ logical.DECIMAL → ⊥) → AsBytes edition c a b
  -- "FLOAT, DOUBLE numeric, stated over their bits": zeros are equal, since both stand for 0
  pub float : (c : ColumnType) → has_order c ≡ true → (a b : List ℕ) → Valid edition c a → Valid edition c b → c.physical ≡ FLOAT → (IsNan FLOAT_SIGN FLOAT_INFINITY (little a) → ⊥) → (IsNan FLOAT_SIGN FLOAT_INFINITY (little b) → ⊥) → AsNumbers edition c a b (bits_below FLOAT_SIGN (little a)) (bits_below FLOAT_SIGN (little b))
  pub double : (c : ColumnType) → has_order c ≡ true → (a b : List ℕ) → Valid edition c a → Valid edition c b → c.physical ≡ DOUBLE → (IsNan DOUBLE_SIGN DOUBLE_INFINITY (little a) → ⊥) → (IsNan DOUBLE_SIGN DOUBLE_INFINITY (little b) → ⊥) → AsNumbers edition c a b (bits_below DOUBLE_SIGN (little a)) (bits_below DOUBLE_SIGN (little b))
  -- "NaN is answered as unordered", and nothing else is
  pub float_unordered : (c : ColumnType) → has_order c ≡ true → (a b : List ℕ) → Valid edition c a → Valid edition c b → c.physical ≡ FLOAT → (order_of edition c a b ≡ Ok None) ↔ (IsNan FLOAT_SIGN FLOAT_INFINITY (little a) ⊎ IsNan FLOAT_SIGN FLOAT_INFINITY (little b))
  pub double_unordered : (c : ColumnType) → has_order c ≡ true → (a b : List ℕ) → Valid edition c a → Valid edition c b → c.physical ≡ DOUBLE → (order_of edition c a b ≡ Ok None) ↔ (IsNan DOUBLE_SIGN DOUBLE_INFINITY (little a) ⊎ IsNan DOUBLE_SIGN DOUBLE_INFINITY (little b))
  -- the order of every column that has one: the other way round for values exchanged, transitive, antisymmetric up to equal, total but for NaNs
  pub order_turned : (c : ColumnType) → has_order c ≡ true → (a b : List ℕ) → Valid edition c a → Valid edition c b → order_of edition c b a ≡ turned (order_of edition c a b)
  pub order_trans : (c : ColumnType) → has_order c ≡ true → (a b d : List ℕ) → Valid edition c a → Valid edition c b → Valid edition c d → at_most (order_of edition c a b) ≡ true → at_most (order_of edition c b d) ≡ true → at_most (order_of edition c a d) ≡ true
  pub order_antisym : (c : ColumnType) → has_order c ≡ true → (a b : List ℕ) → Valid edition c a → Valid edition c b → at_most (order_of edition c a b) ≡ true → at_most (order_of edition c b a) ≡ true → order_of edition c a b ≡ Ok (Some Equal)
  pub order_total : (c : ColumnType) → has_order c ≡ true → (a b : List ℕ) → Valid edition c a → Valid edition c b → (NotANumber c a → ⊥) → (NotANumber c b → ⊥) → (at_most (order_of edition c a b) || at_most (order_of edition c b a)) ≡ true

-- ".. and timestamps, decoded and encoded"
pub record Timestamps : Type 1 where
  -- "Every count decodes", and to one set of fields
  pub decodes : (unit : TimeUnit) (count : ℤ) → (f : Fields) × Decodes (some unit) count (given f)
  pub decodes_one : (unit : TimeUnit) (count : ℤ) (f g : Fields) → Decodes (some unit) count (given f) → Decodes (some unit) count (given g) → f ≡ g
  -- "Both check the unit first (20); encoding then 18, then 19": each is given exactly where it holds and none before it does
  pub unknown_unit_lem : (u : Option TimeUnit) (f : Fields) → (encoding u f ≡ refused (refusal 20 0)) ↔ (u ≡ none)
  pub no_date_time_lem : (unit : TimeUnit) (f : Fields) → (encoding (some unit) f ≡ refused (refusal 18 0)) ↔ (is_date_time (ticks_per_second_of unit) f ≡ false)
  pub not_representable_lem : (unit : TimeUnit) (f : Fields) → (encoding (some unit) f ≡ refused (refusal 19 0)) ↔ ((is_date_time (ticks_per_second_of unit) f ≡ true) × (is_signed64 (count_of (ticks_per_second_of unit) f) ≡ false))
  -- every count's fields encode to it
  pub decoded_encodes : (unit : TimeUnit) (count : ℤ) (o : Outcome Fields) → is_signed64 count ≡ true → Decodes (some unit) count o → (f : Fields) × (o ≡ given f) × (encoding (some unit) f ≡ given count)
  -- "each encodable field set decodes back"
  pub encoded_decodes : (u : Option TimeUnit) (f : Fields) (count : ℤ) (o : Outcome Fields) → encoding u f ≡ given count → Decodes u count o → o ≡ given f

pub record Demand2 (edition : ℕ) : Type 1 where
  pub resolving : Resolving edition
  pub rewriting : Rewriting edition
  pub values : Values edition
  pub ordering : Ordering edition
  pub timestamps : Timestamps
