-- Demand 1. "Any bytes may be offered to any public entry, with no condition on the caller. Each call ends with the result or one numbered refusal, chosen in the
-- order document 01 states. A refusal changes no lent buffer."
--
-- "Any bytes may be offered to any public entry, with no condition on the caller": no public function has a `requires`, and `proofs/Entries` cites each entry's
-- contract for any arguments. The contract gives the answer, and what lent memory holds at the end, as the outcome that is named here: what was asked for, or
-- a refusal (`refusal/specs/Outcome`).
use Rattle.std.specs.Prelude.{ℕ, ◌*◌, ◌≡◌, Bool, ◌&&◌, List, [], ◌∷◌, ltb, Float, ℤ, length, Err}
use Rattle.std.proofs.Math.Option.{Option}
use Rattle.refusal.specs.Outcome.{Outcome, refused, judged, counted}
use Rattle.std.specs.Prelude.{Ok}
use Rattle.refusal.specs.declared.answers.Fault.{Fault}
use Rattle.refusal.specs.declared.answers.Refusal.{Refusal}
use Rattle.sheet.specs.Block.{total_of}
use Rattle.sheet.specs.Opening.{open_of}
use Rattle.annotation.specs.Kinds.{kind_of}
use Rattle.annotation.specs.Rewriting.{written_of}
use Rattle.annotation.specs.Rewriting as annotation_rewriting
use Rattle.annotation.specs.Outcome as annotation
use Rattle.annotation.specs.declared.slot.Annotated.{Annotated}
use Rattle.tree.specs.Judgement.{judgement_of}
use Rattle.schema.specs.Outcome as schema
use Rattle.schema.specs.Outcome.{written}
use Rattle.schema.specs.Rewriting.{rewrite_outcome, rewrite_written}
use Rattle.differences.specs.Outcome as differences
use Rattle.differences.specs.Outcome.{list_for, compare_outcome, compare_written}
use Rattle.column_type.specs.Lawful.{judgement_of as typeJudgement}
use Rattle.column_type.specs.declared.types.ColumnType.{ColumnType}
use Rattle.column.specs.Outcome as column
use Rattle.column.specs.Reading.{value_of}
use Rattle.column_order.specs.Outcome as column_order
use Rattle.column_order.specs.Keys.{key_of, key_order}
use Rattle.timestamp.specs.Units.{unit_of}
use Rattle.timestamp.specs.Count.{count_of}
use Rattle.timestamp.specs.Outcomes as timestamp
use Rattle.timestamp.specs.Outcomes.{Decodes}
use Rattle.timestamp.specs.declared.fields.Fields.{Fields}
use Rattle.int96.specs.Value as int96
use Rattle.int96.specs.Outcomes as conversion
use Rattle.boxes.specs.Points.{Boxed, Answers}
use Rattle.boxes.specs.Membership.{inside_x, inside_y, membership}
use Rattle.boxes.specs.declared.bounding_box.BoundingBox.{BoundingBox}
use Rattle.schema_text.specs.Rows.{rows_text, rows_text_of, refusal_line, answer_text}
use Rattle.schema_text.specs.Making.{made, made_in}
use Rattle.c_answer.specs.Answers.{within, left}
use Rattle.c_values.specs.Values as c_values
use Rattle.c_values.specs.Values.{case_of, numbers_of}
use Rattle.c_timestamps.specs.Timestamps.{field_numbers, fields_of, decode_effect, Decoding}
use Rattle.c_timestamps.specs.Timestamps as c_timestamps
use Rattle.c_timestamps.specs.Int96.{from_int96}
use Rattle.c_boxes.specs.Boxes.{box_effect, Boxing}
use Rattle.griffeljol.specs.Promises.{Promises}
use Rattle.demands.specs.Refusals.{unsided, first, opening_grounds, judging_grounds, resolving_grounds, rewriting_grounds, comparing_grounds, slot_grounds, type_grounds, reading_grounds, ordering_grounds, unknown_unit, ticks, encoding_grounds, int96_grounds, box_grounds, box_verdict, box_numbers, test_grounds, rows_text_grounds, short_for, c_reading_grounds, c_decoding_grounds, c_encoding_grounds, c_from_int96_grounds, c_box_grounds}

-- "Each call ends with the result or one numbered refusal, chosen in the order document 01 states", in any edition: 21 before all others
pub record Chosen (edition : ℕ) : Type 1 where
  -- `sheet::open`, and `sheet_reader::open`, which keeps what it answers
  pub opening : (sheet : List ℕ) → counted (open_of edition sheet) ≡ first (opening_grounds edition sheet) (total_of sheet)
  -- `tree::judge`
  pub judging : (sheet : List ℕ) → counted (judgement_of edition sheet) ≡ first (judging_grounds edition sheet) (total_of sheet)
  -- `schema::resolve`, and in C, which answers the same outcome as one number
  pub resolving : (sheet : List ℕ) (lent : ℕ) → counted (schema.outcome edition sheet lent) ≡ first (resolving_grounds edition sheet lent) (total_of sheet)
  -- `schema::rewrite`, and in C
  pub rewriting : (sheet : List ℕ) (lent start : ℕ) → counted (rewrite_outcome edition sheet lent start) ≡ first (rewriting_grounds edition sheet lent start) (length sheet)
  -- `differences::compare`, and in C: how many entries the list has
  pub comparing : (one two : List ℕ) (lent : ℕ) → unsided (differences.outcome_of (compare_outcome edition one two lent)) ≡ first (comparing_grounds edition one two lent) (length (list_for one two))
  -- `annotation::resolve` and `annotation::rewrite`, of a slot that is node k's
  pub slot_resolving : (k : ℕ) (n : Annotated) (under : Bool) → annotation.outcome edition k n under ≡ first (slot_grounds edition k n under) (kind_of n under)
  pub slot_rewriting : (k : ℕ) (n : Annotated) (under : Bool) → annotation_rewriting.outcome edition k n under ≡ first (slot_grounds edition k n under) (written_of n under)
  -- `column_type::judge`
  pub typing : (c : ColumnType) → judged (typeJudgement edition c) ≡ first (type_grounds edition c) tt
  -- `column::read`
  pub reading : (c : ColumnType) (bs : List ℕ) → column.outcome edition c bs ≡ first (reading_grounds edition c bs) (value_of c bs)
  -- `column_order::order`, and in C: how the values' keys stand, where nothing is refused
  pub ordering : (c : ColumnType) (a b : List ℕ) → unsided (column_order.outcome edition c a b) ≡ first (ordering_grounds edition c a b) (key_order (key_of c a) (key_of c b))
  -- `timestamp::decode`, whose outcome is stated by a relation that one outcome meets
  pub decoding : (unit : ℕ) (count : ℤ) (o : Outcome Fields) → Decodes (unit_of unit) count o → (f : Fields) × (o ≡ first (unknown_unit unit ∷ []) f)
  pub decoding_one : (unit : ℕ) (count : ℤ) (o o' : Outcome Fields) → Decodes (unit_of unit) count o → Decodes (unit_of unit) count o' → o ≡ o'
  -- `timestamp::encode`
  pub encoding : (unit : ℕ) (f : Fields) → timestamp.encoding (unit_of unit) f ≡ first (encoding_grounds unit f) (count_of (ticks unit) f)
  -- `timestamp::in_day`, by which TIME is held to its day
  pub in_day_lem : (unit tick : ℕ) → timestamp.day_has (unit_of unit) tick ≡ first (unknown_unit unit ∷ []) (ltb tick (86400 * ticks unit))
  -- `int96::decode`, and `int96::encode`, in C too: twelve bytes of any count
  pub from_int96_lem : (value : List ℕ) → conversion.decoding value ≡ first (int96_grounds value) (int96.count_of value)
  pub to_int96 : (lent : ℕ) → counted (conversion.encoding lent) ≡ first (short_for 12 lent ∷ []) 12
  -- `boxes::box_of`, whose answer is stated by a relation that one answer meets, but for numbers that are equal (`Requests.Boxes`), and `boxes::contains`, in C too
  pub boxing : (kind : ℕ) (coordinates : List Float) (a : Boxed) → Answers kind coordinates a → judged (box_verdict a) ≡ first (box_grounds kind coordinates) tt
  pub testing : (kind : ℕ) (b : BoundingBox) (x y : Float) → membership kind b x y ≡ first (test_grounds kind b x y) (inside_x b x && inside_y b y)
  -- `schema_text::rows_text`, and `schema_text::answer_text` of rows and of a refusal
  pub rows_text_lem : (total : ℕ) (numbers : List ℕ) (room : ℕ) → counted (made (rows_text_of total numbers) room) ≡ first (rows_text_grounds total numbers room) (length (rows_text total numbers))
  pub answer_rows : (total : ℕ) (numbers : List ℕ) (room : ℕ) → counted (made (answer_text (Ok total) numbers) room) ≡ first (rows_text_grounds total numbers room) (length (rows_text total numbers))
  pub answer_refusal : (r : Refusal) (numbers : List ℕ) (room : ℕ) → counted (made (answer_text (Err r) numbers) room) ≡ first (short_for (length (refusal_line r)) room ∷ []) (length (refusal_line r))
  -- `griffeljol_read`, `griffeljol_decode`, `griffeljol_encode`, `griffeljol_from_int96` and `griffeljol_box`
  pub c_reading : (c : ColumnType) (bs : List ℕ) (lent : ℕ) → c_values.reading edition c bs lent ≡ first (c_reading_grounds edition c bs lent) (record { value = case_of (value_of c bs); numbers = numbers_of (value_of c bs) })
  pub c_decoding : (unit : ℕ) (count : ℤ) (lent : ℕ) (o : Outcome Fields) → Decodes (unit_of unit) count o → (f : Fields) × (o ≡ first (unknown_unit unit ∷ []) f) × (within lent (decode_effect o) ≡ first (c_decoding_grounds unit lent) (record { value = 7; numbers = field_numbers f }))
  pub c_encoding : (unit : ℕ) (numbers : List ℤ) (lent : ℕ) → c_timestamps.encoding unit numbers lent ≡ first (c_encoding_grounds unit numbers lent) (record { value = 1; numbers = count_of (ticks unit) (fields_of numbers) ∷ [] })
  pub c_from_int96 : (value : List ℕ) (lent : ℕ) → from_int96 value lent ≡ first (c_from_int96_grounds value lent) (record { value = 1; numbers = int96.count_of value ∷ [] })
  pub c_boxing : (kind : ℕ) (coordinates : List Float) (lent : ℕ) (a : Boxed) → Answers kind coordinates a → within lent (box_effect a) ≡ first (c_box_grounds kind coordinates a lent) (record { value = length (box_numbers a); numbers = box_numbers a })

-- "A refusal changes no lent buffer"
pub record Unchanged (edition : ℕ) : Type 1 where
  -- the rows of `schema::resolve`, and in C
  pub rows : (sheet lent : List ℕ) (r : Refusal) → schema.outcome edition sheet (length lent) ≡ Err r → written (schema.outcome edition sheet (length lent)) sheet lent ≡ lent
  -- the output of `schema::rewrite`, and in C
  pub output : (sheet lent : List ℕ) (start : ℕ) (r : Refusal) → rewrite_outcome edition sheet (length lent) start ≡ Err r → rewrite_written (rewrite_outcome edition sheet (length lent) start) sheet lent start ≡ lent
  -- the output of `differences::compare`, and in C
  pub differences : (one two lent : List ℕ) (f : Fault) → compare_outcome edition one two (length lent) ≡ Err f → compare_written (compare_outcome edition one two (length lent)) one two lent ≡ lent
  -- the output of `int96::encode`, and in C
  pub int96_value : (count : ℤ) (lent : List ℕ) (r : Refusal) → conversion.encoding (length lent) ≡ Err r → conversion.encoded count lent ≡ lent
  -- the buffer of a text
  pub text_buffer : (may : Option (List ℕ)) (lent : List ℕ) (r : Refusal) → made may (length lent) ≡ Err r → made_in may lent ≡ lent
  -- the outputs of `griffeljol_read`, `griffeljol_encode` and `griffeljol_from_int96`
  pub c_value : (c : ColumnType) (bs lent : List ℕ) (r : Refusal) → c_values.reading edition c bs (length lent) ≡ refused r → left (c_values.reading edition c bs (length lent)) lent ≡ lent
  pub c_count : (unit : ℕ) (numbers lent : List ℤ) (r : Refusal) → c_timestamps.encoding unit numbers (length lent) ≡ refused r → left (c_timestamps.encoding unit numbers (length lent)) lent ≡ lent
  pub c_int96_count : (value : List ℕ) (lent : List ℤ) (r : Refusal) → from_int96 value (length lent) ≡ refused r → left (from_int96 value (length lent)) lent ≡ lent
  -- the output of `griffeljol_decode`, whatever meets its contract
  pub c_fields : (unit : ℕ) (count : ℤ) (lent held : List ℤ) (answered : ℕ) (o : Outcome Fields) (r : Refusal) → Decoding unit count lent answered held → Decodes (unit_of unit) count o → within (length lent) (decode_effect o) ≡ refused r → held ≡ lent
  -- and of `griffeljol_box`, also where there is no box
  pub c_box : (kind : ℕ) (coordinates lent held : List Float) (answered : ℕ) → Boxing kind coordinates lent answered held → (answered ≡ 4 → ⊥) → held ≡ lent
  -- every C answer tells whether it is a refusal, and which
  pub c_interface : Promises

pub record Demand1 (edition : ℕ) : Type 1 where
  pub chosen : Chosen edition
  pub unchanged : Unchanged edition
