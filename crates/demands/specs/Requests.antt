-- What the requests of document 02 ask of the definitions.
use Rattle.std.specs.Prelude.{ℕ, ◌+◌, ◌*◌, ◌-◌, ◌/◌, ◌%◌, ◌^◌, ◌≤◌, ◌<◌, ◌≡◌, Bool, true, false, cond, ◌&&◌, List, [], ◌∷◌, ◌++◌, map, ◌⊎◌, ◌↔◌, ℤ, pos, negsuc, neg_ℤ, ◌+ℤ◌, ◌-ℤ◌, ◌*ℤ◌, Float, length, get_or, take, drop, replicate, Ok, Err}
use Rattle.std.proofs.Math.Option.{some}
use Rattle.std.specs.Float.{binary64, nan}
use Rattle.std.specs.Float.Ieee.{of_int}
use Rattle.std.proofs.Math.ListN.{get_elem?}
use Rattle.laws.specs.Bytes.{Bytes, little}
use Rattle.refusal.specs.Faults as sided
use Rattle.refusal.specs.Faults.{fault}
use Rattle.refusal.specs.Outcome.{given, refused, refusal, no_refusal}
use Rattle.edition.specs.Editions.{is_known}
use Rattle.annotation.specs.Rule9 as nine
use Rattle.annotation.specs.Rule10.{is_placed, rule10}
use Rattle.annotation.specs.Rule11.{ordered, rule11}
use Rattle.annotation.specs.Kinds.{kind_of}
use Rattle.annotation.specs.Rewriting.{written_of}
use Rattle.annotation.specs.declared.slot.Annotated.{Annotated}
use Rattle.sheet.specs.Block.{total_of}
use Rattle.sheet.specs.Opening.{open_of}
use Rattle.sheet.specs.Slot as slot
use Rattle.sheet.specs.Slot.{physical, repetition, slot_at, slots}
use Rattle.sheet.specs.Sound.{logical_listed}
use Rattle.parquet.specs.Repetition.{REPEATED}
use Rattle.parquet.specs.Converted as converted
use Rattle.parquet.specs.Logical as logical
use Rattle.parquet.specs.Logical.{is_geospatial}
use Rattle.parquet.specs.Physical.{INT96, BYTE_ARRAY}
use Rattle.timestamp.specs.Calendar.{day_number}
use Rattle.timestamp.specs.Clock.{tick_of_day}
use Rattle.timestamp.specs.Units.{unit_of}
use Rattle.timestamp.specs.Outcomes.{is_signed64, Decodes}
use Rattle.timestamp.specs.declared.fields.Fields.{Fields as DateTime}
use Rattle.int96.specs.Value.{nanos_in, day_in, count_of, ValueOf, value_of}
use Rattle.int96.specs.Outcomes.{decoding, encoding, encoded}
use Rattle.float_order.specs.Floats.{float_order}
use Rattle.std.specs.Prelude.{Some}
use Rattle.std.specs.declared.cmp.Ordering.TheVariants.{Less, Equal, Greater}
use Rattle.boxes.specs.Coordinates.{at_most, is_above, in_range}
use Rattle.boxes.specs.Points as boxes
use Rattle.boxes.specs.Points.{Boxed, Counted as CountedIn, NoneCounted, Met, Answers}
use Rattle.boxes.specs.Membership.{inside_x, inside_y, has_nan, is_box, allows_point, membership}
use Rattle.boxes.specs.Promises as boxes-promised
use Rattle.boxes.specs.declared.bounding_box.BoundingBox.{BoundingBox}
use Rattle.std.specs.Prelude.{None}
use Rattle.utf8.specs.Valid.{valid_up_to, Stops}
use Rattle.column_type.specs.Lawful.{is_lawful, judgement_of as typeJudgement}
use Rattle.column_type.specs.declared.types.ColumnType.{ColumnType}
use Rattle.column.specs.Annotations.{is_text}
use Rattle.column.specs.Outcome as read
use Rattle.column.specs.declared.value.Value.TheVariants as value
use Rattle.column_order.specs.Order.{has_order}
use Rattle.column_order.specs.Comparison.{Valid}
use Rattle.column_order.specs.Outcome as order
use Rattle.tree.specs.Annotated.{kind, rule9}
use Rattle.tree.specs.Tree.{SlotBytes, Tree, Fields, node, empty, field, listing, size, slot_of}
use Rattle.tree.specs.Rules.{is_group, is_required_or_optional, is_list, named_element, rule8, rule12, KeepsAt}
use Rattle.tree.specs.Faults.{broken}
use Rattle.tree.specs.declared.standing.Standing.{Standing}
use Rattle.tree.specs.declared.standing.Standing.TheVariants.{Field}
use Rattle.tree.specs.Judgement.{judgement, judgement_of}
use Rattle.refusal.specs.declared.answers.Refusal.{Refusal}
use Rattle.schema.specs.Levels.{is_optional_or_repeated, is_repeated_code, counted}
use Rattle.schema.specs.Rows.{is_map_parent, ELEMENT_LAYER, BARE_REPEATED, role, parent_of, rows, row_width, number_in}
use Rattle.schema.specs.Outcome.{outcome, written}
use Rattle.schema.specs.Rewriting.{rewrite_outcome, rewrite_written}
use Rattle.schema.specs.Demand.{IsTreeOf, Sound, Accepted}
use Rattle.schema.specs.declared.roles.Parent.{Parent}
use Rattle.matching.specs.Matching.{Sibling, name_of}
use Rattle.matching.specs.Nodes.{root_of, IsField, IsNode, ordinal, Matched, Unmatched}
use Rattle.differences.specs.Entry.{SlotField, slot_fields, Entry, entry, PLACES, ONLY_FIRST, ONLY_SECOND}
use Rattle.differences.specs.Differences.{content, differences}
use Rattle.differences.specs.Listed.{◌∈◌, Difference, times_listed, Rising}
use Rattle.differences.specs.Paths.{paths}
use Rattle.differences.specs.Outcome.{compare_outcome, compare_written}
use Rattle.differences.specs.Rebuilding.{rebuilt}
use Rattle.demands.specs.Sheets.{example_sheet, repeated_sheet, int96_sheet, geospatial_sheet}

-- R-1. "Comparing the two custodians' sheets" ------------------------------------------------------------------------------

-- an accepted sheet, with the tree that demand 3 gives it
pub record IsSheetOf (edition : ℕ) (sheet : List ℕ) (t : Tree) : Type 0 where
  pub sound : Sound edition sheet
  pub tree : IsTreeOf edition sheet t

-- what the output holds, once two sheets are compared
abbrev pub output : ℕ → List ℕ → List ℕ → List ℕ → List ℕ
output edition first second lent = compare_written (compare_outcome edition first second (length lent)) first second lent

-- `differences::compare` answers `compare_outcome` and leaves `output`. The first sheet's tree is t, the second's u; a node of a tree has its number, its place
-- among its siblings, and the tree that stands there (`matching/specs/Nodes`)
pub record Request1 (edition : ℕ) : Type 1 where
  -- "a list .. of each node and each slot field in which two sheets differ, with both contents": it has each difference, and nothing else
  pub listed_exactly : (t u : Tree) (e : Entry) → (e ∈ differences t u) ↔ Difference t u e
  -- "in the first sheet's node order", "the second's last, in its order", "at one node codes rise": each entry precedes all behind it, so none stands twice
  pub in_order_lem : (t u : Tree) → Rising (differences t u)
  -- nodes have the numbers of the listing, from 0, each one's slot standing there
  pub numbered : (t : Tree) (k : ℕ) → k < size t → (c : Sibling) × IsNode t c × (c.number ≡ k)
  pub one_number : (t : Tree) (c d : Sibling) → IsNode t c → IsNode t d → c.number ≡ d.number → c ≡ d
  pub node_slot : (t : Tree) (c : Sibling) → IsNode t c → get_or (listing t) c.number [] ≡ slot_of c.tree
  -- "The roots match"
  pub roots_match : (t u : Tree) → Matched t u (root_of t) (root_of u)
  -- "children of matched nodes match by name; where siblings share one, the first matches the first, and so on"
  pub fields_match : (t u : Tree) (c d a b : Sibling) → IsNode t c → IsNode u d → Matched t u c d → IsField c a → IsField d b → Matched t u a b ↔ ((name_of a.tree ≡ name_of b.tree) × (ordinal c a ≡ ordinal d b))
  -- and no others: the parents of nodes that match, match, and the children of an unmatched node are unmatched
  pub parents_match : (t u : Tree) (c d a b : Sibling) → IsNode t c → IsNode u d → IsField c a → IsField d b → Matched t u a b → Matched t u c d
  pub fields_unmatched : (t u : Tree) (c a : Sibling) → IsNode t c → IsField c a → Unmatched t u c → Unmatched t u a
  -- each node matches a node of the other tree or none, no two match one, and the matching of the trees exchanged is the same the other way round
  pub matched_or_not : (t u : Tree) (c : Sibling) → IsNode t c → ((d : Sibling) × IsNode u d × Matched t u c d) ⊎ Unmatched t u c
  pub matched_once : (t u : Tree) (a c d : Sibling) → IsNode t a → IsNode t c → Matched t u a d → Matched t u c d → a ≡ c
  pub matched_back : (t u : Tree) (c d : Sibling) → Matched t u c d → Matched u t d c
  -- "Unmatched nodes are listed": each of the first once, and each of the second; and no matched node is listed so
  pub only_first : (t u : Tree) (c : Sibling) → IsNode t c → Unmatched t u c → times_listed 73 c.number (differences t u) ≡ 1
  pub first_matched : (t u : Tree) (c d : Sibling) → Matched t u c d → times_listed 73 c.number (differences t u) ≡ 0
  pub only_second : (t u : Tree) (d : Sibling) → IsNode u d → Unmatched u t d → times_listed 74 d.number (differences t u) ≡ 1
  pub second_matched : (t u : Tree) (c d : Sibling) → Matched t u c d → times_listed 74 d.number (differences t u) ≡ 0
  -- "Matched nodes whose places among their siblings differ are listed with both places", once, and no others
  pub places_listed : (t u : Tree) (c d : Sibling) → IsNode t c → IsNode u d → Matched t u c d → (c.place ≡ d.place → ⊥) → times_listed 72 c.number (differences t u) ≡ 1
  pub same_places : (t u : Tree) (c d : Sibling) → Matched t u c d → c.place ≡ d.place → times_listed 72 c.number (differences t u) ≡ 0
  -- "An entry is 148 bytes: code, zero, node number in two bytes, each side's content": entry i stands behind i others
  pub entry_written : (first second lent : List ℕ) (t u : Tree) → IsSheetOf edition first t → IsSheetOf edition second u → 148 * length (differences t u) ≤ length lent → (i : ℕ) (e : Entry) → get_elem? (differences t u) i ≡ some e → take 148 (drop (148 * i) (output edition first second lent)) ≡ e.code ∷ 0 ∷ e.number % 256 ∷ e.number / 256 ∷ (e.first ++ e.second)
  -- "zero-filled to 72"
  pub sides_filled : (code number : ℕ) (a b : List ℕ) → entry code number a b ≡ record { code = code; number = number; first = a ++ replicate (72 - length a) 0; second = b ++ replicate (72 - length b) 0 }
  pub sides_whole : (first second : List ℕ) (t u : Tree) → IsSheetOf edition first t → IsSheetOf edition second u → (i : ℕ) (e : Entry) → get_elem? (differences t u) i ≡ some e → (length e.first ≡ 72) × (length e.second ≡ 72)
  -- "The code is the field's first slot byte": of the fields of document 01's slot, with their widths; and a field's content is its bytes there
  pub field_codes : map (λ f. f.code) slot_fields ≡ 0 ∷ 1 ∷ 2 ∷ 3 ∷ 4 ∷ 5 ∷ 6 ∷ 8 ∷ 12 ∷ 16 ∷ 20 ∷ 24 ∷ []
  pub field_widths : map (λ f. f.width) slot_fields ≡ 1 ∷ 1 ∷ 1 ∷ 1 ∷ 1 ∷ 1 ∷ 2 ∷ 4 ∷ 4 ∷ 4 ∷ 1 ∷ 48 ∷ []
  pub field_contents : (f : SlotField) (s : SlotBytes) → content f s ≡ take f.width (drop f.code s)
  -- "72 for places .., 73 or 74 for a node only in the first or second"
  pub other_codes : (PLACES ≡ 72) × (ONLY_FIRST ≡ 73) × (ONLY_SECOND ≡ 74)
  -- "The number of entries .. is returned"
  pub number_returned : (first second : List ℕ) (lent : ℕ) (t u : Tree) → IsSheetOf edition first t → IsSheetOf edition second u → 148 * length (differences t u) ≤ lent → compare_outcome edition first second lent ≡ Ok (length (differences t u))
  -- "and the rest of the output stays"
  pub rest_stays : (first second lent : List ℕ) (t u : Tree) → IsSheetOf edition first t → IsSheetOf edition second u → 148 * length (differences t u) ≤ length lent → drop (148 * length (differences t u)) (output edition first second lent) ≡ drop (148 * length (differences t u)) lent
  -- "The list is empty exactly when both sheets have the same paths in the same order with equal slots"
  pub empty_exactly : (first second : List ℕ) (t u : Tree) → IsSheetOf edition first t → IsSheetOf edition second u → (differences t u ≡ []) ↔ ((paths t ≡ paths u) × (slots first ≡ slots second))
  -- a path is the names from the root down: a field's is its parent's and its own name
  pub root_path : (t : Tree) → get_or (paths t) 0 [] ≡ name_of t ∷ []
  pub field_path : (t : Tree) (c a : Sibling) → IsNode t c → IsField c a → get_or (paths t) a.number [] ≡ get_or (paths t) c.number [] ++ (name_of a.tree ∷ [])
  -- the list is empty exactly when both sheets are the same bytes
  pub empty_same : (first second : List ℕ) (t u : Tree) → IsSheetOf edition first t → IsSheetOf edition second u → Bytes first → Bytes second → (differences t u ≡ []) ↔ (first ≡ second)
  -- "From the list and the first sheet, the second can be rebuilt": from the bytes that are written of it
  pub rebuilds : (first second lent : List ℕ) (t u : Tree) → IsSheetOf edition first t → IsSheetOf edition second u → Bytes second → 148 * length (differences t u) ≤ length lent → rebuilt (take (148 * length (differences t u)) (output edition first second lent)) first ≡ second
  -- "Refusals: the first sheet's": as judging refuses it, and laid on sheet 1
  pub first_refused : (first second : List ℕ) (lent number place : ℕ) → (compare_outcome edition first second lent ≡ Err (fault 1 (refusal number place))) ↔ ((is_known edition ≡ true) × (judgement edition first ≡ Err (refusal number place)))
  -- "then the second's", laid on sheet 2
  pub second_refused : (first second : List ℕ) (lent number place : ℕ) → (compare_outcome edition first second lent ≡ Err (fault 2 (refusal number place))) ↔ ((judgement edition first ≡ no_refusal) × (judgement edition second ≡ Err (refusal number place)))
  -- "then 14"; it and 21, which comes before all others, are laid on neither
  pub neither_refused : (first second : List ℕ) (lent number place : ℕ) → (compare_outcome edition first second lent ≡ Err (fault 0 (refusal number place))) ↔ (((is_known edition ≡ false) × (number ≡ 21) × (place ≡ 0)) ⊎ ((t : Tree) × (u : Tree) × IsSheetOf edition first t × IsSheetOf edition second u × (lent < 148 * length (differences t u)) × (number ≡ 14) × (place ≡ 0)))
  -- and there is no other number of a sheet
  pub no_other : (first second : List ℕ) (lent number place sheet : ℕ) → compare_outcome edition first second lent ≡ Err (fault sheet (refusal number place)) → sheet ≤ 2

-- R-2. "A list whose one field repeats" ----------------------------------------------------------------------------------

-- a run of one field
abbrev pub one : SlotBytes → Fields → Fields
one s fs = field (node s fs) empty

-- a LIST's layer is a repeated group
pub record IsLayer (layer : SlotBytes) : Type 0 where
  pub group : is_group (physical layer) ≡ true
  pub repeated : repetition layer ≡ REPEATED

-- the rows of `repeated_sheet`
abbrev pub repeated_rows : List ℕ
repeated_rows =
    (255 ∷ 0 ∷ 255 ∷ 30 ∷ 0 ∷ 0 ∷ 0 ∷ 4 ∷ 0 ∷ 0 ∷ 0 ∷ [])
    ++ (255 ∷ 0 ∷ 0 ∷ 3 ∷ 0 ∷ 0 ∷ 0 ∷ 4 ∷ 0 ∷ 0 ∷ 0 ∷ [])
    ++ (255 ∷ 0 ∷ 2 ∷ 30 ∷ 0 ∷ 0 ∷ 1 ∷ 4 ∷ 3 ∷ 1 ∷ 1 ∷ [])
    ++ (1 ∷ 0 ∷ 2 ∷ 0 ∷ 0 ∷ 0 ∷ 2 ∷ 4 ∷ 7 ∷ 2 ∷ 2 ∷ [])

-- the layer's one field is the node of s
pub record Request2 (edition : ℕ) : Type 1 where
  -- "no 12 at that LIST on this ground": its field is repeated
  pub kept : (p : Standing) (list layer s : SlotBytes) (fs : Fields) → IsLayer layer → repetition s ≡ REPEATED → is_required_or_optional (repetition list) ≡ true → rule12 p list (one layer (one s fs)) ≡ true
  -- "the layer has role 3", below a LIST that stands anywhere: it is q to its parent
  pub layer_role : (q : Parent) (above list layer s : SlotBytes) (fs : Fields) → IsLayer layer → repetition s ≡ REPEATED → (kind (is_map_parent q) list).kind ≡ logical.LIST → role (parent_of q above list (one layer (one s fs))) list layer (one s fs) ≡ ELEMENT_LAYER
  -- "and the field role 7", where the layer keeps the rules
  pub field_role : (q : Parent) (above list layer s : SlotBytes) (fs : Fields) → IsLayer layer → repetition s ≡ REPEATED → (kind (is_map_parent q) list).kind ≡ logical.LIST → KeepsAt edition Field layer (one s fs) → role (parent_of (parent_of q above list (one layer (one s fs))) list layer (one s fs)) layer s fs ≡ BARE_REPEATED
  -- a field that is neither repeated, required nor optional stays 12, where the layer is not named as an element
  pub refused : (p : Standing) (list layer s : SlotBytes) (fs : Fields) → IsLayer layer → is_list p list ≡ true → named_element list layer ≡ false → (repetition s ≡ REPEATED → ⊥) → is_required_or_optional (repetition s) ≡ false → rule12 p list (one layer (one s fs)) ≡ false
  -- "a repeated LIST is judged as before"
  pub repeated_list : (p : Standing) (s : SlotBytes) (fs : Fields) → is_list p s ≡ true → repetition s ≡ REPEATED → rule12 p s fs ≡ false
  -- a sheet of such a LIST
  pub example : is_known edition ≡ true → written (outcome edition repeated_sheet (row_width * 4)) repeated_sheet (replicate (row_width * 4) 0) ≡ repeated_rows

-- R-4. "Scale equal to precision, by edition" -----------------------------------------------------------------------------

-- in the row of node k, a DECIMAL whose scale equals its precision
pub record EqualIn (numbers : List ℕ) (k : ℕ) : Type 0 where
  pub is_decimal_lem : number_in numbers k 3 ≡ logical.DECIMAL
  pub digits : number_in numbers k 4 ≡ number_in numbers k 5

-- node k is the first of a tree's that has one
pub record FirstEqual (t : Tree) (k : ℕ) : Type 0 where
  pub below : k < size t
  pub here : EqualIn (rows t) k
  pub earlier : (j : ℕ) → j < k → EqualIn (rows t) j → ⊥

pub record Request4 : Type 1 where
  -- there are its two editions, and R-10's
  pub editions : (edition : ℕ) → (is_known edition ≡ true) ↔ ((edition ≡ 1) ⊎ ((edition ≡ 2) ⊎ (edition ≡ 3)))
  -- "1 keeps the old rule, 2 has the new one": precision and scale of a DECIMAL; neither is negative in any edition
  pub old_rule : (p s : ℕ) → (ordered 1 (pos p) (pos s) ≡ true) ↔ ((1 ≤ p) × (s < p))
  pub new_rule : (p s : ℕ) → (ordered 2 (pos p) (pos s) ≡ true) ↔ ((1 ≤ p) × (s ≤ p))
  pub no_precision : (edition p : ℕ) (s : ℤ) → ordered edition (negsuc p) s ≡ false
  pub no_scale : (edition : ℕ) (p : ℤ) (s : ℕ) → ordered edition p (negsuc s) ≡ false
  -- opening asks the same in both
  pub same_opening : (sheet : List ℕ) → open_of 2 sheet ≡ open_of 1 sheet
  -- "Whatever edition 1 accepts, edition 2 accepts"
  pub accepted : (sheet : List ℕ) → judgement 1 sheet ≡ no_refusal → judgement 2 sheet ≡ no_refusal
  -- "with the same rows", and the same rewritten sheet: the same answer, and the same in what was lent
  pub same_rows : (sheet lent : List ℕ) → judgement 1 sheet ≡ no_refusal → (outcome 2 sheet (length lent) ≡ outcome 1 sheet (length lent)) × (written (outcome 2 sheet (length lent)) sheet lent ≡ written (outcome 1 sheet (length lent)) sheet lent)
  pub same_rewritten : (sheet lent : List ℕ) (start : ℕ) → judgement 1 sheet ≡ no_refusal → (rewrite_outcome 2 sheet (length lent) start ≡ rewrite_outcome 1 sheet (length lent) start) × (rewrite_written (rewrite_outcome 2 sheet (length lent) start) sheet lent start ≡ rewrite_written (rewrite_outcome 1 sheet (length lent) start) sheet lent start)
  -- and the same list of two sheets that edition 1 accepts
  pub same_comparison : (first second lent : List ℕ) → judgement 1 first ≡ no_refusal → judgement 1 second ≡ no_refusal → (compare_outcome 2 first second (length lent) ≡ compare_outcome 1 first second (length lent)) × (output 2 first second lent ≡ output 1 first second lent)
  -- what 2 accepts and 1 refuses, 1 refuses with 11 at the first DECIMAL whose scale equals its precision
  pub refused_alone : (sheet : List ℕ) (t : Tree) (r : Refusal) → Sound 2 sheet → IsTreeOf 2 sheet t → judgement 1 sheet ≡ Err r → (r.number ≡ 11) × FirstEqual t r.place
  -- and a sheet that has one it does not accept
  pub not_accepted : (sheet : List ℕ) (t : Tree) (k : ℕ) → Sound 2 sheet → IsTreeOf 2 sheet t → k < size t → EqualIn (rows t) k → judgement 1 sheet ≡ no_refusal → ⊥
  -- "document 01's .. refusal 20 read per edition": a column type that is lawful in 1 is so in 2, and is read and ordered as there
  pub lawful : (c : ColumnType) → is_lawful 1 c ≡ true → is_lawful 2 c ≡ true
  pub same_reading : (c : ColumnType) (bs : List ℕ) → is_lawful 1 c ≡ true → read.outcome 2 c bs ≡ read.outcome 1 c bs
  pub same_order : (c : ColumnType) (a b : List ℕ) → is_lawful 1 c ≡ true → order.outcome 2 c a b ≡ order.outcome 1 c a b
  -- one that is lawful in 2 is not so in 1 exactly where it is a DECIMAL whose scale equals its precision
  pub lawful_alone : (c : ColumnType) → is_lawful 2 c ≡ true → (is_lawful 1 c ≡ false) ↔ ((c.kind ≡ logical.DECIMAL) × (c.p1 ≡ c.p2))
  -- "21, edition unknown, before all others, place 0": given exactly for an unknown edition, whatever else is offered
  pub unknown_opening : (edition : ℕ) (sheet : List ℕ) → (open_of edition sheet ≡ Err (refusal 21 0)) ↔ (is_known edition ≡ false)
  pub unknown_judging : (edition : ℕ) (sheet : List ℕ) → (judgement_of edition sheet ≡ Err (refusal 21 0)) ↔ (is_known edition ≡ false)
  pub unknown_resolving : (edition : ℕ) (sheet : List ℕ) (lent : ℕ) → (outcome edition sheet lent ≡ Err (refusal 21 0)) ↔ (is_known edition ≡ false)
  pub unknown_rewriting : (edition : ℕ) (sheet : List ℕ) (lent start : ℕ) → (rewrite_outcome edition sheet lent start ≡ Err (refusal 21 0)) ↔ (is_known edition ≡ false)
  pub unknown_comparing : (edition : ℕ) (first second : List ℕ) (lent : ℕ) → (compare_outcome edition first second lent ≡ Err (fault 0 (refusal 21 0))) ↔ (is_known edition ≡ false)
  pub unknown_typing : (edition : ℕ) (c : ColumnType) → (typeJudgement edition c ≡ Err (refusal 21 0)) ↔ (is_known edition ≡ false)
  pub unknown_reading : (edition : ℕ) (c : ColumnType) (bs : List ℕ) → (read.outcome edition c bs ≡ refused (refusal 21 0)) ↔ (is_known edition ≡ false)
  pub unknown_ordering : (edition : ℕ) (c : ColumnType) (a b : List ℕ) → (order.outcome edition c a b ≡ sided.refused (fault 0 (refusal 21 0))) ↔ (is_known edition ≡ false)

-- R-6. "Say where the string went bad" --------------------------------------------------------------------------------------

-- STRING, as its row has it
abbrev pub strings : ColumnType
strings = record { physical = BYTE_ARRAY; type_length = 0; kind = logical.STRING; p1 = 0; p2 = 0 }

-- `read` and `order` answer what these outcomes give: `column::read`, `column_order::order`
pub record Request6 (edition : ℕ) : Type 1 where
  -- "The check itself should answer with the offset where whole valid sequences, read from the start, stop": `utf8::valid_up_to` has one such offset for any bytes
  pub offset : (s : List ℕ) → Stops s (valid_up_to s)
  pub one_offset : (s : List ℕ) (q r : ℕ) → Stops s q → Stops s r → q ≡ r
  -- "the place of 16 is this offset for STRING, ENUM and JSON", which lies before the end
  pub text_place_lem : (c : ColumnType) (bs : List ℕ) (place : ℕ) → is_text c.kind ≡ true → read.outcome edition c bs ≡ refused (refusal 16 place) → Stops bs place × (place < length bs)
  -- and text that stops there is refused so
  pub text_refused : (c : ColumnType) (bs : List ℕ) (place : ℕ) → is_lawful edition c ≡ true → is_text c.kind ≡ true → length bs ≤ 65536 → Stops bs place → place < length bs → read.outcome edition c bs ≡ refused (refusal 16 place)
  -- "and 0 otherwise"
  pub other_place : (c : ColumnType) (bs : List ℕ) (number place : ℕ) → read.outcome edition c bs ≡ refused (refusal number place) → ((number ≡ 16) × (is_text c.kind ≡ true) → ⊥) → place ≡ 0
  -- "In order, a refusal also says which value is at fault, 1": it is reading's for the first value, with its place
  pub first : (c : ColumnType) (a b : List ℕ) (number place : ℕ) → (order.outcome edition c a b ≡ sided.refused (fault 1 (refusal number place))) ↔ ((is_lawful edition c ≡ true) × (has_order c ≡ true) × (read.outcome edition c a ≡ refused (refusal number place)))
  -- "or 2": the first value is read, and it is reading's for the second
  pub second : (c : ColumnType) (a b : List ℕ) (number place : ℕ) → (order.outcome edition c a b ≡ sided.refused (fault 2 (refusal number place))) ↔ ((is_lawful edition c ≡ true) × (has_order c ≡ true) × Valid edition c a × (read.outcome edition c b ≡ refused (refusal number place)))
  -- "and 0 for neither": 21, 20, or 17
  pub neither : (c : ColumnType) (a b : List ℕ) (number place : ℕ) → (order.outcome edition c a b ≡ sided.refused (fault 0 (refusal number place))) ↔ (((is_known edition ≡ false) × (number ≡ 21) × (place ≡ 0)) ⊎ ((is_known edition ≡ true) × (is_lawful edition c ≡ false) × (number ≡ 20) × (place ≡ 0)) ⊎ ((is_lawful edition c ≡ true) × (has_order c ≡ false) × (number ≡ 17) × (place ≡ 0)))
  -- and there is no other number of a value
  pub no_other : (c : ColumnType) (a b : List ℕ) (number place value : ℕ) → order.outcome edition c a b ≡ sided.refused (fault value (refusal number place)) → value ≤ 2
  -- `k`, e acute, and the beginning of a letter of three bytes: it goes bad where that begins
  pub cut_off : is_known edition ≡ true → read.outcome edition strings (0x6B ∷ 0xC3 ∷ 0xA9 ∷ 0xE2 ∷ 0x82 ∷ []) ≡ refused (refusal 16 3)
  -- the first value is good, and the second goes bad at its second byte
  pub second_bad : is_known edition ≡ true → order.outcome edition strings (0x6B ∷ []) (0x6B ∷ 0xFF ∷ []) ≡ sided.refused (fault 2 (refusal 16 1))
  -- both are bad: the first is at fault, at its own byte
  pub both_bad : is_known edition ≡ true → order.outcome edition strings (0x6B ∷ 0x6B ∷ 0x80 ∷ []) (0xFF ∷ []) ≡ sided.refused (fault 1 (refusal 16 2))

-- R-8. "Levels in the rows" ------------------------------------------------------------------------------------------------

-- what is left in the numbers that were lent, once a sheet is resolved
abbrev pub left : ℕ → List ℕ → List ℕ → List ℕ
left edition sheet lent = written (outcome edition sheet (length lent)) sheet lent

-- what stands in the row of node k: its repetition, its parent, and its definition and repetition level
abbrev pub repetition_in : List ℕ → ℕ → ℕ
repetition_in numbers k = number_in numbers k 2

abbrev pub parent_in : List ℕ → ℕ → ℕ
parent_in numbers k = number_in numbers k 6

abbrev pub definition_in : List ℕ → ℕ → ℕ
definition_in numbers k = number_in numbers k 9

abbrev pub repetition_level_in : List ℕ → ℕ → ℕ
repetition_level_in numbers k = number_in numbers k 10

-- "document 01's example gains ` 0 0`, ` 0 0`, ` 1 1`, ` 2 1` at the ends of its four lines"
abbrev pub example_rows : List ℕ
example_rows =
    (255 ∷ 0 ∷ 255 ∷ 30 ∷ 0 ∷ 0 ∷ 0 ∷ 4 ∷ 0 ∷ 0 ∷ 0 ∷ [])
    ++ (255 ∷ 0 ∷ 0 ∷ 3 ∷ 0 ∷ 0 ∷ 0 ∷ 4 ∷ 0 ∷ 0 ∷ 0 ∷ [])
    ++ (255 ∷ 0 ∷ 2 ∷ 30 ∷ 0 ∷ 0 ∷ 1 ∷ 4 ∷ 1 ∷ 1 ∷ 1 ∷ [])
    ++ (6 ∷ 0 ∷ 1 ∷ 1 ∷ 0 ∷ 0 ∷ 2 ∷ 4 ∷ 2 ∷ 2 ∷ 1 ∷ [])

-- what a reader of pages may take from the rows of an accepted sheet; that they are the counts over the path to each node is their definition
-- (`schema/specs/Levels`), and demand 3 has them for the tree's
pub record Request8 (edition : ℕ) : Type 1 where
  -- the root counts in neither level
  pub root_definition : (sheet lent : List ℕ) → Accepted (outcome edition sheet (length lent)) → definition_in (left edition sheet lent) 0 ≡ 0
  pub root_repetition : (sheet lent : List ℕ) → Accepted (outcome edition sheet (length lent)) → repetition_level_in (left edition sheet lent) 0 ≡ 0
  -- every other node's parent has its row before it
  pub parent_before : (sheet lent : List ℕ) (k : ℕ) → Accepted (outcome edition sheet (length lent)) → 0 < k → k < total_of sheet → parent_in (left edition sheet lent) k < k
  -- and its levels are its parent's and what its own repetition adds
  pub definition_below : (sheet lent : List ℕ) (k : ℕ) → Accepted (outcome edition sheet (length lent)) → 0 < k → k < total_of sheet → definition_in (left edition sheet lent) k ≡ definition_in (left edition sheet lent) (parent_in (left edition sheet lent) k) + counted is_optional_or_repeated (repetition_in (left edition sheet lent) k)
  pub repetition_below : (sheet lent : List ℕ) (k : ℕ) → Accepted (outcome edition sheet (length lent)) → 0 < k → k < total_of sheet → repetition_level_in (left edition sheet lent) k ≡ repetition_level_in (left edition sheet lent) (parent_in (left edition sheet lent) k) + counted is_repeated_code (repetition_in (left edition sheet lent) k)
  -- the second is never above the first, and neither above 32
  pub ordered : (sheet lent : List ℕ) (k : ℕ) → Accepted (outcome edition sheet (length lent)) → k < total_of sheet → repetition_level_in (left edition sheet lent) k ≤ definition_in (left edition sheet lent) k
  pub at_most_32 : (sheet lent : List ℕ) (k : ℕ) → Accepted (outcome edition sheet (length lent)) → k < total_of sheet → definition_in (left edition sheet lent) k ≤ 32
  -- "14 now compares with 11T"
  pub short : (sheet : List ℕ) (lent : ℕ) → judgement edition sheet ≡ no_refusal → lent < 11 * total_of sheet → outcome edition sheet lent ≡ Err (refusal 14 0)
  pub enough : (sheet : List ℕ) (lent : ℕ) → judgement edition sheet ≡ no_refusal → 11 * total_of sheet ≤ lent → outcome edition sheet lent ≡ Ok (total_of sheet)
  -- "numbers beyond 11T stay"
  pub beyond : (sheet lent : List ℕ) → drop (11 * total_of sheet) (left edition sheet lent) ≡ drop (11 * total_of sheet) lent
  pub example : is_known edition ≡ true → left edition example_sheet (replicate (row_width * 4) 0) ≡ example_rows

-- R-10. "INT96 is retired" ---------------------------------------------------------------------------------------------------

-- node k of a sheet is an INT96 leaf
pub record Int96At (sheet : List ℕ) (k : ℕ) : Type 0 where
  pub below : k < total_of sheet
  pub is_int96_lem : physical (slot_at sheet k) ≡ INT96

-- and the first that is one
pub record FirstInt96 (sheet : List ℕ) (k : ℕ) : Type 0 where
  pub here : Int96At sheet k
  pub earlier : (j : ℕ) → j < k → Int96At sheet j → ⊥

-- no node is one
abbrev pub NoInt96 : List ℕ → Type 0
NoInt96 sheet = (k : ℕ) → Int96At sheet k → ⊥

-- node k of a sheet has the logical code of GEOMETRY or GEOGRAPHY, which R-11 adds
pub record GeospatialAt (sheet : List ℕ) (k : ℕ) : Type 0 where
  pub below : k < total_of sheet
  pub is_geospatial_lem : is_geospatial (slot.logical (slot_at sheet k)) ≡ true

-- the first that has one
pub record FirstGeospatial (sheet : List ℕ) (k : ℕ) : Type 0 where
  pub here : GeospatialAt sheet k
  pub earlier : (j : ℕ) → j < k → GeospatialAt sheet j → ⊥

-- no node has one
abbrev pub NoGeospatial : List ℕ → Type 0
NoGeospatial sheet = (k : ℕ) → GeospatialAt sheet k → ⊥

-- "A converter turns one such value into a TIMESTAMP count in nanoseconds and back": `int96::decode` answers what `decoding` gives; `int96::encode` writes the
-- value that `value_of` gives, and answers 12. No edition is asked
pub record Conversion : Type 1 where
  -- "8 bytes of nanoseconds in the day, then 4 bytes of Julian day, both unsigned little-endian"
  pub nanos_are : (value : List ℕ) → nanos_in value ≡ little (take 8 value)
  pub day_is : (value : List ℕ) → day_in value ≡ little (drop 8 value)
  -- "day 2,440,588 being 1 January 1970": the count, over the integers
  pub count_is : (value : List ℕ) → count_of value ≡ (pos (day_in value) -ℤ pos 2440588) *ℤ pos 86400000000000 +ℤ pos (nanos_in value)
  -- "15 for a length other than 12"
  pub wrong_length_lem : (value : List ℕ) → (decoding value ≡ refused (refusal 15 0)) ↔ (length value ≡ 12 → ⊥)
  -- "16 for a full day of nanoseconds or more"
  pub full_day : (value : List ℕ) → (decoding value ≡ refused (refusal 16 0)) ↔ ((length value ≡ 12) × (86400000000000 ≤ nanos_in value))
  -- "19 where the count doesn't fit"
  pub not_fitting : (value : List ℕ) → (decoding value ≡ refused (refusal 19 0)) ↔ ((length value ≡ 12) × (nanos_in value < 86400000000000) × (is_signed64 (count_of value) ≡ false))
  -- any other value has its count
  pub accepted : (value : List ℕ) (z : ℤ) → (decoding value ≡ given z) ↔ ((length value ≡ 12) × (nanos_in value < 86400000000000) × (count_of value ≡ z) × (is_signed64 z ≡ true))
  -- which decodes, as a TIMESTAMP in nanoseconds, to the value's day and its time of day
  pub date_and_time : (value : List ℕ) (z : ℤ) (f : DateTime) → decoding value ≡ given z → Decodes (unit_of 3) z (given f) → (day_number f.year f.month f.day ≡ pos (day_in value) -ℤ pos 2440588) × (tick_of_day 1000000000 f.hour f.minute f.second f.fraction ≡ nanos_in value)
  -- every count has a value, and one
  pub value : (z : ℤ) → is_signed64 z ≡ true → ValueOf z (value_of z)
  pub one_value : (z : ℤ) (value : List ℕ) → ValueOf z value → value ≡ value_of z
  -- "each count returns to itself", as it was written
  pub count_returns : (z : ℤ) → is_signed64 z ≡ true → decoding (value_of z) ≡ given z
  pub written_returns : (z : ℤ) (lent : List ℕ) → is_signed64 z ≡ true → 12 ≤ length lent → decoding (take 12 (encoded z lent)) ≡ given z
  -- "and so does each value it accepts"
  pub value_returns : (value : List ℕ) (z : ℤ) → Bytes value → decoding value ≡ given z → (value_of z ≡ value) × (is_signed64 z ≡ true)
  -- 14 for a short output; the rest of the output stays
  pub short : (lent : ℕ) → lent < 12 → encoding lent ≡ Err (refusal 14 0)
  pub enough : (lent : ℕ) → 12 ≤ lent → encoding lent ≡ Ok 12
  pub rest_stays : (z : ℤ) (lent : List ℕ) → drop 12 (encoded z lent) ≡ drop 12 lent
  -- the start of 1 January 1970, and the nanosecond before it
  pub epoch : decoding (0 ∷ 0 ∷ 0 ∷ 0 ∷ 0 ∷ 0 ∷ 0 ∷ 0 ∷ 0x8C ∷ 0x3D ∷ 0x25 ∷ 0 ∷ []) ≡ given (pos 0)
  pub before : decoding (0xFF ∷ 0xFF ∷ 0x4E ∷ 0x91 ∷ 0x94 ∷ 0x4E ∷ 0 ∷ 0 ∷ 0x8B ∷ 0x3D ∷ 0x25 ∷ 0 ∷ []) ≡ given (negsuc 0)
  -- the least count, for which the product of the days alone does not fit, and the nanosecond before it
  pub least : decoding (0 ∷ 0 ∷ 0 ∷ 0xAF ∷ 0xB1 ∷ 0 ∷ 0 ∷ 0 ∷ 0x8C ∷ 0x9C ∷ 0x23 ∷ 0 ∷ []) ≡ given (negsuc (2 ^ 63 - 1))
  pub below_least : decoding (0xFF ∷ 0xFF ∷ 0xFF ∷ 0xAE ∷ 0xB1 ∷ 0 ∷ 0 ∷ 0 ∷ 0x8C ∷ 0x9C ∷ 0x23 ∷ 0 ∷ []) ≡ refused (refusal 19 0)
  -- twelve zeros are of Julian day 0, which no count reaches
  pub day_0 : decoding (replicate 12 0) ≡ refused (refusal 19 0)

pub record Request10 : Type 1 where
  -- "10 for an INT96 leaf in edition 3", whatever its annotation
  pub int96_breaks : (n : Annotated) (under : Bool) → n.physical ≡ INT96 → rule10 3 n under ≡ false
  -- 8 and 9 come first at that node
  pub in_turn : (p : Standing) (s : SlotBytes) (fs : Fields) → physical s ≡ INT96 → broken 3 p s fs ≡ cond (rule8 p s fs) (cond (rule9 s) 10 9) 8
  -- "Edition 3 equals edition 2 but": of any other node that is neither GEOMETRY nor GEOGRAPHY rule 10 asks what it does there, and rule 11 of every node
  pub others_alike : (n : Annotated) (under : Bool) → (n.physical ≡ INT96 → ⊥) → is_geospatial n.logical ≡ false → rule10 3 n under ≡ rule10 2 n under
  pub decimals_alike : (n : Annotated) (under : Bool) → rule11 3 n under ≡ rule11 2 n under
  -- where editions 1 and 2 ask what document 01 does, of INT96 too
  pub first_alike : (n : Annotated) (under : Bool) → is_geospatial n.logical ≡ false → rule10 1 n under ≡ is_placed n under
  pub second_alike : (n : Annotated) (under : Bool) → is_geospatial n.logical ≡ false → rule10 2 n under ≡ is_placed n under
  -- opening asks no other rule
  pub same_opening : (sheet : List ℕ) → NoGeospatial sheet → open_of 3 sheet ≡ open_of 2 sheet
  -- of the sheets without GEOMETRY and GEOGRAPHY, edition 3 accepts exactly those that edition 2 accepts and that have no INT96 leaf; and edition 2 accepts no others
  pub accepted : (sheet : List ℕ) → ((judgement 3 sheet ≡ no_refusal) × NoGeospatial sheet) ↔ ((judgement 2 sheet ≡ no_refusal) × NoInt96 sheet)
  -- of any of them, whatever else is wrong with it, it answers what 2 does, or 10 at the first INT96 leaf
  pub answered : (sheet : List ℕ) → NoGeospatial sheet → (judgement 3 sheet ≡ judgement 2 sheet) ⊎ ((k : ℕ) × (judgement 3 sheet ≡ Err (refusal 10 k)) × FirstInt96 sheet k)
  -- of those that 2 accepts, it refuses the others with 10 at the first INT96 leaf
  pub refused_alone : (sheet : List ℕ) (r : Refusal) → judgement 2 sheet ≡ no_refusal → judgement 3 sheet ≡ Err r → (r.number ≡ 10) × FirstInt96 sheet r.place
  -- a sheet without either is judged alike, whatever else is wrong with it
  pub same_judgement : (sheet : List ℕ) → NoInt96 sheet → NoGeospatial sheet → judgement_of 3 sheet ≡ judgement_of 2 sheet
  -- with the same rows, the same rewritten sheet and the same list: the same answer, and the same in what was lent
  pub same_rows : (sheet lent : List ℕ) → NoInt96 sheet → NoGeospatial sheet → (outcome 3 sheet (length lent) ≡ outcome 2 sheet (length lent)) × (written (outcome 3 sheet (length lent)) sheet lent ≡ written (outcome 2 sheet (length lent)) sheet lent)
  pub same_rewritten : (sheet lent : List ℕ) (start : ℕ) → NoInt96 sheet → NoGeospatial sheet → (rewrite_outcome 3 sheet (length lent) start ≡ rewrite_outcome 2 sheet (length lent) start) × (rewrite_written (rewrite_outcome 3 sheet (length lent) start) sheet lent start ≡ rewrite_written (rewrite_outcome 2 sheet (length lent) start) sheet lent start)
  pub same_comparison : (first second lent : List ℕ) → NoInt96 first → NoGeospatial first → NoInt96 second → NoGeospatial second → (compare_outcome 3 first second (length lent) ≡ compare_outcome 2 first second (length lent)) × (output 3 first second lent ≡ output 2 first second lent)
  -- a column type of another kind than these is lawful in 3 exactly where it is lawful in 2 and no INT96
  pub lawful : (c : ColumnType) → is_geospatial c.kind ≡ false → (is_lawful 3 c ≡ true) ↔ ((is_lawful 2 c ≡ true) × (c.physical ≡ INT96 → ⊥))
  -- any other is read and ordered alike
  pub same_reading : (c : ColumnType) (bs : List ℕ) → (c.physical ≡ INT96 → ⊥) → is_geospatial c.kind ≡ false → read.outcome 3 c bs ≡ read.outcome 2 c bs
  pub same_order : (c : ColumnType) (a b : List ℕ) → (c.physical ≡ INT96 → ⊥) → is_geospatial c.kind ≡ false → order.outcome 3 c a b ≡ order.outcome 2 c a b
  -- one of INT96 is 20, before 17
  pub int96_type : (c : ColumnType) → c.physical ≡ INT96 → typeJudgement 3 c ≡ Err (refusal 20 0)
  pub int96_read : (c : ColumnType) (bs : List ℕ) → c.physical ≡ INT96 → read.outcome 3 c bs ≡ refused (refusal 20 0)
  pub int96_ordered : (c : ColumnType) (a b : List ℕ) → c.physical ≡ INT96 → order.outcome 3 c a b ≡ sided.refused (fault 0 (refusal 20 0))
  -- a leaf without annotation, and one of UNKNOWN: 10 in edition 3, and rows in edition 2
  pub plain_refused : outcome 3 (int96_sheet converted.NONE logical.NONE 0) (row_width * 2) ≡ Err (refusal 10 1)
  pub plain_accepted : outcome 2 (int96_sheet converted.NONE logical.NONE 0) (row_width * 2) ≡ Ok 2
  pub unknown_refused : outcome 3 (int96_sheet converted.NONE logical.UNKNOWN 0) (row_width * 2) ≡ Err (refusal 10 1)
  pub unknown_accepted : outcome 2 (int96_sheet converted.NONE logical.UNKNOWN 0) (row_width * 2) ≡ Ok 2
  -- annotations that disagree are 9 there too, and a type length 8
  pub nine_first : outcome 3 (int96_sheet converted.UTF8 logical.UNKNOWN 0) (row_width * 2) ≡ Err (refusal 9 1)
  pub eight_first : outcome 3 (int96_sheet converted.UTF8 logical.UNKNOWN 12) (row_width * 2) ≡ Err (refusal 8 1)
  pub conversion : Conversion

-- R-11. "Where the terminals stand" -----------------------------------------------------------------------------------------

-- a column of GEOMETRY, and one of GEOGRAPHY with its edge rule, as their rows have them
abbrev pub geometries : ColumnType
geometries = record { physical = BYTE_ARRAY; type_length = 0; kind = 17; p1 = 0; p2 = 0 }

abbrev pub geographies : ℕ → ColumnType
geographies edge = record { physical = BYTE_ARRAY; type_length = 0; kind = 18; p1 = edge; p2 = 0 }

-- the rows of a sheet of GEOGRAPHY(KARNEY)
abbrev pub karney_rows : List ℕ
karney_rows = (255 ∷ 0 ∷ 255 ∷ 30 ∷ 0 ∷ 0 ∷ 0 ∷ 2 ∷ 0 ∷ 0 ∷ 0 ∷ []) ++ (6 ∷ 0 ∷ 0 ∷ 18 ∷ 4 ∷ 0 ∷ 0 ∷ 2 ∷ 0 ∷ 0 ∷ 0 ∷ [])

-- a counted coordinate of an axis that lies outside the degrees of GEOGRAPHY
pub record Outside (coordinates : List Float) : Type 0 where
  pub axis : ℕ
  pub is_axis : (axis ≡ 0) ⊎ (axis ≡ 1)
  pub value : Float
  pub counted : CountedIn axis coordinates value
  pub beyond : in_range axis value ≡ false

-- "With it come boxes": `boxes::box_of` gives an answer that `Answers` allows, which `judgement` refuses or which is a box or none; `boxes::contains` answers what
-- `membership` gives. No edition is asked
pub record Boxes : Type 1 where
  -- "compared as document 01 orders DOUBLE": `float_order`, which demand 2 has over the bits
  pub at_most_lem : (v w : Float) → (at_most v w ≡ true) ↔ ((float_order v w ≡ Some Less) ⊎ (float_order v w ≡ Some Equal))
  pub above : (v w : Float) → (is_above v w ≡ true) ↔ (float_order v w ≡ Some Greater)
  -- "[-180, 180] or [-90, 90]"
  pub x_range : (v : Float) → (in_range 0 v ≡ true) ↔ ((at_most (of_int binary64 (neg_ℤ (pos 180))) v ≡ true) × (at_most v (of_int binary64 (pos 180)) ≡ true))
  pub y_range : (v : Float) → (in_range 1 v ≡ true) ↔ ((at_most (of_int binary64 (neg_ℤ (pos 90))) v ≡ true) × (at_most v (of_int binary64 (pos 90)) ≡ true))
  -- points are two coordinates each, x and then y; "NaN coordinates are skipped", the other one of the point counts
  pub counted : (coordinates : List Float) (axis : ℕ) (v : Float) → CountedIn axis coordinates v ↔ ((p : ℕ) × (2 * p + 1 < length coordinates) × (get_or coordinates (2 * p + axis) nan ≡ v) × (v ≡ nan → ⊥))
  -- "20, first, for a box of a kind not 17 or 18"
  pub unknown_kind : (kind : ℕ) (coordinates : List Float) → (boxes.judgement kind coordinates ≡ Err (refusal 20 0)) ↔ ((kind ≡ 17 → ⊥) × (kind ≡ 18 → ⊥))
  -- "15, before 16, for an odd run of coordinates"
  pub odd_run : (kind : ℕ) (coordinates : List Float) → (boxes.judgement kind coordinates ≡ Err (refusal 15 0)) ↔ (((kind ≡ 17) ⊎ (kind ≡ 18)) × (length coordinates % 2 ≡ 1))
  -- "16 .. for GEOGRAPHY", "the same range holds for its points, NaN aside"
  pub out_of_range : (kind : ℕ) (coordinates : List Float) → (boxes.judgement kind coordinates ≡ Err (refusal 16 0)) ↔ ((kind ≡ 18) × (length coordinates % 2 ≡ 0) × Outside coordinates)
  -- and nothing else is refused
  pub refused_only : (kind : ℕ) (coordinates : List Float) (r : Refusal) → boxes.judgement kind coordinates ≡ Err r → (r.place ≡ 0) × ((r.number ≡ 20) ⊎ ((r.number ≡ 15) ⊎ (r.number ≡ 16)))
  -- "no box results exactly if an axis has none"
  pub none_or_box : (kind : ℕ) (coordinates : List Float) (a : Boxed) → Answers kind coordinates a → boxes.judgement kind coordinates ≡ no_refusal → (a ≡ Ok None) ↔ (NoneCounted 0 coordinates ⊎ NoneCounted 1 coordinates)
  -- "every counted coordinate lies from its axis's min to its max"
  pub from_min_to_max : (kind : ℕ) (coordinates : List Float) (b : BoundingBox) (v : Float) → Answers kind coordinates (Ok (Some b)) → (CountedIn 0 coordinates v → (at_most b.xmin v ≡ true) × (at_most v b.xmax ≡ true)) × (CountedIn 1 coordinates v → (at_most b.ymin v ≡ true) × (at_most v b.ymax ≡ true))
  -- "and each bound numerically equals a counted one of its axis"
  pub each_met : (kind : ℕ) (coordinates : List Float) (b : BoundingBox) → Answers kind coordinates (Ok (Some b)) → Met 0 coordinates b.xmin × Met 0 coordinates b.xmax × Met 1 coordinates b.ymin × Met 1 coordinates b.ymax
  -- two such boxes are numerically equal, there is one answer, and the box contains each of its points without NaN
  pub promised : boxes-promised.Promises
  -- "A test answers yes exactly if both a point's coordinates are inside"
  pub answered : (kind : ℕ) (b : BoundingBox) (x y : Float) (inside : Bool) → (membership kind b x y ≡ given inside) ↔ (((kind ≡ 17) ⊎ (kind ≡ 18)) × (is_box kind b ≡ true) × (allows_point kind x y ≡ true) × ((inside_x b x && inside_y b y) ≡ inside))
  -- "A received box may have xmin above xmax, and then x is inside if x >= xmin or x <= xmax"
  pub around : (b : BoundingBox) (x : Float) → is_above b.xmin b.xmax ≡ true → (inside_x b x ≡ true) ↔ ((at_most b.xmin x ≡ true) ⊎ (at_most x b.xmax ≡ true))
  -- "otherwise, and for y, if on or between the bounds"
  pub between_x : (b : BoundingBox) (x : Float) → is_above b.xmin b.xmax ≡ false → (inside_x b x ≡ true) ↔ ((at_most b.xmin x ≡ true) × (at_most x b.xmax ≡ true))
  pub between_y : (b : BoundingBox) (y : Float) → (inside_y b y ≡ true) ↔ ((at_most b.ymin y ≡ true) × (at_most y b.ymax ≡ true))
  -- a NaN is inside nothing
  pub nan_x : (b : BoundingBox) → inside_x b nan ≡ false
  pub nan_y : (b : BoundingBox) → inside_y b nan ≡ false
  -- "16 for a box with a NaN, with ymin above ymax, or, for GEOGRAPHY, with any bound outside [-180, 180] or [-90, 90]"
  pub geometry_box : (b : BoundingBox) → (is_box 17 b ≡ true) ↔ ((has_nan b ≡ false) × (is_above b.ymin b.ymax ≡ false))
  pub geography_box : (b : BoundingBox) → (is_box 18 b ≡ true) ↔ ((has_nan b ≡ false) × (is_above b.ymin b.ymax ≡ false) × (in_range 0 b.xmin ≡ true) × (in_range 0 b.xmax ≡ true) × (in_range 1 b.ymin ≡ true) × (in_range 1 b.ymax ≡ true))
  pub has_nan_lem : (b : BoundingBox) → (has_nan b ≡ true) ↔ ((b.xmin ≡ nan) ⊎ ((b.xmax ≡ nan) ⊎ ((b.ymin ≡ nan) ⊎ (b.ymax ≡ nan))))
  -- "the same range holds for its points, NaN aside"
  pub geometry_point : (x y : Float) → allows_point 17 x y ≡ true
  pub geography_point : (x y : Float) → (allows_point 18 x y ≡ true) ↔ (((x ≡ nan) ⊎ (in_range 0 x ≡ true)) × ((y ≡ nan) ⊎ (in_range 1 y ≡ true)))

pub record Request11 : Type 1 where
  -- "In editions 1 and 2 these codes stay 4": the list of logical codes has them from edition 3 on, and never 15 and 16
  pub listed : (code : ℕ) → (logical_listed 3 code ≡ true) ↔ ((logical_listed 2 code ≡ true) ⊎ ((code ≡ 17) ⊎ (code ≡ 18)))
  pub same_list : (code : ℕ) → logical_listed 2 code ≡ logical_listed 1 code
  pub not_listed : (code : ℕ) → is_geospatial code ≡ true → logical_listed 2 code ≡ false
  pub never_listed : (edition : ℕ) → (logical_listed edition 15 ≡ false) × (logical_listed edition 16 ≡ false)
  -- "GEOMETRY (logical 17) and GEOGRAPHY (18) on BYTE_ARRAY, from edition 3. Parameter a is 0 for GEOMETRY, and for GEOGRAPHY the edge rule: SPHERICAL 0, .. KARNEY 4"
  pub geometry : (n : Annotated) (under : Bool) → n.logical ≡ 17 → (rule10 3 n under ≡ true) ↔ ((n.physical ≡ BYTE_ARRAY) × (n.a ≡ 0) × (n.b ≡ 0))
  pub geography : (n : Annotated) (under : Bool) → n.logical ≡ 18 → (rule10 3 n under ≡ true) ↔ ((n.physical ≡ BYTE_ARRAY) × (n.a ≤ 4) × (n.b ≡ 0))
  -- "There is no converted form"
  pub no_converted : (n : Annotated) → is_geospatial n.logical ≡ true → (nine.rule9 n ≡ true) ↔ (n.converted ≡ 255)
  -- the kind is the code, and p1 the edge rule; they are rewritten as they stand, with no converted type
  pub kinds : (n : Annotated) (under : Bool) → is_geospatial n.logical ≡ true → rule10 3 n under ≡ true → kind_of n under ≡ record { kind = n.logical; p1 = n.a; p2 = 0 }
  pub rewritten : (n : Annotated) (under : Bool) → is_geospatial n.logical ≡ true → rule10 3 n under ≡ true → written_of n under ≡ record { converted = 255; logical = n.logical; a = n.a; b = 0 }
  -- before it they break rule 10, where no sheet was opened
  pub early : (n : Annotated) (under : Bool) → is_geospatial n.logical ≡ true → (rule10 1 n under ≡ false) × (rule10 2 n under ≡ false)
  -- of any sheet, whatever else is wrong with it: edition 3 answers what 2 does, or 10 at the first INT96 leaf, or 2 answers 4 at the first GEOMETRY or GEOGRAPHY
  pub answered : (sheet : List ℕ) → (judgement 3 sheet ≡ judgement 2 sheet) ⊎ (((k : ℕ) × (judgement 3 sheet ≡ Err (refusal 10 k)) × FirstInt96 sheet k) ⊎ ((k : ℕ) × (judgement 2 sheet ≡ Err (refusal 4 k)) × FirstGeospatial sheet k))
  -- the column types of these kinds that are lawful are these, in edition 3 alone; before it they are 20, and those of kinds 15 and 16 in every edition
  pub geometry_type : (c : ColumnType) → c.kind ≡ 17 → (is_lawful 3 c ≡ true) ↔ (c ≡ geometries)
  pub geography_type : (c : ColumnType) → c.kind ≡ 18 → (is_lawful 3 c ≡ true) ↔ ((edge : ℕ) × (edge ≤ 4) × (c ≡ geographies edge))
  pub never_type : (edition : ℕ) (c : ColumnType) → (c.kind ≡ 15) ⊎ (c.kind ≡ 16) → is_lawful edition c ≡ false
  pub early_type : (c : ColumnType) → is_geospatial c.kind ≡ true → (typeJudgement 1 c ≡ Err (refusal 20 0)) × (typeJudgement 2 c ≡ Err (refusal 20 0))
  -- any bytes are a value, up to document 01's length
  pub any_value : (c : ColumnType) (bs : List ℕ) → is_geospatial c.kind ≡ true → is_lawful 3 c ≡ true → length bs ≤ 65536 → read.outcome 3 c bs ≡ given (value.Bytes 0 (length bs))
  -- "17 for order"
  pub no_order : (c : ColumnType) (a b : List ℕ) → is_geospatial c.kind ≡ true → is_lawful 3 c ≡ true → order.outcome 3 c a b ≡ sided.refused (fault 0 (refusal 17 0))
  -- sheets of one such leaf: GEOGRAPHY(KARNEY), an edge rule that is none, a converted type beside it, code 15; and in edition 2
  pub karney : written (outcome 3 (geospatial_sheet 255 18 4) (row_width * 2)) (geospatial_sheet 255 18 4) (replicate (row_width * 2) 0) ≡ karney_rows
  pub edge_5 : outcome 3 (geospatial_sheet 255 18 5) (row_width * 2) ≡ Err (refusal 10 1)
  pub geometry_edge : outcome 3 (geospatial_sheet 255 17 1) (row_width * 2) ≡ Err (refusal 10 1)
  pub utf8_beside : outcome 3 (geospatial_sheet 0 17 0) (row_width * 2) ≡ Err (refusal 9 1)
  pub code_15 : outcome 3 (geospatial_sheet 255 15 0) (row_width * 2) ≡ Err (refusal 4 1)
  pub before : outcome 2 (geospatial_sheet 255 18 4) (row_width * 2) ≡ Err (refusal 4 1)
  pub boxes : Boxes
