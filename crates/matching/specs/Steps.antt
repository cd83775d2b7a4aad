-- What the steps of matching answer, which the contracts of private functions cite. Nothing here is a promise to a caller.
use Rattle.std.specs.Prelude.{ℕ, zero, suc, ◌+◌, ◌*◌, ◌-◌, ◌/◌, ◌%◌, ◌^◌, ◌≤◌, ◌<◌, ◌≡◌, Bool, cond, not, ◌&&◌, List, [], ◌∷◌, ◌++◌, eqb, length, get_or, set, drop, Option as Found, Some, None}
use Rattle.std.proofs.Math.Option.{Option, none, some}
use Rattle.sheet.specs.Block.{total_of, most_nodes}
use Rattle.sheet.specs.Slot.{slots, slot_at, name}
use Rattle.sheet.specs.Name.{same_bytes}
use Rattle.tree.specs.Tree.{Fields, empty, field, listing, size, count}
use Rattle.tree.specs.Reading.{trees, tree_of}
use Rattle.tree.specs.Steps.{Claimed, tree_at, run_at, fields_at}
use Rattle.matching.specs.Matching.{Sibling, siblings, name_of, alike, nth, match_of}
use Rattle.matching.specs.Outcome.{held_of}
use Rattle.matching.specs.declared.candidates.Candidate.{Candidate}
use Rattle.matching.specs.declared.fields.Match.{Match}
use Rattle.matching.specs.declared.heads.Head.{Head}

-- a sheet whose slots claim rightly and are those of one tree
pub record OneTree (bytes : List ℕ) : Type 0 where
  pub claimed : Claimed bytes
  pub lists : listing (tree_of (slots bytes)) ≡ slots bytes
  pub some : 0 < total_of bytes

-- from node k on, some numbers have the end of each node's tree
pub record EndsFrom (bytes : List ℕ) (k : ℕ) (ends : List ℕ) : Type 0 where
  pub long : length ends ≡ most_nodes
  pub end_at : (i : ℕ) → k ≤ i → i < total_of bytes → get_or ends i 0 ≡ i + size (tree_at (slots bytes) i)

abbrev pub Ends : List ℕ → List ℕ → Type 0
Ends bytes ends = EndsFrom bytes 0 ends

-- a number of a name, two bytes at a time: like names have like ones
unfoldable pub print_from : ℕ → List ℕ → ℕ
print_from print [] = print
print_from print (b ∷ []) = (print * 31 + b) % 2 ^ 32
print_from print (b ∷ c ∷ bs) = print_from ((print * 961 + b * 31 + c) % 2 ^ 32) bs

abbrev pub print_of : List ℕ → ℕ
print_of name = print_from 0 name

-- some numbers have the print of each of the first n nodes' names
pub record Prints (bytes : List ℕ) (n : ℕ) (prints : List ℕ) : Type 0 where
  pub long : length prints ≡ most_nodes
  pub print_at : (i : ℕ) → i < n → get_or prints i 0 ≡ print_of (name (slot_at bytes i))

-- a sheet whose slots claim rightly, with the ends of its trees and the prints of its names
pub record Surveyed (bytes ends prints : List ℕ) : Type 0 where
  pub claimed : Claimed bytes
  pub ended : Ends bytes ends
  pub printed : Prints bytes (total_of bytes) prints

-- a field with this number and this place is one of count fields of a node, or stands behind the last
pub record Stands (bytes : List ℕ) (c : Candidate) (number : ℕ) : Type 0 where
  pub claimed : Claimed bytes
  pub most : c.place ≤ number
  pub fields : number - c.place ≤ count (trees (drop c.number (slots bytes)))

-- it and the fields behind it
unfoldable pub fields_from : List ℕ → Candidate → ℕ → List Sibling
fields_from bytes c number = siblings c.number c.place (run_at (slots bytes) c.number (number - c.place))

-- the taker has taken a sibling
abbrev pub is_taken : List ℕ → ℕ → Sibling → Bool
is_taken takers taker c = eqb (get_or takers c.number 0) taker

-- some siblings without those before the first that is not taken
unfoldable pub untaken : List ℕ → ℕ → List Sibling → List Sibling
untaken takers taker [] = []
untaken takers taker (c ∷ cs) = cond (is_taken takers taker c) (untaken takers taker cs) (c ∷ cs)

-- the first that is not taken and has this name
unfoldable pub first_free : List ℕ → ℕ → List ℕ → List Sibling → Option Sibling
first_free takers taker n [] = none
first_free takers taker n (c ∷ cs) =
    cond (not (is_taken takers taker c) && same_bytes (name_of c.tree) n) (some c) (first_free takers taker n cs)

-- what is found
abbrev pub found_of : Option Sibling → Found Candidate
found_of none = None
found_of (some c) = Some (record { number = c.number; place = c.place })

abbrev pub FoundWithin : ℕ → ℕ → Found Candidate → Type 0
FoundWithin nodes places None = Unit {0}
FoundWithin nodes places (Some c) = (c.number < nodes) × (c.place < places)

-- what is taken, and what is then known of the field with this place that takes it
abbrev pub taken_by : ℕ → Found Candidate → List ℕ → List ℕ
taken_by taker None takers = takers
taken_by taker (Some c) takers = set takers c.number taker

abbrev pub found_match : ℕ → Found Candidate → Found Match
found_match place None = None
found_match place (Some c) = Some (record { number = c.number; place = place; other = c.place })

-- what nodes match, with what each field of a run matches, the run's first at this number
unfoldable pub with_fields : List (Found Match) → ℕ → ℕ → List Sibling → List (List ℕ) → Fields → List (Found Match)
with_fields ms at place cs before empty = ms
with_fields ms at place cs before (field t fs) =
    with_fields (set ms at (held_of (match_of place (nth (name_of t) (alike (name_of t) before) cs)))) (at + size t) (suc place) cs (name_of t ∷ before) fs

-- and with what the fields of node k match, where it matches the second sheet's node j
unfoldable pub fields_matched : List ℕ → List ℕ → ℕ → ℕ → List (Found Match) → List (Found Match)
fields_matched first second k j ms = with_fields ms (suc k) 0 (siblings (suc j) 0 (fields_at second j)) [] (fields_at first k)

-- or where it matches this, if it matches a node
abbrev pub fields_by : List ℕ → List ℕ → ℕ → Found Match → List (Found Match) → List (Found Match)
fields_by first second k None ms = ms
fields_by first second k (Some m) ms = fields_matched first second k m.number ms

-- as they say that it does
abbrev pub step_at : List ℕ → List ℕ → ℕ → List (Found Match) → List (Found Match)
step_at first second k ms = fields_by first second k (get_or ms k None) ms

-- the same for n nodes from node k on
unfoldable pub steps_from : List ℕ → List ℕ → ℕ → ℕ → List (Found Match) → List (Found Match)
steps_from first second k zero ms = ms
steps_from first second k (suc n) ms = steps_from first second (suc k) n (step_at first second k ms)

-- what is matched is a node of the second sheet, which has so many, or none
abbrev pub NodeNamed : ℕ → Found Match → Type 0
NodeNamed nodes None = Unit {0}
NodeNamed nodes (Some m) = m.number < nodes

-- and so it is for each node of the first
pub record Named (nodes : ℕ) (ms : List (Found Match)) : Type 0 where
  pub long : length ms ≡ most_nodes
  pub named_at : (i : ℕ) → NodeNamed nodes (get_or ms i None)

-- no taker is above this one
pub record TakersMost (most : ℕ) (takers : List ℕ) : Type 0 where
  pub long : length takers ≡ most_nodes
  pub taker_at : (i : ℕ) → get_or takers i 0 ≤ most

-- how many heads there are, one for each rest of a print
abbrev pub head_count : ℕ
head_count = 8192

-- some siblings from the first on whose name's print leaves this rest
unfoldable pub from_alike : ℕ → List Sibling → List Sibling
from_alike r [] = []
from_alike r (c ∷ cs) = cond (eqb (print_of (name_of c.tree) % head_count) r) (c ∷ cs) (from_alike r cs)

-- a head has the number and the place of a field, and the number of the taker that it was written for, each below 1024
abbrev pub packed_head : ℕ → ℕ → ℕ → Head
packed_head taker place number = record { packed = taker * 1048576 + place * 1024 + number }

abbrev pub taker_of : Head → ℕ
taker_of h = h.packed / 1048576

abbrev pub place_of : Head → ℕ
place_of h = h.packed / 1024 % 1024

abbrev pub number_of : Head → ℕ
number_of h = h.packed % 1024

abbrev pub head_of : Head → Candidate
head_of h = record { number = number_of h; place = place_of h }

-- what stands where none was written: no node is taker 0
abbrev pub no_head : Head
no_head = record { packed = 0 }

-- no head was written for a taker above this one
pub record HeadsMost (most : ℕ) (heads : List Head) : Type 0 where
  pub long : length heads ≡ head_count
  pub taker_at : (r : ℕ) → taker_of (get_or heads r no_head) ≤ most

-- and none for this one yet
abbrev pub HeadsBelow : ℕ → List Head → Type 0
HeadsBelow taker heads = (0 < taker) × HeadsMost (taker - 1) heads

-- heads with that of a field, where there is none for its rest yet
unfoldable pub with_head : List Head → ℕ → ℕ → ℕ → ℕ → List Head
with_head heads r number place taker =
    cond (eqb (taker_of (get_or heads r no_head)) taker) heads (set heads r (packed_head taker place number))

-- a field from which on a node's fields are those from the first on whose print leaves a rest
pub record IsHead (bytes : List ℕ) (start : Candidate) (number r : ℕ) (head : Candidate) : Type 0 where
  pub stands : Stands bytes head number
  pub is : fields_from bytes head number ≡ from_alike r (fields_from bytes start number)

-- the heads of a node's fields, from the first of them on: each that was written for this taker is one, and of other rests there is no field
pub record Heads (bytes : List ℕ) (start : Candidate) (number taker : ℕ) (heads : List Head) : Type 0 where
  pub long : length heads ≡ head_count
  pub known : (r : ℕ) → r < head_count → taker_of (get_or heads r no_head) ≡ taker → IsHead bytes start number r (head_of (get_or heads r no_head))
  pub none_at : (r : ℕ) → r < head_count → (taker_of (get_or heads r no_head) ≡ taker → ⊥) → from_alike r (fields_from bytes start number) ≡ []

-- the fields of a node have heads, and from one of them on some are left
pub record Indexed (bytes : List ℕ) (from : Candidate) (number taker : ℕ) (heads : List Head) : Type 0 where
  pub start : Candidate
  pub headed : Heads bytes start number taker heads
  pub stands : Stands bytes from number
  pub before : List Sibling
  pub split : fields_from bytes start number ≡ before ++ fields_from bytes from number

-- from a later field on the same is found, of names with this print
pub record Leads (bytes : List ℕ) (from : Candidate) (number print : ℕ) (later : Candidate) : Type 0 where
  pub stands : Stands bytes later number
  pub same : (takers : List ℕ) (taker : ℕ) (n : List ℕ) → print_of n ≡ print
      → first_free takers taker n (fields_from bytes later number) ≡ first_free takers taker n (fields_from bytes from number)
