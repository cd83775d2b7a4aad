-- "From the list and the first sheet, the second can be rebuilt."
use Rattle.std.specs.Prelude.{ℕ, zero, suc, ◌+◌, ◌/◌, Bool, false, cond, not, ◌&&◌, ◌||◌, List, [], ◌∷◌, ◌++◌, eqb, length, take, drop}
use Rattle.laws.specs.Bytes.{little}
use Rattle.laws.specs.Stretches.{stretched}
use Rattle.sheet.specs.Slot.{child_count, slots}
use Rattle.sheet.specs.Sheet.{sheet_of}
use Rattle.tree.specs.Tree.{SlotBytes, Tree, Fields, node, empty, field, size}
use Rattle.tree.specs.Reading.{tree_of}
use Rattle.differences.specs.Entry.{SlotField, slot_fields, Entry, PLACES, ONLY_FIRST, ONLY_SECOND, entry_size, entries_in}

-- the entries of node k of the first sheet
unfoldable pub entries_of : ℕ → List Entry → List Entry
entries_of k [] = []
entries_of k (e ∷ es) = cond (eqb e.number k && not (eqb e.code ONLY_SECOND)) (e ∷ []) [] ++ entries_of k es

-- they say that it is only in the first
unfoldable pub is_gone : List Entry → Bool
is_gone [] = false
is_gone (e ∷ es) = eqb e.code ONLY_FIRST || is_gone es

-- its place in the second, where its place in the first is p
unfoldable pub place_by : ℕ → List Entry → ℕ
place_by p [] = p
place_by p (e ∷ es) = cond (eqb e.code PLACES) (little (take 2 e.second)) (place_by p es)

-- how many bytes the field of a code has; no other code is a field's
unfoldable pub width_in : List SlotField → ℕ → ℕ
width_in [] code = 0
width_in (f ∷ fs) code = cond (eqb f.code code) f.width (width_in fs code)

-- its slot in the second: each field that is listed has the second's content
unfoldable pub slot_by : SlotBytes → List Entry → SlotBytes
slot_by s [] = s
slot_by s (e ∷ es) = slot_by (stretched s e.code (take (width_in slot_fields e.code) e.second)) es

-- the slots of a matched node and of all matched nodes below it, in the second's order, with the node's place there
pub record Block : Type 0 where
  pub place : ℕ
  pub slots : List SlotBytes

-- the slots of the block with a place, or none
unfoldable pub slots_at : ℕ → List Block → List SlotBytes
slots_at q [] = []
slots_at q (b ∷ bs) = cond (eqb b.place q) b.slots (slots_at q bs)

-- those of the n places from q on
unfoldable pub in_order : ℕ → ℕ → List Block → List SlotBytes
in_order q zero bs = []
in_order q (suc n) bs = slots_at q bs ++ in_order (suc q) n bs

-- the second's slots of the matched nodes of a tree of the first whose root, node k, is matched: the root's, then its fields' by their places in the second
unfoldable mutual
  pub matched_slots : List Entry → ℕ → Tree → List SlotBytes
  matched_slots es k (node s fs) =
      slot_by s (entries_of k es) ∷ in_order 0 (child_count (slot_by s (entries_of k es))) (blocks es (suc k) 0 fs)

  pub blocks : List Entry → ℕ → ℕ → Fields → List Block
  blocks es k p empty = []
  blocks es k p (field t fs) =
      cond (is_gone (entries_of k es)) [] (record { place = place_by p (entries_of k es); slots = matched_slots es k t } ∷ [])
      ++ blocks es (k + size t) (suc p) fs

-- some slots with each node that is only in the second put in at its number
unfoldable pub with_only : List SlotBytes → List Entry → List SlotBytes
with_only ss [] = ss
with_only ss (e ∷ es) =
    with_only (cond (eqb e.code ONLY_SECOND) (take e.number ss ++ e.second ∷ drop e.number ss) ss) es

-- the second's slots, from the entries and the first's tree
unfoldable pub slots_from : List Entry → Tree → List SlotBytes
slots_from es t = with_only (matched_slots es 0 t) es

-- the second sheet's bytes, from those of the list and of the first sheet
unfoldable pub rebuilt : List ℕ → List ℕ → List ℕ
rebuilt list first = sheet_of (slots_from (entries_in (length list / entry_size) list) (tree_of (slots first)))
