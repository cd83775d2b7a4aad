-- What the list says, apart from how it is made: which entries it has, how often, and in which order.
use Rattle.std.specs.Prelude.{ℕ, suc, ◌<◌, ◌≡◌, cond, ◌&&◌, eqb}
use mathlib.Core.List.{List, [], ◌∷◌, Memᴰ}
use Rattle.laws.specs.Bytes.{bytes_of}
use Rattle.tree.specs.Tree.{Tree, slot_of}
use Rattle.matching.specs.Matching.{Sibling}
use Rattle.matching.specs.Nodes.{IsNode, Matched, Unmatched}
use Rattle.differences.specs.Entry.{SlotField, slot_fields, Entry, entry, PLACES, ONLY_FIRST, ONLY_SECOND}
use Rattle.differences.specs.Differences.{content}

infix 4 ◌∈◌
-- it is an element of a list
abbrev pub ◌∈◌ : {A : Type 0} → A → List A → Type 0
x ∈ xs = Memᴰ x xs

-- an entry says a difference of two trees, in one of four ways
pub data Difference (t u : Tree) (e : Entry) : Type 0 where
  -- "each slot field in which two sheets differ, with both contents", of nodes that match
  field_differs : {c d : Sibling} {f : SlotField} → IsNode t c → IsNode u d → Matched t u c d → f ∈ slot_fields
      → (content f (slot_of c.tree) ≡ content f (slot_of d.tree) → ⊥)
      → e ≡ entry f.code c.number (content f (slot_of c.tree)) (content f (slot_of d.tree)) → Difference t u e
  -- "Matched nodes whose places among their siblings differ are listed with both places, from 0"; "two bytes each"
  places_differ : {c d : Sibling} → IsNode t c → IsNode u d → Matched t u c d → (c.place ≡ d.place → ⊥)
      → e ≡ entry PLACES c.number (bytes_of 2 c.place) (bytes_of 2 d.place) → Difference t u e
  -- "Unmatched nodes are listed with node number and whole slot": those of the first, and those of the second
  only_first : {c : Sibling} → IsNode t c → Unmatched t u c → e ≡ entry ONLY_FIRST c.number (slot_of c.tree) [] → Difference t u e
  only_second : {d : Sibling} → IsNode u d → Unmatched u t d → e ≡ entry ONLY_SECOND d.number [] (slot_of d.tree) → Difference t u e

-- how many entries of a list have this code and this node number
unfoldable pub times_listed : ℕ → ℕ → List Entry → ℕ
times_listed code number [] = 0
times_listed code number (e ∷ es) =
    cond (eqb e.code code && eqb e.number number) (suc (times_listed code number es)) (times_listed code number es)

-- an entry has its place in the list before another
pub data Precedes (d e : Entry) : Type 0 where
  -- "in the first sheet's node order"
  by_number : d.code < ONLY_SECOND → e.code < ONLY_SECOND → d.number < e.number → Precedes d e
  -- "at one node codes rise"
  by_code : e.code < ONLY_SECOND → d.number ≡ e.number → d.code < e.code → Precedes d e
  -- "the second's last"
  second_last : d.code < ONLY_SECOND → e.code ≡ ONLY_SECOND → Precedes d e
  -- "in its order"
  second_by_number : d.code ≡ ONLY_SECOND → e.code ≡ ONLY_SECOND → d.number < e.number → Precedes d e

-- each entry of a list precedes all behind it
unfoldable pub Rising : List Entry → Type 0
Rising [] = Unit {0}
Rising (d ∷ es) = ((e : Entry) → e ∈ es → Precedes d e) × Rising es
