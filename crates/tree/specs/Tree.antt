-- Trees of nodes, as document 01 has them under "What makes a tree lawful".
use Rattle.std.specs.Prelude.{ℕ, suc, ◌≤◌, ◌≡◌, List, [], ◌∷◌, ◌++◌, length, get_or}
use Rattle.sheet.specs.Slot.{child_count}

-- a node is a used slot, whole: its 72 bytes. (`sheet`'s record `Slot` is the numbers that they spell.)
abbrev pub SlotBytes : Type 0
SlotBytes = List ℕ

mutual
  -- a tree is a node with its run
  pub data Tree : Type 0 where
    node : SlotBytes → Fields → Tree

  -- a run is empty, or a field and a shorter run
  pub data Fields : Type 0 where
    empty : Fields
    field : Tree → Fields → Fields

-- the slot of a tree's root, and its run
abbrev pub slot_of : Tree → SlotBytes
slot_of (node s fs) = s

abbrev pub run_of : Tree → Fields
run_of (node s fs) = fs

-- a tree's listing: its root, then each field's listing in order
unfoldable mutual
  pub listing : Tree → List SlotBytes
  listing (node s fs) = s ∷ listings fs

  pub listings : Fields → List SlotBytes
  listings empty = []
  listings (field t fs) = listing t ++ listings fs

-- how many fields a run has
unfoldable pub count : Fields → ℕ
count empty = 0
count (field t fs) = suc (count fs)

-- how many nodes a tree has
unfoldable pub size : Tree → ℕ
size t = length (listing t)

-- the depth of each node, in listing order, where the root is at depth d: a field is one deeper than its parent
unfoldable mutual
  pub depths : ℕ → Tree → List ℕ
  depths d (node s fs) = d ∷ run_depths (suc d) fs

  pub run_depths : ℕ → Fields → List ℕ
  run_depths d empty = []
  run_depths d (field t fs) = depths d t ++ run_depths d fs

-- "at most 32 deep"
abbrev pub most_depth : ℕ
most_depth = 32

-- no node of a tree is deeper than n, its root at depth 0
unfoldable pub AtMostDeep : ℕ → Tree → Type 0
AtMostDeep n t = (k : ℕ) → get_or (depths 0 t) k 0 ≤ n

-- each slot claims as many children as its node has fields
unfoldable mutual
  pub Claims : Tree → Type 0
  Claims (node s fs) = (child_count s ≡ count fs) × ClaimsAll fs

  pub ClaimsAll : Fields → Type 0
  ClaimsAll empty = Unit {0}
  ClaimsAll (field t fs) = Claims t × ClaimsAll fs
