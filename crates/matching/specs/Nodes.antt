-- The nodes of a tree by number, place and tree, and which nodes of two trees match.
use Rattle.std.specs.Prelude.{ℕ, suc, ◌≡◌, List, [], ◌∷◌, take, get_or}
use Rattle.std.proofs.Math.Option.{none, some}
use Rattle.std.proofs.Math.ListN.{get_elem?}
use Rattle.tree.specs.Tree.{Tree, run_of}
use Rattle.matching.specs.Matching.{Sibling, name_of, siblings, alike, matching}

-- a tree's root: node 0, at place 0
abbrev pub root_of : Tree → Sibling
root_of t = record { number = 0; place = 0; tree = t }

-- a node's fields, numbered from the node behind it on, their places from 0
abbrev pub fields_of : Sibling → List Sibling
fields_of c = siblings (suc c.number) 0 (run_of c.tree)

-- the second node is a field of the first: it stands among the first's fields, at its place
abbrev pub IsField : Sibling → Sibling → Type 0
IsField c d = get_elem? (fields_of c) d.place ≡ some d

-- the nodes of the tree that stands at a node: that node, and the nodes of its fields
pub data Within : Sibling → Sibling → Type 0 where
  here : {b : Sibling} → Within b b
  inside : {b c d : Sibling} → IsField b c → Within c d → Within b d

-- the nodes of a tree
abbrev pub IsNode : Tree → Sibling → Type 0
IsNode t c = Within (root_of t) c

-- the names of some siblings
abbrev pub names : List Sibling → List (List ℕ)
names [] = []
names (c ∷ cs) = name_of c.tree ∷ names cs

-- how many fields of its name stand before a node's field
abbrev pub ordinal : Sibling → Sibling → ℕ
ordinal c a = alike (name_of a.tree) (names (take a.place (fields_of c)))

-- the matching's answer for a node of the first tree is this node of the second, with the places of both
abbrev pub Matched : Tree → Tree → Sibling → Sibling → Type 0
Matched t u c d = get_or (matching t u) c.number none ≡ some (record { number = d.number; place = c.place; other = d.place })

-- the matching has no match for a node of the first tree
abbrev pub Unmatched : Tree → Tree → Sibling → Type 0
Unmatched t u c = get_or (matching t u) c.number none ≡ none
