-- Which nodes of two trees match (document 02, R-1): "The roots match; children of matched nodes match by name; where siblings share one, the first matches
-- the first, and so on."
use Rattle.std.specs.Prelude.{ℕ, zero, suc, ◌+◌, cond, List, [], ◌∷◌, ◌++◌}
use Rattle.std.proofs.Math.Option.{Option, none, some}
use Rattle.sheet.specs.Slot.{name}
use Rattle.sheet.specs.Name.{same_bytes}
use Rattle.tree.specs.Tree.{Tree, Fields, node, empty, field, size, slot_of, run_of}
-- a type of the code: what a node of the first tree matches, a node of the second, by its number, with the places of both among their siblings
use Rattle.matching.specs.declared.fields.Match.{Match}

-- the name of a tree's root
abbrev pub name_of : Tree → List ℕ
name_of t = name (slot_of t)

-- a field of a node: its number, its place among its siblings, from 0, and the field itself
pub record Sibling : Type 0 where
  pub number : ℕ
  pub place : ℕ
  pub tree : Tree

-- the fields of a run whose first has this number and this place
unfoldable pub siblings : ℕ → ℕ → Fields → List Sibling
siblings number place empty = []
siblings number place (field t fs) = record { number = number; place = place; tree = t } ∷ siblings (number + size t) (suc place) fs

-- how many of some names are this one
unfoldable pub alike : List ℕ → List (List ℕ) → ℕ
alike n [] = 0
alike n (m ∷ ms) = cond (same_bytes m n) (suc (alike n ms)) (alike n ms)

-- of some siblings the one of this name that has so many of the name before it
unfoldable pub nth : List ℕ → ℕ → List Sibling → Option Sibling
nth n i [] = none
nth n zero (c ∷ cs) = cond (same_bytes (name_of c.tree) n) (some c) (nth n zero cs)
nth n (suc i) (c ∷ cs) = cond (same_bytes (name_of c.tree) n) (nth n i cs) (nth n (suc i) cs)

-- of a node with this place that matches a node of the second tree, or none
abbrev pub match_of : ℕ → Option Sibling → Option Match
match_of place none = none
match_of place (some c) = some (record { number = c.number; place = place; other = c.place })

-- the nodes that its fields may match: the fields of the node that it matches
abbrev pub candidates : Option Sibling → List Sibling
candidates none = []
candidates (some c) = siblings (suc c.number) 0 (run_of c.tree)

-- what each node of a tree matches, in listing order, where its root has this place and matches this node, or none; and what each node of a run does, which
-- has these candidates, its first field this place, and siblings of these names before it
unfoldable mutual
  pub matches : ℕ → Option Sibling → Tree → List (Option Match)
  matches place c (node s fs) = match_of place c ∷ run_matches 0 (candidates c) [] fs

  pub run_matches : ℕ → List Sibling → List (List ℕ) → Fields → List (Option Match)
  run_matches place cs before empty = []
  run_matches place cs before (field t fs) =
      matches place (nth (name_of t) (alike (name_of t) before) cs) t ++ run_matches (suc place) cs (name_of t ∷ before) fs

-- "The roots match"
unfoldable pub matching : Tree → Tree → List (Option Match)
matching t u = matches 0 (some (record { number = 0; place = 0; tree = u })) t
