-- What is kept of a sheet that claims rightly and of a visited node is a fact: it has one proof at most.
use mathlib.Core.List.{List}
use Prim.Native.Nat.{ℕ}
use denote.Struct.Props as logic
use Rattle.sheet.specs.Slot.{slots}
use Rattle.sheet.specs.declared.slots.Slot.{Slot as Numbers}
use Rattle.tree.specs.Tree.{Tree, Fields, node, empty, field, Claims, ClaimsAll}
use Rattle.tree.specs.Reading.{trees}
use Rattle.tree.specs.Steps.{Claimed, Visited}

mutual
  unfolding Claims ClaimsAll

  claims_prop : (t : Tree) → IsProp (Claims t)
  claims_prop (node s fs) = Prim.hlevel (claims_all_prop fs, logic.props)

  claims_all_prop : (fs : Fields) → IsProp (ClaimsAll fs)
  claims_all_prop empty = Prim.hlevel logic.props
  claims_all_prop (field t fs) = Prim.hlevel (claims_prop t, claims_all_prop fs, logic.props)

pub claimed_prop : (bytes : List ℕ) → IsProp (Claimed bytes)
claimed_prop bytes = Prim.hlevel (claims_all_prop (trees (slots bytes)), logic.props)

pub visited_prop : (bytes : List ℕ) (k : ℕ) (s : Numbers) → IsProp (Visited bytes k s)
visited_prop bytes k s = Prim.hlevel (claims_all_prop (trees (slots bytes)), logic.props)
