-- What a survey of a sheet says is a fact: it has one proof at most.
use mathlib.Core.List.{List}
use Prim.Native.Nat.{ℕ}
use denote.Struct.Props as logic
use Rattle.sheet.specs.Slot.{slots}
use Rattle.tree.specs.Tree.{Tree, Fields, node, empty, field, Claims, ClaimsAll}
use Rattle.tree.specs.Reading.{trees}
use Rattle.matching.specs.Steps.{Surveyed}

mutual
  unfolding Claims ClaimsAll

  claims_prop : (t : Tree) → IsProp (Claims t)
  claims_prop (node s fs) = Prim.hlevel (claims_all_prop fs, logic.props)

  claims_all_prop : (fs : Fields) → IsProp (ClaimsAll fs)
  claims_all_prop empty = Prim.hlevel logic.props
  claims_all_prop (field t fs) = Prim.hlevel (claims_prop t, claims_all_prop fs, logic.props)

pub surveyed_prop : (bytes ends prints : List ℕ) → IsProp (Surveyed bytes ends prints)
surveyed_prop bytes ends prints = Prim.hlevel (claims_all_prop (trees (slots bytes)), logic.props)
