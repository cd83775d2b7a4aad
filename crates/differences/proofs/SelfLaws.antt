-- A tree and itself have no differences.
use Prim.Native.Nat.{ℕ, suc, ◌+◌, ◌<◌}
use mathlib.Core.Path.{◌≡◌, refl, ap₂, subst}
use mathlib.Core.List.{List, [], ◌∷◌, ◌++◌}
use mathlib.Core.Option.{Option, none, some}
use native.Mathlib.Omega.{arith}
use native.Mathlib.Nat.{zero-add, add-zero}
use lib.ListN.{length, get_or}
use borrow.Author.Tests.{eq-eqb}
use Rattle.sheet.specs.Slot.{empty_slot}
use Rattle.sheet.proofs.NameLaws.{same_bytes_true}
use Rattle.tree.specs.Tree.{SlotBytes, Tree, listing, size}
use Rattle.matching.specs.Matching.{matching}
use Rattle.matching.specs.declared.fields.Match.{Match}
use Rattle.matching.proofs.MatchingLaws.{matching_self}
use Rattle.differences.specs.Entry.{SlotField, slot_fields}
use Rattle.differences.specs.Differences.{content, field_entries, place_entries, node_entries, first_entries, second_entries, list_of, differences}
use Rattle.differences.proofs.StandLaws.{Stand, stand_own}
use Rattle.differences.proofs.FlagLaws.{matched_by}

-- a slot and itself differ in no field
fields_self : (k : ℕ) (s : SlotBytes) (fs : List SlotField) → field_entries k s s fs ≡ []
unfolding field_entries
fields_self k s [] = refl
fields_self k s (f ∷ fs) = rw (same_bytes_true (content f s) (content f s) refl) (fields_self k s fs)

-- a node that matches itself, at its own place, is not listed
node_self : (others : List SlotBytes) (k q : ℕ) (s : SlotBytes) → get_or others k empty_slot ≡ s
    → node_entries others k s (some (record { number = k; place = q; other = q })) ≡ []
unfolding node_entries place_entries
node_self others k q s e = rw (e, fields_self k s slot_fields, eq-eqb q q refl)

-- node k matches itself, at its own place; and so do the nodes of some slots from it on
abbrev Self : List (Option Match) → ℕ → Type 0
Self ms k = (q : ℕ) × (get_or ms k none ≡ some (record { number = k; place = q; other = q }))

abbrev Selfs : List (Option Match) → ℕ → List SlotBytes → Type 0
Selfs ms k ss = (i : ℕ) → i < length ss → Self ms (k + i)

module _ (ms : List (Option Match)) where
  -- all but the first, and the first
  selfs_rest : (k : ℕ) (s : SlotBytes) (ss : List SlotBytes) → Selfs ms k (s ∷ ss) → Selfs ms (suc k) ss
  selfs_rest k s ss h i l = subst (Self ms) {x = k + suc i} {y = suc k + i} (omega arith) (h (suc i) (omega arith))

  selfs_first : (k : ℕ) (s : SlotBytes) (ss : List SlotBytes) → Selfs ms k (s ∷ ss) → Self ms k
  selfs_first k s ss h = rw (add-zero k) at (h 0 (omega arith))

  -- no such node is listed, in either tree's order
  first_self : (others : List SlotBytes) (k : ℕ) (ss : List SlotBytes) → Stand others k ss → Selfs ms k ss → first_entries others ms k ss ≡ []
  unfolding first_entries Stand
  first_self others k [] stand h = refl
  first_self others k (s ∷ ss) stand h =
      let self = selfs_first k s ss h in
      rw (self.1, node_self others k self.0 s stand.0) (first_self others (suc k) ss stand.1 (selfs_rest k s ss h))

  second_self : (k : ℕ) (ss : List SlotBytes) → Selfs ms k ss → second_entries ms k ss ≡ []
  unfolding second_entries
  second_self k [] h = refl
  second_self k (s ∷ ss) h =
      let self = selfs_first k s ss h in
      rw (matched_by ms k (record { number = k; place = self.0; other = self.0 }) self.1) (second_self (suc k) ss (selfs_rest k s ss h))

-- a tree and itself
pub differences_self : (t : Tree) → differences t t ≡ []
unfolding differences list_of
differences_self t =
    ap₂ ◌++◌ (first_self (matching t t) (listing t) 0 (listing t) (stand_own (listing t)) selfs) (second_self (matching t t) 0 (listing t) selfs)
  where
    selfs : Selfs (matching t t) 0 (listing t)
    selfs i h = rw (zero-add i) (matching_self t i (unfold size in h))
