-- Demand 3. "Whatever bytes are offered as a sheet, given sound blocks, sound node slots and enough output, the sheet is accepted exactly when some tree, at most
-- 32 deep, keeps every listed rule, gives each node as many children as its slot claims, and has the sheet's nodes as its listing, parent first and children
-- in order. The rules speak of trees and never of a reader. Any two such trees are equal. The rows written are that tree's rows, one for each node in listing
-- order, equal in every number."
--
-- A tree is a root with its run (`tree/specs/Tree`), and the rules are judged on it alone (`tree/specs/Rules`); `IsTreeOf` puts the demand's four parts together
-- (`schema/specs/Demand`). None of them names a reader. Each edition has its rules (document 02, R-4).
use Rattle.std.specs.Prelude.{ℕ, ◌*◌, ◌<◌, ◌≡◌, ◌⊎◌, ◌↔◌, List, ◌++◌, length, drop}
use Rattle.sheet.specs.Block.{total_of}
use Rattle.sheet.specs.Opening.{open_of}
use Rattle.refusal.specs.Outcome.{refusal, no_refusal}
use Rattle.std.specs.Prelude.{Ok, Err}
use Rattle.tree.specs.Tree.{SlotBytes, Tree, Claims, listing, size}
use Rattle.tree.specs.Judgement.{or_else, left_over, missing, too_deep, unlawful, tree_refusal}
use Rattle.schema.specs.Rows.{rows, row_width, number_in}
use Rattle.schema.specs.Roles.{Ascent, ascent, IsField, IsListLayer, IsElement, IsElementLayer, IsKeyValueLayer, IsKey, IsValue, IsBareRepeated}
use Rattle.schema.specs.Outcome.{outcome, written}
use Rattle.schema.specs.Demand.{IsTreeOf, Sound, EnoughOutput, Accepted}

-- the role of node k, whose way up is a, exactly where the sentence of its number holds
pub record RoleIn (number : ℕ) (a : Ascent) : Type 0 where
  -- "0 field, 1 list layer, 2 element (a rule 1 leaf too), 3 group layer that is the element, 4 key_value layer, 5 key, 6 value, 7 bare repeated"
  pub field : (number ≡ 0) ↔ IsField a
  pub list_layer : (number ≡ 1) ↔ IsListLayer a
  pub element : (number ≡ 2) ↔ IsElement a
  pub element_layer : (number ≡ 3) ↔ IsElementLayer a
  pub key_value_layer : (number ≡ 4) ↔ IsKeyValueLayer a
  pub key : (number ≡ 5) ↔ IsKey a
  pub value : (number ≡ 6) ↔ IsValue a
  pub bare_repeated : (number ≡ 7) ↔ IsBareRepeated a

pub record Demand3 (edition : ℕ) : Type 1 where
  -- "given sound blocks, sound node slots and enough output, the sheet is accepted exactly when some tree .."
  pub accepted_exactly : (sheet : List ℕ) (lent : ℕ) → Sound edition sheet → EnoughOutput sheet lent → Accepted (outcome edition sheet lent) ↔ ((t : Tree) × IsTreeOf edition sheet t)
  -- "Any two such trees are equal"
  pub one_tree : (sheet : List ℕ) (t u : Tree) → IsTreeOf edition sheet t → IsTreeOf edition sheet u → t ≡ u
  -- "The rows written are that tree's rows, .. equal in every number", and numbers beyond them stay
  pub rows_are : (sheet lent : List ℕ) (t : Tree) → Sound edition sheet → EnoughOutput sheet (length lent) → IsTreeOf edition sheet t → written (outcome edition sheet (length lent)) sheet lent ≡ rows t ++ drop (row_width * total_of sheet) lent
  -- "one for each node in listing order": eleven numbers each
  pub rows_length : (sheet : List ℕ) (t : Tree) → IsTreeOf edition sheet t → length (rows t) ≡ row_width * total_of sheet
  -- the roles in terms of the tree
  pub roles : (sheet : List ℕ) (t : Tree) → IsTreeOf edition sheet t → (k : ℕ) → k < size t → RoleIn (number_in (rows t) k 8) (ascent t k)
  -- "blocks are sound where refusals 1 to 3 don't hold, node slots where 4 doesn't", and the edition is known: together, exactly where opening refuses nothing
  pub sound_exactly : (sheet : List ℕ) → Sound edition sheet ↔ (open_of edition sheet ≡ Ok (total_of sheet))
  -- of refusal 6, refusal 5 and a tree that claims rightly and lists the slots, one holds, with the refusal's place
  pub six_five_or_tree : (ss : List SlotBytes) → ((k : ℕ) × (k < length ss) × (left_over ss ≡ Err (refusal 6 k))) ⊎ (((left_over ss ≡ no_refusal) × (missing ss ≡ Err (refusal 5 (length ss)))) ⊎ ((t : Tree) × Claims t × (listing t ≡ ss)))
  -- and where there is such a tree, neither refusal is given
  pub tree_neither : (ss : List SlotBytes) (t : Tree) → Claims t → listing t ≡ ss → (left_over ss ≡ no_refusal) × (missing ss ≡ no_refusal)
  -- refusals 7 to 13, with their places, are then those of that tree: its first node that is too deep, else its first node that breaks a rule
  pub seven_to_thirteen : (ss : List SlotBytes) (t : Tree) → Claims t → listing t ≡ ss → tree_refusal edition ss ≡ or_else (too_deep t) (unlawful edition t)
