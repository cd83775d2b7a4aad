-- What the steps of comparing answer, which the contracts of private functions cite. Nothing here is a promise to a caller.
use Rattle.std.specs.Prelude.{ℕ, suc, ◌+◌, ◌*◌, ◌≤◌, ◌<◌, ◌≡◌, Bool, true, false, cond, List, [], ◌∷◌, ◌++◌, map, leb, length, get_or, set, take, Result}
use Rattle.std.proofs.Math.Option.{Option, none, some}
use Rattle.laws.specs.Stretches.{stretched}
use Rattle.sheet.specs.Block.{slot_size, most_nodes, total_of}
use Rattle.sheet.specs.Slot.{slots, reaches}
use Rattle.tree.specs.Tree.{SlotBytes, listing}
use Rattle.tree.specs.Reading.{tree_of}
use Rattle.tree.specs.Judgement.{judgement_of}
use Rattle.std.specs.Prelude.{Ok, Option as Found, Some, None}
use Rattle.matching.specs.Matching.{matching}
use Rattle.matching.specs.declared.fields.Match.{Match}
use Rattle.matching.specs.Outcome.{matches_of}
use Rattle.refusal.specs.declared.answers.Fault.{Fault}
use Rattle.differences.specs.Entry.{Entry, SlotField, entry, entry_size, entry_bytes, ONLY_SECOND}
use Rattle.differences.specs.Differences.{is_matched}
use Rattle.differences.specs.Outcome.{compare_outcome, compare_written}
use Rattle.differences.specs.declared.fields.Field.{Field}

-- an output with an entry as its n-th, from 0, where there is room for it
unfoldable pub put : List ℕ → ℕ → Entry → List ℕ
put out n e = cond (leb (entry_size * suc n) (length out)) (stretched out (entry_size * n) (entry_bytes e)) out

-- and with some entries from the n-th on
unfoldable pub put_all : List ℕ → ℕ → List Entry → List ℕ
put_all out n [] = out
put_all out n (e ∷ es) = put_all (put out n e) (suc n) es

-- what putting some entries answers, the number of all, and what the output then holds
pub record Puts (out : List ℕ) (n : ℕ) (es : List Entry) (held : List ℕ) (r : ℕ) : Type 0 where
  pub counts : r ≡ n + length es
  pub holds : held ≡ put_all out n es

-- a slot is whole
abbrev pub IsWhole : SlotBytes → Type 0
IsWhole s = length s ≡ slot_size

-- a field of a slot as the code has it
abbrev pub field_of : Field → SlotField
field_of f = record { code = f.code; width = f.width }

-- what a node matches, if it matches one, as the definitions have it: the code's Option is another type than theirs
abbrev pub match_in : Found Match → Option Match
match_in None = none
match_in (Some m) = some m

-- the bytes of a sheet reach all of its nodes' slots, of which there are so many
pub record Reached (bytes : List ℕ) (nodes : ℕ) : Type 0 where
  pub total : nodes ≡ total_of bytes
  pub most : nodes ≤ most_nodes
  pub reached : (k : ℕ) → k < nodes → reaches bytes k ≡ true

-- what is matched is a node of a sheet whose slot its bytes reach, or none
abbrev pub Names : List ℕ → Found Match → Type 0
Names bytes None = Unit {0}
Names bytes (Some m) = (reaches bytes m.number ≡ true) × (m.number < total_of bytes)

-- two sheets, and what each node of the first matches in the second
pub record Numbered (first second : List ℕ) (nodes others : ℕ) (found : List (Found Match)) : Type 0 where
  pub one : Reached first nodes
  pub other : Reached second others
  pub long : length found ≡ most_nodes
  pub names : (k : ℕ) → Names second (get_or found k None)

-- and this is what matches in the two
pub record Lists (first second : List ℕ) (nodes : ℕ) (found : List (Found Match)) : Type 0 where
  pub is : map match_in (take nodes found) ≡ matching (tree_of (slots first)) (tree_of (slots second))
  pub one : listing (tree_of (slots first)) ≡ slots first
  pub other : listing (tree_of (slots second)) ≡ slots second

-- two sheets that are accepted in one edition, and what matches in them
pub record Comparable (first second : List ℕ) (nodes others : ℕ) (found : List (Found Match)) : Type 0 where
  pub edition : ℕ
  pub one : judgement_of edition first ≡ Ok nodes
  pub other : judgement_of edition second ≡ Ok others
  pub are : found ≡ matches_of first second

-- what comparing a sheet with itself answers, whatever is lent, and that nothing is then written
pub record Self (edition : ℕ) (sheet : List ℕ) (r : Result ℕ Fault) : Type 0 where
  pub answers : (lent : ℕ) → r ≡ compare_outcome edition sheet sheet lent
  pub kept : (out : List ℕ) → out ≡ compare_written r sheet sheet out

-- of the second's nodes from node j on, those that are not marked
unfoldable pub unmarked_entries : List Bool → ℕ → List SlotBytes → List Entry
unmarked_entries marks j [] = []
unmarked_entries marks j (s ∷ ss) = cond (get_or marks j false) [] (entry ONLY_SECOND j [] s ∷ []) ++ unmarked_entries marks (suc j) ss

-- each node that some nodes match is marked
pub record Marks (found : List (Found Match)) (marks : List Bool) : Type 0 where
  pub long : length marks ≡ most_nodes
  pub mark_at : (j : ℕ) → j < most_nodes → get_or marks j false ≡ is_matched j (map match_in found)

-- and the node that one matches, if it matches one
abbrev pub marked : List Bool → Found Match → List Bool
marked marks None = marks
marked marks (Some m) = set marks m.number true
