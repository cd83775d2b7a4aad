-- What the steps of judging answer, which the contracts of private functions cite. Nothing here is a promise to a caller.
use Rattle.std.specs.Prelude.{ℕ, zero, suc, ◌+◌, ◌*◌, ◌-◌, ◌/◌, ◌%◌, ◌^◌, ◌≤◌, ◌<◌, ◌≡◌, cond, not, ◌||◌, List, [], ◌∷◌, map, eqb, length, drop, Option, Some, None, Result, Ok, Err}
use Rattle.refusal.specs.Numbers.{SHAPE, DISAGREEMENT, MISPLACED, BAD_DECIMAL, BAD_LIST, BAD_MAP}
use Rattle.refusal.specs.Outcome.{refusal, no_refusal}
use Rattle.sheet.specs.Block.{total_of, most_nodes}
use Rattle.sheet.specs.Slot.{slots, slot_at, child_count, numbers_of}
use Rattle.sheet.specs.declared.slots.Slot.{Slot as Numbers}
use Rattle.tree.specs.Tree.{SlotBytes, Tree, Fields, node, empty, field, listings, size, depths, run_depths, ClaimsAll, most_depth}
use Rattle.tree.specs.Rules.{under_map_of, rule8, list_kept, map_kept}
use Rattle.tree.specs.Faults.{faults, run_faults}
use Rattle.tree.specs.Reading.{trees, take_fields, first_tree}
use Rattle.parquet.specs.Logical as logical
use Rattle.tree.specs.Judgement.{deepness, first_fault}
use Rattle.annotation.specs.declared.rules.Broken.{Broken}
use Rattle.tree.specs.declared.standing.Standing.{Standing}
use Rattle.tree.specs.declared.faults.Rule.{Rule}
use Rattle.refusal.specs.Outcome.{Verdict}
use Rattle.tree.specs.declared.judging.TooDeep.{TooDeep}
use Rattle.tree.specs.declared.judging.TreeFound.{TreeFound}
use Rattle.tree.specs.declared.judging.RunFound.{RunFound}

-- the tree that stands at number k of some slots
unfoldable pub tree_at : List SlotBytes → ℕ → Tree
tree_at ss k = first_tree (trees (drop k ss))

-- the run of n fields that stands there
unfoldable pub run_at : List SlotBytes → ℕ → ℕ → Fields
run_at ss k n = take_fields n (trees (drop k ss))

-- a sheet whose slots claim rightly
pub record Claimed (bytes : List ℕ) : Type 0 where
  pub total : length (slots bytes) ≡ total_of bytes
  pub most : total_of bytes ≤ most_nodes
  pub claims : ClaimsAll (trees (slots bytes))

-- the run of node k
unfoldable pub fields_at : List ℕ → ℕ → Fields
fields_at bytes k = run_at (slots bytes) (suc k) (child_count (slot_at bytes k))

-- node k of such a sheet, and its numbers
pub record Visited (bytes : List ℕ) (k : ℕ) (s : Numbers) : Type 0 where
  pub claimed : Claimed bytes
  pub below : k < total_of bytes
  pub numbers : s ≡ numbers_of (slot_at bytes k)

-- how many nodes a run has
unfoldable pub sizes : Fields → ℕ
sizes fs = length (listings fs)

-- where the last field of a run stands whose first stands at k, and d where it has none
unfoldable pub last_from : ℕ → ℕ → Fields → ℕ
last_from d k empty = d
last_from d k (field t fs) = last_from k (k + size t) fs

-- where the last field of a tree's root stands, the root at k, and behind the root where it has none
unfoldable pub last_of : ℕ → Tree → ℕ
last_of k (node s fs) = last_from (suc k) (suc k) fs

-- where the last field of a run's last field stands, and d where the run has none
unfoldable pub inner_from : ℕ → ℕ → Fields → ℕ
inner_from d k empty = d
inner_from d k (field t fs) = inner_from (last_of k t) (k + size t) fs

-- what a rule's number counts in a fault, which is one number: the rule's, and below it the node's
abbrev pub rule_weight : ℕ
rule_weight = 2 ^ 24

-- the first fault of nodes that break such rules, the first of them at k, and 0 where there is none
unfoldable pub fault_from : ℕ → List ℕ → ℕ
fault_from k [] = 0
fault_from k (zero ∷ ns) = fault_from (suc k) ns
fault_from k (suc n ∷ ns) = rule_weight * suc n + k

-- the first fault of two
unfoldable pub first_of : ℕ → ℕ → ℕ
first_of zero g = g
first_of (suc f) g = suc f

-- the refusal of a fault
unfoldable pub verdict_of : ℕ → Verdict
verdict_of f = cond (eqb f 0) no_refusal (Err (refusal (f / rule_weight) (f % rule_weight)))

-- the depth at which so many are allowed from there on
unfoldable pub depth_at : ℕ → ℕ
depth_at allowed = suc most_depth - allowed

-- what is found of a tree that is not too deep: where the next tree and the root's last field stand, and the first fault
abbrev pub tree_found : ℕ → ℕ → ℕ → Result TreeFound TooDeep
tree_found next last fault = Ok (record { next = next; last = last; fault = fault })

-- of a run, likewise, with where the last field of the last field stands
abbrev pub run_found : ℕ → ℕ → ℕ → ℕ → Result RunFound TooDeep
run_found next last inner fault = Ok (record { next = next; last = last; inner = inner; fault = fault })

-- of a run before its first field
abbrev pub nothing_found : ℕ → RunFound
nothing_found at = record { next = at; last = at; inner = at; fault = 0 }

-- of what is too deep first at a node
abbrev pub deep_at : {F : Type 0} → ℕ → Result F TooDeep
deep_at at = Err (record { node = at })

-- what is found, where no node is too deep
unfoldable pub or_deep : {F : Type 0} → Verdict → Result F TooDeep → Result F TooDeep
or_deep (Ok _) found = found
or_deep (Err r) found = deep_at r.place

-- what judging finds of a tree whose root has the number `at`
unfoldable pub judged_tree : ℕ → ℕ → ℕ → Standing → Tree → Result TreeFound TooDeep
judged_tree edition at allowed p t =
    or_deep (first_fault at (map deepness (depths (depth_at allowed) t))) (tree_found (at + size t) (last_of at t) (fault_from at (faults edition p t)))

-- and of a run whose next field has it, where a last field, that field's last field and a first fault were found before
unfoldable pub judged_on : ℕ → ℕ → ℕ → Standing → ℕ → ℕ → ℕ → Fields → Result RunFound TooDeep
judged_on edition at allowed p last inner fault fs =
    or_deep (first_fault at (map deepness (run_depths (depth_at allowed) fs)))
    (run_found (at + sizes fs) (last_from last at fs) (inner_from inner at fs) (first_of fault (fault_from at (run_faults edition p fs))))

-- and of a whole run
unfoldable pub judged_run : ℕ → ℕ → ℕ → Standing → Fields → Result RunFound TooDeep
judged_run edition at allowed p fs = judged_on edition at allowed p at at 0 fs

-- the number of a rule that is broken
abbrev pub rule_number : Rule → ℕ
rule_number Rule.Shape = SHAPE
rule_number Rule.Disagreement = DISAGREEMENT
rule_number Rule.Misplaced = MISPLACED
rule_number Rule.BadDecimal = BAD_DECIMAL
rule_number Rule.BadList = BAD_LIST
rule_number Rule.BadMap = BAD_MAP

-- the number of the rule that may be broken, and 0 of none
abbrev pub broken_number : Result (Unit {0}) Rule → ℕ
broken_number (Ok kept) = 0
broken_number (Err rule) = rule_number rule

-- whether a node of some logical type keeps rule 12 there
unfoldable pub list_broken : ℕ → SlotBytes → Fields → Result (Unit {0}) Rule
list_broken code s fs = cond (not (eqb code logical.LIST) || list_kept s fs) (Ok tt) (Err Rule.BadList)

-- the rule that a node's annotations break
abbrev pub annotation_rule : Broken → Rule
annotation_rule Broken.Disagreement = Rule.Disagreement
annotation_rule Broken.Misplaced = Rule.Misplaced
annotation_rule Broken.BadDecimal = Rule.BadDecimal

-- that rule, and where they break none, what is said of the rules behind
abbrev pub unless_annotated : Option Broken → Result (Unit {0}) Rule → Result (Unit {0}) Rule
unless_annotated None next = next
unless_annotated (Some broken) next = Err (annotation_rule broken)

-- whether a node keeps rules 8 to 12, or the first that it breaks, by what judging its annotations found: the rule that they break, and their logical type
unfoldable pub broken_as : Option Broken → ℕ → Standing → SlotBytes → Fields → Result (Unit {0}) Rule
broken_as refusal code p s fs = cond (rule8 p s fs) (unless_annotated refusal (list_broken code s fs)) (Err Rule.Shape)

-- whether it keeps all rules, or the first that it breaks, where that is known of rules 8 to 12 and the node's fields have such a place
abbrev pub broken_with13 : Result (Unit {0}) Rule → Standing → SlotBytes → Fields → Result (Unit {0}) Rule
broken_with13 (Ok kept) below s fs = cond (not (under_map_of below) || map_kept s fs) (Ok tt) (Err Rule.BadMap)
broken_with13 (Err rule) below s fs = Err rule
