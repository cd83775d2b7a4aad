-- What judging a sheet answers in an edition: refusals 21 and 1 to 13 in their order, with their places, or none.
use Rattle.std.specs.Prelude.{ℕ, zero, suc, cond, not, List, [], ◌∷◌, map, leb, ltb, length}
use Rattle.refusal.specs.Numbers.{MISSING_NODES, LEFT_OVER, TOO_DEEP}
use Rattle.refusal.specs.Outcome.{Outcome, given, refused, refusal, no_refusal}
use Rattle.sheet.specs.Block.{total_of}
use Rattle.sheet.specs.First.{first_wrong}
use Rattle.sheet.specs.Opening as sheet
use Rattle.tree.specs.Tree.{SlotBytes, Tree, depths, most_depth}
use Rattle.tree.specs.Faults.{faults}
use Rattle.tree.specs.Reading.{tree_of}
use Rattle.tree.specs.OpenPlaces.{open_places, is_no_place}
use Rattle.tree.specs.declared.standing.Standing.TheVariants.{Root}
use Rattle.refusal.specs.Outcome.{Counted, Verdict}
use Rattle.std.specs.Prelude.{Ok, Err}

-- the first refusal of two
unfoldable pub or_else : Verdict → Verdict → Verdict
or_else (Ok _) next = next
or_else (Err r) next = Err r

-- "Refusal 6: zero open places at some k below T, place the least such k"
unfoldable pub left_over : List SlotBytes → Verdict
left_over ss =
    let k = first_wrong (λ j. not (is_no_place (open_places ss j))) (length ss) in
    cond (ltb k (length ss)) (Err (refusal LEFT_OVER k)) no_refusal

-- "Refusal 5: otherwise, open places left after T"
unfoldable pub missing : List SlotBytes → Verdict
missing ss = cond (is_no_place (open_places ss (length ss))) no_refusal (Err (refusal MISSING_NODES (length ss)))

-- the first number of a list that is not 0, at its place, the first place being k
unfoldable pub first_fault : ℕ → List ℕ → Verdict
first_fault k [] = no_refusal
first_fault k (zero ∷ ns) = first_fault (suc k) ns
first_fault k (suc n ∷ ns) = Err (refusal (suc n) k)

-- refusal 7 at a depth, 0 where it is not too deep
unfoldable pub deepness : ℕ → ℕ
deepness d = cond (leb d most_depth) 0 TOO_DEEP

unfoldable pub too_deep : Tree → Verdict
too_deep t = first_fault 0 (map deepness (depths 0 t))

-- refusals 8 to 13, "node by node, at one node in number order"
unfoldable pub unlawful : ℕ → Tree → Verdict
unlawful edition t = first_fault 0 (faults edition Root t)

-- refusals 6, then 5 ("otherwise"), then 7, then 8 to 13, each judged over the whole sheet
unfoldable pub tree_refusal : ℕ → List SlotBytes → Verdict
tree_refusal edition ss = or_else (left_over ss) (or_else (missing ss) (or_else (too_deep (tree_of ss)) (unlawful edition (tree_of ss))))

-- refusals 21, then 1 to 13
unfoldable pub judged_as : ℕ → Outcome sheet.Nodes → Verdict
judged_as edition (refused r) = Err r
judged_as edition (given nodes) = tree_refusal edition nodes.used

unfoldable pub judgement : ℕ → List ℕ → Verdict
judgement edition bytes = judged_as edition (sheet.outcome edition bytes)

-- an answer to a sheet of so many nodes: that number where it is lawful, or the refusal
unfoldable pub judged_nodes : Verdict → ℕ → Counted
judged_nodes (Ok _) total = Ok total
judged_nodes (Err r) total = Err r

-- what judging answers for any bytes in any edition
unfoldable pub judgement_of : ℕ → List ℕ → Counted
judgement_of edition bytes = judged_nodes (judgement edition bytes) (total_of bytes)
