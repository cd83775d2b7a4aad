-- The second's slots that match none, put in among those that match one, in the second's order.
use Prim.Native.Nat.{ℕ, suc}
use mathlib.Core.Path.{◌≡◌, refl, ◌∙◌}
use mathlib.Core.Bool.{true, false}
use mathlib.Core.List.{List, [], ◌∷◌, ◌++◌, append-nil}
use mathlib.Core.Option.{Option, none, some}
use native.Mathlib.Omega.{arith}
use lib.ListN.{length, length-append}
use lib.Seq.{take_at, drop_at, append_snoc}
use Rattle.sheet.specs.Block.{slot_size}
use Rattle.tree.specs.Tree.{SlotBytes}
use Rattle.matching.specs.declared.fields.Match.{Match}
use Rattle.differences.specs.Entry.{Entry, entry, filled, ONLY_SECOND}
use Rattle.differences.specs.Differences.{is_matched, second_entries}
use Rattle.differences.specs.Rebuilding.{with_only}
use Rattle.differences.proofs.WholeLaws.{AllWhole, whole_rest}
use Rattle.differences.proofs.MatchedSlotsLaws.{kept}

-- a whole slot is not filled
filled_whole : (s : SlotBytes) → length s ≡ slot_size → filled s ≡ s
unfolding filled
filled_whole s e = rw e (append-nil s)

-- a node of the second, by what it matches: some node of the first matches it just where it matches one
abbrev pub Flag : List (Option Match) → ℕ → Option Match → Type 0
Flag ms j none = is_matched j ms ≡ false
Flag ms j (some n) = is_matched j ms ≡ true

-- this of the nodes from number j on
unfoldable pub Flagged : List (Option Match) → ℕ → List (Option Match) → Type 0
Flagged ms j [] = Unit {0}
Flagged ms j (n ∷ ns) = Flag ms j n × Flagged ms (suc j) ns

-- one slot put in behind those that are done
with_only_one : (front rest : List SlotBytes) (j : ℕ) (s : SlotBytes) (es : List Entry) → length front ≡ j → length s ≡ slot_size
    → with_only (front ++ rest) (entry ONLY_SECOND j [] s ∷ es) ≡ with_only (front ++ s ∷ rest) es
unfolding with_only
with_only_one front rest j s es e long = rw (take_at front rest j e, drop_at front rest j e, filled_whole s long)

-- behind those that are done, the others
with_only_rest : (ms : List (Option Match)) (ss : List SlotBytes) (ns : List (Option Match)) (front : List SlotBytes) (j : ℕ) → length front ≡ j
    → length ns ≡ length ss → AllWhole ss → Flagged ms j ns
    → with_only (front ++ kept ns ss) (second_entries ms j ss) ≡ front ++ ss
unfolding with_only kept second_entries Flagged
with_only_rest ms [] [] front j at e whole flags = refl
with_only_rest ms [] (n ∷ ns) front j at e whole flags = absurd (omega arith)
with_only_rest ms (s ∷ ss) [] front j at e whole flags = absurd (omega arith)
with_only_rest ms (s ∷ ss) (none ∷ ns) front j at e whole flags =
    let more = front ++ (s ∷ []) in
    let rest = with_only_rest ms ss ns more (suc j) (omega (arith, length-append front (s ∷ []))) (omega arith) (whole_rest s ss whole) flags.1 in
    rw flags.0
    (with_only_one front (kept ns ss) j s (second_entries ms (suc j) ss) at (whole 0 (omega arith)).long
    ∙ simp append_snoc at rest)
with_only_rest ms (s ∷ ss) (some n ∷ ns) front j at e whole flags =
    let more = front ++ (s ∷ []) in
    let rest = with_only_rest ms ss ns more (suc j) (omega (arith, length-append front (s ∷ []))) (omega arith) (whole_rest s ss whole) flags.1 in
    rw flags.0 (simp append_snoc at rest)

-- all of the second's
pub with_only_second : (ms ns : List (Option Match)) (ss : List SlotBytes) → length ns ≡ length ss
    → AllWhole ss → Flagged ms 0 ns → with_only (kept ns ss) (second_entries ms 0 ss) ≡ ss
with_only_second ms ns ss e whole flags = with_only_rest ms ss ns [] 0 refl e whole flags
