-- Demand 3: a sheet of sound blocks and slots is accepted exactly where it has a tree, it has one at the most, and the rows written are that tree's.
use Prim.Native.Nat.{ℕ, ◌*◌, ◌≤◌}
use mathlib.Core.Path.{◌≡◌, refl, sym, ap, ◌∙◌, subst}
use mathlib.Core.Logic.{◌↔◌}
use mathlib.Core.List.{List, [], ◌++◌}
use borrow.Author.Tests.{le-ltb}
use lib.ListN.{length, drop}
use Rattle.sheet.specs.Block.{total_of}
use Rattle.sheet.specs.Opening as sheet
use Rattle.sheet.specs.Slot.{slots}
use Rattle.refusal.specs.Outcome.{Verdict}
use Rattle.std.specs.Prelude.{Ok, Err}
use Rattle.sheet.proofs.OpeningLaws.{open_of_accepts, open_of_known, open_of_blocks, open_of_slots}
use Rattle.sheet.proofs.SlotLaws.{slots_length}
use Rattle.tree.specs.Tree.{Tree, size}
use Rattle.schema.specs.Rows.{rows, row_width}
use Rattle.tree.specs.Reading.{tree_of}
use Rattle.tree.specs.Judgement.{tree_refusal, judged_as, judgement}
use Rattle.schema.specs.Outcome.{answer, outcome, written}
use Rattle.schema.specs.Demand.{IsTreeOf, Sound, EnoughOutput, Accepted}
use Rattle.refusal.specs.declared.answers.Refusal.{Refusal}
use Rattle.schema.specs.declared.roles.Parent.TheVariants.{Other}
use Rattle.schema.proofs.RowsLaws.{length_rows_from}
use Rattle.tree.proofs.TreeOfLaws.{tree_of_listing, fills_listing, fills_claims, accepted_fills}
use Rattle.tree.proofs.TreeLaws.{listing_injective}
use Rattle.tree.proofs.OpenPlacesLaws.{Fills, tree_fills}
use Rattle.tree.proofs.PlacesLaws.{fills_left_over, fills_missing}
use Rattle.tree.proofs.FaultLaws.{or_else_none, none_or_else, at_most_deep_none, none_at_most_deep, keeps_none, none_keeps}

-- no refusal of 5 to 13 holds where the slots are listed by a tree that is not too deep, keeps every rule and claims rightly
pub tree_accepted : (edition : ℕ) (bytes : List ℕ) (t : Tree) → IsTreeOf edition bytes t → tree_refusal edition (slots bytes) ≡ Ok tt
unfolding tree_refusal
tree_accepted edition bytes t h =
    let f : Fills 1 (slots bytes) = subst (Fills 1) h.lists (tree_fills t h.claims) in
    let e : tree_of (slots bytes) ≡ t = tree_of_listing t (slots bytes) h.claims h.lists in
    or_else_none _ _ (fills_left_over (slots bytes) f)
    (or_else_none _ _ (fills_missing (slots bytes) f)
    (or_else_none _ _ (rw e (at_most_deep_none t h.deep)) (rw e (keeps_none edition t h.keeps))))

pub accepted_tree : (edition : ℕ) (bytes : List ℕ) → tree_refusal edition (slots bytes) ≡ Ok tt → IsTreeOf edition bytes (tree_of (slots bytes))
unfolding tree_refusal
accepted_tree edition bytes e =
    let a = none_or_else _ _ e in
    let b = none_or_else _ _ a.1 in
    let c = none_or_else _ _ b.1 in
    let f : Fills 1 (slots bytes) = accepted_fills (slots bytes) a.0 b.0 in
    record {
      deep = none_at_most_deep (tree_of (slots bytes)) c.0;
      keeps = none_keeps edition (tree_of (slots bytes)) c.1;
      claims = fills_claims (slots bytes) f;
      lists = fills_listing (slots bytes) f;
    }

pub sound_judgement : (edition : ℕ) (bytes : List ℕ) → Sound edition bytes → judgement edition bytes ≡ tree_refusal edition (slots bytes)
unfolding judgement judged_as sheet.outcome sheet.outcome_of
sound_judgement edition bytes s = rw (open_of_accepts edition bytes s.known s.blocks s.slots)

pub accepted_no_refusal : (r : Verdict) (t lent : ℕ) → Accepted (answer r t lent) → r ≡ Ok tt
unfolding Accepted answer
accepted_no_refusal (Ok _) t lent a = refl
accepted_no_refusal (Err r) t lent a = absurd a

pub no_refusal_rows : (r : Verdict) (t lent : ℕ) → r ≡ Ok tt → row_width * t ≤ lent → answer r t lent ≡ Ok t
unfolding answer
no_refusal_rows r t lent e h = rw (e, le-ltb lent (row_width * t) h)

-- where a sheet has a tree and output is enough, the answer is its T rows
pub tree_rows : (edition : ℕ) (bytes : List ℕ) (lent : ℕ) (t : Tree) → Sound edition bytes → EnoughOutput bytes lent → IsTreeOf edition bytes t → outcome edition bytes lent ≡ Ok (total_of bytes)
unfolding outcome EnoughOutput
tree_rows edition bytes lent t s n h =
    no_refusal_rows (judgement edition bytes) (total_of bytes) lent (sound_judgement edition bytes s ∙ tree_accepted edition bytes t h) n

-- a sheet is accepted exactly where some tree, at most 32 deep, keeps every rule, claims its children rightly and lists the sheet's nodes
pub accepted_exactly : (edition : ℕ) (bytes : List ℕ) (lent : ℕ) → Sound edition bytes → EnoughOutput bytes lent → Accepted (outcome edition bytes lent) ↔ ((t : Tree) × IsTreeOf edition bytes t)
unfolding outcome Accepted
accepted_exactly edition bytes lent s n = (
  (λ a. (tree_of (slots bytes), accepted_tree edition bytes (sym (sound_judgement edition bytes s) ∙ accepted_no_refusal (judgement edition bytes) (total_of bytes) lent a))),
  (λ h. subst Accepted (sym (tree_rows edition bytes lent h.0 s n h.1)) tt),
)

-- any two such trees are equal
pub one_tree : (edition : ℕ) (bytes : List ℕ) (t u : Tree) → IsTreeOf edition bytes t → IsTreeOf edition bytes u → t ≡ u
one_tree edition bytes t u h k = listing_injective t u h.claims k.claims (h.lists ∙ sym k.lists)

-- the rows written are that tree's, and what stood past them stays
pub rows_are : (edition : ℕ) (bytes lent : List ℕ) (t : Tree) → Sound edition bytes → EnoughOutput bytes (length lent) → IsTreeOf edition bytes t → written (outcome edition bytes (length lent)) bytes lent ≡ rows t ++ drop (row_width * total_of bytes) lent
unfolding written
rows_are edition bytes lent t s n h =
    rw (tree_rows edition bytes (length lent) t s n h, tree_of_listing t (slots bytes) h.claims h.lists)

-- what judging refuses, resolving refuses so, whatever is lent
pub refused_resolving : (edition : ℕ) (bytes : List ℕ) (lent : ℕ) (r : Refusal) → judgement edition bytes ≡ Err r → outcome edition bytes lent ≡ Err r
unfolding outcome answer
refused_resolving edition bytes lent r e = rw e

-- a refusal changes nothing
pub refused_unchanged : (edition : ℕ) (bytes lent : List ℕ) (r : Refusal) → outcome edition bytes (length lent) ≡ Err r → written (outcome edition bytes (length lent)) bytes lent ≡ lent
unfolding written
refused_unchanged edition bytes lent r e = rw e

-- a sheet's tree has T nodes
pub size_is : (edition : ℕ) (bytes : List ℕ) (t : Tree) → IsTreeOf edition bytes t → size t ≡ total_of bytes
unfolding size
size_is edition bytes t h = ap length h.lists ∙ slots_length bytes

-- the rows of a sheet's tree are as many numbers as its nodes need
pub rows_length : (edition : ℕ) (bytes : List ℕ) (t : Tree) → IsTreeOf edition bytes t → length (rows t) ≡ row_width * total_of bytes
unfolding rows
rows_length edition bytes t h = length_rows_from t 0 0 Other [] [] ∙ ap (λ (n : ℕ). row_width * n) (size_is edition bytes t h)

-- blocks and slots are sound exactly where opening gives no refusal
pub sound_exactly : (edition : ℕ) (bytes : List ℕ) → Sound edition bytes ↔ (sheet.open_of edition bytes ≡ Ok (total_of bytes))
sound_exactly edition bytes = (
  (λ s. open_of_accepts edition bytes s.known s.blocks s.slots),
  (λ e. record { known = open_of_known edition bytes (total_of bytes) e; blocks = open_of_blocks edition bytes (total_of bytes) e; slots = open_of_slots edition bytes (total_of bytes) e }),
)
