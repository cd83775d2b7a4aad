-- The steps of rewriting: what is written of a tree that keeps the rules, one node after the other. A MAP's one child stands right behind it, and no other node's
-- parent is a MAP.
use mathlib.Core.Path.{◌≡◌, refl, sym, ap, ◌∙◌}
use mathlib.Core.Bool.{Bool, true, false}
use mathlib.Core.List.{List, [], ◌∷◌, ◌++◌, append_assoc, append-nil}
use Prim.Native.Nat.{ℕ, suc, ◌+◌, ◌≤◌, ◌<◌}
use native.Mathlib.Omega.{arith}
use native.Mathlib.Numerals.{add-one}
use Rattle.laws.proofs.BoolLaws.{and_right, implied}
use lib.ListN.{length, length-append, drop, drop_of_length-le}
use Rattle.sheet.specs.Block.{total_of}
use Rattle.sheet.specs.Slot.{repetition, slots, slot_at}
use Rattle.sheet.proofs.SlotLaws.{slots_length, slots_drop}
use Rattle.parquet.specs.Logical as logical
use Rattle.annotation.specs.Rewriting.{written_of}
use Rattle.annotation.specs.declared.rewriting.Written as numbers
use Rattle.annotation.proofs.RewritingLaws.{written_kind}
use Rattle.tree.specs.Annotated.{annotated, kind}
use Rattle.tree.specs.Tree.{SlotBytes, Tree, Fields, node, empty, field, listing, listings, size}
use Rattle.tree.specs.Rules.{under_map_of, standing_below, is_map, is_required_or_optional, map_run, map_kept, rule13, Keeps, KeepsAll}
use Rattle.tree.specs.Reading.{tree_of}
use Rattle.tree.specs.Steps.{sizes}
use Rattle.tree.specs.declared.standing.Standing.{Standing}
use Rattle.tree.specs.declared.standing.Standing.TheVariants.{Root}
use Rattle.tree.specs.Judgement.{judgement_of}
use Rattle.std.specs.Prelude.{Ok}
use Rattle.tree.proofs.StandingLaws.{sizes_field, size_node}
use Rattle.tree.proofs.NodeLaws.{under_below}
use Rattle.tree.proofs.JudgementLaws.{judged_keeps, judged_listing}
use Rattle.schema.specs.Rewriting.{rewriting, rewritings, run_rewritings, with_rewriting, with_rewritings}
use Rattle.schema.specs.Steps.{is_written_map, written_in_order}

mutual
  unfolding rewritings sizes listings

  -- a tree has as many as nodes
  pub length_rewritings : (t : Tree) (p : Standing) → length (rewritings p t) ≡ size t
  length_rewritings (node s fs) p = ap suc (length_run_rewritings fs (standing_below p s)) ∙ sym (size_node s fs)

  length_run_rewritings : (fs : Fields) (p : Standing) → length (run_rewritings p fs) ≡ sizes fs
  length_run_rewritings empty p = refl
  length_run_rewritings (field t fs) p =
      length-append (rewritings p t) (run_rewritings p fs)
      ∙ (let a = length_rewritings t p in let b = length_run_rewritings fs p in omega (arith, sizes_field t fs))

-- a run under a MAP is one field alone
Alone : Bool → Fields → Type 0
Alone false fs = Unit {0}
Alone true empty = ⊥
Alone true (field t empty) = Unit {0}
Alone true (field t (field u fs)) = ⊥

different : true ≡ false → ⊥
different e = let z : ◌≡◌ {A = ℕ} 0 1 = cc in omega arith

map_run_alone : (fs : Fields) → map_run fs ≡ true → Alone true fs
unfolding map_run Alone
map_run_alone empty e = different (sym e)
map_run_alone (field (node s fs) empty) e = tt
map_run_alone (field (node s fs) (field u gs)) e = different (sym e)

kept_alone : (p : Standing) (s : SlotBytes) (fs : Fields) (b : Bool) → is_map p s ≡ b → rule13 p s fs ≡ true → Alone b fs
unfolding Alone rule13 map_kept
kept_alone p s fs false e r = tt
kept_alone p s fs true e r =
    map_run_alone fs (and_right (is_required_or_optional (repetition s)) (map_run fs) (implied (is_map p s) (map_kept s fs) r e))

-- the place of a node's fields is told by what is written of it
map_below : (p : Standing) (s : SlotBytes) → is_written_map (under_map_of p) s ≡ under_map_of (standing_below p s)
unfolding is_written_map kind is_map
map_below p s = written_kind logical.MAP refl refl refl (annotated s) (under_map_of p) ∙ sym (under_below p s)

-- a run's first tree, and what follows it
order_first : (t : Tree) (fs : Fields) (p : Standing) (rest : List SlotBytes) (b : Bool) → under_map_of p ≡ b → written_in_order (under_map_of p) (listing t ++ (listings fs ++ rest)) ≡ rewritings p t ++ written_in_order false (listings fs ++ rest) → written_in_order b ((listing t ++ listings fs) ++ rest) ≡ rewritings p t ++ written_in_order false (listings fs ++ rest)
order_first t fs p rest b e h =
    ap (written_in_order b) (append_assoc (listing t) (listings fs) rest)
    ∙ ap (λ (c : Bool). written_in_order c (listing t ++ (listings fs ++ rest))) (sym e)
    ∙ h

mutual
  unfolding listing rewriting rewritings written_in_order Keeps Alone

  order_tree : (edition : ℕ) (t : Tree) (p : Standing) (rest : List SlotBytes) → Keeps edition p t → written_in_order (under_map_of p) (listing t ++ rest) ≡ rewritings p t ++ written_in_order false rest
  order_tree edition (node s fs) p rest k =
      let own = written_of (annotated s) (under_map_of p) in
      ap (λ (b : Bool). own ∷ written_in_order b (listings fs ++ rest)) (map_below p s)
      ∙ ap (λ (rs : List numbers.Written). own ∷ rs) (order_run edition fs (standing_below p s) rest (under_map_of (standing_below p s)) refl (kept_alone p s fs (under_map_of (standing_below p s)) (sym (under_below p s)) k.0.maps) k.1)

  order_run : (edition : ℕ) (fs : Fields) (p : Standing) (rest : List SlotBytes) (b : Bool) → under_map_of p ≡ b → Alone b fs → KeepsAll edition p fs → written_in_order b (listings fs ++ rest) ≡ run_rewritings p fs ++ written_in_order false rest
  order_run edition empty p rest false e a k = refl
  order_run edition empty p rest true e a k = absurd a
  order_run edition (field t fs) p rest false e a k =
      order_first t fs p rest false e (order_tree edition t p (listings fs ++ rest) k.0)
      ∙ ap (λ (rs : List numbers.Written). rewritings p t ++ rs) (order_run edition fs p rest false e tt k.1)
      ∙ sym (append_assoc (rewritings p t) (run_rewritings p fs) (written_in_order false rest))
  order_run edition (field t empty) p rest true e a k =
      order_first t empty p rest true e (order_tree edition t p rest k.0)
      ∙ sym (append_assoc (rewritings p t) [] (written_in_order false rest))
  order_run edition (field t (field u fs)) p rest true e a k = absurd a

-- of an accepted sheet it is what is rewritten of its tree
pub order_accepted : (edition : ℕ) (b : List ℕ) (n : ℕ) → judgement_of edition b ≡ Ok n → written_in_order false (slots b) ≡ rewritings Root (tree_of (slots b))
unfolding written_in_order
order_accepted edition b n e =
    ap (written_in_order false) (sym (append-nil (listing (tree_of (slots b))) ∙ judged_listing edition b n e))
    ∙ order_tree edition (tree_of (slots b)) Root [] (judged_keeps edition b n e)
    ∙ append-nil (rewritings Root (tree_of (slots b)))

-- the nodes written up to one of them: with the others they are all
pub record Written (b lent : List ℕ) (out : List ℕ) (k : ℕ) (under : Bool) : Type 0 where
  pub within : k ≤ total_of b
  pub long : length out ≡ length lent
  pub found : with_rewritings lent 0 (written_in_order false (slots b)) ≡ with_rewritings out k (written_in_order under (drop k (slots b)))

pub written_start : (b lent : List ℕ) → Written b lent lent 0 false
written_start b lent = record { within = omega arith; long = refl; found = refl }

module _ (b lent out : List ℕ) (k : ℕ) (under : Bool) (r : Written b lent out k under) where
  pub written_end : total_of b ≤ k → out ≡ with_rewritings lent 0 (written_in_order false (slots b))
  unfolding written_in_order with_rewritings
  written_end h = sym (r.found ∙ rw (drop_of_length-le (slots b) {i = k} (omega (arith, slots_length b))))

  pub written_next : k < total_of b → (m : List ℕ) (c : Bool) → m ≡ with_rewriting out k (written_of (annotated (slot_at b k)) under) → c ≡ is_written_map under (slot_at b k) → length m ≡ length out → Written b lent m (k + 1) c
  unfolding written_in_order with_rewritings
  written_next h m c em ec long =
      record {
        within = omega arith;
        long = long ∙ r.long;
        found = r.found ∙ rw (slots_drop b k h, em, ec, add-one);
      }
