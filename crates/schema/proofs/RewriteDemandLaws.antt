-- What rewriting promises beside demand 3: what it writes is accepted, has the same rows, and is its own rewriting; all but annotations and checks is copied.
use Prim.Native.Nat.{ℕ, suc, ◌+◌, ◌*◌, ◌<◌}
use mathlib.Core.Path.{◌≡◌, refl, sym, ap, ap₂, ◌∙◌, subst}
use mathlib.Core.Bool.{Bool, true}
use mathlib.Core.Logic.{◌↔◌}
use mathlib.Core.List.{List, [], ◌∷◌, ◌++◌, append_assoc}
use native.Mathlib.Nat.{zero-add}
use native.Mathlib.Decide.{dec_lt}
use native.Mathlib.Omega.{arith}
use borrow.Author.Tests.{le-leb}
use lib.ListN.{length, take, drop, length-append}
use lib.Seq.{length-take-le, take_at, drop_at}
use Rattle.sheet.specs.Block.{slots_in_block, block_count, total_of}
use Rattle.sheet.specs.Check.{renewed}
use Rattle.sheet.specs.Slot.{reaches, slot_at, slots_from, slots}
use Rattle.sheet.specs.Sound.{slot_sound, slot_right, all_zero}
use Rattle.sheet.specs.Opening as sheet
use Rattle.refusal.specs.Outcome.{Counted, Verdict}
use Rattle.std.specs.Prelude.{Ok, Err}
use Rattle.sheet.proofs.BlockLaws.{block_count_same}
use Rattle.sheet.proofs.CopyLaws.{total_of_same, header_right_same, slot_at_renewed}
use Rattle.sheet.proofs.OpeningLaws.{open_of_known, open_of_blocks, open_of_slots, open_of_total, open_of_most, open_of_within, open_of_sound}
use Rattle.sheet.proofs.RenewalLaws.{renewed_right, renewed_renewed}
use Rattle.sheet.proofs.SlotLaws.{slot_start_within, reaches_true, slot_at_length, slots_length}
use Rattle.sheet.proofs.SoundLaws.{slot_right_used, slot_right_unused}
use Rattle.annotation.specs.declared.rewriting.Written.{Written}
use Rattle.tree.specs.Tree.{SlotBytes, Tree, listing, size, AtMostDeep}
use Rattle.schema.specs.Rows.{rows}
use Rattle.tree.specs.Reading.{tree_of}
use Rattle.tree.specs.Judgement.{judgement}
use Rattle.schema.specs.Outcome.{outcome, written}
use Rattle.laws.specs.Stretches.{stretched}
use Rattle.schema.specs.Rewriting.{rewritings, with_rewriting, with_rewritings, rewritten, fits, rewrite_answer, rewrite_outcome, rewrite_written}
use Rattle.schema.specs.Demand.{IsTreeOf, EnoughOutput, Accepted, EnoughRoom, AcceptedRewriting, Copied}
use Rattle.tree.specs.declared.standing.Standing.TheVariants.{Root}
use Rattle.refusal.specs.declared.answers.Refusal.{Refusal}
use Rattle.tree.proofs.TreeOfLaws.{tree_of_listing}
use Rattle.schema.proofs.DemandLaws.{tree_accepted, accepted_tree, sound_judgement, accepted_no_refusal, no_refusal_rows}
use Rattle.tree.proofs.JudgementLaws.{judgement_nodes, lawful_opened}
use Rattle.schema.proofs.RewritingSteps.{length_rewritings}
use Rattle.schema.proofs.RewrittenSlotLaws.{copied_refl, copied_trans}
use Rattle.schema.proofs.RewrittenTreeLaws.{rewritten_tree, Long, depths_rewritten, claims_rewritten, keeps_rewritten, rewritings_rewritten}
use Rattle.schema.proofs.RewrittenRowsLaws.{rows_rewritten}
use Rattle.schema.proofs.RewrittenLaws.{copied_rewriting, LongSlot, SoundSlot, pairwise, listing_rewritten, slots_from_rewritings, slots_from_same, slot_at_behind, Each, each_slots_from, slots_from_each, long_listing, sound_listing, HoldsEach, holds_listing, with_rewritings_same, headers_rewritings, rewritten_headers, length_rewritten}

module _ (edition : ℕ) (b : List ℕ) (lawful : judgement edition b ≡ Ok tt) where
  abbrev t : Tree
  t = tree_of (slots b)

  abbrev rs : List Written
  rs = rewritings Root (tree_of (slots b))

  opened : (n : ℕ) × (sheet.open_of edition b ≡ Ok n)
  opened = lawful_opened edition b lawful

  -- the sheet's tree
  tree : IsTreeOf edition b t
  tree = accepted_tree edition b (sym (judgement_nodes edition b opened.0 opened.1) ∙ lawful)

  every_long : Each LongSlot (slots b)
  unfolding slots
  every_long = each_slots_from LongSlot (total_of b) b 0 (λ j l h. omega (arith, slot_at_length b j))

  pub long : Long t
  long = long_listing t (subst (Each LongSlot) (sym tree.lists) every_long)

  count_is : length rs ≡ total_of b
  unfolding size
  count_is = length_rewritings (tree_of (slots b)) Root ∙ ap length tree.lists ∙ slots_length b

  -- the bytes reach every node's slot
  there : (j : ℕ) → j < total_of b → reaches b j ≡ true
  there j h =
      reaches_true b j (omega (arith, open_of_total edition b opened.0 opened.1, open_of_most edition b opened.0 opened.1))
      (slot_start_within b j (omega (arith, open_of_total edition b opened.0 opened.1, open_of_within edition b opened.0 opened.1)))

  pub total_is : total_of (rewritten b) ≡ total_of b
  total_is = total_of_same (rewritten b) b (rewritten_headers b)

  -- the slots of the rewritten sheet are those of the rewritten tree
  pub slots_are : slots (rewritten b) ≡ listing (rewritten_tree Root t)
  unfolding slots rewritten
  slots_are =
      ap (slots_from (rewritten b) 0) (total_is ∙ sym count_is)
      ∙ slots_from_same (length rs) (rewritten b) (with_rewritings b 0 rs) 0 (λ j h. slot_at_renewed (with_rewritings b 0 rs) j)
      ∙ slots_from_rewritings rs b 0 (λ j l h. there j (omega (arith, count_is)))
      ∙ ap (λ (n : ℕ). pairwise rs (slots_from b 0 n)) count_is
      ∙ ap (pairwise rs) (sym tree.lists)
      ∙ sym (listing_rewritten (tree_of (slots b)) Root)

  -- its blocks are sound
  blocks_sound : sheet.BlocksSound (rewritten b)
  unfolding rewritten
  blocks_sound =
      let old = open_of_blocks edition b opened.0 opened.1 in
      let same = block_count_same (rewritten b) b (rewritten_headers b).long in
      record {
        length_right_lem = rw (rewritten_headers b).long old.length_right_lem;
        checks_right = λ i h. renewed_right (with_rewritings b 0 rs) i (omega (arith, same, block_count_same (with_rewritings b 0 rs) b (headers_rewritings rs b 0).long));
        headers_right = λ i h. header_right_same (rewritten b) b (rewritten_headers b) i ∙ old.headers_right i (omega (arith, same));
      }

  every_sound : Each (SoundSlot edition) (slots b)
  unfolding slots
  every_sound =
      each_slots_from (SoundSlot edition) (total_of b) b 0
      (λ j l h. open_of_sound edition b opened.0 opened.1 j (omega (arith, open_of_total edition b opened.0 opened.1)))

  still_sound : Each (SoundSlot edition) (slots (rewritten b))
  still_sound = rw slots_are (sound_listing edition t Root long tree.keeps (subst (Each (SoundSlot edition)) (sym tree.lists) every_sound))

  -- and so are its slots
  slots_sound : sheet.SlotsSound edition (rewritten b)
  unfolding slots rewritten
  slots_sound = record { slots_right = λ k h. used k h (dec_lt k (total_of b)) }
    where
      used : (k : ℕ) → k < slots_in_block * block_count (rewritten b) → Dec (k < total_of b) → slot_right edition (rewritten b) k ≡ true
      used k h (yes l) =
          slot_right_used edition (rewritten b) k (omega (arith, total_is))
          ∙ subst (λ (j : ℕ). slot_sound edition (slot_at (rewritten b) j) ≡ true) (zero-add k) (slots_from_each (SoundSlot edition) (total_of (rewritten b)) (rewritten b) 0 still_sound k (omega (arith, total_is)))
      used k h (no l) =
          slot_right_unused edition (rewritten b) k (omega (arith, total_is))
          ∙ ap all_zero (slot_at_renewed (with_rewritings b 0 rs) k ∙ slot_at_behind rs b 0 k (omega (arith, count_is)))
          ∙ sym (slot_right_unused edition b k (omega arith))
          ∙ (open_of_slots edition b opened.0 opened.1).slots_right k (omega (arith, block_count_same (rewritten b) b (rewritten_headers b).long))

  -- the rewritten tree is its tree
  rewritten_tree_lem : IsTreeOf edition (rewritten b) (rewritten_tree Root t)
  unfolding AtMostDeep
  rewritten_tree_lem =
      record {
        deep = λ k. rw (depths_rewritten t Root 0) (tree.deep k);
        keeps = keeps_rewritten edition t Root long tree.keeps;
        claims = claims_rewritten t Root tree.claims;
        lists = sym slots_are;
      }

  -- what rewriting writes is accepted
  pub rewritten_lawful : judgement edition (rewritten b) ≡ Ok tt
  rewritten_lawful =
      sound_judgement edition (rewritten b) (record { known = open_of_known edition b opened.0 opened.1; blocks = blocks_sound; slots = slots_sound })
      ∙ tree_accepted edition (rewritten b) (rewritten_tree Root t) rewritten_tree_lem

  tree_is : tree_of (slots (rewritten b)) ≡ rewritten_tree Root t
  tree_is = tree_of_listing (rewritten_tree Root t) (slots (rewritten b)) rewritten_tree_lem.claims rewritten_tree_lem.lists

  rows_are : rows (tree_of (slots (rewritten b))) ≡ rows (tree_of (slots b))
  rows_are = ap rows tree_is ∙ rows_rewritten edition t long tree.keeps

  -- resolving it answers what resolving the sheet does
  pub rewritten_outcome : (lent : ℕ) → outcome edition (rewritten b) lent ≡ outcome edition b lent
  unfolding outcome
  rewritten_outcome lent = rw (rewritten_lawful, lawful, total_is)

  -- and writes the same rows
  pub rewritten_rows : (lent : List ℕ) → written (outcome edition (rewritten b) (length lent)) (rewritten b) lent ≡ written (outcome edition b (length lent)) b lent
  unfolding written
  rewritten_rows lent = ap (λ (r : Counted). written r (rewritten b) lent) (rewritten_outcome (length lent)) ∙ same (outcome edition b (length lent))
    where
      same : (r : Counted) → written r (rewritten b) lent ≡ written r b lent
      same (Err r) = refl
      same (Ok n) = rw rows_are

  -- rewriting it again changes no byte
  pub rewritten_rewritten : rewritten (rewritten b) ≡ rewritten b
  unfolding rewritten slots
  rewritten_rewritten =
      ap (λ (u : Tree). renewed (with_rewritings (rewritten b) 0 (rewritings Root u))) tree_is
      ∙ ap (λ (us : List Written). renewed (with_rewritings (rewritten b) 0 us)) (rewritings_rewritten edition t Root long tree.keeps)
      ∙ ap renewed (with_rewritings_same rs (rewritten b) 0 (subst (HoldsEach rs) (sym slots_are ∙ ap (slots_from (rewritten b) 0) (total_is ∙ sym count_is)) (holds_listing edition t Root long tree.keeps)))
      ∙ renewed_renewed (with_rewritings b 0 rs)

-- all else is copied ---------------------------------------------------------------------------------------------------

copied_rewritings : (rs : List Written) (sheet : List ℕ) (k j : ℕ) → Copied (slot_at (with_rewritings sheet k rs) j) (slot_at sheet j)
unfolding with_rewritings
copied_rewritings [] sheet k j = copied_refl (slot_at sheet j)
copied_rewritings (r ∷ rs) sheet k j =
    copied_trans (slot_at (with_rewritings (with_rewriting sheet k r) (suc k) rs) j) (slot_at (with_rewriting sheet k r) j) (slot_at sheet j)
    (copied_rewritings rs (with_rewriting sheet k r) (suc k) j) (copied_rewriting sheet k r j)

-- every slot of a rewritten sheet has the name, repetition, physical type, type length, child count, scale and precision of the sheet's
pub rewritten_copied : (b : List ℕ) (k : ℕ) → Copied (slot_at (rewritten b) k) (slot_at b k)
unfolding rewritten
rewritten_copied b k =
    let rs = rewritings Root (tree_of (slots b)) in
    subst (λ (s : SlotBytes). Copied s (slot_at b k)) (sym (slot_at_renewed (with_rewritings b 0 rs) k)) (copied_rewritings rs b 0 k)

-- what is answered and written ------------------------------------------------------------------------------------------

accepted_lawful : (v : Verdict) (enough : Bool) (n : ℕ) → AcceptedRewriting (rewrite_answer v enough n) → v ≡ Ok tt
unfolding AcceptedRewriting rewrite_answer
accepted_lawful (Ok _) enough n a = refl
accepted_lawful (Err r) enough n a = absurd a

lawful_accepted : (v : Verdict) (enough : Bool) (n : ℕ) → v ≡ Ok tt → enough ≡ true → AcceptedRewriting (rewrite_answer v enough n)
unfolding AcceptedRewriting rewrite_answer
lawful_accepted v enough n e f = rw (e, f) tt

-- what judging refuses, rewriting refuses so, whatever is lent
pub refused_rewriting : (edition : ℕ) (b : List ℕ) (lent start : ℕ) (r : Refusal) → judgement edition b ≡ Err r → rewrite_outcome edition b lent start ≡ Err r
unfolding rewrite_outcome rewrite_answer
refused_rewriting edition b lent start r e = rw e

-- where both outputs are enough, rewriting accepts a sheet exactly where resolving does
pub rewriting_accepts : (edition : ℕ) (b : List ℕ) (lent start places : ℕ) → EnoughRoom b lent start → EnoughOutput b places → AcceptedRewriting (rewrite_outcome edition b lent start) ↔ Accepted (outcome edition b places)
unfolding EnoughRoom EnoughOutput rewrite_outcome outcome Accepted
rewriting_accepts edition b lent start places room enough = (
  (λ a. subst Accepted (sym (no_refusal_rows (judgement edition b) (total_of b) places (accepted_lawful (judgement edition b) (fits b lent start) (length b) a) enough)) tt),
  (λ a. lawful_accepted (judgement edition b) (fits b lent start) (length b) (accepted_no_refusal (judgement edition b) (total_of b) places a) (le-leb (start + length b) lent room)),
)

module _ (edition : ℕ) (b lent : List ℕ) (start : ℕ) (lawful : judgement edition b ≡ Ok tt) (room : EnoughRoom b (length lent) start) where
  abbrev after : List ℕ
  after = rewrite_written (rewrite_outcome edition b (length lent) start) b lent start

  after_is : after ≡ stretched lent start (rewritten b)
  unfolding rewrite_written rewrite_outcome rewrite_answer EnoughRoom
  after_is = rw (lawful, le-leb (start + length b) (length lent) room)

  before_is : length (take start lent) ≡ start
  unfolding EnoughRoom
  before_is = length-take-le start lent (omega arith)

  -- the stretch from the start on is the rewritten sheet
  pub stretch_is : take (length b) (drop start after) ≡ rewritten b
  unfolding stretched
  stretch_is =
      ap (λ (l : List ℕ). take (length b) (drop start l)) (after_is ∙ append_assoc (take start lent) (rewritten b) (drop (start + length (rewritten b)) lent))
      ∙ ap (take (length b)) (drop_at (take start lent) (rewritten b ++ drop (start + length (rewritten b)) lent) start before_is)
      ∙ take_at (rewritten b) (drop (start + length (rewritten b)) lent) (length b) (length_rewritten b)

  -- the bytes before it stay
  pub stretch_before : take start after ≡ take start lent
  unfolding stretched
  stretch_before =
      ap (take start) (after_is ∙ append_assoc (take start lent) (rewritten b) (drop (start + length (rewritten b)) lent))
      ∙ take_at (take start lent) (rewritten b ++ drop (start + length (rewritten b)) lent) start before_is

  -- and so do those behind it
  pub stretch_after : drop (start + length b) after ≡ drop (start + length b) lent
  unfolding stretched
  stretch_after =
      ap (drop (start + length b)) after_is
      ∙ drop_at (take start lent ++ rewritten b) (drop (start + length (rewritten b)) lent) (start + length b) (length-append (take start lent) (rewritten b) ∙ ap₂ ◌+◌ before_is (length_rewritten b))
      ∙ ap (λ (n : ℕ). drop (start + n) lent) (length_rewritten b)
