-- The slots and headers of a sheet with other annotations at its nodes.
use Prim.Native.Nat.{ℕ, zero, suc, ◌+◌, ◌≤◌, ◌<◌}
use mathlib.Core.Path.{◌≡◌, refl, sym, ap, ap₂, ◌∙◌, subst}
use mathlib.Core.Bool.{Bool, true, false}
use mathlib.Core.List.{List, [], ◌∷◌, ◌++◌}
use native.Mathlib.Nat.{add-zero, add-suc, suc-add}
use native.Mathlib.Decide.{ℕ_discrete}
use native.Mathlib.Omega.{arith}
use lib.ListN.{length}
use Rattle.sheet.specs.Check.{renewed}
use Rattle.sheet.specs.Slot.{child_count_at, reaches, slot_at, slots_from, slots}
use Rattle.sheet.specs.Sound.{slot_sound}
use Rattle.sheet.proofs.AnnotationLaws.{annotated_nowhere, length_with_annotation, slot_at_annotated, slot_at_annotated_other, with_annotation_header, with_annotation_same}
use Rattle.sheet.proofs.CopyLaws.{SameHeaders, headers_trans, reaches_same, renewed_headers}
use Rattle.annotation.specs.declared.rewriting.Written.{Written}
use Rattle.tree.specs.Tree.{SlotBytes, Tree, Fields, node, empty, field, listing, listings, size}
use Rattle.tree.specs.Rules.{under_map_of, standing_below, Keeps, KeepsAll}
use Rattle.tree.specs.Reading.{tree_of}
use Rattle.schema.specs.Rewriting.{rewritings, run_rewritings, with_rewriting, with_rewritings, rewritten}
use Rattle.tree.specs.declared.standing.Standing.{Standing}
use Rattle.tree.specs.declared.standing.Standing.TheVariants.{Root}
use Rattle.schema.proofs.RewritingSteps.{length_rewritings}
use Rattle.schema.specs.Demand.{Copied}
use Rattle.schema.proofs.RewrittenSlotLaws.{rewritten_as, rewritten_slot, copied_refl, copied_as, Holds, holds_rewritten, sound_rewritten}
use Rattle.schema.proofs.RewrittenRowsLaws.{size_rewritten}
use Rattle.schema.proofs.RewrittenTreeLaws.{rewritten_tree, rewritten_run, Long, LongAll, resolves}

-- one slot
module _ (sheet : List ℕ) (k : ℕ) where
  pub headers_rewriting : (r : Written) → SameHeaders (with_rewriting sheet k r) sheet
  headers_rewriting w =
      record {
        long = length_with_annotation sheet k w.converted w.logical w.a w.b;
        headers = with_annotation_header sheet k w.converted w.logical w.a w.b;
      }

  slot_at_rewriting : (r : Written) → reaches sheet k ≡ true → slot_at (with_rewriting sheet k r) k ≡ rewritten_as r (slot_at sheet k)
  slot_at_rewriting w h = slot_at_annotated sheet k w.converted w.logical w.a w.b h

  slot_at_rewriting_other : (r : Written) (j : ℕ) → (j ≡ k → ⊥) → slot_at (with_rewriting sheet k r) j ≡ slot_at sheet j
  slot_at_rewriting_other w j other = slot_at_annotated_other sheet k w.converted w.logical w.a w.b j other

  rewriting_nowhere : (r : Written) → reaches sheet k ≡ false → with_rewriting sheet k r ≡ sheet
  rewriting_nowhere w h = annotated_nowhere sheet k w.converted w.logical w.a w.b h

  rewriting_same : (r : Written) → Holds r (slot_at sheet k) → with_rewriting sheet k r ≡ sheet
  rewriting_same w h = with_annotation_same sheet k w.converted w.logical w.a w.b h.0 h.1 h.2 h.3

  -- whatever is rewritten, all but the annotations stays
  pub copied_rewriting : (r : Written) (j : ℕ) → Copied (slot_at (with_rewriting sheet k r) j) (slot_at sheet j)
  copied_rewriting r j = own (ℕ_discrete j k) (reaches sheet k) refl
    where
      same : slot_at (with_rewriting sheet k r) j ≡ slot_at sheet j → Copied (slot_at (with_rewriting sheet k r) j) (slot_at sheet j)
      same e = subst (λ (s : SlotBytes). Copied s (slot_at sheet j)) (sym e) (copied_refl (slot_at sheet j))

      own : Dec (j ≡ k) → (there : Bool) → reaches sheet k ≡ there → Copied (slot_at (with_rewriting sheet k r) j) (slot_at sheet j)
      own (yes e) true h =
          subst (λ (i : ℕ). Copied (slot_at (with_rewriting sheet k r) i) (slot_at sheet i)) (sym e)
          (subst (λ (s : SlotBytes). Copied s (slot_at sheet k)) (sym (slot_at_rewriting r h)) (copied_as r (slot_at sheet k)))
      own (yes e) false h = same (ap (λ (l : List ℕ). slot_at l j) (rewriting_nowhere r h))
      own (no e) there h = same (slot_at_rewriting_other r j e)

-- slots from node k on
pub headers_rewritings : (rs : List Written) (sheet : List ℕ) (k : ℕ) → SameHeaders (with_rewritings sheet k rs) sheet
unfolding with_rewritings
headers_rewritings [] sheet k = record { long = refl; headers = λ p h. refl }
headers_rewritings (r ∷ rs) sheet k =
    headers_trans (with_rewritings (with_rewriting sheet k r) (suc k) rs) (with_rewriting sheet k r) sheet (headers_rewritings rs (with_rewriting sheet k r) (suc k)) (headers_rewriting sheet k r)

-- those before them stay
slot_at_before : (rs : List Written) (sheet : List ℕ) (k j : ℕ) → j < k → slot_at (with_rewritings sheet k rs) j ≡ slot_at sheet j
unfolding with_rewritings
slot_at_before [] sheet k j h = refl
slot_at_before (r ∷ rs) sheet k j h =
    slot_at_before rs (with_rewriting sheet k r) (suc k) j (omega arith) ∙ slot_at_rewriting_other sheet k r j (λ (e : j ≡ k). omega arith)

-- and so do those behind them
pub slot_at_behind : (rs : List Written) (sheet : List ℕ) (k j : ℕ) → k + length rs ≤ j → slot_at (with_rewritings sheet k rs) j ≡ slot_at sheet j
unfolding with_rewritings
slot_at_behind [] sheet k j h = refl
slot_at_behind (r ∷ rs) sheet k j h =
    slot_at_behind rs (with_rewriting sheet k r) (suc k) j (omega arith) ∙ slot_at_rewriting_other sheet k r j (λ (e : j ≡ k). omega arith)

pub slots_from_same : (n : ℕ) (x y : List ℕ) (k : ℕ) → ((j : ℕ) → k ≤ j → slot_at x j ≡ slot_at y j) → slots_from x k n ≡ slots_from y k n
unfolding slots_from
slots_from_same zero x y k same = refl
slots_from_same (suc n) x y k same =
    ap₂ (λ (s : SlotBytes) (ss : List SlotBytes). s ∷ ss) (same k (omega arith)) (slots_from_same n x y (suc k) (λ j h. same j (omega arith)))

-- slots with what is rewritten of each
unfoldable pub pairwise : List Written → List SlotBytes → List SlotBytes
pairwise [] ss = []
pairwise (r ∷ rs) [] = []
pairwise (r ∷ rs) (s ∷ ss) = rewritten_as r s ∷ pairwise rs ss

pub slots_from_rewritings : (rs : List Written) (sheet : List ℕ) (k : ℕ) → ((j : ℕ) → k ≤ j → j < k + length rs → reaches sheet j ≡ true) → slots_from (with_rewritings sheet k rs) k (length rs) ≡ pairwise rs (slots_from sheet k (length rs))
unfolding with_rewritings slots_from pairwise
slots_from_rewritings [] sheet k there = refl
slots_from_rewritings (r ∷ rs) sheet k there =
    ap₂ (λ (s : SlotBytes) (ss : List SlotBytes). s ∷ ss)
    (slot_at_before rs (with_rewriting sheet k r) (suc k) k (omega arith) ∙ slot_at_rewriting sheet k r (there k (omega arith) (omega arith)))
    (slots_from_rewritings rs (with_rewriting sheet k r) (suc k) (λ j l h. reaches_same (with_rewriting sheet k r) sheet (headers_rewriting sheet k r) j ∙ there j (omega arith) (omega arith))
    ∙ ap (pairwise rs) (slots_from_same (length rs) (with_rewriting sheet k r) sheet (suc k) (λ j h. slot_at_rewriting_other sheet k r j (λ (e : j ≡ k). omega arith))))

pairwise_append : (us vs : List Written) (xs ys : List SlotBytes) → length us ≡ length xs → pairwise (us ++ vs) (xs ++ ys) ≡ pairwise us xs ++ pairwise vs ys
unfolding pairwise
pairwise_append [] vs [] ys e = refl
pairwise_append [] vs (x ∷ xs) ys e = absurd (omega arith)
pairwise_append (u ∷ us) vs [] ys e = absurd (omega arith)
pairwise_append (u ∷ us) vs (x ∷ xs) ys e = ap (λ (ss : List SlotBytes). rewritten_as u x ∷ ss) (pairwise_append us vs xs ys (omega arith))

length_listed : (t : Tree) (p : Standing) → length (rewritings p t) ≡ length (listing t)
unfolding size
length_listed t p = length_rewritings t p

mutual
  unfolding rewritten_tree rewritings listing pairwise rewritten_slot

  -- the listing of the rewritten tree
  pub listing_rewritten : (t : Tree) (p : Standing) → listing (rewritten_tree p t) ≡ pairwise (rewritings p t) (listing t)
  listing_rewritten (node s fs) p = ap (λ (ss : List SlotBytes). rewritten_slot (under_map_of p) s ∷ ss) (listings_rewritten fs (standing_below p s))

  listings_rewritten : (fs : Fields) (p : Standing) → listings (rewritten_run p fs) ≡ pairwise (run_rewritings p fs) (listings fs)
  listings_rewritten empty p = refl
  listings_rewritten (field t fs) p =
      ap₂ ◌++◌ (listing_rewritten t p) (listings_rewritten fs p)
      ∙ sym (pairwise_append (rewritings p t) (run_rewritings p fs) (listing t) (listings fs) (length_listed t p))

-- a property of each slot of a list
unfoldable pub Each : (SlotBytes → Type 0) → List SlotBytes → Type 0
Each P [] = Unit {0}
Each P (s ∷ ss) = P s × Each P ss

module _ (P : SlotBytes → Type 0) where
  each_split : (xs ys : List SlotBytes) → Each P (xs ++ ys) → Each P xs × Each P ys
  unfolding Each
  each_split [] ys h = (tt, h)
  each_split (x ∷ xs) ys h = let rest = each_split xs ys h.1 in ((h.0, rest.0), rest.1)

  each_join : (xs ys : List SlotBytes) → Each P xs → Each P ys → Each P (xs ++ ys)
  unfolding Each
  each_join [] ys g h = h
  each_join (x ∷ xs) ys g h = (g.0, each_join xs ys g.1 h)

  pub each_slots_from : (n : ℕ) (sheet : List ℕ) (k : ℕ) → ((j : ℕ) → k ≤ j → j < k + n → P (slot_at sheet j)) → Each P (slots_from sheet k n)
  unfolding Each slots_from
  each_slots_from zero sheet k h = tt
  each_slots_from (suc n) sheet k h = (h k (omega arith) (omega arith), each_slots_from n sheet (suc k) (λ j l u. h j (omega arith) (omega arith)))

  pub slots_from_each : (n : ℕ) (sheet : List ℕ) (k : ℕ) → Each P (slots_from sheet k n) → (i : ℕ) → i < n → P (slot_at sheet (k + i))
  unfolding Each slots_from
  slots_from_each zero sheet k h i l = absurd (omega arith)
  slots_from_each (suc n) sheet k h zero l = subst (λ (j : ℕ). P (slot_at sheet j)) (sym (add-zero k)) h.0
  slots_from_each (suc n) sheet k h (suc i) l =
      subst (λ (j : ℕ). P (slot_at sheet j)) (suc-add k i ∙ sym (add-suc k i)) (slots_from_each n sheet (suc k) h.1 i (omega arith))

-- a slot that is long enough to have annotations
abbrev pub LongSlot : SlotBytes → Type 0
LongSlot s = child_count_at ≤ length s

mutual
  unfolding Long listing Each

  pub long_listing : (t : Tree) → Each LongSlot (listing t) → Long t
  long_listing (node s fs) h = (h.0, long_listings fs h.1)

  long_listings : (fs : Fields) → Each LongSlot (listings fs) → LongAll fs
  long_listings empty h = tt
  long_listings (field t fs) h =
      let parts = each_split LongSlot (listing t) (listings fs) h in
      (long_listing t parts.0, long_listings fs parts.1)

abbrev pub SoundSlot : ℕ → SlotBytes → Type 0
SoundSlot edition s = slot_sound edition s ≡ true

mutual
  unfolding rewritten_tree listing Each Keeps Long

  -- the slots of the rewritten tree are sound where those of the tree were
  pub sound_listing : (edition : ℕ) (t : Tree) (p : Standing) → Long t → Keeps edition p t → Each (SoundSlot edition) (listing t) → Each (SoundSlot edition) (listing (rewritten_tree p t))
  sound_listing edition (node s fs) p long h sound = (
    sound_rewritten edition (under_map_of p) s (resolves edition p s fs long.0 h.0) sound.0,
    sound_listings edition fs (standing_below p s) long.1 h.1 sound.1,
  )

  sound_listings : (edition : ℕ) (fs : Fields) (p : Standing) → LongAll fs → KeepsAll edition p fs → Each (SoundSlot edition) (listings fs) → Each (SoundSlot edition) (listings (rewritten_run p fs))
  sound_listings edition empty p long h sound = tt
  sound_listings edition (field t fs) p long h sound =
      let parts = each_split (SoundSlot edition) (listing t) (listings fs) sound in
      each_join (SoundSlot edition) (listing (rewritten_tree p t)) (listings (rewritten_run p fs))
      (sound_listing edition t p long.0 h.0 parts.0) (sound_listings edition fs p long.1 h.1 parts.1)

-- each slot of a list has what is rewritten of it
unfoldable pub HoldsEach : List Written → List SlotBytes → Type 0
HoldsEach [] ss = Unit {0}
HoldsEach (r ∷ rs) [] = ⊥
HoldsEach (r ∷ rs) (s ∷ ss) = Holds r s × HoldsEach rs ss

holds_join : (us vs : List Written) (xs ys : List SlotBytes) → length us ≡ length xs → HoldsEach us xs → HoldsEach vs ys → HoldsEach (us ++ vs) (xs ++ ys)
unfolding HoldsEach
holds_join [] vs [] ys e g h = h
holds_join [] vs (x ∷ xs) ys e g h = absurd (omega arith)
holds_join (u ∷ us) vs [] ys e g h = absurd g
holds_join (u ∷ us) vs (x ∷ xs) ys e g h = (g.0, holds_join us vs xs ys (omega arith) g.1 h)

mutual
  unfolding rewritten_tree rewritings listing size HoldsEach Keeps Long

  pub holds_listing : (edition : ℕ) (t : Tree) (p : Standing) → Long t → Keeps edition p t → HoldsEach (rewritings p t) (listing (rewritten_tree p t))
  holds_listing edition (node s fs) p long h = (
    holds_rewritten edition (under_map_of p) s (resolves edition p s fs long.0 h.0),
    holds_listings edition fs (standing_below p s) long.1 h.1,
  )

  holds_listings : (edition : ℕ) (fs : Fields) (p : Standing) → LongAll fs → KeepsAll edition p fs → HoldsEach (run_rewritings p fs) (listings (rewritten_run p fs))
  holds_listings edition empty p long h = tt
  holds_listings edition (field t fs) p long h =
      holds_join (rewritings p t) (run_rewritings p fs) (listing (rewritten_tree p t)) (listings (rewritten_run p fs)) (length_rewritings t p ∙ sym (size_rewritten t p))
      (holds_listing edition t p long.0 h.0) (holds_listings edition fs p long.1 h.1)

-- a sheet that has what is rewritten stays as it is
pub with_rewritings_same : (rs : List Written) (sheet : List ℕ) (k : ℕ) → HoldsEach rs (slots_from sheet k (length rs)) → with_rewritings sheet k rs ≡ sheet
unfolding with_rewritings HoldsEach slots_from
with_rewritings_same [] sheet k h = refl
with_rewritings_same (r ∷ rs) sheet k h =
    ap (λ (l : List ℕ). with_rewritings l (suc k) rs) (rewriting_same sheet k r h.0) ∙ with_rewritings_same rs sheet (suc k) h.1

-- the rewritten sheet is as long as the sheet and has its headers
pub rewritten_headers : (sheet : List ℕ) → SameHeaders (rewritten sheet) sheet
unfolding rewritten
rewritten_headers sheet =
    let rs = rewritings Root (tree_of (slots sheet)) in
    headers_trans (renewed (with_rewritings sheet 0 rs)) (with_rewritings sheet 0 rs) sheet (renewed_headers (with_rewritings sheet 0 rs)) (headers_rewritings rs sheet 0)

pub length_rewritten : (sheet : List ℕ) → length (rewritten sheet) ≡ length sheet
length_rewritten sheet = (rewritten_headers sheet).long
