-- The matched slots of a tree of the first, by what the entries say of its nodes, are the slots of the second's tree that match, in the second's order.
use Prim.Native.Nat.{ℕ, zero, suc, ◌+◌}
use mathlib.Core.Path.{◌≡◌, refl, sym, ap, ap₂, ◌∙◌, subst}
use mathlib.Core.Bool.{true, false}
use mathlib.Core.List.{List, [], ◌∷◌, ◌++◌}
use mathlib.Core.Option.{Option, none, some, some_inj, none-ne-some}
use native.Mathlib.Nat.{zero-add, add-zero}
use native.Mathlib.Decide.{ℕ_discrete}
use native.Mathlib.Omega.{arith}
use borrow.Author.Tests.{eq-eqb, ne_eqb}
use lib.ListN.{length, get_or}
use Rattle.laws.proofs.BoolLaws.{by_test}
use Rattle.sheet.specs.Name.{same_bytes}
use Rattle.sheet.proofs.NameLaws.{same_bytes_equal, same_bytes_true}
use Rattle.sheet.specs.Slot.{child_count, empty_slot}
use Rattle.tree.specs.Tree.{SlotBytes, Tree, Fields, node, empty, field, listing, listings, count, size, Claims, ClaimsAll}
use Rattle.matching.specs.Matching.{name_of, Sibling, siblings, alike, nth, match_of, matches, run_matches}
use Rattle.matching.specs.declared.fields.Match.{Match}
use Rattle.matching.proofs.MatchingLaws.{length_matches}
use Rattle.differences.specs.Entry.{Entry}
use Rattle.differences.specs.Rebuilding.{entries_of, is_gone, place_by, slot_by, Block, slots_at, in_order, matched_slots, blocks}
use Rattle.differences.proofs.StandLaws.{Stand, stand_split}
use Rattle.differences.proofs.SiblingLaws.{Rest, nth_first, nth_next, nth_other, alike_same, alike_other, rest_all, rest_found, rest_only, rest_run}

-- ---- the slots that match

-- of some slots those whose nodes match one
unfoldable pub kept : List (Option Match) → List SlotBytes → List SlotBytes
kept [] ss = []
kept (m ∷ ms) [] = []
kept (none ∷ ms) (s ∷ ss) = kept ms ss
kept (some m ∷ ms) (s ∷ ss) = s ∷ kept ms ss

-- those of a list behind another
kept_append : (ms ns : List (Option Match)) (xs ys : List SlotBytes) → length ms ≡ length xs → kept (ms ++ ns) (xs ++ ys) ≡ kept ms xs ++ kept ns ys
unfolding kept
kept_append [] ns [] ys e = refl
kept_append [] ns (x ∷ xs) ys e = absurd (omega arith)
kept_append (m ∷ ms) ns [] ys e = absurd (omega arith)
kept_append (none ∷ ms) ns (x ∷ xs) ys e = kept_append ms ns xs ys (omega arith)
kept_append (some m ∷ ms) ns (x ∷ xs) ys e = ap (λ (ss : List SlotBytes). x ∷ ss) (kept_append ms ns xs ys (omega arith))

mutual
  unfolding matches nth listing size kept

  -- below a node that matches none, none does
  kept_none : (t : Tree) (place : ℕ) → kept (matches place none t) (listing t) ≡ []
  kept_none (node s fs) place = kept_none_run fs 0 []

  kept_none_run : (fs : Fields) (place : ℕ) (before : List (List ℕ)) → kept (run_matches place [] before fs) (listings fs) ≡ []
  kept_none_run empty place before = refl
  kept_none_run (field t fs) place before =
      kept_append (matches place none t) (run_matches (suc place) [] (name_of t ∷ before) fs) (listing t) (listings fs) (length_matches t place none)
      ∙ ap₂ ◌++◌ (kept_none t place) (kept_none_run fs (suc place) (name_of t ∷ before))

-- ---- what is told of nodes

-- the entries of node k tell, of a node with a slot that matches another, that it stays, its place there and its slot
pub record ToldMatch (es : List Entry) (others : List SlotBytes) (k : ℕ) (s : SlotBytes) (m : Match) : Type 0 where
  pub stays : is_gone (entries_of k es) ≡ false
  pub placed : place_by m.place (entries_of k es) ≡ m.other
  pub slot : slot_by s (entries_of k es) ≡ get_or others m.number empty_slot

-- and of one that matches none that it is gone
abbrev pub Told : List Entry → List SlotBytes → ℕ → SlotBytes → Option Match → Type 0
Told es others k s none = is_gone (entries_of k es) ≡ true
Told es others k s (some m) = ToldMatch es others k s m

-- this of the nodes from number k on
unfoldable pub ToldAll : List Entry → List SlotBytes → ℕ → List SlotBytes → List (Option Match) → Type 0
ToldAll es others k [] ms = Unit {0}
ToldAll es others k (s ∷ ss) [] = Unit {0}
ToldAll es others k (s ∷ ss) (m ∷ ms) = Told es others k s m × ToldAll es others (suc k) ss ms

module _ (es : List Entry) (others : List SlotBytes) where
  -- of a list and one behind it
  told_split : (xs ys : List SlotBytes) (ms ns : List (Option Match)) (k : ℕ) → length ms ≡ length xs → ToldAll es others k (xs ++ ys) (ms ++ ns)
      → ToldAll es others k xs ms × ToldAll es others (k + length xs) ys ns
  unfolding ToldAll
  told_split [] ys [] ns k e h = (tt, rw (add-zero k) h)
  told_split [] ys (m ∷ ms) ns k e h = absurd (omega arith)
  told_split (x ∷ xs) ys [] ns k e h = absurd (omega arith)
  told_split (x ∷ xs) ys (m ∷ ms) ns k e h =
      let parts = told_split xs ys ms ns (suc k) (omega arith) h.1 in
      ((h.0, parts.0), subst (λ (n : ℕ). ToldAll es others n ys ns) (omega arith) parts.1)

  -- of a tree's root
  told_root : (t : Tree) (k p : ℕ) (c : Option Sibling) → ToldAll es others k (listing t) (matches p c t) → (s : SlotBytes) × Told es others k s (match_of p c)
  unfolding ToldAll listing matches
  told_root (node s fs) k p c h = (s, h.0)

-- ---- the blocks of a run

-- the block of a place is the first with that place
slots_at_here : (q : ℕ) (b : Block) (bs : List Block) → b.place ≡ q → slots_at q (b ∷ bs) ≡ b.slots
unfolding slots_at
slots_at_here q b bs e = rw (eq-eqb b.place q e)

slots_at_past : (q : ℕ) (b : Block) (bs : List Block) → (b.place ≡ q → ⊥) → slots_at q (b ∷ bs) ≡ slots_at q bs
unfolding slots_at
slots_at_past q b bs n = rw (ne_eqb b.place q n)

-- a tree of the first that matches a tree of the second has the second's slots that match it
abbrev pub Agreeing : List Entry → List SlotBytes → Sibling → Type 0
Agreeing es others d =
    (t : Tree) (k p : ℕ) → ToldAll es others k (listing t) (matches p (some d) t)
    → matched_slots es k t ≡ kept (matches d.place (some (record { number = k; place = p; tree = t })) d.tree) (listing d.tree)

-- a field of the second, which its name and ordinal alone find among its siblings
module _ (es : List Entry) (others : List SlotBytes) (cs : List Sibling) (d : Sibling) (o : ℕ)
    (found : nth (name_of d.tree) o cs ≡ some d)
    (only : (n : List ℕ) (i : ℕ) (c : Sibling) → nth n i cs ≡ some c → c.place ≡ d.place → (name_of d.tree ≡ n) × (i ≡ o))
    (agreeing : Agreeing es others d) where
  abbrev named : List ℕ
  named = name_of d.tree

  -- its slots that match, where its root matches c
  abbrev slots_of : Option Sibling → List SlotBytes
  slots_of c = kept (matches d.place c d.tree) (listing d.tree)

  -- the block of its place among some is that of the sibling that its name and an ordinal find, if there is one
  abbrev Finds : List Block → ℕ → List Sibling → Type 0
  Finds bs i ones = slots_at d.place bs ≡ slots_of (nth named i ones)

  -- the block of the first field of a run, before others
  module _ (t : Tree) (fs : Fields) (before : List (List ℕ)) (k p : ℕ)
      (rest : (j : ℕ) → alike named (name_of t ∷ before) + j ≡ o → Finds (blocks es (k + size t) (suc p) fs) j (siblings (k + size t) (suc p) fs))
      (told : ToldAll es others k (listing t) (matches p (nth (name_of t) (alike (name_of t) before) cs) t)) where
    abbrev this : Sibling
    this = record { number = k; place = p; tree = t }

    abbrev later : List Sibling
    later = siblings (k + size t) (suc p) fs

    -- where this field is not the one that is looked for
    past : (i : ℕ) → alike named before + i ≡ o → (same_bytes (name_of t) named ≡ true → i ≡ 0 → ⊥) → Finds (blocks es (k + size t) (suc p) fs) i (this ∷ later)
    past i e never = by_test (same_bytes (name_of t) named) (same i e never) other
      where
        same : (j : ℕ) → alike named before + j ≡ o → (same_bytes (name_of t) named ≡ true → j ≡ 0 → ⊥) → same_bytes (name_of t) named ≡ true
            → Finds (blocks es (k + size t) (suc p) fs) j (this ∷ later)
        same zero e never q = absurd (never q refl)
        same (suc j) e never q = rest j (omega (arith, alike_same named (name_of t) before q)) ∙ ap slots_of (sym (nth_next named this later j q))

        other : same_bytes (name_of t) named ≡ false → Finds (blocks es (k + size t) (suc p) fs) i (this ∷ later)
        other q = rest i (omega (arith, alike_other named (name_of t) before q)) ∙ ap slots_of (sym (nth_other named this later i q))

    -- where it is, it matches d
    hit : (i : ℕ) → alike named before + i ≡ o → same_bytes (name_of t) named ≡ true → i ≡ 0 → nth (name_of t) (alike (name_of t) before) cs ≡ some d
    hit i e q z = rw (same_bytes_equal (name_of t) named q) (ap (λ (j : ℕ). nth named j cs) {x = alike named before} {y = o} (omega arith) ∙ found)

    -- where it matches none, it has no block
    first_none : nth (name_of t) (alike (name_of t) before) cs ≡ none → (i : ℕ) → alike named before + i ≡ o
        → Finds (blocks es k p (field t fs)) i (this ∷ later)
    unfolding blocks
    first_none q i e =
        let root = told_root es others t k p none (subst (λ (c : Option Sibling). ToldAll es others k (listing t) (matches p c t)) q told) in
        rw root.1 (past i e (λ s z. none-ne-some d (sym q ∙ hit i e s z)))

    -- where it matches one, it has the block of that one's place
    first_some : (c : Sibling) → nth (name_of t) (alike (name_of t) before) cs ≡ some c → (i : ℕ) → alike named before + i ≡ o
        → Finds (blocks es k p (field t fs)) i (this ∷ later)
    unfolding blocks
    first_some c q i e = rw (root.1.stays, root.1.placed) (on (ℕ_discrete c.place d.place))
      where
        all : ToldAll es others k (listing t) (matches p (some c) t)
        all = subst (λ (x : Option Sibling). ToldAll es others k (listing t) (matches p x t)) q told

        root : (s : SlotBytes) × Told es others k s (match_of p (some c))
        root = told_root es others t k p (some c) all

        block : Block
        block = record { place = c.place; slots = matched_slots es k t }

        on : Dec (c.place ≡ d.place) → Finds (block ∷ blocks es (k + size t) (suc p) fs) i (this ∷ later)
        on (yes w) =
            let mine = only (name_of t) (alike (name_of t) before) c q w in
            let same = same_bytes_true (name_of t) named (sym mine.0) in
            let first : i ≡ 0 = omega (arith, ap (λ (n : List ℕ). alike n before) mine.0, mine.1) in
            slots_at_here d.place block _ w
            ∙ agreeing t k p (subst (λ (x : Option Sibling). ToldAll es others k (listing t) (matches p x t)) (hit i e same first) told)
            ∙ ap slots_of (sym (ap (λ (j : ℕ). nth named j (this ∷ later)) first ∙ nth_first named this later same))
        on (no w) =
            slots_at_past d.place block _ w ∙ past i e (λ s z. w (ap (λ (x : Sibling). x.place) (some_inj.0 (sym q ∙ hit i e s z))))

    -- in either case
    slots_at_first : (i : ℕ) → alike named before + i ≡ o → Finds (blocks es k p (field t fs)) i (this ∷ later)
    slots_at_first = on (nth (name_of t) (alike (name_of t) before) cs) refl
      where
        on : (x : Option Sibling) → nth (name_of t) (alike (name_of t) before) cs ≡ x → (i : ℕ) → alike named before + i ≡ o
            → Finds (blocks es k p (field t fs)) i (this ∷ later)
        on none q = first_none q
        on (some c) q = first_some c q

  -- the block of its place is that of the field that it matches
  slots_at_blocks : (fs : Fields) (before : List (List ℕ)) (k p i : ℕ) → alike named before + i ≡ o → ToldAll es others k (listings fs) (run_matches p cs before fs)
      → Finds (blocks es k p fs) i (siblings k p fs)
  unfolding blocks siblings nth slots_at run_matches listings size
  slots_at_blocks empty before k p i e told = sym (kept_none d.tree d.place)
  slots_at_blocks (field t fs) before k p i e told =
      let c = nth (name_of t) (alike (name_of t) before) cs in
      let behind = run_matches (suc p) cs (name_of t ∷ before) fs in
      let parts = told_split es others (listing t) (listings fs) (matches p c t) behind k (length_matches t p c) told in
      slots_at_first t fs before k p (λ j h. slots_at_blocks fs (name_of t ∷ before) (k + size t) (suc p) j h parts.1) parts.0 i e

-- ---- the matched slots of a tree

module _ (es : List Entry) (others : List SlotBytes) where
  -- the blocks of a run of the first, by places, are the slots of a run of the second that match
  abbrev Ordered : Fields → Type 0
  Ordered gs =
      (cs : List Sibling) (fs : Fields) (k number place : ℕ) (before : List (List ℕ)) → Stand others number (listings gs) → ClaimsAll gs
      → Rest cs before place (siblings number place gs) → ToldAll es others k (listings fs) (run_matches 0 cs [] fs)
      → in_order place (count gs) (blocks es k 0 fs) ≡ kept (run_matches place (siblings k 0 fs) before gs) (listings gs)

  mutual
    unfolding matched_slots in_order kept matches listing Stand Claims count ToldAll siblings alike size

    -- the matched slots of a tree of the first are the slots of the second's tree that match
    pub matched_slots_kept : (u : Tree) (number place : ℕ) → Stand others number (listing u) → Claims u
        → Agreeing es others (record { number = number; place = place; tree = u })
    matched_slots_kept (node v gs) number place stand claims (node s fs) k p told =
        let slot : slot_by s (entries_of k es) ≡ v = told.0.slot ∙ stand.0 in
        ap₂ (λ (x : SlotBytes) (xs : List SlotBytes). x ∷ xs) slot
        (ap (λ (n : ℕ). in_order 0 n (blocks es (suc k) 0 fs)) (ap child_count slot ∙ claims.0)
        ∙ in_order_kept gs (siblings (suc number) 0 gs) fs (suc k) (suc number) 0 [] stand.1 claims.1 (rest_all (siblings (suc number) 0 gs) 0) told.1)

    in_order_kept : (gs : Fields) → Ordered gs
    in_order_kept empty cs fs k number place before stand claims left told = refl
    in_order_kept (field d gs) cs fs k number place before stand claims left told =
        let parts = stand_split others (listing d) (listings gs) number stand in
        let c = nth (name_of d) (alike (name_of d) before) (siblings k 0 fs) in
        let behind = run_matches (suc place) (siblings k 0 fs) (name_of d ∷ before) gs in
        ap₂ ◌++◌
        (slots_at_blocks es others cs (record { number = number; place = place; tree = d }) (alike (name_of d) before)
        (rest_found cs before number place d gs left) (rest_only cs before number place d gs left)
        (λ t i p h. matched_slots_kept d number place parts.0 claims.0 t i p h)
        fs [] k 0 (alike (name_of d) before) (zero-add _) told)
        (in_order_kept gs cs fs k (number + size d) (suc place) (name_of d ∷ before) parts.1 claims.1 (rest_run cs before number place d gs left) told)
        ∙ sym (kept_append (matches place c d) behind (listing d) (listings gs) (length_matches d place c))
