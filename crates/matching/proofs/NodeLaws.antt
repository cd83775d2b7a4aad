-- The nodes of a tree: each number below its size is one node's, a node has one parent, and its slot stands at its number in the listing.
use Prim.Native.Nat.{ℕ, zero, suc, ◌+◌, ◌-◌, ◌≤◌, ◌<◌}
use mathlib.Core.Path.{◌≡◌, refl, sym, ap, ◌∙◌}
use mathlib.Core.List.{[]}
use mathlib.Core.Option.{some, some_inj, none-ne-some}
use native.Mathlib.Decide.{dec_lt}
use native.Mathlib.Omega.{arith}
use lib.ListN.{length, get_or, get_elem?, get_or-append}
use lib.Seq.{get_or-append-add}
use Rattle.tree.specs.Tree.{Tree, Fields, node, empty, field, size, listing, listings, slot_of, run_of}
use Rattle.tree.proofs.StandingLaws.{size_positive}
use Rattle.matching.specs.Matching.{Sibling, siblings}
use Rattle.matching.specs.Nodes.{fields_of, IsField, Within, here, inside, IsNode}
use Rattle.matching.proofs.NthLaws.{siblings_place, siblings_within, siblings_rise, length_listings}

-- a field has its index for a place
pub field_place : (c : Sibling) (i : ℕ) {d : Sibling} → get_elem? (fields_of c) i ≡ some d → d.place ≡ i
field_place c i e = omega (arith, siblings_place (suc c.number) 0 (run_of c.tree) i e)

pub field_at : (c : Sibling) (i : ℕ) {d : Sibling} → get_elem? (fields_of c) i ≡ some d → IsField c d
field_at c i e = ap (get_elem? (fields_of c)) (field_place c i e) ∙ e

-- a field of a node of a tree is a node of it
pub within_field : {b c d : Sibling} → Within b c → IsField c d → Within b d
within_field here f = inside f here
within_field (inside g w) f = inside g (within_field w f)

-- how many nodes a tree has
size_node : (t : Tree) → size t ≡ suc (length (listings (run_of t)))
unfolding size listing
size_node (node s fs) = refl

-- the numbers of a field's nodes, and of a node's, lie within its tree's
pub field_within : (b c : Sibling) → IsField b c → (b.number < c.number) × (c.number + size c.tree ≤ b.number + size b.tree)
field_within b c f = omega (arith, siblings_within (suc b.number) 0 (run_of b.tree) c.place f, size_node b.tree)

pub node_within : {b c : Sibling} → Within b c → (b.number ≤ c.number) × (c.number + size c.tree ≤ b.number + size b.tree)
node_within here = omega arith
node_within (inside {b} {c} f w) = let r = node_within w in omega (arith, field_within b c f)

-- the number is one of a node's tree
abbrev Spans : Sibling → ℕ → Type 0
Spans c k = (c.number ≤ k) × (k < c.number + size c.tree)

spans_node : {b c : Sibling} → Within b c → Spans b c.number
spans_node {c} w = let p = size_positive c.tree in omega (arith, node_within w)

-- a node's number is below the number of a tree's nodes
pub node_below : (t : Tree) {c : Sibling} → IsNode t c → c.number < size t
node_below t w = omega (arith, spans_node w)

-- fields whose trees share a number are one
field_once : (b c d : Sibling) (k : ℕ) → IsField b c → IsField b d → Spans c k → Spans d k → c ≡ d
field_once b c d k f g m n = by_place (dec_lt c.place d.place) (dec_lt d.place c.place)
  where
    rise : (x y : Sibling) → x.place < y.place → IsField b x → IsField b y → x.number + size x.tree ≤ y.number
    rise x y = siblings_rise (suc b.number) 0 (run_of b.tree) x.place y.place

    by_place : Dec (c.place < d.place) → Dec (d.place < c.place) → c ≡ d
    by_place (yes h) _ = absurd (omega (arith, rise c d h f g))
    by_place (no l) (yes h) = absurd (omega (arith, rise d c h g f))
    by_place (no l) (no h) = let same : c.place ≡ d.place = omega arith in some_inj.0 (sym f ∙ rw same g)

-- nodes of one number are one
pub node_once : {b c d : Sibling} → Within b c → Within b d → c.number ≡ d.number → c ≡ d
node_once here here e = refl
node_once {c} {d} here (inside {c = a} f w) e = absurd (omega (arith, field_within c a f, node_within w))
node_once {c} {d} (inside {c = a} f v) here e = absurd (omega (arith, field_within d a f, node_within v))
node_once {b} {c} {d} (inside {c = a} f v) (inside {c = x} g w) e = node_once v (rw same w) e
  where
    same : a ≡ x
    same = field_once b a x c.number f g (spans_node v) (rw e (spans_node w))

-- no field has the number of a node below a field of the same parent
field_above : (b c d x y : Sibling) → IsField b x → IsField b c → Within c d → IsField d y → x.number ≡ y.number → ⊥
field_above b c d x y f h w g e =
    let same = field_once b x c x.number f h (spans_node (here {b = x})) (rw e (spans_node (within_field w g))) in
    omega (arith, ap (λ (s : Sibling). s.number) same, node_within w, field_within d y g)

-- fields of one number have one parent
pub parent_once : {b c d x y : Sibling} → Within b c → Within b d → IsField c x → IsField d y → x.number ≡ y.number → c ≡ d
parent_once here here f g e = refl
parent_once {c} {d} {x} {y} here (inside {c = a} h w) f g e = absurd (field_above c a d x y f h w g e)
parent_once {c} {d} {x} {y} (inside {c = a} h v) here f g e = absurd (field_above d a c y x g h v f (sym e))
parent_once {b} {x} {y} (inside {c = a} h v) (inside {c = z} i w) f g e = parent_once v (rw same w) f g e
  where
    same : a ≡ z
    same = field_once b a z x.number h i (spans_node (within_field v f)) (rw e (spans_node (within_field w g)))

mutual
  unfolding size listing siblings

  -- each number of a tree is a node's
  within_at : (t : Tree) (k p i : ℕ) → i < size t → (c : Sibling) × Within (record { number = k; place = p; tree = t }) c × (c.number ≡ k + i)
  within_at (node s fs) k p zero h = (record { number = k; place = p; tree = node s fs }, here, omega arith)
  within_at (node s fs) k p (suc i) h =
      let r = field_with fs (suc k) 0 i (omega arith) in
      (r.2, inside (field_at (record { number = k; place = p; tree = node s fs }) r.0 r.3) r.4, omega (arith, r.5))

  -- and each number of a run is one of some field's nodes
  field_with : (fs : Fields) (k p i : ℕ) → i < length (listings fs)
      → (x : ℕ) × (c : Sibling) × (d : Sibling) × (get_elem? (siblings k p fs) x ≡ some c) × Within c d × (d.number ≡ k + i)
  field_with empty k p i h = absurd (omega arith)
  field_with (field t fs) k p i h =
      elim (dec_lt i (size t)) [
        | yes l ↦ let r = within_at t k p i l in (0, record { number = k; place = p; tree = t }, r.0, refl, r.1, r.2)
        | no l ↦
            let r = field_with fs (k + size t) (suc p) (i - size t) (omega (arith, length_listings t fs)) in
            (suc r.0, r.1, r.2, r.3, r.4, omega (arith, r.5))
      ]

-- each number below a tree's size is a node's
pub node_at : (t : Tree) (k : ℕ) → k < size t → (c : Sibling) × IsNode t c × (c.number ≡ k)
node_at t k h = let r = within_at t 0 0 k h in (r.0, r.1, omega (arith, r.2))

-- the slots of nodes -----------------------------------------------------------------------------------------------------------

-- a field's listing is a part of its run's
siblings_listing : (k p : ℕ) (fs : Fields) (x : ℕ) {e : Sibling} → get_elem? (siblings k p fs) x ≡ some e
    → (i j : ℕ) → i < size e.tree → k + j ≡ e.number + i → get_or (listings fs) j [] ≡ get_or (listing e.tree) i []
unfolding siblings listings size
siblings_listing k p empty x {e} at = absurd (none-ne-some e at)
siblings_listing k p (field t fs) zero at =
    rw (← (some_inj.0 at)) (λ i j h q. let same : j ≡ i = omega arith in rw same (get_or-append (listing t) (listings fs) [] i h))
siblings_listing k p (field t fs) (suc x) at =
    λ i j h q.
    let near = siblings_within (k + size t) (suc p) fs x at in
    let behind : j ≡ length (listing t) + (j - length (listing t)) = omega arith in
    rw behind (get_or-append-add (listing t) (listings fs) (j - length (listing t)) []
    ∙ siblings_listing (k + size t) (suc p) fs x at i (j - length (listing t)) h (omega arith))

-- a tree's listing: its root's slot, and its run's listing
listing_below : (t : Tree) (i : ℕ) → get_or (listing t) (suc i) [] ≡ get_or (listings (run_of t)) i []
unfolding listing
listing_below (node s fs) i = refl

listing_root : (t : Tree) → get_or (listing t) 0 [] ≡ slot_of t
unfolding listing
listing_root (node s fs) = refl

-- a node's listing is a part of the tree's
node_listing : {b c : Sibling} → Within b c → (i j : ℕ) → i < size c.tree → b.number + j ≡ c.number + i
    → get_or (listing b.tree) j [] ≡ get_or (listing c.tree) i []
node_listing {b} here i j h q = ap (λ (n : ℕ). get_or (listing b.tree) n []) (omega arith)
node_listing (inside {b} {c = a} {d = c} f w) i j h q =
    let far = node_within w in
    let near = field_within b a f in
    let deeper : j ≡ suc (j - 1) = omega arith in
    let l : ℕ = c.number + i - a.number in
    rw deeper (listing_below b.tree (j - 1)
    ∙ siblings_listing (suc b.number) 0 (run_of b.tree) a.place f l (j - 1) (omega arith) (omega arith)
    ∙ node_listing w i l h (omega arith))

-- a node's slot stands at its number in the listing
pub node_slot : (t : Tree) {c : Sibling} → IsNode t c → get_or (listing t) c.number [] ≡ slot_of c.tree
node_slot t {c} w = node_listing w 0 c.number (size_positive c.tree) (omega arith) ∙ listing_root c.tree
