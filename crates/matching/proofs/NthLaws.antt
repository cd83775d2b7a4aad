-- Laws of `nth`, which finds a sibling by its name and by how many of the name stand before it, and of `siblings`, the fields of a run.
use Prim.Native.Nat.{ℕ, zero, suc, ◌+◌, ◌≤◌, ◌<◌}
use mathlib.Core.Path.{◌≡◌, refl, ap, ◌∙◌}
use mathlib.Core.Bool.{true, false}
use mathlib.Core.List.{List, [], ◌∷◌}
use mathlib.Core.Option.{none, some, some_inj, none-ne-some}
use native.Mathlib.Omega.{arith}
use lib.ListN.{length, take, get_or, get_elem?, length-append}
use Rattle.laws.proofs.BoolLaws.{by_test}
use Rattle.sheet.specs.Name.{same_bytes}
use Rattle.sheet.proofs.NameLaws.{same_bytes_equal, same_bytes_true}
use Rattle.tree.specs.Tree.{Tree, Fields, empty, field, size, count, listing, listings}
use Rattle.matching.specs.Matching.{Sibling, name_of, siblings, alike, nth}
use Rattle.matching.specs.Nodes.{names}

-- elements of a list ---------------------------------------------------------------------------------------------------------

-- below a list's length an element stands
pub element_at {ℓ} : {A : Type ℓ} (l : List A) (i : ℕ) (d : A) → i < length l → get_elem? l i ≡ some (get_or l i d)
element_at [] i d h = absurd (omega arith)
element_at (x ∷ l) zero d h = refl
element_at (x ∷ l) (suc i) d h = element_at l i d (omega arith)

-- by a name and an ordinal ---------------------------------------------------------------------------------------------------

-- a sibling of another name is passed over
pub nth_other : (n : List ℕ) (o : ℕ) (c : Sibling) (cs : List Sibling) → same_bytes (name_of c.tree) n ≡ false → nth n o (c ∷ cs) ≡ nth n o cs
unfolding nth
nth_other n zero c cs e = rw e
nth_other n (suc o) c cs e = rw e

-- one of the name is found, or counted
pub nth_first : (n : List ℕ) (c : Sibling) (cs : List Sibling) → same_bytes (name_of c.tree) n ≡ true → nth n 0 (c ∷ cs) ≡ some c
unfolding nth
nth_first n c cs e = rw e

pub nth_alike : (n : List ℕ) (o : ℕ) (c : Sibling) (cs : List Sibling) → same_bytes (name_of c.tree) n ≡ true → nth n (suc o) (c ∷ cs) ≡ nth n o cs
unfolding nth
nth_alike n o c cs e = rw e

pub nth_none : (n : List ℕ) (o : ℕ) → nth n o [] ≡ none
unfolding nth
nth_none n o = refl

-- a sibling is found by its name and by how many of the name stand before it
pub nth_at : (cs : List Sibling) (i : ℕ) {c : Sibling} → get_elem? cs i ≡ some c
    → nth (name_of c.tree) (alike (name_of c.tree) (names (take i cs))) cs ≡ some c
unfolding nth alike
nth_at [] i {c} e = absurd (none-ne-some c e)
nth_at (b ∷ cs) zero {c} e =
    rw (same_bytes_true (name_of b.tree) (name_of c.tree) (ap (λ (s : Sibling). name_of s.tree) (some_inj.0 e))) e
nth_at (b ∷ cs) (suc i) {c} e =
    by_test (same_bytes (name_of b.tree) (name_of c.tree)) (λ t. rw (t, t) (nth_at cs i e))
    (λ f. rw f (nth_other (name_of c.tree) (alike (name_of c.tree) (names (take i cs))) b cs f ∙ nth_at cs i e))

-- what a name and an ordinal find: it stands somewhere, has the name, and as many of the name stand before it
pub record Found (n : List ℕ) (o : ℕ) (cs : List Sibling) (c : Sibling) : Type 0 where
  pub index : ℕ
  pub stands : get_elem? cs index ≡ some c
  pub named : name_of c.tree ≡ n
  pub before : alike n (names (take index cs)) ≡ o

-- behind one more sibling, of the name or not
found_alike : {n : List ℕ} {o : ℕ} {cs : List Sibling} {c : Sibling} (b : Sibling) → same_bytes (name_of b.tree) n ≡ true
    → Found n o cs c → Found n (suc o) (b ∷ cs) c
unfolding alike
found_alike b t f = record { index = suc f.index; stands = f.stands; named = f.named; before = rw t (ap suc f.before) }

found_other : {n : List ℕ} {o : ℕ} {cs : List Sibling} {c : Sibling} (b : Sibling) → same_bytes (name_of b.tree) n ≡ false
    → Found n o cs c → Found n o (b ∷ cs) c
unfolding alike
found_other b t f = record { index = suc f.index; stands = f.stands; named = f.named; before = rw t f.before }

found_first : {n : List ℕ} {cs : List Sibling} {c : Sibling} (b : Sibling) → same_bytes (name_of b.tree) n ≡ true → b ≡ c → Found n 0 (b ∷ cs) c
unfolding alike
found_first {n} {c} b t q = record { index = 0; stands = ap some q; named = same_bytes_equal (name_of c.tree) n (rw q at t); before = refl }

pub nth_found : (n : List ℕ) (o : ℕ) (cs : List Sibling) {c : Sibling} → nth n o cs ≡ some c → Found n o cs c
unfolding nth
nth_found n o [] {c} e = absurd (none-ne-some c e)
nth_found n zero (b ∷ cs) e =
    by_test (same_bytes (name_of b.tree) n) (λ t. found_first b t (some_inj.0 (rw t at e))) (λ f. found_other b f (nth_found n zero cs (rw f at e)))
nth_found n (suc o) (b ∷ cs) e =
    by_test (same_bytes (name_of b.tree) n) (λ t. found_alike b t (nth_found n o cs (rw t at e))) (λ f. found_other b f (nth_found n (suc o) cs (rw f at e)))

-- the fields of a run --------------------------------------------------------------------------------------------------------

pub length_siblings : (k p : ℕ) (fs : Fields) → length (siblings k p fs) ≡ count fs
unfolding siblings count
length_siblings k p empty = refl
length_siblings k p (field t fs) = ap suc (length_siblings (k + size t) (suc p) fs)

-- the places count up
pub siblings_place : (k p : ℕ) (fs : Fields) (i : ℕ) {c : Sibling} → get_elem? (siblings k p fs) i ≡ some c → c.place ≡ p + i
unfolding siblings
siblings_place k p empty i {c} e = absurd (none-ne-some c e)
siblings_place k p (field t fs) zero e = omega (arith, ap (λ (s : Sibling). s.place) (some_inj.0 e))
siblings_place k p (field t fs) (suc i) e = omega (arith, siblings_place (k + size t) (suc p) fs i e)

-- a run has its first field's nodes and those behind it
pub length_listings : (t : Tree) (fs : Fields) → length (listings (field t fs)) ≡ size t + length (listings fs)
unfolding listings size
length_listings t fs = length-append (listing t) (listings fs)

-- a field's nodes have numbers of the run's
pub siblings_within : (k p : ℕ) (fs : Fields) (i : ℕ) {c : Sibling} → get_elem? (siblings k p fs) i ≡ some c
    → (k ≤ c.number) × (c.number + size c.tree ≤ k + length (listings fs))
unfolding siblings
siblings_within k p empty i {c} e = absurd (none-ne-some c e)
siblings_within k p (field t fs) zero e = rw (← (some_inj.0 e), length_listings) (omega arith)
siblings_within k p (field t fs) (suc i) e = let r = siblings_within (k + size t) (suc p) fs i e in omega (arith, length_listings t fs)

-- a later field's number is behind all of an earlier field's nodes
pub siblings_rise : (k p : ℕ) (fs : Fields) (i j : ℕ) {c d : Sibling} → i < j
    → get_elem? (siblings k p fs) i ≡ some c → get_elem? (siblings k p fs) j ≡ some d → c.number + size c.tree ≤ d.number
unfolding siblings
siblings_rise k p empty i j {c} h e f = absurd (none-ne-some c e)
siblings_rise k p (field t fs) i zero h e f = absurd (omega arith)
siblings_rise k p (field t fs) zero (suc j) h e f = rw (← (some_inj.0 e)) (siblings_within (k + size t) (suc p) fs j f).0
siblings_rise k p (field t fs) (suc i) (suc j) h e f = siblings_rise (k + size t) (suc p) fs i j (omega arith) e f
