-- The row of each node of a tree that keeps the rules: where it stands, that its node keeps them, what stands above the node, and how it is rewritten.
use Prim.Native.Nat.{ℕ, zero, suc, ◌+◌, ◌*◌, ◌-◌, ◌<◌}
use mathlib.Core.Path.{◌≡◌, refl, sym, ap, ap₂, ◌∙◌, subst}
use mathlib.Core.List.{List, [], ◌∷◌, ◌++◌, append-nil, append_assoc}
use native.Mathlib.Decide.{dec_lt}
use native.Mathlib.Omega.{arith}
use lib.ListN.{length, get_or, drop, length-append, get_or-append}
use lib.Seq.{drop-append-add, get_or-append-add}
use Rattle.parquet.specs.Repetition.{REPEATED}
use Rattle.parquet.specs.Logical as logical
use Rattle.sheet.specs.Slot.{repetition}
use Rattle.tree.specs.Annotated.{kind}
use Rattle.tree.specs.Tree.{SlotBytes, Tree, Fields, node, empty, field, listing, listings, size, slot_of}
use Rattle.tree.specs.Rules.{under_map_of, standing_below, KeepsAt, Keeps, KeepsAll}
use Rattle.schema.specs.Rows.{is_map_parent, row, parent_of, after_first, rows_from, run_rows_from, rows, row_width, number_in}
use Rattle.schema.specs.Demand.{kind_in}
use Rattle.schema.specs.Roles.{Ascent, ascents, run_ascents, ascent, HasKind}
use Rattle.tree.specs.declared.standing.Standing.{Standing}
use Rattle.tree.specs.declared.standing.Standing.TheVariants.{Root}
use Rattle.schema.specs.declared.roles.Parent.{Parent}
use Rattle.schema.proofs.RewrittenSlotLaws.{rewritten_slot}
use Rattle.schema.proofs.RewrittenTreeLaws.{rewritten_tree, rewritten_run}
use Rattle.schema.proofs.RewrittenRowsLaws.{map_after, map_below, size_rewritten}
use Rattle.schema.proofs.RowsLaws.{length_row, length_rows_from}
use Rattle.schema.proofs.AscentLaws.{Under, under_root, under_after, under_below, Repeats, IsLayer, Layers, list_fields, map_fields}

-- some numbers begin with the row of a node that keeps the rules; the rules and the row take its parent for a MAP alike, what the parent is to it stands
-- in the way up from it, and the node is rewritten at its place
pub record NodeRow (edition : ℕ) (s copy : SlotBytes) (a : Ascent) (numbers : List ℕ) : Type 0 where
  pub standing : Standing
  pub «parent» : Parent
  pub at : ℕ
  pub up : ℕ
  pub above : SlotBytes
  pub path : List Tree
  pub fields : Fields
  pub rest : List ℕ
  pub own : ℕ
  pub ups : Ascent
  pub keeps : KeepsAt edition standing s fields
  pub alike : under_map_of standing ≡ is_map_parent «parent»
  pub begins : numbers ≡ row at up «parent» above path s fields ++ rest
  pub under : Under «parent» own above ups
  pub stands : a ≡ record { index = own; tree = node s fields } ∷ ups
  pub map_child : HasKind logical.MAP ups → IsLayer s
  pub copied : copy ≡ rewritten_slot (under_map_of standing) s

-- what follows n rows, and k more
drop_rows : (n k : ℕ) (xs ys : List ℕ) → length xs ≡ row_width * n → drop (row_width * (n + k)) (xs ++ ys) ≡ drop (row_width * k) ys
drop_rows n k xs ys e =
    let sum : row_width * (n + k) ≡ length xs + row_width * k = omega arith in
    rw sum (drop-append-add xs ys (row_width * k))

-- one of a + b nodes is one of the first a, or one of the others
pub either : (P : ℕ → Type 0) (a b k : ℕ) → k < a + b → (k < a → P k) → ((j : ℕ) → j < b → P (a + j)) → P k
either P a b k l f g = cases (dec_lt k a)
  where
    cases : Dec (k < a) → P k
    cases (yes h) = f h
    cases (no h) =
        let at : k ≡ a + (k - a) = omega arith in
        subst P (sym at) (g (k - a) (omega arith))

-- an element of two lists, by the length of the first
module _ {A : Type 0} (xs ys : List A) (d : A) (n : ℕ) (e : length xs ≡ n) where
  in_first : (k : ℕ) → k < n → get_or (xs ++ ys) k d ≡ get_or xs k d
  in_first k l = get_or-append xs ys d k (omega arith)

  in_second : (j : ℕ) → get_or (xs ++ ys) (n + j) d ≡ get_or ys j d
  in_second j = rw (← e) (get_or-append-add xs ys j d)

mutual
  unfolding ascents size listing

  length_ascents : (t : Tree) (i : ℕ) (a : Ascent) → length (ascents i a t) ≡ size t
  length_ascents (node s fs) i a = ap suc (length_run_ascents fs 0 (record { index = i; tree = node s fs } ∷ a))

  length_run_ascents : (fs : Fields) (i : ℕ) (a : Ascent) → length (run_ascents i a fs) ≡ length (listings fs)
  length_run_ascents empty i a = refl
  length_run_ascents (field t fs) i a =
      length-append (ascents i a t) (run_ascents (suc i) a fs)
      ∙ ap₂ ◌+◌ (length_ascents t i a) (length_run_ascents fs (suc i) a)
      ∙ sym (length-append (listing t) (listings fs))

-- a node of a run is one of its first field's, or one of the shorter run's
in_run : (edition : ℕ) (first others firsts later : List SlotBytes) (us vs : List Ascent) (xs ys rest : List ℕ) (k : ℕ) → length firsts ≡ length first → length us ≡ length first → length xs ≡ row_width * length first → k < length (first ++ others)
    → (k < length first → NodeRow edition (get_or first k []) (get_or firsts k []) (get_or us k []) (drop (row_width * k) (xs ++ (ys ++ rest))))
    → ((j : ℕ) → j < length others → NodeRow edition (get_or others j []) (get_or later j []) (get_or vs j []) (drop (row_width * j) (ys ++ rest)))
    → NodeRow edition (get_or (first ++ others) k []) (get_or (firsts ++ later) k []) (get_or (us ++ vs) k []) (drop (row_width * k) ((xs ++ ys) ++ rest))
in_run edition first others firsts later us vs xs ys rest k c n e l f g =
    rw (append_assoc xs ys rest)
    (either (λ (i : ℕ). NodeRow edition (get_or (first ++ others) i []) (get_or (firsts ++ later) i []) (get_or (us ++ vs) i []) (drop (row_width * i) (xs ++ (ys ++ rest)))) (length first) (length others) k (omega (arith, length-append first others))
    (λ b. rw (in_first first others [] (length first) refl k b, in_first firsts later [] (length first) c k b, in_first us vs [] (length first) n k b) (f b))
    (λ j b. rw (in_second first others [] (length first) refl j, in_second firsts later [] (length first) c j, in_second us vs [] (length first) n j, drop_rows (length first) j xs (ys ++ rest) e) (g j b)))

mutual
  unfolding Keeps rows_from listing size ascents rewritten_tree

  -- the row of node k stands at 11k; a child of a LIST is repeated, and one of a MAP a repeated group
  pub row_at : (edition : ℕ) (t : Tree) (p : Standing) (q : Parent) (at up : ℕ) (above : SlotBytes) (path : List Tree) (rest : List ℕ) (i : ℕ) (a : Ascent) → Keeps edition p t → under_map_of p ≡ is_map_parent q → Under q i above a → (HasKind logical.LIST a → repetition (slot_of t) ≡ REPEATED) → (HasKind logical.MAP a → IsLayer (slot_of t)) → (k : ℕ) → k < size t → NodeRow edition (get_or (listing t) k []) (get_or (listing (rewritten_tree p t)) k []) (get_or (ascents i a t) k []) (drop (row_width * k) (rows_from at up q above path t ++ rest))
  row_at edition (node s fs) p q at up above path rest i a h e u ls ms zero l =
      record {
        standing = p;
        «parent» = q;
        at = at;
        up = up;
        above = above;
        path = path;
        fields = fs;
        rest = run_rows_from (suc at) at (parent_of q above s fs) s (node s fs ∷ path) fs ++ rest;
        own = i;
        ups = a;
        keeps = h.0;
        alike = e;
        begins = append_assoc (row at up q above path s fs) (run_rows_from (suc at) at (parent_of q above s fs) s (node s fs ∷ path) fs) rest;
        under = u;
        stands = refl;
        map_child = ms;
        copied = refl;
      }
  row_at edition (node s fs) p q at up above path rest i a h e u ls ms (suc k) l =
      let own = row at up q above path s fs in
      let run = run_rows_from (suc at) at (parent_of q above s fs) s (node s fs ∷ path) fs in
      let mine : Ascent = record { index = i; tree = node s fs } ∷ a in
      let next : suc k ≡ 1 + k = omega arith in
      subst (NodeRow edition (get_or (listings fs) k []) (get_or (listings (rewritten_run (standing_below p s) fs)) k []) (get_or (run_ascents 0 mine fs) k []))
      (sym (ap (drop (row_width * suc k)) (append_assoc own run rest) ∙ rw next (drop_rows 1 k own (run ++ rest) (length_row at up q above path s fs))))
      (row_in edition fs (standing_below p s) (parent_of q above s fs) (suc at) at s (node s fs ∷ path) rest 0 mine h.1 (map_below p q above s fs e)
      (under_below edition p q i above a u s fs h.0 e ls ms) (list_fields edition p q i above a u s fs h.0 e ls ms) (map_fields edition p q i above a u s fs h.0 e ls ms) k (omega arith))

  row_in : (edition : ℕ) (fs : Fields) (p : Standing) (q : Parent) (at up : ℕ) (above : SlotBytes) (path : List Tree) (rest : List ℕ) (i : ℕ) (a : Ascent) → KeepsAll edition p fs → under_map_of p ≡ is_map_parent q → Under q i above a → (HasKind logical.LIST a → Repeats fs) → (HasKind logical.MAP a → Layers fs) → (k : ℕ) → k < length (listings fs) → NodeRow edition (get_or (listings fs) k []) (get_or (listings (rewritten_run p fs)) k []) (get_or (run_ascents i a fs) k []) (drop (row_width * k) (run_rows_from at up q above path fs ++ rest))
  row_in edition empty p q at up above path rest i a h e u ls ms k l = absurd (omega arith)
  row_in edition (field t fs) p q at up above path rest i a h e u ls ms k l =
      in_run edition (listing t) (listings fs) (listing (rewritten_tree p t)) (listings (rewritten_run p fs)) (ascents i a t) (run_ascents (suc i) a fs) (rows_from at up q above path t) (run_rows_from (at + size t) up (after_first q) above path fs) rest k
      (size_rewritten t p) (length_ascents t i a) (length_rows_from t at up q above path) l
      (λ b. row_at edition t p q at up above path (run_rows_from (at + size t) up (after_first q) above path fs ++ rest) i a h.0 e u (λ x. (ls x).0) (λ x. (ms x).0) k b)
      (λ j b. row_in edition fs p (after_first q) (at + size t) up above path rest (suc i) a h.1 (e ∙ sym (map_after q)) (under_after q i above a u) (λ x. (ls x).1) (λ x. (ms x).1) j b)

-- of a whole tree, where its rows stand at the front of some numbers
pub node_row : (edition : ℕ) (t : Tree) → Keeps edition Root t → (rest : List ℕ) (k : ℕ) → k < size t → NodeRow edition (get_or (listing t) k []) (get_or (listing (rewritten_tree Root t)) k []) (ascent t k) (drop (row_width * k) (rows t ++ rest))
unfolding rows ascent HasKind
node_row edition t h rest k l =
    row_at edition t Root Parent.Other 0 0 [] [] rest 0 [] h refl (under_root []) (λ x. absurd x) (λ x. absurd x) k l

-- the kind in the row of node k
pub row_kind : (edition : ℕ) (t : Tree) (h : Keeps edition Root t) (k : ℕ) (l : k < size t) → kind_in (rows t) k ≡ kind (is_map_parent (node_row edition t h [] k l).«parent») (get_or (listing t) k [])
unfolding number_in row
row_kind edition t h k l =
    ap (λ (numbers : List ℕ). kind_in numbers k) (sym (append-nil (rows t)))
    ∙ ap (λ (numbers : List ℕ). record { kind = get_or numbers 3 0; p1 = get_or numbers 4 0; p2 = get_or numbers 5 0 }) (node_row edition t h [] k l).begins
