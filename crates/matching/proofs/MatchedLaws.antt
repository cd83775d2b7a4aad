-- What the request promises of the nodes that match: "The roots match; children of matched nodes match by name; where siblings share one, the first
-- matches the first, and so on."
use mathlib.Core.Path.{◌≡◌, refl, sym, ap, ◌∙◌, subst}
use mathlib.Core.Logic.{◌⊎◌, inl, inr, ◌↔◌}
use mathlib.Core.Option.{Option, none, some, none-ne-some}
use native.Mathlib.Omega.{arith}
use lib.ListN.{get_or}
use Rattle.tree.specs.Tree.{Tree}
use Rattle.matching.specs.Matching.{Sibling, name_of, matching}
use Rattle.matching.specs.declared.fields.Match.{Match}
use Rattle.matching.specs.Nodes.{root_of, IsField, here, IsNode, ordinal, Matched, Unmatched}
use Rattle.matching.proofs.NodeLaws.{within_field, field_within, node_once, parent_once}
use Rattle.matching.proofs.MatchingLaws.{Pair, roots, fields, pair_sym, pair_matched, matched_pair, matched_once}

-- nodes that match are nodes
pair_node : {t u : Tree} {c d : Sibling} → Pair t u c d → IsNode t c
pair_node roots = here
pair_node (fields p f g n o) = within_field (pair_node p) f

-- nodes that match, the second's field, and that it has the name and the ordinal of the first's
record FieldPair (t u : Tree) (c d a b : Sibling) : Type 0 where
  parents : Pair t u c d
  second : IsField d b
  named : name_of a.tree ≡ name_of b.tree
  ordered : ordinal c a ≡ ordinal d b

-- what a field matches is a field of what its parent matches
pair_parent : {t u : Tree} {c a b : Sibling} → IsNode t c → IsField c a → Pair t u a b → (d : Sibling) × FieldPair t u c d a b
pair_parent {t} {c} w f roots = absurd (omega (arith, field_within c (root_of t) f))
pair_parent {t} {u} {c} {a} {b} w f (fields {c = x} {d = y} p g h n o) =
    (y, subst (λ (z : Sibling). FieldPair t u z y a b) (parent_once (pair_node p) w g f refl) (record { parents = p; second = h; named = n; ordered = o }))

-- so of any parents of fields that match
pair_parents : {t u : Tree} {c d a b : Sibling} → IsNode t c → IsNode u d → IsField c a → IsField d b → Pair t u a b → FieldPair t u c d a b
pair_parents {t} {u} {c} {d} {a} {b} v w f g p =
    let (e, r) = pair_parent v f p in
    subst (λ (z : Sibling). FieldPair t u c z a b) (parent_once (pair_node (pair_sym r.parents)) w r.second g refl) r

-- the matching says that two nodes match exactly where the request's words say so
pub matched_iff : (t u : Tree) {c d : Sibling} → IsNode t c → IsNode u d → Matched t u c d ↔ Pair t u c d
matched_iff t u {c} {d} v w = (said, pair_matched t u)
  where
    said : Matched t u c d → Pair t u c d
    said e =
        let (b, p, same) = matched_pair t u c v e in
        subst (λ (x : Sibling). Pair t u c x) (node_once (pair_node (pair_sym p)) w (ap (λ (m : Match). m.number) same)) p

-- "The roots match"
pub roots_match : (t u : Tree) → Matched t u (root_of t) (root_of u)
roots_match t u = pair_matched t u roots

-- what a node matches is a node
pub matched_node : (t u : Tree) (c : Sibling) {m : Match} → IsNode t c → get_or (matching t u) c.number none ≡ some m
    → (d : Sibling) × IsNode u d × Matched t u c d × (d.number ≡ m.number)
matched_node t u c w e =
    let (d, p, same) = matched_pair t u c w e in
    (d, pair_node (pair_sym p), pair_matched t u p, ap (λ (m : Match). m.number) same)

-- each node matches a node of the second tree, or none
pub matched_or_not : (t u : Tree) {c : Sibling} → IsNode t c → ((d : Sibling) × IsNode u d × Matched t u c d) ⊎ Unmatched t u c
matched_or_not t u {c} w = by_match (get_or (matching t u) c.number none) refl
  where
    by_match : (x : Option Match) → get_or (matching t u) c.number none ≡ x → ((d : Sibling) × IsNode u d × Matched t u c d) ⊎ Unmatched t u c
    by_match none q = inr q
    by_match (some m) q = let (d, v, e, same) = matched_node t u c w q in inl (d, v, e)

-- a node of the second is matched by one node at most
pub matched_alone : (t u : Tree) {a c : Sibling} (d : Sibling) → IsNode t a → IsNode t c → Matched t u a d → Matched t u c d → a ≡ c
matched_alone t u {a} {c} d v w e f = node_once v w (matched_once t u a.number c.number e f refl)

-- the fields of a node that matches none match none
pub unmatched_field : (t u : Tree) {c a : Sibling} → IsNode t c → IsField c a → Unmatched t u c → Unmatched t u a
unmatched_field t u {c} {a} w f e = by_match (get_or (matching t u) a.number none) refl
  where
    by_match : (x : Option Match) → get_or (matching t u) a.number none ≡ x → Unmatched t u a
    by_match none q = q
    by_match (some m) q =
        let (b, p, same) = matched_pair t u a (within_field w f) q in
        let (d, r) = pair_parent w f p in
        absurd (none-ne-some _ (sym e ∙ pair_matched t u r.parents))

-- the parents of fields that match, match
pub parents_match : (t u : Tree) {c d a b : Sibling} → IsNode t c → IsNode u d → IsField c a → IsField d b → Matched t u a b → Matched t u c d
parents_match t u v w f g e =
    pair_matched t u (pair_parents v w f g ((matched_iff t u (within_field v f) (within_field w g)).0 e)).parents

-- "children of matched nodes match by name; where siblings share one, the first matches the first, and so on"
pub fields_match : (t u : Tree) {c d a b : Sibling} → IsNode t c → IsNode u d → Matched t u c d → IsField c a → IsField d b
    → Matched t u a b ↔ ((name_of a.tree ≡ name_of b.tree) × (ordinal c a ≡ ordinal d b))
fields_match t u v w m f g = (
  λ e. let r = pair_parents v w f g ((matched_iff t u (within_field v f) (within_field w g)).0 e) in (r.named, r.ordered),
  λ e. pair_matched t u (fields ((matched_iff t u v w).0 m) f g e.0 e.1),
)
