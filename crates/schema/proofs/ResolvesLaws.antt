-- What the annotations of each slot resolve to in its node's row.
use Prim.Native.Nat.{ℕ, ◌<◌}
use mathlib.Core.Path.{◌≡◌, refl, sym, ap, ◌∙◌, subst}
use mathlib.Core.Bool.{Bool, true, false, true≢false, cond, ◌&&◌}
use mathlib.Core.List.{[]}
use borrow.Author.Tests.{eq-eqb, ne_eqb, eqb-false}
use lib.Dec.{eqb, leb}
use lib.IntN.{ℤ, pos, negsuc}
use lib.ListN.{get_or}
use Rattle.laws.proofs.BoolLaws.{by_test, and_left, and_right}
use Rattle.parquet.specs.Physical.{GROUP}
use Rattle.parquet.specs.Converted as converted
use Rattle.parquet.specs.Logical as logical
use Rattle.logical_type.specs.Parameters.{valid_parameters}
use Rattle.logical_type.specs.Spelling.{code_of, a_of, b_of, stated_of}
use Rattle.logical_type.specs.Backward.{backward_of}
use Rattle.logical_type.specs.declared.types.LogicalType.{LogicalType}
use Rattle.logical_type.specs.declared.types.Annotation.{Annotation}
use Rattle.logical_type.proofs.ReadingLaws.{Spells, spelled_stated}
use Rattle.annotation.specs.Signed.{natural}
use Rattle.annotation.specs.Meaning.{annotation_of}
use Rattle.annotation.specs.Kinds.{PLAIN_LEAF, PLAIN_GROUP, kind_as, kind_of}
use Rattle.annotation.specs.Rule10.{annotation_on}
use Rattle.annotation.specs.Rule10 as ten
use Rattle.annotation.specs.Rule11.{ordered, is_decimal, decimal_holds}
use Rattle.annotation.specs.Rule11 as eleven
use Rattle.annotation.specs.declared.slot.Annotated.{Annotated}
use Rattle.annotation.specs.declared.resolution.Kind.{Kind}
use Rattle.annotation.proofs.PlacementLaws.{kind_logical, readable, ten_placed}
use Rattle.sheet.specs.Slot.{physical, numbers_of}
use Rattle.tree.specs.Annotated.{annotated, kind, rule10, rule11}
use Rattle.tree.specs.Tree.{SlotBytes, Tree, listing, size}
use Rattle.tree.specs.Rules.{under_map_of, Keeps}
use Rattle.tree.specs.declared.standing.Standing.TheVariants.{Root}
use Rattle.schema.specs.Rows.{is_map_parent, rows}
use Rattle.schema.specs.Roles.{ascent, is_under_map}
use Rattle.schema.specs.Demand.{kind_in, ResolvesTo}
use Rattle.schema.proofs.NodeRowLaws.{node_row, row_kind}

-- the kind of what spells a code and parameters
spelled_kind : (says : Annotation) (n : Annotated) (code a b length : ℕ) → Spells says code a b → annotation_on says n.physical length ≡ true → ((kind_as says n).kind ≡ code) × ((code ≡ logical.DECIMAL → ⊥) → ((kind_as says n).p1 ≡ a) × ((kind_as says n).p2 ≡ b))
spelled_kind Annotation.Plain n code a b length s e = absurd s
spelled_kind (Annotation.Logical l) n code a b length s e =
    (kind_logical l n ∙ s.0, λ d. rw (ne_eqb (code_of l) logical.DECIMAL (λ x. d (sym s.0 ∙ x))) (s.1, s.2))
spelled_kind Annotation.Interval n code a b length s e = absurd s
spelled_kind Annotation.Unreadable n code a b length s e = absurd (true≢false (sym e))

-- precision and scale in order are not negative
ordered_natural : (edition : ℕ) (p s : ℤ) → ordered edition p s ≡ true → (pos (natural p) ≡ p) × (pos (natural s) ≡ s)
unfolding ordered natural
ordered_natural edition (pos p) (pos s) e = (refl, refl)
ordered_natural edition (pos p) (negsuc s) e = absurd (true≢false (sym (and_right (leb 1 p) false (and_left (leb 1 p && false) _ e))))
ordered_natural edition (negsuc p) s e = absurd (true≢false (sym e))

-- the kind of a DECIMAL that keeps rule 11
plain_no_decimal : (group : Bool) → cond group PLAIN_GROUP PLAIN_LEAF ≡ logical.DECIMAL → ⊥
plain_no_decimal true e = eqb-false PLAIN_GROUP logical.DECIMAL refl e
plain_no_decimal false e = eqb-false PLAIN_LEAF logical.DECIMAL refl e

plain_code : (says : Annotation) (n : Annotated) → (says ≡ Annotation.Plain) → (kind_as says n).kind ≡ cond (eqb n.physical GROUP) PLAIN_GROUP PLAIN_LEAF
plain_code says n e = rw e (by_test (eqb n.physical GROUP) (λ g. rw g) (λ g. rw g))

decimal_kind_lem : (says : Annotation) (n : Annotated) → (kind_as says n).kind ≡ logical.DECIMAL → is_decimal says ≡ true
decimal_kind_lem Annotation.Plain n e = absurd (plain_no_decimal (eqb n.physical GROUP) (sym (plain_code Annotation.Plain n refl) ∙ e))
decimal_kind_lem (Annotation.Logical l) n e = eq-eqb (code_of l) logical.DECIMAL (sym (kind_logical l n) ∙ e)
decimal_kind_lem Annotation.Interval n e = absurd (eqb-false converted.INTERVAL logical.DECIMAL refl e)
decimal_kind_lem Annotation.Unreadable n e = absurd (plain_no_decimal (eqb n.physical GROUP) (sym (plain_code Annotation.Plain n refl) ∙ e))

decimal_numbers : (says : Annotation) (n : Annotated) → is_decimal says ≡ true → ((kind_as says n).p1 ≡ natural n.precision) × ((kind_as says n).p2 ≡ natural n.scale)
decimal_numbers Annotation.Plain n e = absurd (true≢false (sym e))
decimal_numbers (Annotation.Logical l) n e = rw e (refl, refl)
decimal_numbers Annotation.Interval n e = absurd (true≢false (sym e))
decimal_numbers Annotation.Unreadable n e = absurd (true≢false (sym e))

module _ (edition : ℕ) (n : Annotated) (under : Bool) (kept10 : ten.is_placed n under ≡ true) (kept11 : eleven.rule11 edition n under ≡ true) where
  stated : (n.logical ≡ logical.NONE → ⊥) → annotation_of n under ≡ stated_of n.logical n.a n.b
  unfolding annotation_of
  stated h = rw (ne_eqb n.logical logical.NONE h)

  stated_kind : (n.logical ≡ logical.NONE → ⊥) → ((kind_of n under).kind ≡ n.logical) × ((n.logical ≡ logical.DECIMAL → ⊥) → ((kind_of n under).p1 ≡ n.a) × ((kind_of n under).p2 ≡ n.b))
  unfolding kind_of ten.is_placed
  stated_kind h =
      rw (stated h)
      (spelled_kind (stated_of n.logical n.a n.b) n n.logical n.a n.b (natural n.type_length) (spelled_stated n.logical n.a n.b) (rw (stated h) at kept10))

  alone : n.logical ≡ logical.NONE → annotation_of n under ≡ backward_of n.converted under
  unfolding annotation_of ten.is_placed
  alone e =
      let valid = readable (valid_parameters logical.NONE n.a n.b) (backward_of n.converted under) n.physical (natural n.type_length) (rw e at kept10) in
      rw (e, valid)

  alone_kind : n.logical ≡ logical.NONE → (says : Annotation) → backward_of n.converted under ≡ says → kind_of n under ≡ kind_as says n
  unfolding kind_of
  alone_kind e says b = rw (alone e, b)

  alone_logical : n.logical ≡ logical.NONE → (l : LogicalType) → backward_of n.converted under ≡ Annotation.Logical l → ((kind_of n under).kind ≡ code_of l) × ((code_of l ≡ logical.DECIMAL → ⊥) → ((kind_of n under).p1 ≡ a_of l) × ((kind_of n under).p2 ≡ b_of l))
  alone_logical e l b =
      rw (alone_kind e (Annotation.Logical l) b) (kind_logical l n, λ d. rw (ne_eqb (code_of l) logical.DECIMAL d) (refl, refl))

  digits : (kind_of n under).kind ≡ logical.DECIMAL → (pos (kind_of n under).p1 ≡ n.precision) × (pos (kind_of n under).p2 ≡ n.scale)
  unfolding kind_of eleven.rule11 decimal_holds
  digits e =
      let decimal = decimal_kind_lem (annotation_of n under) n e in
      let numbers = decimal_numbers (annotation_of n under) n decimal in
      let ordered-is = and_left (ordered edition n.precision n.scale) _ (rw decimal at kept11) in
      let both = ordered_natural edition n.precision n.scale ordered-is in
      (ap pos numbers.0 ∙ both.0, ap pos numbers.1 ∙ both.1)

resolves_to : (edition : ℕ) (under : Bool) (s : SlotBytes) → rule10 edition under s ≡ true → rule11 edition under s ≡ true → ResolvesTo under s (kind under s)
unfolding kind rule10 rule11 annotated numbers_of
resolves_to edition under s kept e =
    let n = annotated s in
    let t = ten_placed edition n under kept in
    record {
      logical_kind_lem = λ h. (stated_kind edition n under t e h).0;
      logical_p1 = λ h d. ((stated_kind edition n under t e h).1 d).0;
      logical_p2 = λ h d. ((stated_kind edition n under t e h).1 d).1;
      converted_kind = λ h l b. (alone_logical edition n under t e h l b).0;
      converted_p1 = λ h l b d. ((alone_logical edition n under t e h l b).1 d).0;
      converted_p2 = λ h l b d. ((alone_logical edition n under t e h l b).1 d).1;
      interval_kind = λ h b. ap (λ (k : Kind). k.kind) (alone_kind edition n under t e h Annotation.Interval b);
      plain_leaf = λ h b g. ap (λ (k : Kind). k.kind) (alone_kind edition n under t e h Annotation.Plain b) ∙ rw (ne_eqb (physical s) GROUP g);
      plain_group = λ h b g. ap (λ (k : Kind). k.kind) (alone_kind edition n under t e h Annotation.Plain b) ∙ rw g;
      decimal_p1 = λ h. (digits edition n under t e h).0;
      decimal_p2 = λ h. (digits edition n under t e h).1;
    }

-- of each node of a tree that keeps the rules
pub node_resolves : (edition : ℕ) (t : Tree) → Keeps edition Root t → (k : ℕ) → k < size t → ResolvesTo (is_under_map (ascent t k)) (get_or (listing t) k []) (kind_in (rows t) k)
node_resolves edition t keeps k below =
    let r = node_row edition t keeps [] k below in
    let s = get_or (listing t) k [] in
    rw (row_kind edition t keeps k below, r.stands)
    (subst (λ (under : Bool). ResolvesTo under s (kind (is_map_parent r.«parent») s)) r.under.map_alike
    (subst (λ (under : Bool). ResolvesTo under s (kind under s)) r.alike (resolves_to edition (under_map_of r.standing) s r.keeps.placement r.keeps.decimals)))
